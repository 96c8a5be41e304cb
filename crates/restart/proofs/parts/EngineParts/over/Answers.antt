use Rattle.std.proofs.Common.{subst, sym, ◌∙◌}
use Rattle.store_writer.specs.Writer.{IsOpenedAt, IsWriter, opened_run}
use Rattle.restart.proofs.parts.EngineParts.over.Goals as goal

pub new-writer-requires : goal.new-writer-requires
new-writer-requires g c = (
  c.requires.0,
  subst (λ n. IsOpenedAt (g.D.Device.past_of c.args.device) c.args.halves c.args.log n c.requires.0) (sym c.last-synced.ensures) c.requires.1,
)

pub returns-clause-begins : goal.returns-clause-begins
returns-clause-begins g c =
    let h = g.D.Device.past_of in
    let w = c.new-writer in
    record {
      device-is = w.ensures.device;
      halves-are = w.ensures.halves;
      log-is = w.ensures.log;
      geometry = c.geometry-geometry.ensures;
      none-handed = c.new-outgoing.ensures.items;
      idle = w.ensures.copying;
      no-image = w.ensures.image;
      synced = w.ensures.synced ∙ c.last-synced.ensures;
      sound = w.ensures.sound;
      writes = subst (λ n. (cells : _) → IsOpenedAt (h c.args.device) c.args.halves c.args.log n cells
          → IsWriter h (opened_run c.args.halves n cells) n w.result) c.last-synced.ensures w.ensures.writer;
    }
