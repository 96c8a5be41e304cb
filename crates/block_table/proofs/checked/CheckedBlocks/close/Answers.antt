use Rattle.std.proofs.Common.{List, refl, sym, ◌∙◌, ap}
use Rattle.block_batch.specs.Batch.{Entry, replayed}
use Rattle.block_journal.specs.Value.{JournalValue, settled_of}
use Rattle.block_table.proofs.Contents.{step_same}
use Rattle.block_table.proofs.checked.CheckedBlocks.close.Goals as goal

pub close-requires : goal.close-requires
close-requires g c = rw (← c.self.view_is) at c.requires

pub returns : goal.returns
returns g c =
    rw (← c.self.view_is) (
    let done = c.close.ensures in
    record {
      places = done.kept;
      areas = done.areas;
      settled = done.settled;
      none = done.none;
      last = done.last;
      quiet = done.quiet;
      last_stays = done.last_stays;
      sound = done.sound;
      synced = done.synced;
      failed = done.failed;
      any_moment = done.any_moment;
      offered = done.offered;
      before = done.before;
      holds = done.holds;
      refused = done.refused;
      can = done.can;
      untouched = done.untouched;
      back = done.back;
      shape = done.shape;
      blocks = refl;
      fails = done.fails;
      counts = done.counts;
    })

pub invariant_of-self : goal.invariant_of-self
invariant_of-self g c =
    let done = c.close.ensures in
    let h = g.B.Blocks.past_of in
    let v : JournalValue g.row.B.Denot = c.self.inside.journal in
    let m : JournalValue g.row.B.Denot = c.close.new.self in
    let none = rw (← c.self.view_is) at c.requires in (
      step_same h v m c.self.inside.rows.items c.self.inside.known c.self.inside.blocks c.self.invariant.0 done.shape
          (ap (λ (l : List Entry). replayed l (settled_of h m)) done.none ∙ done.settled ∙ sym (ap (λ (l : List Entry). replayed l (settled_of h v)) none)),
      tt,
    )
