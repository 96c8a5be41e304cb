use Rattle.std.proofs.Common.{List, ◌∙◌, ap}
use Rattle.block_batch.specs.Batch.{Entry, replayed}
use Rattle.block_journal.specs.Value.{settled_of}
use Rattle.block_journal.proofs.Results.{either_result, on_err, on_ok}
use Rattle.block_journal.proofs.journal.Journal.close.Goals as goal

pub returns : goal.returns
returns g c =
    let past_of = g.B.Blocks.past_of in
    let old = c.args.self.now in
    let r = c.commit.result in
    let done = c.commit.ensures in
    record {
      kept = done.places c.requires;
      areas = done.areas c.requires;
      settled = either_result _ r
          (on_ok _ _ r (λ ok. ok ∙ ap (λ (l : List Entry). replayed l (settled_of past_of old)) c.requires) done.ok) done.err;
      none = either_result _ r done.none (on_err _ _ r (λ kept. kept ∙ c.requires) done.kept);
      last = done.last;
      quiet = done.quiet;
      last_stays = done.last_stays;
      synced = done.synced;
      sound = done.sound;
      failed = done.failed;
      any_moment = done.any_moment;
      offered = done.offered;
      before = done.before;
      holds = done.holds;
      refused = done.refused;
      can = done.can;
      untouched = done.untouched;
      back = done.back;
      shape = done.shape;
      fails = done.fails;
      counts = done.counts;
    }
