use Rattle.std.proofs.Common.{refl}
use Rattle.block_table.proofs.Contents.{content_commit, step_same}
use Rattle.block_table.proofs.checked.CheckedBlocks.commit.Goals as goal

pub returns : goal.returns
returns g c =
    rw (← c.self.view_is) (
    let done = c.commit.ensures in
    record {
      ok = done.ok;
      none = done.none;
      sound = done.sound;
      synced = done.synced;
      last = done.last;
      quiet = done.quiet;
      err = done.err;
      last_stays = done.last_stays;
      kept = done.kept;
      failed = done.failed;
      any_moment = done.any_moment;
      offered = done.offered;
      before = done.before;
      holds = done.holds;
      refused = done.refused;
      can = done.can;
      untouched = done.untouched;
      back = done.back;
      shape = done.shape;
      blocks = refl;
      fails = done.fails;
      counts = done.counts;
    })

pub invariant_of-self : goal.invariant_of-self
invariant_of-self g c =
    let done = c.commit.ensures in
    let h = g.B.Blocks.past_of in (
      step_same h c.self.inside.journal c.commit.new.self c.self.inside.rows.items c.self.inside.known c.self.inside.blocks c.self.invariant.0 done.shape
          (content_commit h c.self.inside.journal c.commit.new.self c.commit.result done.ok done.none done.err done.kept),
      tt,
    )
