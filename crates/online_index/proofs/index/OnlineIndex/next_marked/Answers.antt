use Rattle.online_index.proofs.PieceLemmas.{past_one}
use Rattle.online_index.proofs.index.OnlineIndex.next_marked.Goals as goal
use Rattle.online_index.specs.Pieces.{at_start}

pub loop-seen-init : goal.loop-seen-init
loop-seen-init g c = at_start

pub loop-seen-preserved : goal.loop-seen-preserved
loop-seen-preserved g c = past_one c.args.self.now.entries c.args.above c.loop-seen.passed _ c.loop-seen.seen c.in-Some-default-Live.pair
    c.in-Some-default-Live.field-0-1 c.loop-seen.invariant c.as_ref.ensures.value c.in-Some-default-Live.ensures c.in-Some-default-Live.field-0-1-is
