use Rattle.online_index.specs.Pieces.{IsPastLive}
use Rattle.online_index.proofs.index.OnlineIndex.next_marked.Given as goal

abbrev pub invariant-loop-seen : goal.invariant-loop-seen
invariant-loop-seen g l = IsPastLive l.self.entries l.fn.above l.seen l.passed
