use Rattle.std.proofs.Common.{◌≡◌, ◌+◌, drop}
use Rattle.marked_index.specs.Passing.{live_front}
use Rattle.marked_index.proofs.passing.live_front.Given as goal

abbrev pub invariant-loop-i : goal.invariant-loop-i
invariant-loop-i l = l.i + live_front (drop l.i l.run) ≡ live_front l.run
