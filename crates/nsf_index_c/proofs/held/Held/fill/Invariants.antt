use Rattle.std.proofs.Common.{◌≡◌}
use Rattle.nsf_index_c.proofs.Filling.{HasFilled}
use Rattle.nsf_index_c.proofs.held.Held.fill.Given as goal

abbrev pub invariant-loop-at : goal.invariant-loop-at
invariant-loop-at l = (l.count ≡ l.at) × HasFilled l.fn.self.index.entries l.fn.above l.at l.fn.entries l.entries l.passed
