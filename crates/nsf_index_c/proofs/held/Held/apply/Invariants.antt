use Rattle.std.proofs.Common.{◌≡◌, take}
use Rattle.nsf_index_c.specs.Applying.{AreMade}
use Rattle.nsf_index_c.proofs.held.Held.apply.Given as goal

abbrev pub invariant-loop-at : goal.invariant-loop-at
invariant-loop-at l = (l.made ≡ l.at) × AreMade l.fn.self (take l.at l.changes) l.self
