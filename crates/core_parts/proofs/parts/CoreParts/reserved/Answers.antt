use Rattle.std.proofs.Common.{arith, rules, ◌≤◌}
use Rattle.std.proofs.Math.Bridge.{le_prop}
use Rattle.std.proofs.Math.Logic.{∥∥₁_elim}
use Rattle.core_parts.specs.Moves.{txn_shown}
use Rattle.core_parts.specs.Private.{reserved_of}
use Rattle.core_parts.specs.Parts.{parts_of}
use Rattle.core_parts.proofs.Places.{few_reserved}
use Rattle.core_parts.proofs.parts.CoreParts.reserved.Goals as goal

pub returns-clause-number : goal.returns-clause-number
returns-clause-number g c = search rules

pub returns-clause-within : goal.returns-clause-within
returns-clause-within g c =
    let v = parts_of c.args.self.now in
    let pledged : reserved_of (txn_shown v c.args.txn) ≤ v.index.pledged = ∥∥₁_elim c.requires le_prop (few_reserved v c.args.txn) in
    omega (arith, returns-clause-number g c, pledged)

pub returns-clause-few : goal.returns-clause-few
returns-clause-few g c = omega (arith, returns-clause-within g c, c.stands.ensures.within, c.stands.ensures.most)
