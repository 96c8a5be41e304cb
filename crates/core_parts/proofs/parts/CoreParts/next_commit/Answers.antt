use Rattle.std.proofs.Common.{arith, ◌≤◌}
use Rattle.std.proofs.Math.Bridge.{le_prop}
use Rattle.std.proofs.Math.Logic.{∥∥₁_elim}
use Rattle.core_parts.specs.Parts.{parts_of}
use Rattle.core_parts.proofs.Places.{few_commits}
use Rattle.core_parts.proofs.parts.CoreParts.next_commit.Goals as goal

pub overflow_add-result : goal.overflow_add-result
overflow_add-result g c =
    let v = parts_of c.args.self.now in
    let few : v.commits ≤ v.last = ∥∥₁_elim c.requires.safe le_prop (few_commits v) in
    omega (arith, few, c.requires.numbered)
