use Rattle.std.proofs.Common.{◌≤◌}
use Rattle.std.proofs.Math.Bridge.{le_prop}
use Rattle.std.proofs.Math.Logic.{∥∥₁_elim}
use Rattle.core_parts.specs.Parts.{parts_of}
use Rattle.core_parts.proofs.Building.{inside_by, pages_scanned}
use Rattle.core_parts.proofs.parts.CoreParts.wanted_page.Goals as goal

pub returns-clause-inside : goal.returns-clause-inside
returns-clause-inside g c =
    let v = parts_of c.args.self.now in
    let all : v.scan.pages ≤ v.heap.pages = ∥∥₁_elim c.requires le_prop (pages_scanned v) in
    inside_by _ v.scan.pages v.heap.pages all c.wants_page.ensures.inside
