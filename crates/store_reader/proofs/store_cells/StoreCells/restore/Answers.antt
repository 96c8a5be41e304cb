use Rattle.std.proofs.Common.{rules, sym, subst}
use Rattle.model.specs.Inside.{IsGivenInside}
use Rattle.model.specs.Redo.{cells_of}
use Rattle.model.proofs.InsideLaws.{recovered_inside}
use Rattle.store_reader.proofs.store_cells.StoreCells.restore.Goals as goal

pub invariant_of-result-clause-inside : goal.invariant_of-result-clause-inside
invariant_of-result-clause-inside g c =
    subst (IsGivenInside c.self.inside.geometry.pages) (sym c.in_ok-found.ensures)
    (recovered_inside c.self.inside.geometry.pages (cells_of c.self.inside.maps) c.self.inside.last c.self.invariant.0)

pub returns-clause-given : goal.returns-clause-given
returns-clause-given g c = search rules
