use Rattle.std.proofs.Common.{◌≤◌, arith, ap, sym, subst}
use Rattle.std.specs.FinMap as map
use Rattle.model.specs.Inside.{IsGivenInside}
use Rattle.model.specs.Redo.{cells_of}
use Rattle.nsf_core.specs.Value.{value_of}
use Rattle.restart.specs.Parts.{core_of}
use Rattle.restart.specs.Settling.{IsFresh}
use Rattle.restart.proofs.Settled.{fresh_made, given_same, held_fits, held_inside, held_small, if_ok_both, must_be_whole, only_memory, whole_cells}
use Rattle.restart.proofs.engine.Engine.fresh_core.Goals as goal

pub unreachable-requires : goal.unreachable-requires
unreachable-requires g c = must_be_whole (core_of c.self.inside.parts) _ c.in_ok-number.ensures.whole c.in_default.not-Whole

pub invariant_of-found : goal.invariant_of-found
invariant_of-found g c =
    let h = g.D.Device.past_of in
    let engine = c.self.inside.parts in
    let are = whole_cells (core_of engine) _ c.in-Whole.cells c.in-Whole.is c.in_ok-number.ensures.whole in
    record {
      inside = subst (IsGivenInside engine.geometry.pages) (sym (given_same (core_of engine) (cells_of c.in-Whole.cells) _ are c.in_ok-number.ensures.number))
          (held_inside h engine c.self.invariant);
      numbered = omega (arith, c.in_ok-number.ensures.number, held_small h engine c.self.invariant);
    }

pub returns-clause-fresh : goal.returns-clause-fresh
returns-clause-fresh g c =
    rw (← c.self.view_is) (
    let h = g.D.Device.past_of in
    let engine = c.self.inside.parts in
    let are = whole_cells (core_of engine) _ c.in-Whole.cells c.in-Whole.is c.in_ok-number.ensures.whole in
    let same = given_same (core_of engine) (cells_of c.in-Whole.cells) _ are c.in_ok-number.ensures.number in
    if_ok_both _ _ (λ core. IsFresh (core_of engine) (value_of core)) c.load-loaded.result
    (λ core made shown. fresh_made h engine c.self.invariant _ same (value_of core) made shown) c.load-loaded.ensures.made c.load-loaded.ensures.opened)

pub returns-clause-no_memory : goal.returns-clause-no_memory
returns-clause-no_memory g c =
    let engine = c.self.inside.parts in
    let are = whole_cells (core_of engine) _ c.in-Whole.cells c.in-Whole.is c.in_ok-number.ensures.whole in
    let fits : map.len (cells_of c.in-Whole.cells).entries ≤ engine.geometry.entries =
    omega (arith, ap map.len are.entries, held_fits g.D.Device.past_of engine c.self.invariant) in
    only_memory c.load-loaded.result _ _ c.load-loaded.ensures.full c.load-loaded.ensures.refused fits
