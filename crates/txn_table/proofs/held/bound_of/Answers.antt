use Rattle.std.proofs.Common.{List, [], ap, arith, refl, subst, sym, take, ◌++◌, ◌+◌, ◌∙◌, ◌∷◌, ◌≡◌}
use Rattle.std.proofs.lemmas.List.{take_more}
use Rattle.record_values.specs.Values.{Place}
use Rattle.txn_table.specs.Held.{IsBoundOf}
use Rattle.txn_table.proofs.HeldRows.{bound_more, bound_none}
use Rattle.txn_table.proofs.held.bound_of.Goals as goal

pub loop-rid-init : goal.loop-rid-init
loop-rid-init c = bound_none _ refl

pub loop-rid-preserved : goal.loop-rid-preserved
loop-rid-preserved c =
    let rows : List Place = c.args.rows.now in
    let i = c.loop-rid.rid-index in
    let r : Place = c.rid-item.result in
    let is = c.max-bound.ensures in
    let number = c.place_number.ensures.number in
    let next : take (i + 1) rows ≡ take i rows ++ r ∷ [] = take_more rows i r c.loop-rid-test.true ∙ ap (λ x. take i rows ++ x ∷ []) (sym c.rid-item.is) in
    subst (λ l. IsBoundOf l c.max-bound.result) (sym next) (bound_more (take i rows) r c.loop-rid.bound _ c.loop-rid.invariant
    (omega (arith, is)) (omega (arith, is, number)) (λ k had here. omega (arith, is, number, had, here)))
