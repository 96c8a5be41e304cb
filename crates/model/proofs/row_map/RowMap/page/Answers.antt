use Rattle.std.proofs.Common.{◌≡◌, suc, ◌<◌, List, None, Some, length, get_or, set, refl, sym, ap, subst, ◌∙◌, arith}
use Rattle.std.proofs.lemmas.List.{length-set}
use Rattle.std.proofs.lemmas.Option.{slice_get-get_or}
use Rattle.record_values.specs.Values.{Place}
use Rattle.record_values.specs.declared.row.Row.{Row}
use Rattle.model.specs.Table.{Table}
use Rattle.model.proofs.PageLaws.{place, IsShown, IsRowOf, row_of, shown_first, shown_next, shown_last}
use Rattle.model.proofs.row_map.RowMap.page.Goals as goal

pub loop-rid-init : goal.loop-rid-init
loop-rid-init g c =
    let es = c.self.inside.rows.entries in
    let rows : Table = c.args.self.now in
    let left = c.into_iter-rid-iterator.ensures.into_iter_gives in
    record {
      count = refl;
      inside = λ k d low.
          let at = (c.range-rid-items.ensures.in_range tt).0 k d (subst (λ (xs : List (Place × Row)). k < length xs) left low) in
          subst (λ (xs : List (Place × Row)). IsRowOf c.args.page rows (get_or xs k d)) (sym left) (row_of es rows c.args.page _ c.self.view_is at.0 at.1);
      shown = λ slot low. shown_first es rows c.into_iter-rid-iterator.result c.args.page slot c.self.view_is (left ∙ c.range-rid-items.ensures.between tt) low;
    }

pub loop-rid-preserved : goal.loop-rid-preserved
loop-rid-preserved g c =
    let all : Table = c.args.self.now in
    let page = c.args.page in
    let e : Place × Row = (c.in-Some.rid.now, c.in-Some.row.now) in
    let rest : List (Place × Row) = c.next.new.self in
    let steps = c.in-Some.ensures.steps in
    let was = c.loop-rid.invariant in
    let slot-is : c.from.result ≡ e.0.slot = c.from.ensures ∙ ap (λ (q : Place). q.slot) c.rid.view_is in
    let row = subst (λ (xs : List (Place × Row)). IsRowOf page all (get_or xs 0 e)) steps
    (was.inside 0 e (subst (λ (xs : List (Place × Row)). 0 < length xs) (sym steps) (omega arith))) in
    record {
      count = length-set c.loop-rid.rows c.from.result (Some c.in-Some.row.now) ∙ was.count;
      inside = λ k d low. subst (λ (xs : List (Place × Row)). IsRowOf page all (get_or xs (suc k) d)) steps
          (was.inside (suc k) d (subst (λ (xs : List (Place × Row)). suc k < length xs) (sym steps) (omega (arith, low))));
      shown = λ slot low.
          subst (λ n. IsShown all rest (set c.loop-rid.rows n (Some c.in-Some.row.now)) (place page slot)) (sym slot-is)
          (shown_next all e rest c.loop-rid.rows page slot row (omega (arith, low, was.count))
          (omega (arith, c.rid.invariant, ap (λ (q : Place). q.slot) c.rid.view_is, was.count))
          (subst (λ (xs : List (Place × Row)). IsShown all xs c.loop-rid.rows (place page slot)) steps (was.shown slot low)));
    }

pub returns : goal.returns
returns g c = λ slot low.
    slice_get-get_or c.loop-rid.rows slot None (omega (arith, low, c.loop-rid.invariant.count))
    ∙ ap Some (shown_last c.args.self.now c.loop-rid.rid-iterator c.loop-rid.rows (place c.args.page slot) c.in-None.ensures.steps.0
    (c.loop-rid.invariant.shown slot low))
