use Rattle.std.proofs.Common.{◌≡◌, ⊎_elim, Bool, true, ℕ, ◌+◌, ◌<◌, List, Option, Some, None, length, refl, sym, ap, ◌∙◌, subst, arith}
use Rattle.std.specs.Prelude.{slice_get, is_some, not}
use Rattle.std.proofs.lemmas.Bool.{cases_eq, false≢true}
use Rattle.std.proofs.lemmas.Option.{slice_get_within, slice_get_read, same_Some}
use Rattle.record_values.specs.declared.row.Row.{Row}
use Rattle.record_values.specs.declared.version.Version.TheVariants.{Two}
use Rattle.store_image_half.specs.Layout.{row_of}
use Rattle.store_image_half.specs.Image.{IsRow}
use Rattle.store_image_half.proofs.page.put_rows.Goals as goal

none_of : (o : Option Row) (b : Bool) → is_some o ≡ not b → b ≡ true → o ≡ None
none_of None b is holds = refl
none_of (Some r) b is holds = absurd (false≢true (sym (is ∙ ap not holds)))

pub loop-slot-init : goal.loop-slot-init
loop-slot-init c = record {
  edges = λ was. was;
  rows = λ k o below. absurd (omega (arith, below));
  rest = λ k above low. c.requires.none k low;
}

pub loop-slot-preserved : goal.loop-slot-preserved
loop-slot-preserved c =
    let rows : List (Option Row) = c.args.rows.now in
    let slot = c.loop-slot.slot in
    let row : Option Row = c.index-rows-slot.result in
    let here : slice_get rows slot ≡ Some row = slice_get_read rows (length rows) slot row refl c.loop-slot-test.true c.index-rows-slot.is in
    record {
      edges = λ was. c.put_row.ensures.edges (c.loop-slot.invariant.edges was);
      rows = λ k o less at_k. ⊎_elim
          (λ (same : k ≡ slot).
          let this : row ≡ o = same_Some row o (sym here ∙ subst (λ n. slice_get rows n ≡ Some o) same at_k) in
          subst (λ n. IsRow (row_of Two c.put_row.new.page n) o) (sym same)
          (subst (λ (x : Option Row). IsRow (row_of Two c.put_row.new.page slot) x) this
          (record { spelled = c.put_row.ensures.put ∙ c.spell_row.ensures.spelled; fits = c.spell_row.ensures.fits })))
          (λ other.
          let below : k < slot = omega (arith, less, other) in
          subst (λ (b : List ℕ). IsRow b o) (sym (c.put_row.ensures.before k below)) (c.loop-slot.invariant.rows k o below at_k))
          (cases_eq k slot);
      rest = λ k above low. subst (λ (b : List ℕ). IsRow b None) (sym (c.put_row.ensures.behind k (omega (arith, above))))
          (c.loop-slot.invariant.rest k (omega (arith, above)) low);
    }

pub loop-slot-preserved-then-is_none : goal.loop-slot-preserved-then-is_none
loop-slot-preserved-then-is_none c =
    let rows : List (Option Row) = c.args.rows.now in
    let slot = c.loop-slot.slot in
    let row : Option Row = c.index-rows-slot.result in
    let here : slice_get rows slot ≡ Some row = slice_get_read rows (length rows) slot row refl c.loop-slot-test.true c.index-rows-slot.is in
    let none : row ≡ None = none_of row _ c.is_none.ensures c.if-is_none.true in
    record {
      edges = c.loop-slot.invariant.edges;
      rows = λ k o less at_k. ⊎_elim
          (λ (same : k ≡ slot).
          let this : row ≡ o = same_Some row o (sym here ∙ subst (λ n. slice_get rows n ≡ Some o) same at_k) in
          subst (λ n. IsRow (row_of Two c.loop-slot.page n) o) (sym same)
          (subst (λ (x : Option Row). IsRow (row_of Two c.loop-slot.page slot) x) (sym none
          ∙ this) (c.loop-slot.invariant.rest slot (omega arith) (omega (arith, c.loop-slot-test.true, c.requires.count)))))
          (λ other. c.loop-slot.invariant.rows k o (omega (arith, less, other)) at_k)
          (cases_eq k slot);
      rest = λ k above low. c.loop-slot.invariant.rest k (omega (arith, above)) low;
    }

pub returns-clause-edges : goal.returns-clause-edges
returns-clause-edges c = c.loop-slot.invariant.edges

pub returns-clause-rows : goal.returns-clause-rows
returns-clause-rows c = λ slot o there. c.loop-slot.invariant.rows slot o
    (omega (arith, slice_get_within c.args.rows.now slot o there, c.loop-slot-test.false)) there
