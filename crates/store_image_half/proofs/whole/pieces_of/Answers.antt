use Rattle.std.proofs.Common.{◌≡◌, ⊎_elim, ℕ, ◌<◌, List, Some, sym, ap, ◌∙◌, subst, arith}
use Rattle.std.specs.Prelude.{slice_get, Option}
use Rattle.std.proofs.lemmas.Bool.{cases_lt}
use Rattle.std.proofs.lemmas.Option.{slice_get-get_or, slice_get_within, same_Some}
use Rattle.record_values.specs.declared.pair.Pair.{Pair}
use Rattle.record_values.specs.declared.pair.Mark.{Mark}
use Rattle.store_image_half.specs.Layout.{cut}
use Rattle.store_image_half.specs.Steps.{IsEntryPlace}
use Rattle.store_image_half.proofs.whole.pieces_of.Goals as goal

pub loop-j-preserved : goal.loop-j-preserved
loop-j-preserved c = λ i o less at_i.
    let j = c.loop-j.j in
    let entry : Option (Pair × Mark) = c.index-entries-j.result in
    ⊎_elim
    (λ (lower : i < j). subst (λ (b : List ℕ). IsEntryPlace b o) (sym (c.put_piece.ensures.before i lower)) (c.loop-j.invariant i o lower at_i))
    (λ higher.
    let same : i ≡ j = omega (arith, less, higher) in
    let at_j : slice_get c.args.entries.now j ≡ Some entry = slice_get-get_or c.args.entries.now j entry (omega (arith, c.loop-j-test.true, c.type_inv.entries))
    ∙ ap Some (sym c.index-entries-j.is) in
    let is : entry ≡ o = same_Some _ _ (sym at_j ∙ subst (λ n. slice_get c.args.entries.now n ≡ Some o) same at_i) in
    subst (λ n. IsEntryPlace (cut c.put_piece.new.buffer 64 n) o) (sym same)
    (subst (λ (b : List ℕ). IsEntryPlace b o) (sym c.put_piece.ensures.put)
    (subst (IsEntryPlace c.piece_of_entry-piece.result) (sym c.index-entries-j.is ∙ is) c.piece_of_entry-piece.ensures)))
    (cases_lt i j)

pub returns : goal.returns
returns c = λ i o at_i. c.loop-j.invariant i o (omega (arith, slice_get_within _ i o at_i, c.loop-j-test.false, c.type_inv.entries)) at_i
