use Rattle.std.proofs.Common.{◌≡◌, ℕ, ◌+◌, ◌<◌, ◌≤◌, Bool, true, false, cond, Option, List, [], ◌∷◌, ◌++◌, take, length, get_or, sym, ap, ◌∙◌, arith}
use Rattle.std.proofs.Common.{length-append}
use Rattle.std.specs.List.{filter}
use Rattle.std.proofs.lemmas.List.{append-nil, take_all}
use Rattle.std.proofs.lemmas.List.Elements.{filter_more}
use Rattle.std.proofs.lemmas.Result.{err_from_is_err_and}
use Rattle.record_values.specs.Orders.{is_above}
use Rattle.record_values.specs.declared.pair.Pair.{Pair}
use Rattle.sorted_scan.proofs.scan.those_above.Goals.{then-is_above+in_ok-push, else-is_above}
use Rattle.sorted_scan.proofs.scan.those_above.Goals as goal

short : (b : Bool) (p : Pair) → length (cond b (p ∷ []) []) ≤ 1
short true p = omega arith
short false p = omega arith

kept_more : (low : Option Pair) (pairs above more : List Pair) (p : Pair) (i : ℕ) (b : Bool)
    → (above ≡ filter (is_above low) (take i pairs)) × (length above ≤ i) → i < length pairs → p ≡ get_or pairs i p → b ≡ is_above low p
    → more ≡ above ++ cond b (p ∷ []) [] → (more ≡ filter (is_above low) (take (i + 1) pairs)) × (length more ≤ i + 1)
kept_more low pairs above more p i b so_far within item is made = (
  made ∙ ap (λ xs. xs ++ cond b (p ∷ []) []) so_far.0 ∙ ap (λ d. filter (is_above low) (take i pairs) ++ cond d (p ∷ []) []) is
      ∙ ap (λ x. filter (is_above low) (take i pairs) ++ cond (is_above low x) (x ∷ []) []) item ∙ sym (filter_more (is_above low) pairs i p within),
  omega (arith, so_far.1, ap length made, length-append above (cond b (p ∷ []) []), short b p),
)

pub loop-pair-preserved : goal.loop-pair-preserved
loop-pair-preserved g c =
    let more = kept_more c.args.low.now c.args.pairs.now c.loop-pair.above.items c.if-is_above.above.items c.pair-item.result c.loop-pair.pair-index in
    elim c.if-is_above.branch [
      | then-is_above+in_ok-push w ↦ more true c.loop-pair.invariant c.loop-pair-test.true c.pair-item.is (sym w.if-is_above.true ∙ c.is_above.ensures)
          ((λ i. (w.above-is i).items) ∙ w.in_ok-push.ensures.items)
      | else-is_above w ↦ more false c.loop-pair.invariant c.loop-pair-test.true c.pair-item.is (sym w.if-is_above.false ∙ c.is_above.ensures)
          ((λ i. (w.above-is i).items) ∙ sym (append-nil _))
    ]

pub returns : goal.returns
returns g c =
    let so_far = c.loop-pair.invariant in
    record {
      items = so_far.0 ∙ ap (filter (is_above c.args.low.now)) (take_all _ _ c.loop-pair-test.false);
      few = omega (arith, so_far.1, c.loop-pair.auto.pair-index-end);
    }

pub returns-in_err-above : goal.returns-in_err-above
returns-in_err-above g c =
    rw (err_from_is_err_and c.from_residual.result c.from_residual.ensures.1).1 (record { items = tt; few = tt })

pub returns-in_err-push : goal.returns-in_err-push
returns-in_err-push g c =
    rw (err_from_is_err_and c.from_residual-in_err-push.result c.from_residual-in_err-push.ensures.1).1 (record { items = tt; few = tt })
