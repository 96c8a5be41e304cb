use Rattle.std.proofs.Common.{◌≡◌, inl, inr, ⊎_elim, ℕ, suc, ◌+◌, ◌<◌, List, map, Option, Some, sym, ap, ◌∙◌, subst, arith}
use Rattle.std.specs.Prelude.{slice_get, IfSome}
use Rattle.std.specs.Option.{option_map}
use Rattle.std.specs.Cmp.{ranked}
use Rattle.std.specs.Ordering.{nat_cmp}
use Rattle.std.specs.declared.cmp.Ordering.TheVariants.{Less}
use Rattle.std.specs.FinMap.{entries, entries_sorted}
use Rattle.std.proofs.lemmas.Bool.{cases_lt}
use Rattle.std.proofs.lemmas.List.{length-map}
use Rattle.std.proofs.lemmas.Option.{slice_get-map, slice_get_within}
use Rattle.records.specs.ChangeValue.{ChangeValue}
use Rattle.records.specs.Spelling.{IsTxn}
use Rattle.store_image_parts.specs.declared.head.Head.{Head}
use Rattle.store_image_parts.specs.Spelling.{head, HeadFits}
use Rattle.store_image_half.specs.Layout.{cut}
use Rattle.store_image_half.specs.Image.{head_of}
use Rattle.store_image_half.specs.Steps.{IsReached}
use Rattle.store_image_half.proofs.Lists.{option_cases}
use Rattle.store_image_half.proofs.Sound.{mapped, neighbours}
use Rattle.store_image_half.proofs.Walk.{reached_at, reached_past}
use Rattle.store_image_half.proofs.Writing.{list_short}
use Rattle.store_image_half.proofs.whole.heads_sector.Goals as goal

pub loop-k-preserved : goal.loop-k-preserved
loop-k-preserved g c =
    let lists : List (ℕ × List ChangeValue) = entries (g.S.CellSource.cells c.args.source.now).pending in
    let k = c.loop-k.k in
    let found : Option Head = c.head_behind-found.result in
    let is : found ≡ option_map head_of (slice_get lists k) = c.head_behind-found.ensures k c.loop-k.invariant.reached in
    record {
      reached = elim (option_cases (slice_get lists k)) [
        | inl none ↦ subst (IsReached lists (k + 1)) (sym (c.go_on.ensures.other (is ∙ ap (option_map head_of) none)))
            (reached_past lists k c.loop-k.last c.loop-k.invariant.reached none)
        | inr some ↦ subst (IsReached lists (k + 1)) (sym (c.go_on.ensures.head (head_of some.0) (is ∙ ap (option_map head_of) some.1)))
            (reached_at lists k some.0 some.1)
      ];
      spelled = λ i less. ⊎_elim
          (λ (lower : i < k). c.put_piece.ensures.before i lower ∙ c.loop-k.invariant.spelled i lower)
          (λ higher.
          let same : k ≡ i = omega (arith, less, higher) in
          subst (λ n. cut c.put_piece.new.buffer 32 n ≡ head (option_map head_of (slice_get lists n))) same (c.put_piece.ensures.put
          ∙ c.spell_head-piece.ensures.spelled ∙ ap head is))
          (cases_lt i k);
      txns = λ i list less at_i. ⊎_elim
          (λ (lower : i < k). c.loop-k.invariant.txns i list lower at_i)
          (λ higher.
          let same : i ≡ k = omega (arith, less, higher) in
          let here : found ≡ Some (head_of list) = is ∙ ap (option_map head_of) (subst (λ n. slice_get lists n ≡ Some list) same at_i) in
          subst (λ (o : Option Head). IfSome o (λ h. IsTxn h.txn)) here c.spell_head-piece.ensures.txn)
          (cases_lt i k);
    }

pub returns : goal.returns
returns g c =
    let cells = g.S.CellSource.cells c.args.source.now in
    let lists : List (ℕ × List ChangeValue) = entries cells.pending in
    let found : (k : ℕ) (h : Head) → slice_get (map head_of lists) k ≡ Some h → (x : ℕ × List ChangeValue) × (slice_get lists k ≡ Some x)
    × (head_of x ≡ h) = λ k h at. mapped head_of (slice_get lists k) h (sym (slice_get-map head_of lists k) ∙ at) in
    record {
      count = omega (arith, length-map lists head_of, c.requires.txns);
      spelled = λ k below. c.loop-k.invariant.spelled k (omega (arith, below, c.loop-k-test.false)) ∙ ap head (sym (slice_get-map head_of lists k));
      fits = λ k h at_k.
          let x = found k h at_k in
          subst HeadFits x.2 (record {
            txn = c.loop-k.invariant.txns k x.0
                (omega (arith, slice_get_within lists k x.0 x.1, c.requires.txns, c.loop-k-test.false)) x.1;
            changes =
                list_short c.args.geometry cells c.requires k x.0 x.1;
          });
      rising = λ k a b at_a at_b.
          let x = found k a at_a in
          let y = found (k + 1) b at_b in
          let next : slice_get lists (suc k) ≡ Some y.0 = subst (λ n. slice_get lists n ≡ Some y.0) (let e : k + 1 ≡ suc k = omega arith in e) y.1 in
          let less : x.0.0 < y.0.0 = ranked x.0.0 y.0.0 Less (sym (neighbours nat_cmp lists k x.0 y.0 (entries_sorted cells.pending) x.1 next)) in
          subst (λ (h : Head). h.txn < b.txn) x.2 (subst (λ (h : Head). x.0.0 < h.txn) y.2 less);
    }
