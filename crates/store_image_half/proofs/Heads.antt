-- The heads of a sector, one after another.
use Rattle.std.proofs.Common.{◌≡◌, ⊎_elim, ℕ, zero, suc, ◌+◌, ◌-◌, ◌<◌, List, [], ◌∷◌, ◌++◌, length, Option, Some, None, refl, sym, ap, ◌∙◌, subst, arith}
use Rattle.std.proofs.Common.{length-append}
use Rattle.std.specs.Prelude.{slice_get}
use Rattle.std.proofs.lemmas.Bool.{cases_eq, cases_lt}
use Rattle.std.proofs.lemmas.Option.{none-some, slice_get_within, slice_get_past}
use Rattle.store_image_parts.specs.declared.head.Head.{Head}
use Rattle.store_image_parts.specs.Spelling.{head, HeadFits, HeadFitsIfSome}
use Rattle.store_image_parts.proofs.OneReading.{one_head}
use Rattle.store_image_half.specs.Layout.{cut}
use Rattle.store_image_half.specs.Image.{AreHeads}
use Rattle.store_image_half.specs.Steps.{AreFirstHeads, IsNextHead}
use Rattle.store_image_half.proofs.Lists.{slice_get_push, slice_get_last, not_past}
use Rattle.store_image_half.proofs.OneImage.{heads_fit}

slice_get_push_before : {A : Type 0} (xs : List A) (y : A) (j : ℕ) → j < length xs → slice_get (xs ++ y ∷ []) j ≡ slice_get xs j
slice_get_push_before [] y j below = absurd (omega (arith, below))
slice_get_push_before (x ∷ xs) y zero below = refl
slice_get_push_before (x ∷ xs) y (suc j) below = slice_get_push_before xs y j (omega (arith, below))

pub no_head : (bytes : List ℕ) → AreFirstHeads bytes 0 []
no_head bytes = record {
  count = omega arith;
  spelled = λ j less. absurd (omega (arith, less));
  fits = λ j h at. absurd (none-some h at);
  rising = λ j a b at_a at_b. absurd (none-some a at_a);
}

pub all_heads : (bytes : List ℕ) (k : ℕ) (hs : List Head) → k ≡ 16 → AreFirstHeads bytes k hs → AreHeads bytes hs
all_heads bytes k hs all are = record {
  count = omega (arith, all, are.count);
  spelled = λ j less. are.spelled j (omega (arith, all, less));
  fits = are.fits;
  rising = are.rising;
}

module _ (bytes : List ℕ) (k : ℕ) (hs : List Head) (so_far : AreFirstHeads bytes k hs) where
  fits_so_far : (j : ℕ) → HeadFitsIfSome (slice_get hs j)
  fits_so_far j = go (slice_get hs j) refl
    where
      go : (o : Option Head) → slice_get hs j ≡ o → HeadFitsIfSome o
      go None is = tt
      go (Some h) is = so_far.fits j h is

  -- a head that is read stands at its place in whatever heads the sector has
  pub stands_at : (o : Option Head) (xs : List Head) → k < 16 → cut bytes 32 k ≡ head o → HeadFitsIfSome o → AreHeads bytes xs → slice_get xs k ≡ o
  stands_at o xs below is fits are = one_head (slice_get xs k) o (heads_fit bytes xs k are) fits (sym (are.spelled k below) ∙ is)

  same_before : (xs : List Head) → k < 16 → AreHeads bytes xs → (j : ℕ) → j < k → slice_get hs j ≡ slice_get xs j
  same_before xs below are j less = one_head (slice_get hs j) (slice_get xs j) (fits_so_far j) (heads_fit bytes xs j are) (sym (so_far.spelled j less)
      ∙ are.spelled j (omega (arith, less, below)))

  pub must_follow : (h : Head) (xs : List Head) → k < 16 → cut bytes 32 k ≡ head (Some h) → HeadFits h → AreHeads bytes xs → IsNextHead hs k h
  must_follow h xs below is fits are =
      let there : slice_get xs k ≡ Some h = stands_at (Some h) xs below is fits are in
      let used : length hs ≡ k = ⊎_elim
      (λ less. absurd (not_past xs (length hs) (omega (arith, less, slice_get_within xs k h there)) (sym (same_before xs below are (length hs) less)
      ∙ slice_get_past hs (length hs) (omega arith))))
      (λ more. omega (arith, more, so_far.count))
      (cases_lt (length hs) k) in
      record {
        used = used;
        above = λ last at.
            let less : k - 1 < k = omega (arith, slice_get_within hs (k - 1) last at, used) in
            are.rising (k - 1) last h (sym (same_before xs below are (k - 1) less)
            ∙ at) (subst (λ n. slice_get xs n ≡ Some h) (let e : k ≡ k - 1 + 1 = omega (arith, less) in e) there);
      }

  pub head_more : (h : Head) → cut bytes 32 k ≡ head (Some h) → HeadFits h → IsNextHead hs k h → AreFirstHeads bytes (k + 1) (hs ++ h ∷ [])
  head_more h is fits next = record {
    count = omega (arith, length-append {A = Head} hs (h ∷ []), next.used);
    spelled = λ j less. ⊎_elim
        (λ here. subst (λ n. cut bytes 32 n ≡ head (slice_get (hs ++ h ∷ []) n)) (next.used
        ∙ sym here) (subst (λ n. cut bytes 32 n ≡ head (slice_get (hs ++ h ∷ []) (length hs))) (sym next.used) (is ∙ ap head (sym (slice_get_last hs h)))))
        (λ other. so_far.spelled j (omega (arith, less, other)) ∙ ap head (sym (slice_get_push_before hs h j (omega (arith, less, other, next.used)))))
        (cases_eq j k);
    fits = λ j a at. ⊎_elim (λ there. so_far.fits j a there) (λ (last : (j ≡ length hs) × (h ≡ a)). subst HeadFits last.1 fits) (slice_get_push hs h a j at);
    rising = λ j a b at_a at_b. ⊎_elim
        (λ there. so_far.rising j a b (sym (slice_get_push_before hs h j (omega (arith, slice_get_within hs (j + 1) b there))) ∙ at_a) there)
        (λ (last : (j + 1 ≡ length hs) × (h ≡ b)). subst (λ (x : Head). a.txn < x.txn) last.1
        (next.above a (subst (λ n. slice_get hs n ≡ Some a) (let e : j ≡ k - 1 = omega (arith, last.0, next.used) in e)
        (sym (slice_get_push_before hs h j (omega (arith, last.0))) ∙ at_a))))
        (slice_get_push hs h b (j + 1) at_b);
  }

  pub no_head_more : cut bytes 32 k ≡ head None → AreFirstHeads bytes (k + 1) hs
  no_head_more is = record {
    count = omega (arith, so_far.count);
    spelled = λ j less. ⊎_elim
        (λ here. subst (λ n. cut bytes 32 n ≡ head (slice_get hs n)) (sym here) (is ∙ ap head (sym (slice_get_past hs k so_far.count))))
        (λ other. so_far.spelled j (omega (arith, less, other)))
        (cases_eq j k);
    fits = so_far.fits;
    rising = so_far.rising;
  }
