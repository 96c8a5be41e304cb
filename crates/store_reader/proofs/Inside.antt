-- What an image holds lies in the store's pages, and its lists are as those of records that follow one another.
use Rattle.std.proofs.Common.{◌≡◌, ◌≢◌, ◌⊎◌, inl, inr, ℕ, suc, ◌+◌, ◌<◌, ◌≤◌, Bool, true, false, cond, List, [], ◌∷◌, All, length, Option, Some, None}
use Rattle.std.proofs.Common.{unwrap_or, refl, sym, ap, subst, ◌∙◌, arith}
use Rattle.std.specs.Prelude.{slice_get}
use Rattle.std.specs.Option.{option_map}
use Rattle.std.proofs.lemmas.List.{length-map}
use Rattle.std.proofs.lemmas.List.Elements.{All-cons, All-nil}
use Rattle.std.proofs.lemmas.Option.{none-some, same_Some, slice_get-map}
use Rattle.std.specs.declared.cmp.Ordering.{Ordering}
use Rattle.std.specs.Ordering.{eq_by_cmp}
use Rattle.std.specs.FinMap as finite
use Rattle.std.specs.FinMap.Entries.{find}
use Rattle.sector_device.specs.Disk.{CrashState}
use Rattle.records.specs.ChangeValue.{ChangeValue}
use Rattle.record_values.specs.declared.version.Version.{Version}
use Rattle.record_values.specs.GeometryValue.{GeometryValue}
use Rattle.record_values.specs.Maps.{IsExact, key_is, nat_exact, pair_exact}
use Rattle.records.specs.declared.change.TheConstants.{CHANGES_MAX}
use Rattle.record_values.specs.declared.number.TheConstants.{LAST_NUMBER}
use Rattle.record_values.specs.declared.pair.Pair.{Pair}
use Rattle.record_values.specs.declared.txn.TheConstants.{TXNS_MAX}
use Rattle.model.specs.Cells.{Cells, list_of}
use Rattle.model.specs.Following.{ArePlaced}
use Rattle.model.specs.Inside.{AreChangesWithin, AreInside}
use Rattle.store_image_half.specs.Image.{IsImageIn, head_of}
use Rattle.store_reader.proofs.Slots.{Slotted}

option_cases : {A : Type 0} (o : Option A) → (o ≡ None) ⊎ ((x : A) × (o ≡ Some x))
option_cases None = inl refl
option_cases (Some x) = inr (x, refl)

-- what a map has at a key is one of its entries
module _ {K X : Type 0} {R : K → K → Ordering} (o : IsExact R) where
  found_in : (es : List (K × X)) (q : K) (x : X) → find R q es ≡ Some x → (i : ℕ) × (slice_get es i ≡ Some (q, x))
  found_in [] q x is = absurd (none-some x is)
  found_in (e ∷ es) q x is = by_key (λ there. found_in es q x there) (eq_by_cmp R q e.0) refl
    where
      by_key : (find R q es ≡ Some x → (i : ℕ) × (slice_get es i ≡ Some (q, x))) → (b : Bool) → eq_by_cmp R q e.0 ≡ b → (i : ℕ)
          × (slice_get (e ∷ es) i ≡ Some (q, x))
      by_key later true same =
          let key : q ≡ e.0 = key_is o q e.0 same in
          let value : e.1 ≡ x = same_Some e.1 x (sym (ap (λ b. cond b (Some e.1) (find R q es)) same) ∙ is) in
          (0, λ j. Some (sym key j, value j))
      by_key later false other =
          let rest = later (sym (ap (λ b. cond b (Some e.1) (find R q es)) other) ∙ is) in
          (suc rest.0, rest.1)

  entry_at : (m : finite.FinMap R X) (q : K) (x : X) → finite.get m q ≡ Some x → (i : ℕ) × (slice_get (finite.entries m) i ≡ Some (q, x))
  entry_at m q x is = found_in (finite.entries m) q x (sym (finite.get-entries m q) ∙ is)

-- ---- a list of changes

placed : (pages n : ℕ) (changes : List ChangeValue) → ((p : ℕ) (c : ChangeValue) → slice_get changes p ≡ Some c → (c.position ≡ n + p) × (c.rid.page < pages))
    → ArePlaced pages n changes
placed pages n [] each = tt
placed pages n (c ∷ changes) each =
    let here = each 0 c refl in
    (at_front here.0, here.1, placed pages (n + 1) changes (λ p d is. let next = each (suc p) d is in (further p d next.0, next.1)))
  where
    at_front : c.position ≡ n + 0 → c.position ≡ n
    at_front e = omega (arith, e)

    further : (p : ℕ) (d : ChangeValue) → d.position ≡ n + suc p → d.position ≡ (n + 1) + p
    further p d e = omega (arith, e)

slotted : (changes : List ChangeValue) → ((p : ℕ) (c : ChangeValue) → slice_get changes p ≡ Some c → Slotted c) → All Slotted changes
slotted [] each = All-nil Slotted
slotted (c ∷ changes) each = All-cons Slotted c changes (each 0 c refl) (slotted changes (λ p d is. each (suc p) d is))

within : (pages : ℕ) (changes : List ChangeValue) → ((p : ℕ) (c : ChangeValue) → slice_get changes p ≡ Some c → c.rid.page < pages)
    → AreChangesWithin pages changes
within pages [] each = All-nil (λ (c : ChangeValue). c.rid.page < pages)
within pages (c ∷ changes) each = All-cons (λ (d : ChangeValue). d.rid.page < pages) c changes (each 0 c refl)
    (within pages changes (λ p d is. each (suc p) d is))

-- ---- the image

module _ (v : Version) (g : GeometryValue) (first : ℕ) (image : CrashState) (base : ℕ) (cells : Cells) (is : IsImageIn v g first image base cells) where
  pub numbered : base ≤ LAST_NUMBER
  numbered = is.header-is.fits.base

  pub few : length (finite.entries cells.pending) ≤ TXNS_MAX
  few = omega (arith, is.heads-are.count, length-map (finite.entries cells.pending) head_of)

  -- each transaction's list is that of a head, or empty
  module _ (txn : ℕ) where
    by_list : (P : List ChangeValue → Type 0) → P [] → ((h : ℕ) (list : List ChangeValue) → slice_get (finite.entries cells.pending) h ≡ Some (txn, list)
        → P list) → P (list_of cells.pending txn)
    by_list P none some = elim (option_cases (finite.get cells.pending txn)) [
      | inl absent ↦ subst P (ap (λ (o : Option (List ChangeValue)). unwrap_or o []) (sym absent)) none
      | inr there ↦
          let at = entry_at nat_exact cells.pending txn there.0 there.1 in
          subst P (ap (λ (o : Option (List ChangeValue)). unwrap_or o []) (sym there.1)) (some at.0 there.0 at.1)
    ]

    pub lists_placed : ArePlaced g.pages 0 (list_of cells.pending txn)
    lists_placed = by_list (ArePlaced g.pages 0) tt (λ h list at.
        placed g.pages 0 list (λ p c at_p. (
          from_front p c ((is.lists h (txn, list) at).positions p c at_p),
          ((is.lists h (txn, list) at).items p c at_p).inside,
        )))
      where
        from_front : (p : ℕ) (c : ChangeValue) → c.position ≡ p → c.position ≡ 0 + p
        from_front p c e = omega (arith, e)

    lists_within : AreChangesWithin g.pages (list_of cells.pending txn)
    lists_within = by_list (AreChangesWithin g.pages) (All-nil (λ (c : ChangeValue). c.rid.page < g.pages)) (λ h list at.
        within g.pages list (λ p c at_p. ((is.lists h (txn, list) at).items p c at_p).inside))

    pub lists_slotted : All Slotted (list_of cells.pending txn)
    lists_slotted = by_list (All Slotted) (All-nil Slotted) (λ h list at. slotted list (λ p c at_p. ((is.lists h (txn, list) at).items p c at_p).fits.rid.slot))

    pub lists_short : length (list_of cells.pending txn) ≤ CHANGES_MAX
    lists_short = by_list (λ list. length list ≤ CHANGES_MAX) (omega arith) (λ h list at.
        (is.heads-are.fits h (head_of (txn, list)) (slice_get-map head_of (finite.entries cells.pending) h ∙ ap (option_map head_of) at)).changes)

  entries_within : (p : Pair) → finite.get cells.entries p ≢ None → p.rid.page < g.pages
  entries_within p there = elim (option_cases (finite.get cells.entries p)) [
    | inl absent ↦ absurd (there absent)
    | inr some ↦ let at = entry_at pair_exact cells.entries p some.0 some.1 in (is.entries at.0 (p, some.0) at.1).inside
  ]

  pub inside : AreInside g.pages cells
  inside = record { rows = λ q row found. (is.within q row found).0; entries = entries_within; changes = lists_within; life = is.header-is.inside }
