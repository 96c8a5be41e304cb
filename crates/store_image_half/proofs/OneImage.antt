-- One image lies in some sectors at most.
use Rattle.std.proofs.Common.{◌≡◌, inl, inr, ⊎_elim, ℕ, ◌<◌, List, length, map, Option, Some, None, refl, sym, ap, ◌∙◌, arith}
use Rattle.std.proofs.lemmas.List.{length-map}
use Rattle.std.specs.Prelude.{slice_get}
use Rattle.std.specs.Option.{option_map}
use Rattle.std.specs.FinMap.{entries, get, same_entries_map}
use Rattle.std.proofs.lemmas.Bool.{cases_lt}
use Rattle.std.proofs.lemmas.Option.{same_Some, slice_get-map, slice_get_past}
use Rattle.sector_device.specs.Disk.{CrashState, sector}
use Rattle.record_values.specs.Values.{Place}
use Rattle.records.specs.ChangeValue.{ChangeValue}
use Rattle.record_values.specs.declared.version.Version.{Version}
use Rattle.record_values.specs.GeometryValue.{GeometryValue}
use Rattle.record_values.specs.Maps.{rid_exact, alike}
use Rattle.model.specs.Cells.{Cells}
use Rattle.store_image_parts.specs.declared.head.Head.{Head}
use Rattle.store_image_parts.specs.declared.header.Header.{Header}
use Rattle.store_image_parts.specs.Spelling.{HeadFitsIfSome}
use Rattle.store_image_parts.proofs.OneReading.{one_header, one_head, one_item, one_row, one_entry}
use Rattle.store_image_half.specs.Layout.{heads_at}
use Rattle.store_image_half.specs.Image.{IsHeaderIn, AreHeads, IsItemIn, HoldsListIn, IsImageIn, header_of, head_of, item_of}
use Rattle.store_image_half.proofs.Lists.{option_cases, same_by_slice_get, same_elements}

-- ---- each part

pub one_header_at : (v : Version) (g : GeometryValue) (bytes : List ℕ) (h k : Header) → IsHeaderIn v g bytes h → IsHeaderIn v g bytes k → h ≡ k
one_header_at v g bytes h k p q = one_header v h k p.fits q.fits (sym p.spelled ∙ q.spelled)

pub heads_fit : (bytes : List ℕ) (heads : List Head) (k : ℕ) → AreHeads bytes heads → HeadFitsIfSome (slice_get heads k)
heads_fit bytes heads k are = go (slice_get heads k) refl
  where
    go : (o : Option Head) → slice_get heads k ≡ o → HeadFitsIfSome o
    go None is = tt
    go (Some h) is = are.fits k h is

pub one_heads : (bytes : List ℕ) (xs ys : List Head) → AreHeads bytes xs → AreHeads bytes ys → xs ≡ ys
one_heads bytes xs ys p q = same_by_slice_get xs ys (λ k. ⊎_elim
    (λ below. one_head (slice_get xs k) (slice_get ys k) (heads_fit bytes xs k p) (heads_fit bytes ys k q) (sym (p.spelled k below) ∙ q.spelled k below))
    (λ past. slice_get_past xs k (omega (arith, past, p.count)) ∙ sym (slice_get_past ys k (omega (arith, past, q.count))))
    (cases_lt k 16))

one_change : (v : Version) (g : GeometryValue) (bytes : List ℕ) (p : ℕ) (c d : ChangeValue) → c.position ≡ p → d.position ≡ p → IsItemIn v g bytes (item_of c)
    → IsItemIn v g bytes (item_of d) → c ≡ d
one_change v g bytes p c d at_c at_d is_c is_d =
    let same : item_of c ≡ item_of d = one_item v (item_of c) (item_of d) is_c.fits is_d.fits (sym is_c.spelled ∙ is_d.spelled) in
    let position : c.position ≡ d.position = at_c ∙ sym at_d in
    λ i. record { position = position i; rid = (same i).rid; rows = (same i).rows }

pub one_list : (v : Version) (g : GeometryValue) (first : ℕ) (image : CrashState) (h : ℕ) (xs ys : List ChangeValue) → HoldsListIn v g first image h xs
    → HoldsListIn v g first image h ys → length xs ≡ length ys → xs ≡ ys
one_list v g first image h xs ys p q long =
    same_elements xs ys long (λ i c d at_c at_d. one_change v g _ i c d (p.positions i c at_c) (q.positions i d at_d) (p.items i c at_c) (q.items i d at_d))

-- ---- the whole

module _ (v : Version) (g : GeometryValue) (first : ℕ) (image : CrashState) (m n : ℕ) (x y : Cells) (p : IsImageIn v g first image m x)
    (q : IsImageIn v g first image n y) where
  same_header : header_of m x ≡ header_of n y
  same_header = one_header_at v g (sector image first) (header_of m x) (header_of n y) p.header-is q.header-is

  pub same_base : m ≡ n
  same_base = ap (λ (h : Header). h.base) same_header

  same_life : x.life ≡ y.life
  same_life = ap (λ (h : Header). h.life) same_header

  same_heads : map head_of (entries x.pending) ≡ map head_of (entries y.pending)
  same_heads = one_heads (sector image (heads_at first)) _ _ p.heads-are q.heads-are

  same_pending : x.pending ≡ y.pending
  same_pending = same_entries_map x.pending y.pending (same_elements (entries x.pending) (entries y.pending)
      (sym (length-map (entries x.pending) head_of) ∙ ap length same_heads ∙ length-map (entries y.pending) head_of)
      (λ h a b at_a at_b.
      let head : head_of a ≡ head_of b = same_Some (head_of a) (head_of b) (
      sym (slice_get-map head_of (entries x.pending) h ∙ ap (option_map head_of) at_a) ∙ ap (λ (hs : List Head). slice_get hs h) same_heads
      ∙ slice_get-map head_of (entries y.pending) h ∙ ap (option_map head_of) at_b) in
      let txn : a.0 ≡ b.0 = ap (λ (k : Head). k.txn) head in
      let list : a.1 ≡ b.1 = one_list v g first image h a.1 b.1 (p.lists h a at_a) (q.lists h b at_b) (ap (λ (k : Head). k.changes) head) in
      λ i. (txn i, list i)))

  no_row : (z : Cells) (k : ℕ) → IsImageIn v g first image k z → (r : Place) → ¬ ((r.page < g.pages) × (r.slot < 63)) → get z.rows r ≡ None
  no_row z k is r out = elim (option_cases (get z.rows r)) [
    | inl none ↦ none
    | inr some ↦ absurd (out (is.within r some.0 some.1))
  ]

  same_rows : x.rows ≡ y.rows
  same_rows = alike rid_exact x.rows y.rows (λ r. ⊎_elim
      (λ page. ⊎_elim
      (λ slot. let a = p.rows r page slot in let b = q.rows r page slot in one_row v (get x.rows r) (get y.rows r) a.fits b.fits (sym a.spelled ∙ b.spelled))
      (λ past. no_row x m p r (λ in_it. omega (arith, past, in_it.1)) ∙ sym (no_row y n q r (λ in_it. omega (arith, past, in_it.1))))
      (cases_lt r.slot 63))
      (λ past. no_row x m p r (λ in_it. omega (arith, past, in_it.0)) ∙ sym (no_row y n q r (λ in_it. omega (arith, past, in_it.0))))
      (cases_lt r.page g.pages))

  same_entries : x.entries ≡ y.entries
  same_entries = same_entries_map x.entries y.entries (same_elements (entries x.entries) (entries y.entries) (ap (λ (h : Header). h.entries) same_header)
      (λ i d e at_d at_e. let a = p.entries i d at_d in let b = q.entries i e at_e in one_entry v d e a.fits b.fits (sym a.spelled ∙ b.spelled)))

  pub same_cells : x ≡ y
  same_cells = λ i. record { rows = same_rows i; entries = same_entries i; pending = same_pending i; life = same_life i }
