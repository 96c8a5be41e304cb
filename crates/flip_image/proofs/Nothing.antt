-- A fresh half holds the image of nothing, and where a half holds that it is fresh.
use Rattle.std.proofs.Common.{◌≡◌, ⊎_elim, ℕ, ◌+◌, ◌-◌, ◌*◌, ◌/◌, ◌%◌, ◌<◌, ◌≤◌, List, [], ◌∷◌, length, take, drop, slice_range, map, replicate, All, Some}
use Rattle.std.proofs.Common.{None, get_or, refl, sym, ap, ◌∙◌, subst, arith, length-take, length-drop}
use Rattle.std.specs.FinMap.{empty, entries, get-empty, len-empty, len-entries}
use Rattle.std.specs.Ordering.{nat_cmp}
use Rattle.std.specs.declared.cmp.Ordering.{Ordering}
use Rattle.std.proofs.lemmas.List.{ext_get_or, get_or-replicate, get_or-take, get_or-drop, length-replicate}
use Rattle.std.proofs.lemmas.List.Elements.{All-replicate, All-take, All-drop}
use Rattle.std.proofs.lemmas.Bool.{cases_lt}
use Rattle.std.proofs.lemmas.Option.{none-some, slice_get_within}
use Rattle.sector_device.specs.Disk.{CrashState, sector, IsDiskWhole}
use Rattle.record_values.specs.Orders.{pair_cmp, rid_cmp}
use Rattle.records.specs.ChangeValue.{ChangeValue}
use Rattle.record_values.specs.GeometryValue.{GeometryValue, sectors_of}
use Rattle.records.specs.Spelling.{u32, u64}
use Rattle.record_values.specs.declared.version.Version.TheVariants.{Two}
use Rattle.record_values.specs.Values.{Place}
use Rattle.record_values.specs.declared.pair.Pair.{Pair}
use Rattle.record_values.specs.declared.pair.Mark.{Mark}
use Rattle.model.specs.declared.life.Life.TheVariants.{Absent, Building}
use Rattle.store_image_half.specs.Spelling.{header, row, zeros}
use Rattle.store_image_half.specs.Layout.{cut, page_bytes}
use Rattle.store_image_half.specs.Image.{IsHeader, AreHeads, HasEdges, IsRow, header_of, head_of, row_bytes, no_cells}
use Rattle.store_image_half.proofs.Bytes.{length_bytes, byte_at, all_bytes}
use Rattle.flip_image.specs.declared.half.Half.{Half}
use Rattle.flip_image.specs.declared.half.Half.TheVariants.{A, B}
use Rattle.flip_image.specs.Layout.{header_sector, heads_sector, page_sector, log_first}
use Rattle.flip_image.specs.Store.{IsFresh, HoldsImage}

-- ---- bytes that are zero

zero_list : (n : ℕ) (xs : List ℕ) → All (λ b. b ≡ 0) xs → length xs ≡ n → xs ≡ replicate n 0
zero_list n xs are long = ext_get_or 0 xs (replicate n 0) (long ∙ sym (length-replicate n 0)) (λ k below. are k 0 below
    ∙ sym (get_or-replicate n k 0 0 (omega (arith, below, long))))

zero_cut : (bytes : List ℕ) (size j : ℕ) → All (λ b. b ≡ 0) bytes → length bytes ≡ 512 → size * j + size ≤ 512 → cut bytes size j ≡ replicate size 0
zero_cut bytes size j are long room = zero_list size (cut bytes size j)
    (All-take (λ b. b ≡ 0) (size * j + size - size * j) (drop (size * j) bytes) (All-drop (λ b. b ≡ 0) (size * j) bytes are))
    (omega (arith, length-take (size * j + size - size * j) (drop (size * j) bytes), length-drop (size * j) bytes, long, room))

zero_slice : (xs : List ℕ) (low high : ℕ) → All (λ b. b ≡ 0) xs → low ≤ high → high ≤ length xs → slice_range xs low high ≡ replicate (high - low) 0
zero_slice xs low high are order room = zero_list (high - low) (slice_range xs low high)
    (All-take (λ b. b ≡ 0) (high - low) (drop low xs) (All-drop (λ b. b ≡ 0) low xs are))
    (omega (arith, length-take (high - low) (drop low xs), length-drop low xs, order, room))

zero_byte : (bytes : List ℕ) (size k j i d : ℕ) → i ≡ size * k + j → j < size → cut bytes size k ≡ replicate size 0 → get_or bytes i d ≡ 0
zero_byte bytes size k j i d is below are =
    ap (λ n. get_or bytes n d) is
    ∙ sym (get_or-drop (size * k) bytes j d)
    ∙ sym (get_or-take (size * k + size - size * k) (drop (size * k) bytes) j d (omega (arith, below)))
    ∙ ap (λ (xs : List ℕ). get_or xs j d) are
    ∙ get_or-replicate size j 0 d below

-- ---- nothing

none : {K : Type 0} (X : Type 0) (R : K → K → Ordering) → length (entries (empty {X = X} {R = R})) ≡ 0
none {K} X R = sym (len-entries (empty {X = X} {R = R})) ∙ len-empty R X

nothing_mapped : {A B : Type 0} (f : A → B) (es : List A) → length es ≡ 0 → map f es ≡ []
nothing_mapped f [] is = refl
nothing_mapped f (e ∷ es) is = absurd (omega (arith, is))

no_heads : map head_of (entries no_cells.pending) ≡ []
no_heads = nothing_mapped head_of (entries no_cells.pending) (none (List ChangeValue) nat_cmp)

fresh_header : header (record { life = Absent; base = 0; entries = 0 }) ≡ replicate 512 0
unfolding zeros u32 u64
fresh_header = refl

header_zeros : header (header_of 0 no_cells) ≡ replicate 512 0
header_zeros = ap (λ n. header (record { life = Absent; base = 0; entries = n })) (none Mark pair_cmp) ∙ fresh_header

end_inside : (g : GeometryValue) (half : Half) → log_first g half ≤ sectors_of g
end_inside g A = omega arith
end_inside g B = omega arith

not_building : (p : Pair) → Absent ≡ Building (Some p) → ⊥
not_building p is = cc

module _ (g : GeometryValue) (half : Half) (image : CrashState) (whole : IsDiskWhole image) (room : sectors_of g ≤ length image) where
  first : ℕ
  first = header_sector g half

  size : (n : ℕ) → n < log_first g half → length (sector image n) ≡ 512
  size n below = (whole n (omega (arith, below, end_inside g half, room))).size

  page_long : (page : ℕ) → page < g.pages → length (page_bytes image (header_sector g half) page) ≡ 8192
  page_long page below = length_bytes image (page_sector g half page) 16 (λ n low. size (page_sector g half page + n) (omega (arith, below, low)))

  -- ---- a fresh half

  module _ (fresh : IsFresh g half image) where
    header_there : IsHeader g (sector image (header_sector g half)) (header_of 0 no_cells)
    header_there = record {
      spelled = zero_list 512 (sector image (header_sector g half))
          (subst (λ n. All (λ b. b ≡ 0) (sector image n)) (let e : header_sector g half + 0 ≡ header_sector g half = omega arith in e)
          (fresh.header 0 (omega arith))) (size (header_sector g half) (omega arith)) ∙ sym header_zeros;
      fits = record { life = tt; base = omega arith; entries = omega (arith, none Mark pair_cmp) };
      room = omega (arith, none Mark pair_cmp);
      inside = λ p is. absurd (not_building p is);
    }

    heads_there : AreHeads (sector image (heads_sector g half)) []
    unfolding zeros
    heads_there = record {
      count = omega arith;
      spelled = λ k below. zero_cut (sector image (heads_sector g half)) 32 k
          (subst (λ n. All (λ b. b ≡ 0) (sector image n)) (let e : heads_sector g half + 0 ≡ heads_sector g half = omega arith in e)
          (fresh.heads 0 (omega arith))) (size (heads_sector g half) (omega arith)) (omega (arith, below));
      fits = λ k h is. absurd (none-some h is);
      rising = λ k a b is later. absurd (none-some a is);
    }

    page_zeros : (page : ℕ) → page < g.pages → All (λ b. b ≡ 0) (page_bytes image (header_sector g half) page)
    page_zeros page below = all_bytes (λ b. b ≡ 0) image (page_sector g half page) 16 (fresh.pages page below)

    edges_there : (page : ℕ) → page < g.pages → HasEdges Two (page_bytes image (header_sector g half) page)
    unfolding zeros
    edges_there page below =
        let bytes = page_bytes image (header_sector g half) page in
        record {
          front = zero_list 64 (take 64 bytes) (All-take (λ b. b ≡ 0) 64 bytes (page_zeros page below))
              (omega (arith, length-take 64 bytes, page_long page below));
          behind = zero_list 64 (drop 8128 bytes) (All-drop (λ b. b ≡ 0) 8128 bytes (page_zeros page below))
              (omega (arith, length-drop 8128 bytes, page_long page below));
        }

    row_there : (page slot : ℕ) → page < g.pages → slot < 63 → IsRow (row_bytes image (header_sector g half) page slot) None
    unfolding zeros
    row_there page slot below low = record {
      spelled = zero_slice (page_bytes image (header_sector g half) page) (64 + 128 * slot) (64 + 128 * (slot + 1)) (page_zeros page below) (omega arith)
          (omega (arith, low, page_long page below))
          ∙ ap (λ n. replicate n 0) (let e : 64 + 128 * (slot + 1) - (64 + 128 * slot) ≡ 128 = omega arith in e);
      fits = tt;
    }

    pub fresh_image : HoldsImage g half image 0 no_cells
    fresh_image = record {
      header-is = header_there;
      heads-are = subst (AreHeads (sector image (heads_sector g half))) (sym no_heads) heads_there;
      lists = λ h list is. absurd (let below : h < length (entries no_cells.pending) = slice_get_within _ h list is in
          omega (arith, below, none (List ChangeValue) nat_cmp));
      edges = edges_there;
      rows = λ q page slot. subst (λ o. IsRow (row_bytes image (header_sector g half) q.page q.slot) o) (sym (get-empty rid_cmp q))
          (row_there q.page q.slot page slot);
      within = λ q r is. absurd (none-some r (sym (get-empty rid_cmp q) ∙ is));
      entries = λ i e is. absurd (let below : i < length (entries no_cells.entries) = slice_get_within _ i e is in omega (arith, below, none Mark pair_cmp));
    }

  -- ---- a half with the image of nothing

  module _ (is : HoldsImage g half image 0 no_cells) where
    pub image_fresh : IsFresh g half image
    unfolding zeros
    image_fresh = record {
      header = λ i below. subst (λ n. All (λ b. b ≡ 0) (sector image n)) (let e : header_sector g half ≡ header_sector g half + i = omega (arith, below) in e)
          (subst (All (λ b. b ≡ 0)) (sym (is.header-is.spelled ∙ header_zeros)) (All-replicate (λ (b : ℕ). b ≡ 0) 512 0 refl));
      heads = λ i below. subst (λ n. All (λ b. b ≡ 0) (sector image n)) (let e : heads_sector g half ≡ heads_sector g half + i = omega (arith, below) in
          e) all_heads;
      pages = λ page below i low. all_rows page i below low;
    }
      where
        heads : AreHeads (sector image (heads_sector g half)) []
        heads = subst (AreHeads (sector image (heads_sector g half))) no_heads is.heads-are

        all_heads : All (λ b. b ≡ 0) (sector image (heads_sector g half))
        all_heads k d below =
            let low : k < 512 = omega (arith, below, size (heads_sector g half) (omega arith)) in
            zero_byte (sector image (heads_sector g half)) 32 (k / 32) (k % 32) k d (omega arith) (omega arith) (heads.spelled (k / 32) (omega (arith, low)))

        first_zero : (page k d : ℕ) → page < g.pages → k < 64 → get_or (page_bytes image (header_sector g half) page) k d ≡ 0
        first_zero page k d below low =
            sym (get_or-take 64 (page_bytes image (header_sector g half) page) k d low) ∙ ap (λ (xs : List ℕ). get_or xs k d) (is.edges page below).front
            ∙ get_or-replicate 64 k 0 d low

        last_zero : (page j d : ℕ) → page < g.pages → j < 64 → get_or (page_bytes image (header_sector g half) page) (8128 + j) d ≡ 0
        last_zero page j d below low =
            sym (get_or-drop 8128 (page_bytes image (header_sector g half) page) j d) ∙ ap (λ (xs : List ℕ). get_or xs j d) (is.edges page below).behind
            ∙ get_or-replicate 64 j 0 d low

        row_zero : (page slot j d : ℕ) → page < g.pages → slot < 63 → j < 128
            → get_or (page_bytes image (header_sector g half) page) (64 + 128 * slot + j) d ≡ 0
        row_zero page slot j d below low within =
            let bytes = page_bytes image (header_sector g half) page in
            let q : Place = record { page = page; slot = slot } in
            let n = 64 + 128 * (slot + 1) - (64 + 128 * slot) in
            sym (get_or-drop (64 + 128 * slot) bytes j d) ∙ sym (get_or-take n (drop (64 + 128 * slot) bytes) j d (omega (arith, within)))
            ∙ ap (λ (xs : List ℕ). get_or xs j d) ((is.rows q below low).spelled ∙ ap row (get-empty rid_cmp q)) ∙ get_or-replicate 128 j 0 d within

        byte_zero : (page k d : ℕ) → page < g.pages → k < 8192 → get_or (page_bytes image (header_sector g half) page) k d ≡ 0
        byte_zero page k d below within =
            let bytes = page_bytes image (header_sector g half) page in
            ⊎_elim
            (λ early. first_zero page k d below early)
            (λ behind. ⊎_elim
            (λ mid. ap (λ n. get_or bytes n d) (let e : k ≡ 64 + 128 * ((k - 64) / 128) + (k - 64) % 128 = omega (arith, behind) in e)
            ∙ row_zero page ((k - 64) / 128) ((k - 64) % 128) d below (omega (arith, mid, behind)) (omega arith))
            (λ late. ap (λ n. get_or bytes n d) (let e : k ≡ 8128 + (k - 8128) = omega (arith, late) in e)
            ∙ last_zero page (k - 8128) d below (omega (arith, late, within)))
            (cases_lt k 8128))
            (cases_lt k 64)

        all_rows : (page i : ℕ) → page < g.pages → i < 16 → All (λ b. b ≡ 0) (sector image (page_sector g half page + i))
        all_rows page i below low k d within =
            let long : k < 512 = omega (arith, within, size (page_sector g half page + i) (omega (arith, below, low))) in
            sym (byte_at image (page_sector g half page) 16 i k d (λ n less. size (page_sector g half page + n) (omega (arith, below, less))) low long)
            ∙ byte_zero page (512 * i + k) d below (omega (arith, low, long))
