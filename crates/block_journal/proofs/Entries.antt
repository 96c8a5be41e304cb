-- The blocks of a buffer, and what is replayed of them.
use Rattle.std.proofs.Common.{◌≡◌, ◌≢◌, ◌⊎◌, inl, inr, ⊎_elim, ℕ, zero, suc, ◌+◌, ◌<◌, ◌≤◌, List, [], ◌∷◌, ◌++◌, length, map, max, slice_index, slice_set}
use Rattle.std.proofs.Common.{refl, sym, ◌∙◌, ap, subst, arith}
use Rattle.std.specs.List.{range_with_len}
use Rattle.std.proofs.lemmas.Bool.{cases_eq}
use Rattle.std.proofs.lemmas.List.{get_or-set_other, set-set, set_comm}
use Rattle.std.proofs.lemmas.List.FromFn.{length-map-range_with_len, map-range_with_len_more}
use Rattle.std.proofs.lemmas.Grind.{get_or-set_at}
use Rattle.block_device.specs.Blocks.{CrashFile, block}
use Rattle.block_batch.specs.Batch.{Entry, block_digest, replayed, IsPlace}
use Rattle.block_batch.proofs.Replay.{length-replayed, block_outside, both}
use Rattle.block_journal.specs.Entries.{entry_at, entries_in, IsLastAt, IsSlot, HasNone, AreDigests}

-- ---- places of two lists

pub place_left : (xs ys : List Entry) (p : ℕ) → IsPlace xs p → IsPlace (xs ++ ys) p
place_left [] ys p none = absurd none
place_left (e ∷ xs) ys p (inl is) = inl is
place_left (e ∷ xs) ys p (inr later) = inr (place_left xs ys p later)

pub place_right : (xs ys : List Entry) (p : ℕ) → IsPlace ys p → IsPlace (xs ++ ys) p
place_right [] ys p there = there
place_right (e ∷ xs) ys p there = inr (place_right xs ys p there)

place_either : (xs ys : List Entry) (p : ℕ) → IsPlace (xs ++ ys) p → IsPlace xs p ⊎ IsPlace ys p
place_either [] ys p there = inr there
place_either (e ∷ xs) ys p (inl is) = inl (inl is)
place_either (e ∷ xs) ys p (inr later) = ⊎_elim (λ x. inl (inr x)) (λ y. inr y) (place_either xs ys p later)

-- ---- one block more

pub length-entries : (area : CrashFile) (places : List ℕ) (n : ℕ) → length (entries_in area places n) ≡ n
length-entries area places n = length-map-range_with_len (entry_at area places) 0 n

pub entries_more : (area : CrashFile) (places : List ℕ) (n : ℕ) → entries_in area places (n + 1) ≡ entries_in area places n ++ entry_at area places n ∷ []
entries_more area places n = map-range_with_len_more (entry_at area places) 0 n n (omega arith)

pub replayed_more : (area : CrashFile) (places : List ℕ) (n : ℕ) (image : CrashFile)
    → replayed (entries_in area places (n + 1)) image ≡ slice_set (replayed (entries_in area places n) image) (slice_index places n) (block area (1 + n))
replayed_more area places n image =
    ap (λ (l : List Entry). replayed l image) (entries_more area places n)
    ∙ both (entries_in area places n) (entry_at area places n ∷ []) image

-- the same list made of two functions
pub same_map : (f g : ℕ → Entry) (n : ℕ) → ((i : ℕ) → i < n → f i ≡ g i) → map f (range_with_len 0 n) ≡ map g (range_with_len 0 n)
same_map f g zero same = refl
same_map f g (suc n) same =
    let next : suc n ≡ n + 1 = omega arith in
    ap (λ (m : ℕ). map f (range_with_len 0 m)) next
    ∙ map-range_with_len_more f 0 n n (omega arith)
    ∙ ap (λ (l : List Entry). l ++ f n ∷ []) (same_map f g n (λ i below. same i (omega (arith, below))))
    ∙ ap (λ (e : Entry). map g (range_with_len 0 n) ++ e ∷ []) (same n (omega arith))
    ∙ sym (map-range_with_len_more g 0 n n (omega arith))
    ∙ sym (ap (λ (m : ℕ). map g (range_with_len 0 m)) next)

same_entry : (area other : CrashFile) (places others : List ℕ) (n : ℕ) → slice_index others n ≡ slice_index places n → block other (1 + n) ≡ block area (1 + n)
    → entry_at other others n ≡ entry_at area places n
same_entry area other places others n place bytes = λ i. record { place = place i; bytes = bytes i }

pub entries_same : (area other : CrashFile) (places others : List ℕ) (n : ℕ) → ((i : ℕ) → i < n → slice_index others i ≡ slice_index places i)
    → ((i : ℕ) → i < n → block other (1 + i) ≡ block area (1 + i)) → entries_in other others n ≡ entries_in area places n
entries_same area other places others n of_places of_blocks = same_map (entry_at other others) (entry_at area places) n
    (λ i below. same_entry area other places others i (of_places i below) (of_blocks i below))

-- ---- which places they have

pub place_there : (area : CrashFile) (places : List ℕ) (n i p : ℕ) → i < n → slice_index places i ≡ p → IsPlace (entries_in area places n) p
place_there area places zero i p below is = absurd (omega (arith, below))
place_there area places (suc n) i p below is =
    let next : suc n ≡ n + 1 = omega arith in
    let all : IsPlace (entries_in area places n ++ entry_at area places n ∷ []) p = elim (cases_eq i n) [
      | inl last ↦ place_right (entries_in area places n) (entry_at area places n ∷ []) p (inl (sym is ∙ ap (slice_index places) last))
      | inr other ↦ place_left (entries_in area places n) (entry_at area places n ∷ []) p (place_there area places n i p (omega (arith, below, other)) is)
    ] in
    subst (λ (l : List Entry). IsPlace l p) (sym (ap (entries_in area places) next ∙ entries_more area places n)) all

pub no_place : (area : CrashFile) (places : List ℕ) (n p : ℕ) → HasNone places n p → ¬ IsPlace (entries_in area places n) p
no_place area places zero p none there = there
no_place area places (suc n) p none there =
    let next : suc n ≡ n + 1 = omega arith in
    ⊎_elim
    (λ before. no_place area places n p (λ k below. none k (omega (arith, below))) before)
    (λ last. ⊎_elim (λ is. none n (omega arith) (sym is)) (λ never. never) last)
    (place_either (entries_in area places n) (entry_at area places n ∷ []) p
    (subst (λ (l : List Entry). IsPlace l p) (ap (entries_in area places) next ∙ entries_more area places n) there))

pub place_index : (area : CrashFile) (places : List ℕ) (n p : ℕ) → IsPlace (entries_in area places n) p
    → (k : ℕ) × (k < n) × (slice_index places k ≡ p)
place_index area places zero p there = absurd there
place_index area places (suc n) p there =
    let next : suc n ≡ n + 1 = omega arith in
    ⊎_elim
    (λ before. let k = place_index area places n p before in (k.0, omega (arith, k.1), k.2))
    (λ last. ⊎_elim (λ is. (n, omega arith, sym is)) (λ never. absurd never) last)
    (place_either (entries_in area places n) (entry_at area places n ∷ []) p
    (subst (λ (l : List Entry). IsPlace l p) (ap (entries_in area places) next ∙ entries_more area places n) there))

-- ---- what a block is after a replay

module _ (area : CrashFile) (places : List ℕ) (image : CrashFile) (place : ℕ) where
  -- the last one that has the place
  pub block_found : (n i : ℕ) → IsLastAt places n place i → place < length image → block (replayed (entries_in area places n) image) place ≡ block area (1 + i)
  block_found zero i last room = absurd (omega (arith, last.low))
  block_found (suc n) i last room =
      let next : suc n ≡ n + 1 = omega arith in
      let sizes : length (replayed (entries_in area places n) image) ≡ length image = length-replayed (entries_in area places n) image in
      let step : block (slice_set (replayed (entries_in area places n) image) (slice_index places n) (block area (1 + n))) place ≡ block area (1 + i) =
      elim (cases_eq i n) [
        | inl is ↦
            let at : place ≡ slice_index places n = sym last.here ∙ ap (slice_index places) is in
            get_or-set_at (replayed (entries_in area places n) image) (slice_index places n) place (block area (1 + n)) [] at (omega (arith, room, sizes, at))
            ∙ ap (λ (k : ℕ). block area (1 + k)) (sym is)
        | inr other ↦
            get_or-set_other (replayed (entries_in area places n) image) (slice_index places n) place (block area (1 + n)) []
            (λ same. last.behind n (omega (arith, last.low, other)) (omega arith) (sym same))
            ∙ block_found n i (record {
              low = omega (arith, last.low, other);
              here = last.here;
              behind = λ k above below. last.behind k above (omega (arith, below));
            }) room
      ] in
      ap (λ (m : ℕ). block (replayed (entries_in area places m) image) place) next
      ∙ ap (λ (l : CrashFile). block l place) (replayed_more area places n image)
      ∙ step

  -- none that has it
  pub block_none : (n : ℕ) → HasNone places n place → block (replayed (entries_in area places n) image) place ≡ block image place
  block_none n none = block_outside (entries_in area places n) image place (no_place area places n place none)

-- ---- a block is put

module _ (area : CrashFile) (places : List ℕ) (i place : ℕ) (bytes : List ℕ) (room : i + 1 < length area) (room_places : i < length places) where
  abbrev pub area' : CrashFile
  area' = slice_set area (i + 1) bytes

  abbrev pub places' : List ℕ
  places' = slice_set places i place

  pub place_put : slice_index places' i ≡ place
  place_put = get_or-set_at places i i place 0 refl room_places

  pub block_put : block area' (1 + i) ≡ bytes
  block_put = get_or-set_at area (i + 1) (1 + i) bytes [] (omega arith) room

  pub place_kept : (k : ℕ) → k ≢ i → slice_index places' k ≡ slice_index places k
  place_kept k other = get_or-set_other places i k place 0 other

  pub block_kept : (k : ℕ) → k ≢ i → block area' (1 + k) ≡ block area (1 + k)
  block_kept k other = get_or-set_other area (i + 1) (1 + k) bytes [] (λ same. other (omega (arith, same)))

  -- those before it stay
  before_put : (n : ℕ) → n ≤ i → entries_in area' places' n ≡ entries_in area places n
  before_put n le = entries_same area area' places places' n (λ k below. place_kept k (omega (arith, below, le)))
      (λ k below. block_kept k (omega (arith, below, le)))

  -- as the last one of them
  module _ (image : CrashFile) where
    put_last : replayed (entries_in area' places' (i + 1)) image ≡ slice_set (replayed (entries_in area places i) image) place bytes
    put_last =
        replayed_more area' places' i image
        ∙ ap (λ (l : List Entry). slice_set (replayed l image) (slice_index places' i) (block area' (1 + i))) (before_put i (omega arith))
        ∙ ap (λ (p : ℕ). slice_set (replayed (entries_in area places i) image) p (block area' (1 + i))) place_put
        ∙ ap (λ (b : List ℕ). slice_set (replayed (entries_in area places i) image) place b) block_put

    -- in place of one that had its place
    pub put_there : (n : ℕ) → IsLastAt places n place i → replayed (entries_in area' places' n) image
        ≡ slice_set (replayed (entries_in area places n) image) place bytes
    put_there zero last = absurd (omega (arith, last.low))
    put_there (suc n) last =
        let next : suc n ≡ n + 1 = omega arith in
        let step : replayed (entries_in area' places' (n + 1)) image ≡ slice_set (replayed (entries_in area places (n + 1)) image) place bytes =
        elim (cases_eq n i) [
          | inl is ↦
              ap (λ (m : ℕ). replayed (entries_in area' places' (m + 1)) image) is
              ∙ put_last
              ∙ sym (set-set (replayed (entries_in area places i) image) place (block area (1 + i)) bytes)
              ∙ ap (λ (p : ℕ). slice_set (slice_set (replayed (entries_in area places i) image) p (block area (1 + i))) place bytes) (sym last.here)
              ∙ ap (λ (l : CrashFile). slice_set l place bytes) (sym (replayed_more area places i image))
              ∙ ap (λ (m : ℕ). slice_set (replayed (entries_in area places (m + 1)) image) place bytes) (sym is)
          | inr other ↦
              replayed_more area' places' n image
              ∙ ap (λ (p : ℕ). slice_set (replayed (entries_in area' places' n) image) p (block area' (1 + n))) (place_kept n other)
              ∙ ap (λ (b : List ℕ). slice_set (replayed (entries_in area' places' n) image) (slice_index places n) b) (block_kept n other)
              ∙ ap (λ (l : CrashFile). slice_set l (slice_index places n) (block area (1 + n))) (put_there n (record {
                low = omega (arith, last.low, other);
                here = last.here;
                behind = λ k above below. last.behind k above (omega (arith, below));
              }))
              ∙ set_comm (replayed (entries_in area places n) image) place (slice_index places n) bytes (block area (1 + n))
              (λ same. last.behind n (omega (arith, last.low, other)) (omega arith) (sym same))
              ∙ ap (λ (l : CrashFile). slice_set l place bytes) (sym (replayed_more area places n image))
        ] in
        ap (λ (m : ℕ). replayed (entries_in area' places' m) image) next
        ∙ step
        ∙ ap (λ (m : ℕ). slice_set (replayed (entries_in area places m) image) place bytes) (sym next)

    -- either way
    pub put_is : (count : ℕ) → IsSlot places count place i
        → replayed (entries_in area' places' (max count (i + 1))) image ≡ slice_set (replayed (entries_in area places count) image) place bytes
    put_is count (inl at) =
        let most : max count (i + 1) ≡ count = omega (arith, at.low) in
        ap (λ (m : ℕ). replayed (entries_in area' places' m) image) most ∙ put_there count at
    put_is count (inr new) =
        let most : max count (i + 1) ≡ i + 1 = omega (arith, new.0) in
        ap (λ (m : ℕ). replayed (entries_in area' places' m) image) most
        ∙ put_last
        ∙ ap (λ (m : ℕ). slice_set (replayed (entries_in area places m) image) place bytes) new.0

-- a block whose place is there makes them no more
pub put_in_place : (area : CrashFile) (places : List ℕ) (count place i : ℕ) → IsSlot places count place i → IsPlace (entries_in area places count) place
    → max count (i + 1) ≡ count
put_in_place area places count place i (inl at) there = omega (arith, at.low)
put_in_place area places count place i (inr new) there = absurd (no_place area places count place new.1 there)

-- and the places are those that were there, and its own
module _ (area other : CrashFile) (places : List ℕ) (count place i n : ℕ) (room : i < length places) (most : n ≡ max count (i + 1)) where
  before_last : IsSlot places count place i → (k : ℕ) → k < n → k ≢ i → k < count
  before_last (inl at) k below apart = omega (arith, at.low, most, below)
  before_last (inr new) k below apart = omega (arith, new.0, most, below, apart)

  same_place : IsSlot places count place i → (k p : ℕ) → k < count → k ≡ i → slice_index places k ≡ p → place ≡ p
  same_place (inl at) k p below same is = sym at.here ∙ ap (slice_index places) (sym same) ∙ is
  same_place (inr new) k p below same is = absurd (omega (arith, new.0, below, same))

  its_own : slice_index (slice_set places i place) i ≡ place
  its_own = get_or-set_at places i i place 0 refl room

  pub places_then : IsSlot places count place i → (p : ℕ) → IsPlace (entries_in other (slice_set places i place) n) p
      → (p ≡ place) ⊎ IsPlace (entries_in area places count) p
  places_then slot p there =
      let k = place_index other (slice_set places i place) n p there in
      elim (cases_eq k.0 i) [
        | inl same ↦ inl (sym k.2 ∙ ap (slice_index (slice_set places i place)) same ∙ its_own)
        | inr apart ↦
            inr (place_there area places count k.0 p (before_last slot k.0 k.1 apart) (sym (get_or-set_other places i k.0 place 0 apart) ∙ k.2))
      ]

  pub places_still : IsSlot places count place i → (p : ℕ) → (p ≡ place) ⊎ IsPlace (entries_in area places count) p
      → IsPlace (entries_in other (slice_set places i place) n) p
  places_still slot p (inl is) = place_there other (slice_set places i place) n i p (omega (arith, most)) (its_own ∙ sym is)
  places_still slot p (inr there) =
      let k = place_index area places count p there in
      elim (cases_eq k.0 i) [
        | inl same ↦
            place_there other (slice_set places i place) n i p (omega (arith, most)) (its_own ∙ same_place slot k.0 p k.1 same k.2)
        | inr apart ↦
            place_there other (slice_set places i place) n k.0 p (omega (arith, most, k.1)) (get_or-set_other places i k.0 place 0 apart ∙ k.2)
      ]

-- ---- what a head tells is taken

pub places_taken : (places : List ℕ) (i place : ℕ) → i < length places → (told : ℕ → ℕ) → ((k : ℕ) → k < i → slice_index places k ≡ told k)
    → place ≡ told i → (k : ℕ) → k < i + 1 → slice_index (slice_set places i place) k ≡ told k
places_taken places i place room told so_far is k below = elim (cases_eq k i) [
  | inl same ↦ get_or-set_at places i k place 0 same room ∙ is ∙ ap told (sym same)
  | inr other ↦ get_or-set_other places i k place 0 other ∙ so_far k (omega (arith, below, other))
]

-- ---- and the blocks are digested

pub digests_more : (area : CrashFile) (places digests : List ℕ) (i digest : ℕ) → i < length digests → AreDigests area places digests i
    → digest ≡ block_digest (slice_index places i) (block area (1 + i)) → AreDigests area places (slice_set digests i digest) (i + 1)
digests_more area places digests i digest room so_far is k below = elim (cases_eq k i) [
  | inl same ↦
      get_or-set_at digests i k digest 0 same room
      ∙ is
      ∙ ap (λ (m : ℕ). block_digest (slice_index places m) (block area (1 + m))) (sym same)
  | inr other ↦ get_or-set_other digests i k digest 0 other ∙ so_far k (omega (arith, below, other))
]
