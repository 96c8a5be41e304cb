-- What a replay does to an image.
use Rattle.std.proofs.Common.{◌≡◌, inl, inr, ⊎_elim, ℕ, List, [], ◌∷◌, ◌++◌, length, slice_set, refl, sym, ◌∙◌, arith, length-set}
use Rattle.std.proofs.lemmas.Bool.{cases_eq, cases_lt}
use Rattle.std.proofs.lemmas.List.{get_or-set_other, get_or_past, ext_get_or}
use Rattle.std.proofs.lemmas.Grind.{get_or-set_at}
use Rattle.block_device.specs.Blocks.{CrashFile, block, SameOutside}
use Rattle.block_batch.specs.Batch.{Entry, replayed, IsPlace}

pub length-replayed : (entries : List Entry) (image : CrashFile) → length (replayed entries image) ≡ length image
length-replayed [] image = refl
length-replayed (e ∷ entries) image = length-replayed entries (slice_set image e.place e.bytes) ∙ length-set image e.place e.bytes

-- outside the places of its blocks nothing changes
pub block_outside : (entries : List Entry) (image : CrashFile) (n : ℕ) → ¬ IsPlace entries n → block (replayed entries image) n ≡ block image n
block_outside [] image n out = refl
block_outside (e ∷ entries) image n out =
    block_outside entries (slice_set image e.place e.bytes) n (λ later. out (inr later))
    ∙ get_or-set_other image e.place n e.bytes [] (λ same. out (inl same))

pub outside : (entries : List Entry) (image : CrashFile) → SameOutside (IsPlace entries) image (replayed entries image)
outside entries image = record { size = length-replayed entries image; same = block_outside entries image }

-- one block in its place, over two images
both_set : (image other : CrashFile) (place n : ℕ) (bytes : List ℕ) → length other ≡ length image → n ≡ place
    → block (slice_set other place bytes) n ≡ block (slice_set image place bytes) n
both_set image other place n bytes size is = elim (cases_lt place (length image)) [
  | inl inside ↦ get_or-set_at other place n bytes [] is (omega (arith, size, inside)) ∙ sym (get_or-set_at image place n bytes [] is inside)
  | inr past ↦ get_or_past (slice_set other place bytes) n [] (omega (arith, is, past, size, length-set other place bytes))
      ∙ sym (get_or_past (slice_set image place bytes) n [] (omega (arith, is, past, length-set image place bytes)))
]

-- What agrees outside the places is replayed to the same: also what a replay leaves that was cut off.
pub cut : (entries : List Entry) (image other : CrashFile) → length other ≡ length image
    → ((n : ℕ) → ¬ IsPlace entries n → block other n ≡ block image n) → replayed entries other ≡ replayed entries image
cut [] image other size same = ext_get_or [] other image size (λ n below. same n (λ none. none))
cut (e ∷ entries) image other size same = cut entries (slice_set image e.place e.bytes) (slice_set other e.place e.bytes) sizes each
  where
    sizes : length (slice_set other e.place e.bytes) ≡ length (slice_set image e.place e.bytes)
    sizes = length-set other e.place e.bytes ∙ size ∙ sym (length-set image e.place e.bytes)

    each : (n : ℕ) → ¬ IsPlace entries n → block (slice_set other e.place e.bytes) n ≡ block (slice_set image e.place e.bytes) n
    each n out = elim (cases_eq n e.place) [
      | inl is ↦ both_set image other e.place n e.bytes size is
      | inr apart ↦ get_or-set_other other e.place n e.bytes [] apart
          ∙ same n (λ found. ⊎_elim apart out found)
          ∙ sym (get_or-set_other image e.place n e.bytes [] apart)
    ]

pub cut_off : (entries : List Entry) (image other : CrashFile) → SameOutside (IsPlace entries) image other → replayed entries other ≡ replayed entries image
cut_off entries image other agrees = cut entries image other agrees.size agrees.same

-- what is there is replayed to itself
pub again : (entries : List Entry) (image : CrashFile) → replayed entries (replayed entries image) ≡ replayed entries image
again entries image = cut_off entries image (replayed entries image) (outside entries image)

-- two batches, one behind the other
pub both : (first second : List Entry) (image : CrashFile) → replayed (first ++ second) image ≡ replayed second (replayed first image)
both [] second image = refl
both (e ∷ first) second image = both first second (slice_set image e.place e.bytes)

-- images that agree outside a set are replayed to such
pub agree : (S : ℕ → Type 0) (entries : List Entry) (image other : CrashFile) → SameOutside S image other
    → SameOutside S (replayed entries image) (replayed entries other)
agree S [] image other same = same
agree S (e ∷ entries) image other same = agree S entries (slice_set image e.place e.bytes) (slice_set other e.place e.bytes) (record {
  size = length-set other e.place e.bytes ∙ same.size ∙ sym (length-set image e.place e.bytes);
  same = λ n out. elim (cases_eq n e.place) [
    | inl is ↦ both_set image other e.place n e.bytes same.size is
    | inr apart ↦ get_or-set_other other e.place n e.bytes [] apart ∙ same.same n out ∙ sym (get_or-set_other image e.place n e.bytes [] apart)
  ];
})
