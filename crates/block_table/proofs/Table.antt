-- A block of data is put, with its digest.
use Rattle.std.proofs.Common.{◌≡◌, ◌≢◌, inl, inr, ℕ, ◌+◌, ◌/◌, ◌%◌, ◌<◌, List, [], ◌∷◌, ◌++◌, length, slice_index, slice_index_or, slice_set, refl, sym}
use Rattle.std.proofs.Common.{◌∙◌, ap, arith, length-set}
use Rattle.std.proofs.lemmas.Bool.{cases_eq}
use Rattle.std.proofs.lemmas.List.{drop-set-add, drop-set-lt, get_or-set_other, get_or_append_left, get_or_push}
use Rattle.std.proofs.lemmas.Grind.{get_or-set_at}
use Rattle.block_device.specs.Blocks.{CrashFile, block}
use Rattle.block_device.specs.Words.{word}
use Rattle.block_batch.specs.Batch.{block_digest}
use Rattle.block_table.specs.Table.{IsFit, data_of, digest_of, kept_count, place_of, table_count}
use Rattle.block_table.specs.Rows.{AreNumbers}

-- the block of the table that has a digest
pub in_table : (blocks n : ℕ) → n < blocks → n / 512 < table_count blocks
in_table blocks n low = omega (arith, low)

-- the blocks that are kept after it
abbrev pub after_put : ℕ → CrashFile → ℕ → List ℕ → List ℕ → CrashFile
after_put blocks kept n bytes row = slice_set (slice_set kept (place_of blocks n) bytes) (n / 512) row

module _ (blocks : ℕ) (kept : CrashFile) (n : ℕ) (bytes row : List ℕ) (digest : ℕ) (rows : List (List ℕ)) (low : n < blocks)
    (size : length kept ≡ kept_count blocks) (numbers : AreNumbers kept rows (table_count blocks)) (put : word row (n % 512) ≡ digest)
    (others : (i : ℕ) → i < 512 → i ≢ n % 512 → word row i ≡ slice_index (slice_index_or rows (n / 512) []) i)
    (is : digest ≡ block_digest (place_of blocks n) bytes) where
  abbrev after : CrashFile
  after = after_put blocks kept n bytes row

  row_block : block after (n / 512) ≡ row
  row_block = get_or-set_at (slice_set kept (place_of blocks n) bytes) (n / 512) (n / 512) row [] refl
      (omega (arith, length-set kept (place_of blocks n) bytes, size, in_table blocks n low))

  other_row : (t : ℕ) → t < table_count blocks → t ≢ n / 512 → block after t ≡ block kept t
  other_row t inside apart =
      get_or-set_other (slice_set kept (place_of blocks n) bytes) (n / 512) t row [] apart
      ∙ get_or-set_other kept (place_of blocks n) t bytes [] (omega (arith, inside))

  pub data_here : block after (place_of blocks n) ≡ bytes
  data_here =
      get_or-set_other (slice_set kept (place_of blocks n) bytes) (n / 512) (place_of blocks n) row [] (omega (arith, in_table blocks n low))
      ∙ get_or-set_at kept (place_of blocks n) (place_of blocks n) bytes [] refl (omega (arith, size, low))

  data_other : (m : ℕ) → m ≢ n → block after (place_of blocks m) ≡ block kept (place_of blocks m)
  data_other m apart =
      get_or-set_other (slice_set kept (place_of blocks n) bytes) (n / 512) (place_of blocks m) row [] (omega (arith, in_table blocks n low))
      ∙ get_or-set_other kept (place_of blocks n) (place_of blocks m) bytes [] (omega (arith, apart))

  digest_other : (m : ℕ) → m < blocks → m ≢ n → digest_of after m ≡ digest_of kept m
  digest_other m below apart = elim (cases_eq (m / 512) (n / 512)) [
    | inl same ↦
        ap (λ (t : ℕ). word (block after t) (m % 512)) same
        ∙ ap (λ (b : List ℕ). word b (m % 512)) row_block
        ∙ others (m % 512) (omega arith) (omega (arith, same, apart))
        ∙ numbers (n / 512) (m % 512) (in_table blocks n low) (omega arith)
        ∙ ap (λ (t : ℕ). word (block kept t) (m % 512)) (sym same)
    | inr other ↦ ap (λ (b : List ℕ). word b (m % 512)) (other_row (m / 512) (in_table blocks m below) other)
  ]

  pub put_fits : IsFit blocks after n
  put_fits =
      ap (λ (b : List ℕ). word b (n % 512)) row_block ∙ put ∙ is
      ∙ ap (block_digest (place_of blocks n)) (sym data_here)

  -- whether another one fits stays
  pub fits_after : (m : ℕ) → m < blocks → m ≢ n → IsFit blocks kept m → IsFit blocks after m
  fits_after m below apart fits =
      digest_other m below apart ∙ fits ∙ ap (block_digest (place_of blocks m)) (sym (data_other m apart))

  pub fits_before : (m : ℕ) → m < blocks → m ≢ n → IsFit blocks after m → IsFit blocks kept m
  fits_before m below apart fits =
      sym (digest_other m below apart) ∙ fits ∙ ap (block_digest (place_of blocks m)) (data_other m apart)

  pub put_data : data_of blocks after ≡ slice_set (data_of blocks kept) n bytes
  put_data =
      drop-set-lt (table_count blocks) (slice_set kept (place_of blocks n) bytes) (n / 512) row (in_table blocks n low)
      ∙ drop-set-add (table_count blocks) kept n bytes

  -- and the rows are in step
  pub put_numbers : (now : List (List ℕ)) → ((i : ℕ) → i < 512 → slice_index (slice_index_or now (n / 512) []) i ≡ word row i)
      → ((t : ℕ) → t ≢ n / 512 → slice_index_or now t [] ≡ slice_index_or rows t []) → AreNumbers after now (table_count blocks)
  put_numbers now here rest t i inside below = elim (cases_eq t (n / 512)) [
    | inl same ↦
        ap (λ (s : ℕ). slice_index (slice_index_or now s []) i) same
        ∙ here i below
        ∙ sym (ap (λ (b : List ℕ). word b i) row_block)
        ∙ ap (λ (s : ℕ). word (block after s) i) (sym same)
    | inr other ↦
        ap (λ (l : List ℕ). slice_index l i) (rest t other)
        ∙ numbers t i inside below
        ∙ sym (ap (λ (b : List ℕ). word b i) (other_row t inside other))
  ]

-- one row more
pub numbers_push : (kept : CrashFile) (rows : List (List ℕ)) (t : ℕ) (row : List ℕ) → length rows ≡ t → AreNumbers kept rows t
    → ((i : ℕ) → i < 512 → slice_index row i ≡ word (block kept t) i) → AreNumbers kept (rows ++ row ∷ []) (t + 1)
numbers_push kept rows t row size so_far here s i below low = elim (cases_eq s t) [
  | inl same ↦
      ap (λ (l : List ℕ). slice_index l i) (get_or_push rows row [] s (size ∙ sym same))
      ∙ here i low
      ∙ ap (λ (k : ℕ). word (block kept k) i) (sym same)
  | inr other ↦
      ap (λ (l : List ℕ). slice_index l i) (get_or_append_left rows (row ∷ []) [] s (omega (arith, size, below, other)))
      ∙ so_far s i (omega (arith, below, other)) low
]
