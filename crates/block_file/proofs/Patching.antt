-- A sector of a block is changed, and so one of the sectors of a device.
use Rattle.std.proofs.Common.{◌≡◌, ◌≢◌, inl, inr, ℕ, ◌+◌, ◌-◌, ◌*◌, ◌/◌, ◌%◌, ◌<◌, List, [], ◌++◌, length, take, drop, slice_index, slice_set}
use Rattle.std.proofs.Common.{refl, sym, ◌∙◌, ap, subst, arith, zero-add, mod-eq_of_lt, length-set, length-take, length-drop}
use Rattle.std.proofs.lemmas.Bool.{cases_eq, cases_lt}
use Rattle.std.proofs.lemmas.List.{get_or_append_left, get_or-append_right, get_or-take, get_or-drop, get_or-set_other}
use Rattle.std.proofs.lemmas.List.FromFn.{fill_by_all, get_or-map-range_with_len, length-map-range_with_len}
use Rattle.std.proofs.lemmas.Grind.{get_or-set_at}
use Rattle.sector_device.specs.Disk.{sector}
use Rattle.block_device.specs.Blocks.{CrashFile, block}
use Rattle.block_file.specs.Sectors.{byte_in, part, sector_in, sectors_of}

-- ---- one block

-- bytes that are those of a sector of a block
pub is_part : (blk xs : List ℕ) (k : ℕ) → length xs ≡ 512 → ((i : ℕ) → i < 512 → slice_index xs i < 256)
    → ((i : ℕ) → i < 512 → slice_index xs i ≡ slice_index blk (512 * k + i)) → xs ≡ part blk k
unfolding part
is_part blk xs k size low same = fill_by_all (byte_in blk k) xs 512 0 size (λ i below.
    same i below ∙ sym (mod-eq_of_lt (subst (λ (b : ℕ). b < 256) (same i below) (low i below))))

-- a slice of a block
pub slice_is_part : (blk : List ℕ) (k : ℕ) → length blk ≡ 4096 → ((i : ℕ) → slice_index blk i < 256) → k < 8 → take 512 (drop (512 * k) blk) ≡ part blk k
slice_is_part blk k size low small = is_part blk (take 512 (drop (512 * k) blk)) k
    (omega (arith, length-take 512 (drop (512 * k) blk), length-drop (512 * k) blk, size, small))
    (λ i below. subst (λ (b : ℕ). b < 256) (sym (there i below)) (low (512 * k + i)))
    there
  where
    there : (i : ℕ) → i < 512 → slice_index (take 512 (drop (512 * k) blk)) i ≡ slice_index blk (512 * k + i)
    there i below = get_or-take 512 (drop (512 * k) blk) i 0 below ∙ get_or-drop (512 * k) blk i 0

-- the same bytes are the same sector
pub same_part : (blk other : List ℕ) (j : ℕ) → ((i : ℕ) → i < 512 → slice_index other (512 * j + i) ≡ slice_index blk (512 * j + i)) → part other j ≡ part blk j
unfolding part
same_part blk other j same = fill_by_all (byte_in blk j) (part other j) 512 0 (length-map-range_with_len (byte_in other j) 0 512) (λ i below.
    get_or-map-range_with_len (byte_in other j) 0 512 i i 0 below (zero-add i)
    ∙ ap (λ (b : ℕ). b % 256) (same i below))

-- a block whose k-th sector is replaced
abbrev pub patched : List ℕ → List ℕ → ℕ → List ℕ
patched blk bytes at = take at blk ++ (bytes ++ drop 512 (drop at blk))

module _ (blk bytes : List ℕ) (k : ℕ) (size : length blk ≡ 4096) (fits : length bytes ≡ 512) (low : k < 8) where
  front : length (take (512 * k) blk) ≡ 512 * k
  front = omega (arith, length-take (512 * k) blk, size, low)

  behind : List ℕ
  behind = drop 512 (drop (512 * k) blk)

  byte_here : (i : ℕ) → i < 512 → slice_index (patched blk bytes (512 * k)) (512 * k + i) ≡ slice_index bytes i
  byte_here i below =
      let at : 512 * k + i - 512 * k ≡ i = omega arith in
      get_or-append_right (take (512 * k) blk) (bytes ++ drop 512 (drop (512 * k) blk)) (512 * k) (512 * k + i) 0 front (omega arith)
      ∙ ap (slice_index (bytes ++ drop 512 (drop (512 * k) blk))) at
      ∙ get_or_append_left bytes (drop 512 (drop (512 * k) blk)) 0 i (omega (arith, fits, below))

  byte_other : (j i : ℕ) → j ≢ k → i < 512 → slice_index (patched blk bytes (512 * k)) (512 * j + i) ≡ slice_index blk (512 * j + i)
  byte_other j i apart below = elim (cases_lt j k) [
    | inl less ↦
        get_or_append_left (take (512 * k) blk) (bytes ++ drop 512 (drop (512 * k) blk)) 0 (512 * j + i) (omega (arith, front, less, below))
        ∙ get_or-take (512 * k) blk (512 * j + i) 0 (omega (arith, less, below))
    | inr more ↦
        let past : k < j = omega (arith, more, apart) in
        let at : 512 * k + (512 + (512 * j + i - 512 * k - 512)) ≡ 512 * j + i = omega (arith, past) in
        get_or-append_right (take (512 * k) blk) (bytes ++ drop 512 (drop (512 * k) blk)) (512 * k) (512 * j + i) 0 front (omega (arith, past))
        ∙ get_or-append_right bytes (drop 512 (drop (512 * k) blk)) 512 (512 * j + i - 512 * k) 0 fits (omega (arith, past))
        ∙ get_or-drop 512 (drop (512 * k) blk) (512 * j + i - 512 * k - 512) 0
        ∙ get_or-drop (512 * k) blk (512 + (512 * j + i - 512 * k - 512)) 0
        ∙ ap (slice_index blk) at
  ]

  pub part_here : ((i : ℕ) → slice_index bytes i < 256) → part (patched blk bytes (512 * k)) k ≡ bytes
  part_here bound = sym (is_part (patched blk bytes (512 * k)) bytes k fits (λ i below. bound i) (λ i below. sym (byte_here i below)))

  pub part_other : (j : ℕ) → j ≢ k → part (patched blk bytes (512 * k)) j ≡ part blk j
  part_other j apart = same_part blk (patched blk bytes (512 * k)) j (λ i below. byte_other j i apart below)

-- ---- the sectors of a device

pub length-sectors : (lead count : ℕ) (blocks : CrashFile) → length (sectors_of lead count blocks) ≡ count
length-sectors lead count blocks = length-map-range_with_len (sector_in lead blocks) 0 count

pub sector_at : (lead count : ℕ) (blocks : CrashFile) (n : ℕ) → n < count → sector (sectors_of lead count blocks) n ≡ sector_in lead blocks n
sector_at lead count blocks n below = get_or-map-range_with_len (sector_in lead blocks) 0 count n n [] below (zero-add n)

-- the block of a sector is put, with that sector changed
module _ (lead count : ℕ) (blocks : CrashFile) (n : ℕ) (bytes blk : List ℕ) (low : n < count) (room : (n + lead) / 8 < length blocks)
    (here : part blk ((n + lead) % 8) ≡ bytes)
    (others : (j : ℕ) → j ≢ (n + lead) % 8 → part blk j ≡ part (block blocks ((n + lead) / 8)) j) where
  now : CrashFile
  now = slice_set blocks ((n + lead) / 8) blk

  block_here : (m : ℕ) → (m + lead) / 8 ≡ (n + lead) / 8 → block (slice_set blocks ((n + lead) / 8) blk) ((m + lead) / 8) ≡ blk
  block_here m same = get_or-set_at blocks ((n + lead) / 8) ((m + lead) / 8) blk [] same room

  other_sector : (m : ℕ) → m ≢ n → sector_in lead blocks m ≡ sector_in lead (slice_set blocks ((n + lead) / 8) blk) m
  other_sector m apart = elim (cases_eq ((m + lead) / 8) ((n + lead) / 8)) [
    | inl same ↦
        ap (λ (b : ℕ). part (block blocks b) ((m + lead) % 8)) same
        ∙ sym (others ((m + lead) % 8) (λ eighth. apart (omega (arith, same, eighth))))
        ∙ sym (ap (λ (b : List ℕ). part b ((m + lead) % 8)) (block_here m same))
    | inr other ↦ sym (ap (λ (b : List ℕ). part b ((m + lead) % 8)) (get_or-set_other blocks ((n + lead) / 8) ((m + lead) / 8) blk [] other))
  ]

  pub sector_put : sectors_of lead count (slice_set blocks ((n + lead) / 8) blk) ≡ slice_set (sectors_of lead count blocks) n bytes
  sector_put = sym (fill_by_all (sector_in lead (slice_set blocks ((n + lead) / 8) blk)) (slice_set (sectors_of lead count blocks) n bytes) count []
      (length-set (sectors_of lead count blocks) n bytes ∙ length-sectors lead count blocks)
      (λ m below. elim (cases_eq m n) [
        | inl same ↦
            get_or-set_at (sectors_of lead count blocks) n m bytes [] same (omega (arith, low, length-sectors lead count blocks))
            ∙ sym here
            ∙ sym (ap (λ (b : List ℕ). part b ((n + lead) % 8)) (block_here n refl))
            ∙ ap (sector_in lead (slice_set blocks ((n + lead) / 8) blk)) (sym same)
        | inr other ↦
            get_or-set_other (sectors_of lead count blocks) n m bytes [] other
            ∙ sector_at lead count blocks m below
            ∙ other_sector m other
      ]))
