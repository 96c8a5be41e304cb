-- The bytes of sectors one behind the other, and of a piece that was read.
use Rattle.std.proofs.Common.{◌≡◌, ⊎_elim, ℕ, zero, suc, ◌+◌, ◌-◌, ◌*◌, ◌<◌, ◌≤◌, List, [], ◌++◌, length, take, drop, get_or, slice_range, All, sym, ap, ◌∙◌}
use Rattle.std.proofs.Common.{subst, arith, length-drop, length-append}
use Rattle.std.specs.List.{concat}
use Rattle.std.specs.Simd.{first_chunks}
use Rattle.std.proofs.lemmas.Bool.{cases_lt}
use Rattle.std.proofs.lemmas.List.{take-append-drop, take_all, nil_from_length, append-nil, get_or_append_left, get_or-append_right, get_or_past}
use Rattle.std.proofs.lemmas.List.Elements.{All-append}
use Rattle.sector_device.specs.Disk.{CrashState, Disk, sector}
use Rattle.sector_device.proofs.Sectors.{part_is, part_more}
use Rattle.store_image_half.specs.Layout.{cut, bytes_of}

-- ---- a piece

-- the buffer holds the sector of a disk that only was read since, and the piece is cut out of it
pub cut_at : (old now : Disk) (bytes buffer : List ℕ) (size long n i m j : ℕ) → now ≡ old → bytes ≡ cut buffer size i → buffer ≡ sector now.content n
    → size ≡ long → n ≡ m → i ≡ j → bytes ≡ cut (sector old.content m) long j
cut_at old now bytes buffer size long n i m j same is loaded sized there which =
    is ∙ ap (λ (b : List ℕ). cut b size i) (loaded ∙ ap (λ (d : Disk). sector d.content n) same) ∙ ap (λ k. cut (sector old.content n) k i) sized
    ∙ ap (λ k. cut (sector old.content k) long i) there ∙ ap (λ k. cut (sector old.content m) long k) which

-- and the buffer holds the sector of the next piece, where that is the same one
pub still_held : (old now : Disk) (buffer : List ℕ) (n m : ℕ) → now ≡ old → buffer ≡ sector now.content n → n ≡ m → buffer ≡ sector old.content m
still_held old now buffer n m same loaded there = loaded ∙ ap (λ (d : Disk). sector d.content n) same ∙ ap (λ k. sector old.content k) there

-- ---- sectors

pub no_bytes : (image : CrashState) (at : ℕ) → bytes_of image at 0 ≡ []
no_bytes image at = ap (λ n. concat (take n (drop at image))) (let e : at + 0 - at ≡ 0 = omega arith in e)

-- one sector more
pub bytes_more : (image : CrashState) (at k : ℕ) → bytes_of image at (k + 1) ≡ bytes_of image at k ++ sector image (at + k)
bytes_more image at k = ⊎_elim
    (λ inside. part_more image at k (at + (k + 1)) inside (omega arith))
    (λ past.
    let whole : (n : ℕ) → k ≤ n → slice_range image at (at + n) ≡ drop at image =
    (λ n le. take_all (at + n - at) (drop at image) (omega (arith, le, past, length-drop at image))) in
    ap concat (whole (k + 1) (omega arith) ∙ sym (whole k (omega arith))) ∙ sym (append-nil (bytes_of image at k))
    ∙ ap (λ (t : List ℕ). bytes_of image at k ++ t) (sym (get_or_past image (at + k) [] past)))
    (cases_lt (at + k) (length image))

-- two contents with the same sectors have the same bytes there
pub bytes_same : (image other : CrashState) (at k : ℕ) → ((j : ℕ) → j < k → sector other (at + j) ≡ sector image (at + j))
    → bytes_of other at k ≡ bytes_of image at k
bytes_same image other at zero same = no_bytes other at ∙ sym (no_bytes image at)
bytes_same image other at (suc k) same =
    let next : suc k ≡ k + 1 = omega arith in
    let before = bytes_same image other at k (λ j less. same j (omega (arith, less))) in
    ap (bytes_of other at) next ∙ bytes_more other at k
    ∙ ap (λ (t : List ℕ). t ++ sector other (at + k)) before ∙ ap (λ (t : List ℕ). bytes_of image at k ++ t) (same k (omega arith))
    ∙ sym (bytes_more image at k) ∙ ap (bytes_of image at) (sym next)

-- whole sectors have 512 bytes each
pub length_bytes : (image : CrashState) (at k : ℕ) → ((n : ℕ) → n < k → length (sector image (at + n)) ≡ 512) → length (bytes_of image at k) ≡ 512 * k
length_bytes image at zero long = ap length (no_bytes image at)
length_bytes image at (suc k) long =
    let next : suc k ≡ k + 1 = omega arith in
    let before = length_bytes image at k (λ n less. long n (omega (arith, less))) in
    let size = ap length (ap (bytes_of image at) next ∙ bytes_more image at k) in
    omega (arith, size, length-append {A = ℕ} (bytes_of image at k) (sector image (at + k)), before, long k (omega arith))

-- and so each byte lies in its sector
pub byte_at : (image : CrashState) (at k i j d : ℕ) → ((n : ℕ) → n < k → length (sector image (at + n)) ≡ 512) → i < k → j < 512
    → get_or (bytes_of image at k) (512 * i + j) d ≡ get_or (sector image (at + i)) j d
byte_at image at zero i j d long low within = absurd (omega (arith, low))
byte_at image at (suc k) i j d long low within =
    let next : suc k ≡ k + 1 = omega arith in
    let earlier : (n : ℕ) → n < k → length (sector image (at + n)) ≡ 512 = (λ n less. long n (omega (arith, less))) in
    let size = length_bytes image at k earlier in
    ap (λ (t : List ℕ). get_or t (512 * i + j) d) (ap (bytes_of image at) next ∙ bytes_more image at k) ∙ ⊎_elim
    (λ less. get_or_append_left (bytes_of image at k) (sector image (at + k)) d (512 * i + j) (omega (arith, less, within, size))
    ∙ byte_at image at k i j d earlier less within)
    (λ past.
    let same : i ≡ k = omega (arith, low, past) in
    get_or-append_right (bytes_of image at k) (sector image (at + k)) (512 * k) (512 * i + j) d size (omega (arith, same))
    ∙ ap (λ n. get_or (sector image (at + k)) n d) (let e : 512 * i + j - 512 * k ≡ j = omega (arith, same) in e)
    ∙ ap (λ n. get_or (sector image (at + n)) j d) (sym same))
    (cases_lt i k)

-- what holds of each byte of the sectors holds of all bytes
pub all_bytes : (P : ℕ → Type 0) (image : CrashState) (at k : ℕ) → ((n : ℕ) → n < k → All P (sector image (at + n))) → All P (bytes_of image at k)
all_bytes P image at zero each = subst (All P) (sym (no_bytes image at)) (λ i d below. absurd (omega (arith, below)))
all_bytes P image at (suc k) each =
    let next : suc k ≡ k + 1 = omega arith in
    subst (All P) (sym (ap (bytes_of image at) next ∙ bytes_more image at k))
    (All-append P (bytes_of image at k) (sector image (at + k)) (all_bytes P image at k (λ n less. each n (omega (arith, less)))) (each k (omega arith)))

-- sectors joined give back the bytes that were cut into them
first_chunks-all : (k : ℕ) (xs : List ℕ) → length xs ≡ 512 * k → concat (first_chunks 512 k xs) ≡ xs
first_chunks-all zero xs long = sym (nil_from_length xs (omega arith))
first_chunks-all (suc k) xs long =
    ap (λ (t : List ℕ). take 512 xs ++ t) (first_chunks-all k (drop 512 xs) (omega (arith, length-drop 512 xs))) ∙ take-append-drop 512 xs

-- sectors that were written hold the bytes
pub bytes_written : (image rows : CrashState) (bytes : List ℕ) (n at k : ℕ) → at + k ≤ length image → length bytes ≡ 512 * k → n ≡ k
    → rows ≡ first_chunks 512 n bytes → length rows ≡ k
    → ((j : ℕ) → j < k → sector image (at + j) ≡ sector rows j) → bytes_of image at k ≡ bytes
bytes_written image rows bytes n at k room long all rows-is size each =
    ap concat (part_is image rows at (at + k) room (omega (arith, size)) (λ j lt. each j (omega (arith, lt, size))))
    ∙ ap concat (rows-is ∙ ap (λ (m : ℕ). first_chunks 512 m bytes) all)
    ∙ first_chunks-all k bytes long
