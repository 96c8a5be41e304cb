-- The digest of bytes: xxHash64.
use Rattle.std.specs.Prelude.{ℕ, zero, suc, ◌+◌, ◌-◌, ◌*◌, ◌/◌, ◌%◌, ◌^◌, nat_lt, if◌then◌else◌, List, [], ◌∷◌, length}
use Rattle.std.specs.Prelude.{slice_index, bit_xor}
use Rattle.std.specs.Int.{w32, w64, from_le_bytes, rotate_left}
use Rattle.block_digest.specs.declared.steps.TheConstants.{PRIME_1, PRIME_2, PRIME_3, PRIME_4, PRIME_5}

-- sums and products of words of 64 bits
abbrev pub plus : ℕ → ℕ → ℕ
plus x y = (x + y) % 2 ^ 64

abbrev pub times : ℕ → ℕ → ℕ
times x y = (x * y) % 2 ^ 64

abbrev pub rotated : ℕ → ℕ → ℕ
rotated x by = rotate_left w64 x by

-- the eight bytes from a place on, and the four bytes, the lowest one first
unfoldable pub word_at : List ℕ → ℕ → ℕ
word_at bytes at = from_le_bytes w64 (slice_index bytes at ∷ slice_index bytes (at + 1) ∷ slice_index bytes (at + 2)
    ∷ slice_index bytes (at + 3) ∷ slice_index bytes (at + 4) ∷ slice_index bytes (at + 5) ∷ slice_index bytes (at + 6)
    ∷ slice_index bytes (at + 7) ∷ [])

unfoldable pub half_at : List ℕ → ℕ → ℕ
half_at bytes at = from_le_bytes w32 (slice_index bytes at ∷ slice_index bytes (at + 1) ∷ slice_index bytes (at + 2)
    ∷ slice_index bytes (at + 3) ∷ [])

-- a lane with a word more
unfoldable pub round : ℕ → ℕ → ℕ
round lane word = times (rotated (plus lane (times word PRIME_2)) 31) PRIME_1

-- a lane that begins so, after the first n stripes of 32 bytes: it takes the word at this place of each
unfoldable pub lane : List ℕ → (place first n : ℕ) → ℕ
lane bytes place first zero = first
lane bytes place first (suc n) = round (lane bytes place first n) (word_at bytes (32 * n + place))

-- a sum of lanes, with one of them merged into it
unfoldable pub merged : ℕ → ℕ → ℕ
merged sum lane = plus (times (bit_xor sum (round 0 lane)) PRIME_1) PRIME_4

-- four lanes as one number
unfoldable pub joined : (a b c d : ℕ) → ℕ
joined a b c d =
    let sum = plus (plus (plus (rotated a 1) (rotated b 7)) (rotated c 12)) (rotated d 18) in
    merged (merged (merged (merged sum a) b) c) d

-- what the first n stripes give
unfoldable pub of_stripes : ℕ → List ℕ → ℕ → ℕ
of_stripes seed bytes n = joined (lane bytes 0 (plus (plus seed PRIME_1) PRIME_2) n)
    (lane bytes 8 (plus seed PRIME_2) n) (lane bytes 16 seed n) (lane bytes 24 (plus seed (2 ^ 64 - PRIME_1)) n)

-- what the stripes give, or the seed where there is none
unfoldable pub begun : ℕ → List ℕ → ℕ
begun seed bytes = if nat_lt (length bytes) 32 then plus seed PRIME_5 else of_stripes seed bytes (length bytes / 32)

-- with n words more, from a place on
unfoldable pub with_word : ℕ → ℕ → ℕ
with_word sum word = plus (times (rotated (bit_xor sum (round 0 word)) 27) PRIME_1) PRIME_4

unfoldable pub with_words : List ℕ → (place sum n : ℕ) → ℕ
with_words bytes place sum zero = sum
with_words bytes place sum (suc n) = with_word (with_words bytes place sum n) (word_at bytes (place + 8 * n))

-- with half a word more, where the bytes have one behind their words
unfoldable pub with_half : List ℕ → ℕ → ℕ
with_half bytes sum =
    if nat_lt (length bytes % 8) 4 then sum
    else plus (times (rotated (bit_xor sum (times (half_at bytes (length bytes / 8 * 8)) PRIME_1)) 23) PRIME_2) PRIME_3

-- with n bytes more, from a place on
unfoldable pub with_byte : ℕ → ℕ → ℕ
with_byte sum byte = times (rotated (bit_xor sum (times byte PRIME_5)) 11) PRIME_1

unfoldable pub with_bytes : List ℕ → (place sum n : ℕ) → ℕ
with_bytes bytes place sum zero = sum
with_bytes bytes place sum (suc n) = with_byte (with_bytes bytes place sum n) (slice_index bytes (place + n))

-- the bits of a sum in each other's places
abbrev pub folded : (by prime sum : ℕ) → ℕ
folded by prime sum = times (bit_xor sum (sum / 2 ^ by)) prime

unfoldable pub mixed : ℕ → ℕ
mixed sum = let last = folded 29 PRIME_3 (folded 33 PRIME_2 sum) in bit_xor last (last / 2 ^ 32)

-- xxHash64 of these bytes, with a seed
unfoldable pub digest_from : ℕ → List ℕ → ℕ
digest_from seed bytes =
    let size = length bytes in
    let words = with_words bytes (size / 32 * 32) (plus (begun seed bytes) size) (size % 32 / 8) in
    mixed (with_bytes bytes (size / 4 * 4) (with_half bytes words) (size % 4))

-- with the seed 0
abbrev pub digest : List ℕ → ℕ
digest bytes = digest_from 0 bytes
