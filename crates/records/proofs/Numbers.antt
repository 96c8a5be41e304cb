-- Numbers as bytes, the highest first, for proofs in the crates above.
use Rattle.std.proofs.Common.{◌≡◌, ℕ, ◌^◌, ◌<◌, ◌≤◌, false, ltb, List, ◌++◌, length, take, drop, Option, Some, refl, sym, ap, ◌∙◌}
use Rattle.std.proofs.lemmas.Bool.{le-ltb}
use Rattle.byteorder.specs.Endian.{big_number}
use Rattle.records.specs.Spelling.{u16, u32, u64, IsBytes}
use Rattle.records.specs.Reading.{number_at, u16_at, u32_at, u64_at}
use Rattle.record_values.proofs.Bytes as bytes
use Rattle.records.proofs.Steps.{some_is}
use Rattle.records.proofs.Fields.{u16_takes, u32_takes, u64_takes, u16_again, u32_again, u64_again}
use Rattle.records.proofs.Sizes as sizes

pub IsBytes-drop : (n : ℕ) (bytes : List ℕ) → IsBytes bytes → IsBytes (drop n bytes)
IsBytes-drop = bytes.IsBytes-drop

pub IsBytes-take : (n : ℕ) (bytes : List ℕ) → IsBytes bytes → IsBytes (take n bytes)
IsBytes-take = bytes.IsBytes-take

-- ---- how long they are

pub length-u16 : (n : ℕ) → length (u16 n) ≡ 2
length-u16 = sizes.length-u16

pub length-u32 : (n : ℕ) → length (u32 n) ≡ 4
length-u32 = sizes.length-u32

pub length-u64 : (n : ℕ) → length (u64 n) ≡ 8
length-u64 = sizes.length-u64

-- ---- bytes are the spelling of the number that stands at their front

there : (n : ℕ) (bytes : List ℕ) → n ≤ length bytes → number_at n bytes ≡ Some (big_number n bytes, drop n bytes)
there n bytes long = let enough : ltb (length bytes) n ≡ false = le-ltb _ _ long in rw enough refl

pub u16_front : (bytes : List ℕ) → IsBytes bytes → 2 ≤ length bytes → bytes ≡ u16 (big_number 2 bytes) ++ drop 2 bytes
unfolding u16_at
u16_front bytes fits long = (u16_takes bytes (big_number 2 bytes) (drop 2 bytes) fits (there 2 bytes long)).0.parts

pub u32_front : (bytes : List ℕ) → IsBytes bytes → 4 ≤ length bytes → bytes ≡ u32 (big_number 4 bytes) ++ drop 4 bytes
unfolding u32_at
u32_front bytes fits long = (u32_takes bytes (big_number 4 bytes) (drop 4 bytes) fits (there 4 bytes long)).0.parts

pub u64_front : (bytes : List ℕ) → IsBytes bytes → 8 ≤ length bytes → bytes ≡ u64 (big_number 8 bytes) ++ drop 8 bytes
unfolding u64_at
u64_front bytes fits long = (u64_takes bytes (big_number 8 bytes) (drop 8 bytes) fits (there 8 bytes long)).0.parts

-- ---- a spelling is of one number

once : (read : List ℕ → Option (ℕ × List ℕ)) (a b : List ℕ) (m n : ℕ) (s t : List ℕ) → a ≡ b → read a ≡ Some (m, s) → read b ≡ Some (n, t) → (m ≡ n) × (s ≡ t)
once read a b m n s t same first second =
    let both = some_is (m, s) (n, t) (sym first ∙ ap read same ∙ second) in
    (ap (λ (p : ℕ × List ℕ). p.0) both, ap (λ (p : ℕ × List ℕ). p.1) both)

pub u16_once : (m n : ℕ) (s t : List ℕ) → m < 2 ^ 16 → n < 2 ^ 16 → u16 m ++ s ≡ u16 n ++ t → (m ≡ n) × (s ≡ t)
u16_once m n s t fm fn e = once u16_at (u16 m ++ s) (u16 n ++ t) m n s t e (u16_again m s fm) (u16_again n t fn)

pub u32_once : (m n : ℕ) (s t : List ℕ) → m < 2 ^ 32 → n < 2 ^ 32 → u32 m ++ s ≡ u32 n ++ t → (m ≡ n) × (s ≡ t)
u32_once m n s t fm fn e = once u32_at (u32 m ++ s) (u32 n ++ t) m n s t e (u32_again m s fm) (u32_again n t fn)

pub u64_once : (m n : ℕ) (s t : List ℕ) → m < 2 ^ 64 → n < 2 ^ 64 → u64 m ++ s ≡ u64 n ++ t → (m ≡ n) × (s ≡ t)
u64_once m n s t fm fn e = once u64_at (u64 m ++ s) (u64 n ++ t) m n s t e (u64_again m s fm) (u64_again n t fn)
