-- The order of bytes: by the numbers that they spell, eight at a time, and in front of zeros.
use Rattle.std.specs.Prelude.{◌⊎◌}
use Rattle.std.proofs.Common.{◌≡◌, ℕ, zero, suc, ◌+◌, ◌-◌, ◌*◌, ◌<◌, ◌≤◌, List, [], ◌∷◌, ◌++◌, length, get_or, take, drop, replicate, refl, sym, ap, ◌∙◌, arith}
use Rattle.std.proofs.Common.{length-append, length-take-le, length-drop, take-append-drop, inl, inr}
use Rattle.std.proofs.lemmas.List.{drop-drop, length-replicate}
use Rattle.std.specs.Simd.{first_chunks}
use Rattle.std.specs.Slice.Scan.{big_endian}
use Rattle.std.specs.Int.{w64, from_be_bytes}
use Rattle.std.specs.Cmp.{ranks, nat_cmp_is}
use Rattle.std.specs.Cmp.Lexicographic.{slice_cmp}
use Rattle.std.specs.Ordering.{nat_cmp, ordering_then, MatchOrdering}
use Rattle.std.specs.declared.cmp.Ordering.{Ordering}
use Rattle.std.specs.declared.cmp.Ordering.TheVariants.{Less, Equal, Greater}
use Rattle.record_values.specs.Padded.{bytes_back, length_back}
use Rattle.record_values.proofs.Bytes.{IsBytes, IsBytes-drop, IsBytes-take, IsBytes-rest}

-- ---- words

step : (n j : ℕ) → n + n * j ≡ n * suc j
step n j = grind arith

pub nth_chunk : (n k j : ℕ) (xs d : List ℕ) → j < k → get_or (first_chunks n k xs) j d ≡ take n (drop (n * j) xs)
nth_chunk n zero j xs d below = absurd (omega (arith, below))
nth_chunk n (suc k) zero xs d below = ap (λ m. take n (drop m xs)) (let z : 0 ≡ n * 0 = grind arith in z)
nth_chunk n (suc k) (suc j) xs d below =
    nth_chunk n k j (drop n xs) d (omega (arith, below))
    ∙ ap (take n) (drop-drop (n * j) n xs)
    ∙ ap (λ m. take n (drop m xs)) (step n j)

eight : (a b c d e f g h : ℕ) → from_be_bytes w64 (a ∷ b ∷ c ∷ d ∷ e ∷ f ∷ g ∷ h ∷ []) ≡ big_endian 0 (a ∷ b ∷ c ∷ d ∷ e ∷ f ∷ g ∷ h ∷ [])
eight a b c d e f g h =
    let spelt : a * 72057594037927936 + b * 281474976710656 + c * 1099511627776 + d * 4294967296 + e * 16777216 + f * 65536 + g * 256 + h
    ≡ big_endian 0 (a ∷ b ∷ c ∷ d ∷ e ∷ f ∷ g ∷ h ∷ []) =
    omega arith in
    spelt

word_is : (xs : List ℕ) → length xs ≡ 8 → from_be_bytes w64 xs ≡ big_endian 0 xs
word_is [] size = absurd (omega (arith, size))
word_is (a ∷ []) size = absurd (omega (arith, size))
word_is (a ∷ b ∷ []) size = absurd (omega (arith, size))
word_is (a ∷ b ∷ c ∷ []) size = absurd (omega (arith, size))
word_is (a ∷ b ∷ c ∷ d ∷ []) size = absurd (omega (arith, size))
word_is (a ∷ b ∷ c ∷ d ∷ e ∷ []) size = absurd (omega (arith, size))
word_is (a ∷ b ∷ c ∷ d ∷ e ∷ f ∷ []) size = absurd (omega (arith, size))
word_is (a ∷ b ∷ c ∷ d ∷ e ∷ f ∷ g ∷ []) size = absurd (omega (arith, size))
word_is (a ∷ b ∷ c ∷ d ∷ e ∷ f ∷ g ∷ h ∷ []) size = eight a b c d e f g h
word_is (a ∷ b ∷ c ∷ d ∷ e ∷ f ∷ g ∷ h ∷ i ∷ xs) size = absurd (omega (arith, size))

-- ---- numbers of as many bytes

rises : (a b : ℕ) (xs ys : List ℕ) → length xs ≡ length ys → IsBytes xs → a < b → big_endian a xs < big_endian b ys
rises a b [] [] size fits low = low
rises a b [] (y ∷ ys) size fits low = absurd (omega (arith, size))
rises a b (x ∷ xs) [] size fits low = absurd (omega (arith, size))
rises a b (x ∷ xs) (y ∷ ys) size fits low =
    let small : x < 256 = fits 0 in
    rises (a * 256 + x) (b * 256 + y) xs ys (omega (arith, size)) (IsBytes-rest x xs fits) (omega (arith, small, low))

numbers_cmp : (a : ℕ) (xs ys : List ℕ) → length xs ≡ length ys → IsBytes xs → IsBytes ys → nat_cmp (big_endian a xs) (big_endian a ys) ≡ slice_cmp nat_cmp xs ys
numbers_cmp a [] [] size some other = sym (nat_cmp_is a a Equal refl)
numbers_cmp a [] (y ∷ ys) size some other = absurd (omega (arith, size))
numbers_cmp a (x ∷ xs) [] size some other = absurd (omega (arith, size))
numbers_cmp a (x ∷ xs) (y ∷ ys) size some other =
    by (numbers_cmp (a * 256 + x) xs ys (omega (arith, size)) (IsBytes-rest x xs some) (IsBytes-rest y ys other)) (nat_cmp x y) refl (ranks x y)
  where
    by : nat_cmp (big_endian (a * 256 + x) xs) (big_endian (a * 256 + x) ys) ≡ slice_cmp nat_cmp xs ys
        → (r : Ordering) → nat_cmp x y ≡ r → MatchOrdering r (x < y) (x ≡ y) (y < x)
        → nat_cmp (big_endian (a * 256 + x) xs) (big_endian (a * 256 + y) ys) ≡ ordering_then (nat_cmp x y) (slice_cmp nat_cmp xs ys)
    by rest Less is l =
        let low : x < y = l in
        sym (nat_cmp_is _ _ Less (rises (a * 256 + x) (a * 256 + y) xs ys (omega (arith, size)) (IsBytes-rest x xs some) (omega (arith, low))))
        ∙ sym (ap (λ (r : Ordering). ordering_then r (slice_cmp nat_cmp xs ys)) is)
    by rest Equal is l =
        let level : x ≡ y = l in
        ap (λ (k : ℕ). nat_cmp (big_endian (a * 256 + x) xs) (big_endian (a * 256 + k) ys)) (sym level)
        ∙ rest
        ∙ sym (ap (λ (r : Ordering). ordering_then r (slice_cmp nat_cmp xs ys)) is)
    by rest Greater is l =
        let high : y < x = l in
        sym (nat_cmp_is _ _ Greater (rises (a * 256 + y) (a * 256 + x) ys xs (omega (arith, size)) (IsBytes-rest y ys other) (omega (arith, high))))
        ∙ sym (ap (λ (r : Ordering). ordering_then r (slice_cmp nat_cmp xs ys)) is)

-- ---- word by word

then_assoc : (a b c : Ordering) → ordering_then a (ordering_then b c) ≡ ordering_then (ordering_then a b) c
then_assoc Less b c = refl
then_assoc Equal b c = refl
then_assoc Greater b c = refl

append_cmp : (us vs xs ys : List ℕ) → length us ≡ length vs
    → slice_cmp nat_cmp (us ++ xs) (vs ++ ys) ≡ ordering_then (slice_cmp nat_cmp us vs) (slice_cmp nat_cmp xs ys)
append_cmp [] [] xs ys size = refl
append_cmp [] (v ∷ vs) xs ys size = absurd (omega (arith, size))
append_cmp (u ∷ us) [] xs ys size = absurd (omega (arith, size))
append_cmp (u ∷ us) (v ∷ vs) xs ys size =
    ap (ordering_then (nat_cmp u v)) (append_cmp us vs xs ys (omega (arith, size)))
    ∙ then_assoc (nat_cmp u v) (slice_cmp nat_cmp us vs) (slice_cmp nat_cmp xs ys)

-- the i-th word of the bytes
abbrev pub word : ℕ → List ℕ → ℕ
word i xs = from_be_bytes w64 (take 8 (drop (8 * i) xs))

-- what is left to compare before the i-th word
abbrev pub rest_cmp : ℕ → List ℕ → List ℕ → Ordering
rest_cmp i xs ys = slice_cmp nat_cmp (drop (8 * i) xs) (drop (8 * i) ys)

cut : (xs : List ℕ) (i : ℕ) → drop (8 * i) xs ≡ take 8 (drop (8 * i) xs) ++ drop (8 * (i + 1)) xs
cut xs i =
    let next : 8 * i + 8 ≡ 8 * (i + 1) = omega arith in
    sym (take-append-drop 8 (drop (8 * i) xs))
    ∙ ap (λ (t : List ℕ). take 8 (drop (8 * i) xs) ++ t) (drop-drop 8 (8 * i) xs ∙ ap (λ (k : ℕ). drop k xs) next)

word_long : (xs : List ℕ) (i : ℕ) → 8 * i + 8 ≤ length xs → length (take 8 (drop (8 * i) xs)) ≡ 8
word_long xs i room = length-take-le 8 (drop (8 * i) xs) (omega (arith, room, length-drop (8 * i) xs))

pub word_cmp : (xs ys : List ℕ) (i : ℕ) → length xs ≡ length ys → 8 * i + 8 ≤ length xs → IsBytes xs → IsBytes ys
    → rest_cmp i xs ys ≡ ordering_then (nat_cmp (word i xs) (word i ys)) (rest_cmp (i + 1) xs ys)
word_cmp xs ys i size room some other =
    let us = take 8 (drop (8 * i) xs) in
    let vs = take 8 (drop (8 * i) ys) in
    let us_long = word_long xs i room in
    let vs_long = word_long ys i (omega (arith, size, room)) in
    let us_bytes = IsBytes-take 8 (drop (8 * i) xs) (IsBytes-drop (8 * i) xs some) in
    let vs_bytes = IsBytes-take 8 (drop (8 * i) ys) (IsBytes-drop (8 * i) ys other) in
    let numbers : nat_cmp (word i xs) (word i ys) ≡ slice_cmp nat_cmp us vs =
    ap (λ (k : ℕ). nat_cmp k (word i ys)) (word_is us us_long)
    ∙ ap (nat_cmp (big_endian 0 us)) (word_is vs vs_long)
    ∙ numbers_cmp 0 us vs (us_long ∙ sym vs_long) us_bytes vs_bytes in
    ap (λ (t : List ℕ). slice_cmp nat_cmp t (drop (8 * i) ys)) (cut xs i)
    ∙ ap (slice_cmp nat_cmp (us ++ drop (8 * (i + 1)) xs)) (cut ys i)
    ∙ append_cmp us vs (drop (8 * (i + 1)) xs) (drop (8 * (i + 1)) ys) (us_long ∙ sym vs_long)
    ∙ ap (λ (r : Ordering). ordering_then r (rest_cmp (i + 1) xs ys)) (sym numbers)

pub same_word : (x y : ℕ) (rest : Ordering) → x ≡ y → ordering_then (nat_cmp x y) rest ≡ rest
same_word x y rest same = ap (λ (r : Ordering). ordering_then r rest) (sym (nat_cmp_is x y Equal same))

pub other_word : (x y : ℕ) (rest : Ordering) → (x ≡ y → ⊥) → ordering_then (nat_cmp x y) rest ≡ nat_cmp x y
other_word x y rest other = by (nat_cmp x y) (ranks x y)
  where
    by : (r : Ordering) → MatchOrdering r (x < y) (x ≡ y) (y < x) → ordering_then r rest ≡ r
    by Less l = refl
    by Equal l = absurd (other l)
    by Greater l = refl

-- ---- zeros behind the bytes

level : (xs : List ℕ) → slice_cmp nat_cmp xs xs ≡ Equal
level [] = refl
level (x ∷ xs) = same_word x x (slice_cmp nat_cmp xs xs) refl ∙ level xs

zeros_low : (zs : List ℕ) → (slice_cmp nat_cmp (replicate (length zs) 0) zs ≡ Less) ⊎ (slice_cmp nat_cmp (replicate (length zs) 0) zs ≡ Equal)
zeros_low [] = inr refl
zeros_low (zero ∷ zs) = zeros_low zs
zeros_low (suc z ∷ zs) = inl (ap (λ (r : Ordering). ordering_then r (slice_cmp nat_cmp (replicate (length zs) 0) zs))
    (sym (nat_cmp_is 0 (suc z) Less (omega arith))))

zeros_high : (zs : List ℕ) → (slice_cmp nat_cmp zs (replicate (length zs) 0) ≡ Greater) ⊎ (slice_cmp nat_cmp zs (replicate (length zs) 0) ≡ Equal)
zeros_high [] = inr refl
zeros_high (zero ∷ zs) = zeros_high zs
zeros_high (suc z ∷ zs) = inl (ap (λ (r : Ordering). ordering_then r (slice_cmp nat_cmp zs (replicate (length zs) 0)))
    (sym (nat_cmp_is (suc z) 0 Greater (omega arith))))

none_first : (n : ℕ) (r : Ordering) → (r ≡ Less) ⊎ (r ≡ Equal) → ordering_then r (nat_cmp 0 (suc n)) ≡ Less
none_first n r low =
    elim low [
      | inl e ↦ ap (λ (k : Ordering). ordering_then k (nat_cmp 0 (suc n))) e
      | inr e ↦ ap (λ (k : Ordering). ordering_then k (nat_cmp 0 (suc n))) e ∙ sym (nat_cmp_is 0 (suc n) Less (omega arith))
    ]

none_last : (n : ℕ) (r : Ordering) → (r ≡ Greater) ⊎ (r ≡ Equal) → ordering_then r (nat_cmp (suc n) 0) ≡ Greater
none_last n r high =
    elim high [
      | inl e ↦ ap (λ (k : Ordering). ordering_then k (nat_cmp (suc n) 0)) e
      | inr e ↦ ap (λ (k : Ordering). ordering_then k (nat_cmp (suc n) 0)) e ∙ sym (nat_cmp_is (suc n) 0 Greater (omega arith))
    ]

shift : (a b : ℕ) → nat_cmp (suc a) (suc b) ≡ nat_cmp a b
shift a b = nat_cmp_is a b (nat_cmp (suc a) (suc b)) (by (nat_cmp (suc a) (suc b)) (ranks (suc a) (suc b)))
  where
    by : (r : Ordering) → MatchOrdering r (suc a < suc b) (suc a ≡ suc b) (suc b < suc a) → MatchOrdering r (a < b) (a ≡ b) (b < a)
    by Less l = let h : suc a < suc b = l in omega (arith, h)
    by Equal l = let h : suc a ≡ suc b = l in omega (arith, h)
    by Greater l = let h : suc b < suc a = l in omega (arith, h)

padded_cmp : (p q : ℕ) (xs ys : List ℕ) → length xs + p ≡ length ys + q
    → ordering_then (slice_cmp nat_cmp (xs ++ replicate p 0) (ys ++ replicate q 0)) (nat_cmp (length xs) (length ys)) ≡ slice_cmp nat_cmp xs ys
padded_cmp p q [] [] same =
    let e : q ≡ p = omega (arith, same) in
    ap (λ (k : ℕ). ordering_then (slice_cmp nat_cmp (replicate p 0) (replicate k 0)) (nat_cmp 0 0)) e
    ∙ ap (λ (r : Ordering). ordering_then r (nat_cmp 0 0)) (level (replicate p 0))
    ∙ sym (nat_cmp_is 0 0 Equal refl)
padded_cmp p q [] (y ∷ ys) same =
    let zs : List ℕ = (y ∷ ys) ++ replicate q 0 in
    let e : p ≡ length zs = omega (arith, same, length-append {A = ℕ} (y ∷ ys) (replicate q 0), length-replicate {A = ℕ} q 0) in
    ap (λ (k : ℕ). ordering_then (slice_cmp nat_cmp (replicate k 0) zs) (nat_cmp 0 (suc (length ys)))) e
    ∙ none_first (length ys) (slice_cmp nat_cmp (replicate (length zs) 0) zs) (zeros_low zs)
padded_cmp p q (x ∷ xs) [] same =
    let zs : List ℕ = (x ∷ xs) ++ replicate p 0 in
    let e : q ≡ length zs = omega (arith, same, length-append {A = ℕ} (x ∷ xs) (replicate p 0), length-replicate {A = ℕ} p 0) in
    ap (λ (k : ℕ). ordering_then (slice_cmp nat_cmp zs (replicate k 0)) (nat_cmp (suc (length xs)) 0)) e
    ∙ none_last (length xs) (slice_cmp nat_cmp zs (replicate (length zs) 0)) (zeros_high zs)
padded_cmp p q (x ∷ xs) (y ∷ ys) same =
    let rest = slice_cmp nat_cmp (xs ++ replicate p 0) (ys ++ replicate q 0) in
    sym (then_assoc (nat_cmp x y) rest (nat_cmp (suc (length xs)) (suc (length ys))))
    ∙ ap (ordering_then (nat_cmp x y)) (ap (ordering_then rest) (shift (length xs) (length ys)) ∙ padded_cmp p q xs ys (omega (arith, same)))

module _ (max n m : ℕ) (bs cs : List ℕ) where
  pub short_cmp : (n ≤ max) × (length bs ≡ max) × (drop n bs ≡ replicate (max - n) 0) → (m ≤ max) × (length cs ≡ max) × (drop m cs ≡ replicate (max - m) 0)
      → ordering_then (slice_cmp nat_cmp bs cs) (nat_cmp n m) ≡ slice_cmp nat_cmp (take n bs) (take m cs)
  short_cmp some other =
      let xs = take n bs in
      let ys = take m cs in
      let xs_long = length_back n max bs some.0 some.1 in
      let ys_long = length_back m max cs other.0 other.1 in
      let zs = xs ++ replicate (max - length xs) 0 in
      let both : slice_cmp nat_cmp bs cs ≡ slice_cmp nat_cmp zs (ys ++ replicate (max - length ys) 0) =
      ap (λ (t : List ℕ). slice_cmp nat_cmp t cs) (sym (bytes_back n max bs some.0 some.1 some.2))
      ∙ ap (slice_cmp nat_cmp zs) (sym (bytes_back m max cs other.0 other.1 other.2)) in
      ap (λ (r : Ordering). ordering_then r (nat_cmp n m)) both
      ∙ ap (λ (k : ℕ). ordering_then (slice_cmp nat_cmp zs (ys ++ replicate (max - length ys) 0)) (nat_cmp k m)) (sym xs_long)
      ∙ ap (λ (k : ℕ). ordering_then (slice_cmp nat_cmp zs (ys ++ replicate (max - length ys) 0)) (nat_cmp (length xs) k)) (sym ys_long)
      ∙ padded_cmp (max - length xs) (max - length ys) xs ys (omega (arith, some.0, other.0, xs_long, ys_long))
