-- The pieces that bytes are cut into.
use Rattle.std.proofs.Common.{◌≡◌, ℕ, zero, suc, ◌+◌, ◌*◌, ◌-◌, ◌<◌, List, take, drop, get_or, slice_range, ap, ◌∙◌, arith}
use Rattle.std.specs.Simd.{first_chunks}
use Rattle.std.proofs.Common.{◌≤◌, length, sym}
use Rattle.std.proofs.Math.Nat.{mul-le-mul_left}
use Rattle.std.proofs.lemmas.List.{drop-drop, take_all}
use Rattle.std.proofs.lemmas.Slice.{between-put_mid, between_is, take-put_mid_below, drop-put_mid}
use borrow.Rule.Slice.PartMut.{put_mid}

step : (n j : ℕ) → n + n * j ≡ n * suc j
step n j = grind arith

pub nth_chunk : (n k j : ℕ) (xs d : List ℕ) → j < k → get_or (first_chunks n k xs) j d ≡ take n (drop (n * j) xs)
nth_chunk n zero j xs d below = absurd (omega (arith, below))
nth_chunk n (suc k) zero xs d below = ap (λ m. take n (drop m xs)) (let z : 0 ≡ n * 0 = grind arith in z)
nth_chunk n (suc k) (suc j) xs d below =
    nth_chunk n k j (drop n xs) d (omega (arith, below))
    ∙ ap (take n) (drop-drop (n * j) n xs)
    ∙ ap (λ m. take n (drop m xs)) (step n j)

pub cut_is : (n at : ℕ) (xs : List ℕ) → take n (drop at xs) ≡ slice_range xs at (at + n)
cut_is n at xs = ap (λ m. take m (drop at xs)) (let e : n ≡ at + n - at = omega arith in e)

-- ---- a piece that is put in its place

module _ (n j len : ℕ) (xs ys bytes : List ℕ) (same : ys ≡ bytes) (size : length bytes ≡ n) (is_len : len ≡ n) (room : n * j + n ≤ length xs) where
  pub put_there : slice_range (put_mid (n * j) len xs ys) (n * j) (n * j + n) ≡ bytes
  put_there = between-put_mid (n * j) len xs ys (n * j + n) (omega (arith, room))
      (let e : length ys ≡ n * j + n - n * j = omega (arith, ap length same, size) in e) ∙ same

  pub put_before : (k : ℕ) → k < j → slice_range (put_mid (n * j) len xs ys) (n * k) (n * k + n) ≡ slice_range xs (n * k) (n * k + n)
  put_before k less =
      let next : k + 1 ≤ j = omega (arith, less) in
      let low : n * k + n ≤ n * j = omega (arith, mul-le-mul_left n next) in
      between_is (put_mid (n * j) len xs ys) (n * k) (n * k + n)
      ∙ ap (drop (n * k)) (take-put_mid_below (n * j) len xs ys (n * k + n) low (omega (arith, room)))
      ∙ sym (between_is xs (n * k) (n * k + n))

-- ---- bytes beside those that are overwritten

module _ (a len : ℕ) (xs ys : List ℕ) (inside : a ≤ length xs) where
  pub part_before : (low high : ℕ) → high ≤ a → slice_range (put_mid a len xs ys) low high ≡ slice_range xs low high
  part_before low high before =
      between_is (put_mid a len xs ys) low high
      ∙ ap (drop low) (take-put_mid_below a len xs ys high before inside)
      ∙ sym (between_is xs low high)

  pub front_before : (n : ℕ) → n ≤ a → take n (put_mid a len xs ys) ≡ take n xs
  front_before n before = take-put_mid_below a len xs ys n before inside

  pub rest_behind : (n : ℕ) → a + len ≤ n → length ys ≡ len → drop n (put_mid a len xs ys) ≡ drop n xs
  rest_behind n behind size = drop-put_mid a len xs ys n behind inside size

-- a piece that is the whole of some bytes
pub cut_whole : (bytes : List ℕ) (size j : ℕ) → length bytes ≡ size → j ≡ 0 → slice_range bytes (size * j) (size * j + size) ≡ bytes
cut_whole bytes size j long none =
    let front : size * j ≡ 0 = ap (λ n. size * n) none ∙ (let z : size * 0 ≡ 0 = grind arith in z) in
    ap (λ n. slice_range bytes n (n + size)) front ∙ take_all (0 + size - 0) bytes (omega (arith, long))
