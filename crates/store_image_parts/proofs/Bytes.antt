-- Bytes in front of zeros.
use Rattle.std.proofs.Common.{◌≡◌, ℕ, ◌+◌, ◌-◌, ◌≤◌, List, ◌++◌, length, take, drop, sym, ap, ◌∙◌, arith, take-append-drop, length-take-le, length-append}
use Rattle.std.proofs.Common.{length-drop, append_assoc}
use Rattle.std.proofs.lemmas.List.{drop-replicate, length-replicate, drop_at, drop-drop, take-replicate}
use Rattle.std.proofs.Math.Seq.{take-add}
use borrow.Rule.Slice.PartMut.{put_mid}
use Rattle.store_image_parts.specs.Spelling.{zeros, filled}

pub length-zeros : (n : ℕ) → length (zeros n) ≡ n
unfolding zeros
length-zeros n = length-replicate {A = ℕ} n 0

pub drop-zeros : (k n : ℕ) → drop k (zeros n) ≡ zeros (n - k)
unfolding zeros
drop-zeros k n = drop-replicate k n 0

pub take-zeros : (k n : ℕ) → k ≤ n → take k (zeros n) ≡ zeros k
unfolding zeros
take-zeros k n le = take-replicate k n 0 le

-- the first bytes, of which the others are zero
abbrev pub IsBuffer : ℕ → ℕ → List ℕ → Type 0
IsBuffer size len bytes = (len ≤ size) × (length bytes ≡ size) × (drop len bytes ≡ zeros (size - len))

pub empty : (size : ℕ) (bytes : List ℕ) → bytes ≡ zeros size → IsBuffer size 0 bytes
empty size bytes is = (omega arith, ap length is ∙ length-zeros size, is ∙ ap zeros (let e : size ≡ size - 0 = omega arith in e))

module _ (size len : ℕ) (bytes : List ℕ) (is : IsBuffer size len bytes) where
  pub length_of : length (take len bytes) ≡ len
  length_of = length-take-le len bytes (omega (arith, is.0, is.1))

  pub all_bytes : bytes ≡ filled size (take len bytes)
  all_bytes = sym (take-append-drop len bytes) ∙ ap (λ (t : List ℕ). take len bytes ++ t) (is.2 ∙ ap (λ n. zeros (size - n)) (sym length_of))

  module _ (count : ℕ) (room : len + count ≤ size) where
    pub zeros_more : IsBuffer size (len + count) bytes
    zeros_more = (
      room,
      is.1,
      sym (drop-drop count len bytes) ∙ ap (drop count) is.2 ∙ drop-zeros count (size - len)
          ∙ ap zeros (let e : size - len - count ≡ size - (len + count) = omega arith in e),
    )

    pub zeros_put : take (len + count) bytes ≡ take len bytes ++ zeros count
    zeros_put = take-add len count bytes ∙ ap (λ (t : List ℕ). take len bytes ++ t) (ap (take count) is.2 ∙ take-zeros count (size - len) (omega (arith, room)))

  pub pushed : (more ys : List ℕ) (k : ℕ) → ys ≡ more → k ≡ length more → len + length more ≤ size → IsBuffer size (len + length more) (put_mid len k bytes ys)
  pushed more ys k same count room =
      let front : List ℕ = take len bytes ++ more in
      let rest : List ℕ = drop k (drop len bytes) in
      let parts : put_mid len k bytes ys ≡ front ++ rest = ap (λ (t : List ℕ). take len bytes ++ (t ++ rest)) same
      ∙ sym (append_assoc (take len bytes) more rest) in
      let long : length front ≡ len + length more = omega (arith, length-append {A = ℕ} (take len bytes) more, length_of) in (
        room,
        ap length parts ∙ omega (arith, length-append {A = ℕ} front rest, long, length-drop k (drop len bytes), length-drop len bytes, is.1, count, room),
        ap (drop (len + length more)) parts ∙ drop_at front rest (len + length more) long
            ∙ ap (drop k) is.2 ∙ drop-zeros k (size - len) ∙ ap zeros (let e : size - len - k ≡ size - (len + length more) = omega (arith, count) in e),
      )
