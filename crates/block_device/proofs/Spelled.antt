-- Numbers that are spelled one behind the other.
use Rattle.std.proofs.Common.{◌≡◌, ℕ, zero, suc, ◌+◌, ◌*◌, ◌^◌, ◌<◌, List, [], ◌∷◌, ◌++◌, length, take, drop, slice_index, refl, ◌∙◌, ap, arith}
use Rattle.std.proofs.lemmas.List.{drop_all, take_all, drop_more}
use Rattle.std.specs.List.{flat_map}
use Rattle.byteorder.specs.Endian.{big_bytes, big_number}
use Rattle.byteorder.specs.Numbers.{big_number-reads_back}
use Rattle.block_device.specs.Words.{word}

eight : (i : ℕ) → 8 * suc i ≡ suc (suc (suc (suc (suc (suc (suc (suc (8 * i))))))))
eight i = omega arith

-- what is behind the first i, and they themselves
drop_spelled : (words : List ℕ) (i : ℕ) → drop (8 * i) (flat_map (big_bytes 8) words) ≡ flat_map (big_bytes 8) (drop i words)
drop_spelled words zero = refl
drop_spelled [] (suc i) = drop_all (8 * suc i) [] (omega arith)
drop_spelled (w ∷ words) (suc i) = ap (λ n. drop n (flat_map (big_bytes 8) (w ∷ words))) (eight i) ∙ drop_spelled words i

pub take_spelled : (words : List ℕ) (i : ℕ) → take (8 * i) (flat_map (big_bytes 8) words) ≡ flat_map (big_bytes 8) (take i words)
take_spelled words zero = refl
take_spelled [] (suc i) = take_all (8 * suc i) [] (omega arith)
take_spelled (w ∷ words) (suc i) =
    ap (λ n. take n (flat_map (big_bytes 8) (w ∷ words))) (eight i)
    ∙ ap (λ (l : List ℕ). big_bytes 8 w ++ l) (take_spelled words i)

-- each is read as it was
pub word_spelled : (words : List ℕ) (i : ℕ) → i < length words → slice_index words i < 256 ^ 8
    → word (flat_map (big_bytes 8) words) i ≡ slice_index words i
unfolding word
word_spelled words i below fits =
    ap (big_number 8) (drop_spelled words i ∙ ap (flat_map (big_bytes 8)) (drop_more words i 0 below))
    ∙ big_number-reads_back 8 (slice_index words i) (flat_map (big_bytes 8) (drop (i + 1) words)) fits
