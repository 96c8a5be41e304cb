-- A past that is kept as a list of what was.
use Rattle.std.proofs.Common.{◌≡◌, inl, inr, ⊎_elim, ℕ, ◌+◌, ◌<◌, ◌≤◌, List, [], ◌∷◌, ◌++◌, length, slice_index_or, sym, ◌∙◌, ap, arith}
use Rattle.std.proofs.lemmas.Bool.{cases_eq}
use Rattle.std.proofs.lemmas.List.{get_or_past, get_or_push, get_or_append_left, get_or_default, length_push}
use Rattle.block_device.specs.Blocks.{IsWhole, BlockFile}
use Rattle.block_device.specs.BlocksPast.{Elapses, past_with}

-- what was is noted, and then it changed
module _ {H : Type 0} (file_of : H → BlockFile) (before after : List H) (was now : H) (is : after ≡ before ++ was ∷ [])
    (whole_was : IsWhole (file_of was).content) (whole_now : IsWhole (file_of now).content) where
  longer : length after ≡ length before + 1
  longer = ap length is ∙ length_push before was

  earlier : (t : ℕ) → t ≤ length before → slice_index_or after t now ≡ slice_index_or before t was
  earlier t le = ap (λ (l : List H). slice_index_or l t now) is ∙ elim (cases_eq t (length before)) [
    | inl same ↦ get_or_push before was now t (sym same) ∙ sym (get_or_past before t was (omega (arith, same)))
    | inr other ↦
        let below : t < length before = omega (arith, le, other) in
        get_or_append_left before (was ∷ []) now t below ∙ get_or_default before t now was below
  ]

  pub elapses_pushed : Elapses (past_with file_of before was whole_was) (past_with file_of after now whole_now)
  elapses_pushed = record {
    later = omega (arith, longer);
    kept = λ t le. ap file_of (earlier t le);
    during = λ t from to. ⊎_elim
        (λ first. inl (ap file_of (earlier t (omega (arith, first)) ∙ get_or_past before t was from)))
        (λ last. inr (ap file_of (get_or_past after t now (omega (arith, longer, from, last)))))
        (cases_eq t (length before));
  }

-- nothing changed
module _ {H : Type 0} (file_of : H → BlockFile) (before after : List H) (was now : H) (same : after ≡ before) (is : now ≡ was)
    (whole_was : IsWhole (file_of was).content) (whole_now : IsWhole (file_of now).content) where
  as_before : (t : ℕ) → file_of (slice_index_or after t now) ≡ file_of (slice_index_or before t was)
  as_before t = λ i. file_of (slice_index_or (same i) t (is i))

  pub elapses_same : Elapses (past_with file_of before was whole_was) (past_with file_of after now whole_now)
  elapses_same = record {
    later = omega (arith, ap length same);
    kept = λ t le. as_before t;
    during = λ t from to. inl (as_before t ∙ ap file_of (get_or_past before t was from));
  }
