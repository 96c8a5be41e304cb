-- Pages that are read backward, one before another.
use Rattle.std.proofs.Common.{◌≡◌, true, List, [], ◌++◌, take, All, Contains, Option, Some, inl, inr, ap, sym, subst, ◌∙◌}
use Rattle.std.specs.Prelude.{filter}
use Rattle.std.proofs.lemmas.Bool.{cases_Bool, true≢false}
use Rattle.std.proofs.lemmas.List.Elements.{All-head, All-tail, Contains-append_cases, Contains-append_left, Contains-append_right}
use Rattle.record_values.specs.declared.pair.Pair.{Pair}
use Rattle.record_values.specs.Entries.{Index}
use Rattle.entry_scan.specs.Backward.{ReadingBack, is_before, last, left_before, more}
use Rattle.entry_scan.specs.Visible.{visible}
use Rattle.entry_scan.specs.declared.range.KeyRange.{KeyRange}
use Rattle.entry_scan.proofs.Filtered.{filter_has, has_first, has_later, kept_has, kept_passes, taken_has}
use Rattle.entry_scan.proofs.Paged.{next_is}
use Rattle.entry_scan.proofs.Reversed.{has_reversed, reverse_has}
use Rattle.entry_scan.proofs.PagedBack.{Falling, falling_append, falling_left, falling_take, page_back_more}

module _ (range : KeyRange) where
  -- the pairs are in order from the end, before the start
  pub reading_falls : (before : Option Pair) (seen : List Index) (pairs : List Pair) → ReadingBack range before seen pairs → Falling before pairs
  reading_falls _ _ _ (last before index) = falling_left index range before
  reading_falls _ _ _ (more before index limit next seen pairs is rest) =
      falling_append before (take limit (left_before index range before)) pairs
      (falling_take before limit (left_before index range before) (falling_left index range before))
      (subst (λ o. Falling o pairs) (sym (next_is before limit (left_before index range before) next is)) (reading_falls (Some next) seen pairs rest))

  left_has : (index : Index) (before : Option Pair) (p : Pair) → Contains (left_before index range before) p → Contains (visible index range) p
  left_has index before p c = kept_has (is_before before) (visible index range) p (has_reversed (filter (is_before before) (visible index range)) p c)

  has_left : (index : Index) (before : Option Pair) (p : Pair) → is_before before p ≡ true → Contains (visible index range) p
      → Contains (left_before index range before) p
  has_left index before p passes c =
      reverse_has (filter (is_before before) (visible index range)) p (filter_has (is_before before) (visible index range) p passes c)

  -- each was visible at its page
  pub reading_shows : (before : Option Pair) (seen : List Index) (pairs : List Pair) (p : Pair) → ReadingBack range before seen pairs → Contains pairs p
      → (index : Index) × Contains seen index × Contains (visible index range) p
  reading_shows _ _ _ p (last before index) c = (index, has_first index [], left_has index before p c)
  reading_shows _ _ _ p (more before index limit next seen pairs is rest) c =
      elim (Contains-append_cases (take limit (left_before index range before)) pairs p c) [
        | inl here ↦ (index, has_first index seen, left_has index before p (taken_has limit (left_before index range before) p here))
        | inr later ↦ let found = reading_shows (Some next) seen pairs p rest later in (found.0, has_later index seen found.0 found.1, found.2)
      ]

  -- what was visible at every page has come
  pub reading_has : (before : Option Pair) (seen : List Index) (pairs : List Pair) (p : Pair) → ReadingBack range before seen pairs → is_before before p ≡ true
      → ((index : Index) → Contains seen index → Contains (visible index range) p) → Contains pairs p
  reading_has _ _ _ p (last before index) ahead each = has_left index before p ahead (each index (has_first index []))
  reading_has _ _ _ p (more before index limit next seen pairs is rest) ahead each =
      elim (cases_Bool (is_before (Some next) p)) [
        | inl later ↦ Contains-append_right (take limit (left_before index range before)) pairs p
            (reading_has (Some next) seen pairs p rest later (λ other c. each other (has_later index seen other c)))
        | inr not_later ↦ elim (Contains-append_cases (take limit (left_before index range before)) (left_before index range (Some next)) p
            (subst (λ (ps : List Pair). Contains ps p) (page_back_more index range before limit next is)
            (has_left index before p ahead (each index (has_first index seen))))) [
              | inl here ↦ Contains-append_left (take limit (left_before index range before)) pairs p here
              | inr past ↦ absurd (true≢false (sym (kept_passes (is_before (Some next)) (visible index range) p
                  (has_reversed (filter (is_before (Some next)) (visible index range)) p past)) ∙ not_later))
            ]
      ]

  -- and where the index stayed, the pairs are all that was left
  pub reading_whole : (before : Option Pair) (seen : List Index) (pairs : List Pair) (index : Index) → ReadingBack range before seen pairs
      → All (λ other. other ≡ index) seen → pairs ≡ left_before index range before
  reading_whole _ _ _ index (last before other) same = ap (λ (m : Index). left_before m range before) (All-head (λ m. m ≡ index) other [] same)
  reading_whole _ _ _ index (more before other limit next seen pairs is rest) same =
      let one : other ≡ index = All-head (λ m. m ≡ index) other seen same in
      let whole : pairs ≡ left_before index range (Some next) = reading_whole (Some next) seen pairs index rest (All-tail (λ m. m ≡ index) other seen same) in
      ap (λ (ps : List Pair). take limit (left_before other range before) ++ ps) (whole ∙ ap (λ (m : Index). left_before m range (Some next)) (sym one))
      ∙ sym (page_back_more other range before limit next is)
      ∙ ap (λ (m : Index). left_before m range before) one
