-- Pages that are read one behind another.
use Rattle.std.proofs.Common.{◌≡◌, true, List, [], ◌++◌, take, All, Contains, Option, Some, inl, inr, ap, sym, subst, ◌∙◌}
use Rattle.std.proofs.lemmas.Bool.{cases_Bool, true≢false}
use Rattle.std.proofs.lemmas.List.Elements.{All-head, All-tail, Contains-append_cases, Contains-append_left, Contains-append_right}
use Rattle.record_values.specs.declared.pair.Pair.{Pair}
use Rattle.record_values.specs.Entries.{Index}
use Rattle.record_values.specs.Orders.{is_above}
use Rattle.entry_scan.specs.Readings.{Reading, last, more}
use Rattle.entry_scan.specs.Visible.{left_of, visible}
use Rattle.entry_scan.specs.declared.range.KeyRange.{KeyRange}
use Rattle.entry_scan.proofs.Filtered.{filter_has, has_first, has_later, kept_has, kept_passes, taken_has}
use Rattle.entry_scan.proofs.Paged.{Rising, next_is, page_more, rising_append, rising_left, rising_take}

module _ (range : KeyRange) where
  -- the pairs are in order, is_above the start
  pub reading_rises : (after : Option Pair) (seen : List Index) (pairs : List Pair) → Reading range after seen pairs → Rising after pairs
  reading_rises _ _ _ (last after index) = rising_left index range after
  reading_rises _ _ _ (more after index limit next seen pairs is rest) =
      rising_append after (take limit (left_of index range after)) pairs
      (rising_take after limit (left_of index range after) (rising_left index range after))
      (subst (λ o. Rising o pairs) (sym (next_is after limit (left_of index range after) next is)) (reading_rises (Some next) seen pairs rest))

  left_has : (index : Index) (after : Option Pair) (p : Pair) → Contains (left_of index range after) p → Contains (visible index range) p
  left_has index after p = kept_has (is_above after) (visible index range) p

  -- each was visible at its page
  pub reading_shows : (after : Option Pair) (seen : List Index) (pairs : List Pair) (p : Pair) → Reading range after seen pairs → Contains pairs p
      → (index : Index) × Contains seen index × Contains (visible index range) p
  reading_shows _ _ _ p (last after index) c = (index, has_first index [], left_has index after p c)
  reading_shows _ _ _ p (more after index limit next seen pairs is rest) c =
      elim (Contains-append_cases (take limit (left_of index range after)) pairs p c) [
        | inl here ↦ (index, has_first index seen, left_has index after p (taken_has limit (left_of index range after) p here))
        | inr later ↦ let found = reading_shows (Some next) seen pairs p rest later in (found.0, has_later index seen found.0 found.1, found.2)
      ]

  -- what was visible at every page has come
  pub reading_has : (after : Option Pair) (seen : List Index) (pairs : List Pair) (p : Pair) → Reading range after seen pairs → is_above after p ≡ true
      → ((index : Index) → Contains seen index → Contains (visible index range) p) → Contains pairs p
  reading_has _ _ _ p (last after index) behind each = filter_has (is_above after) (visible index range) p behind (each index (has_first index []))
  reading_has _ _ _ p (more after index limit next seen pairs is rest) behind each =
      elim (cases_Bool (is_above (Some next) p)) [
        | inl later ↦ Contains-append_right (take limit (left_of index range after)) pairs p
            (reading_has (Some next) seen pairs p rest later (λ other c. each other (has_later index seen other c)))
        | inr not_later ↦ elim (Contains-append_cases (take limit (left_of index range after)) (left_of index range (Some next)) p
            (subst (λ (ps : List Pair). Contains ps p) (page_more index range after limit next is)
            (filter_has (is_above after) (visible index range) p behind (each index (has_first index seen))))) [
              | inl here ↦ Contains-append_left (take limit (left_of index range after)) pairs p here
              | inr past ↦ absurd (true≢false (sym (kept_passes (is_above (Some next)) (visible index range) p past) ∙ not_later))
            ]
      ]

  -- and where the index stayed, the pairs are all that was left
  pub reading_whole : (after : Option Pair) (seen : List Index) (pairs : List Pair) (index : Index) → Reading range after seen pairs
      → All (λ other. other ≡ index) seen → pairs ≡ left_of index range after
  reading_whole _ _ _ index (last after other) same = ap (λ (m : Index). left_of m range after) (All-head (λ m. m ≡ index) other [] same)
  reading_whole _ _ _ index (more after other limit next seen pairs is rest) same =
      let one : other ≡ index = All-head (λ m. m ≡ index) other seen same in
      let whole : pairs ≡ left_of index range (Some next) = reading_whole (Some next) seen pairs index rest (All-tail (λ m. m ≡ index) other seen same) in
      ap (λ (ps : List Pair). take limit (left_of other range after) ++ ps) (whole ∙ ap (λ (m : Index). left_of m range (Some next)) (sym one))
      ∙ sym (page_more other range after limit next is)
      ∙ ap (λ (m : Index). left_of m range after) one
