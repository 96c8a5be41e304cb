-- The records of pairs, and of what is left behind a page of them.
use Rattle.std.proofs.Common.{◌≡◌, ◌∙◌, ◌++◌, ◌+◌, ◌<◌, ◌∷◌, ℕ, suc, zero, List, None, Option}
use Rattle.std.proofs.Common.{Some, [], ap, append-nil, append_assoc, arith, get_or, if◌then◌else◌, length, length-append, refl, sym, take}
use Rattle.std.proofs.lemmas.Bool.{le-ltb}
use Rattle.std.proofs.lemmas.List.{take_more}
use Rattle.std.proofs.lemmas.List.Concat.{flat_map-append}
use Rattle.std.specs.Prelude.{filter}
use Rattle.record_values.specs.Orders.{is_above}
use Rattle.record_values.specs.declared.pair.Pair.{Pair}
use Rattle.model.specs.Table.{Table}
use Rattle.record_values.specs.Entries.{Index}
use Rattle.core_scan.specs.Visible.{last_or, left_of, next_after, visible}
use Rattle.core_scan.specs.declared.range.KeyRange.{KeyRange}
use Rattle.core_scan.proofs.Paged.{page_last, page_more}
use Rattle.program_rows.specs.Exported.{pair_records, row_record}
use Rattle.program_rows.specs.declared.exporting.Format.{Format}

module _ (format : Format) (rows : Table) where
  -- one pair more
  pub records_more : (pairs : List Pair) (i : ℕ) (pair : Pair) → i < length pairs → pair ≡ get_or pairs i pair
      → pair_records format rows (take (i + 1) pairs) ≡ pair_records format rows (take i pairs) ++ row_record format rows pair.rid
  records_more pairs i pair there is =
      let line = λ (p : Pair). row_record format rows p.rid in
      ap (pair_records format rows) (take_more pairs i pair there)
      ∙ flat_map-append line (take i pairs) (get_or pairs i pair ∷ [])
      ∙ ap (λ (p : Pair). pair_records format rows (take i pairs) ++ (line p ++ [])) (sym is)
      ∙ ap (λ (l : List ℕ). pair_records format rows (take i pairs) ++ l) (append-nil (line pair))

-- before all pairs nothing is passed over
every_pair : (ps : List Pair) → filter (is_above None) ps ≡ ps
every_pair [] = refl
every_pair (p ∷ ps) = ap (λ (qs : List Pair). p ∷ qs) (every_pair ps)

no_pair : (next : Pair) → (◌≡◌ {A = Option Pair} None (Some next)) → ⊥
no_pair next is = absurd cc

module _ (format : Format) (rows : Table) (index : Index) (range : KeyRange) where
  pub all_left : pair_records format rows (left_of index range None) ≡ pair_records format rows (visible index range)
  all_left = ap (pair_records format rows) (every_pair (visible index range))

  module _ (after : Option Pair) (limit : ℕ) where
    -- a page, and what is left behind it
    pub records_left : (next : Pair) → next_after after limit (left_of index range after) ≡ Some next
        → pair_records format rows (left_of index range after)
        ≡ pair_records format rows (take limit (left_of index range after)) ++ pair_records format rows (left_of index range (Some next))
    records_left next is =
        ap (pair_records format rows) (page_more index range after limit next is)
        ∙ flat_map-append (λ (p : Pair). row_record format rows p.rid) (take limit (left_of index range after)) (left_of index range (Some next))

    -- the last page
    pub records_last : 0 < limit → next_after after limit (left_of index range after) ≡ None
        → pair_records format rows (left_of index range after) ≡ pair_records format rows (take limit (left_of index range after))
    records_last some none = ap (pair_records format rows) (page_last after limit (left_of index range after) some none)

-- a page has a pair, where more are left
page_has : (after : Option Pair) (limit : ℕ) (left : List Pair) (next : Pair) → 0 < limit → next_after after limit left ≡ Some next
    → 0 < length (take limit left)
page_has after zero left next some is = absurd (omega (arith, some))
page_has after (suc n) [] next some is =
    absurd (no_pair next (sym (ap (λ b. if b then last_or after (take (suc n) []) else None) (le-ltb (suc n) 0 (omega arith))) ∙ is))
page_has after (suc n) (p ∷ ps) next some is = omega arith

module _ (index : Index) (range : KeyRange) where
  -- what a page leaves, as it is told: the records of it, and a count
  abbrev pub rest_records : Format → Table → Option Pair → List ℕ
  rest_records format rows None = []
  rest_records format rows (Some p) = pair_records format rows (left_of index range (Some p))

  abbrev pub rest_count : Option Pair → ℕ
  rest_count None = 0
  rest_count (Some p) = length (left_of index range (Some p)) + 1

  module _ (after : Option Pair) (limit : ℕ) (some : 0 < limit) where
    pub page_rest : (format : Format) (rows : Table) (next : Option Pair) → next ≡ next_after after limit (left_of index range after)
        → pair_records format rows (left_of index range after)
        ≡ pair_records format rows (take limit (left_of index range after)) ++ rest_records format rows next
    page_rest format rows None is =
        records_last format rows index range after limit some (sym is)
        ∙ sym (append-nil (pair_records format rows (take limit (left_of index range after))))
    page_rest format rows (Some next) is = records_left format rows index range after limit next (sym is)

  pub fewer_left : (pair : Pair) (limit : ℕ) (next : Option Pair) → 0 < limit
      → next ≡ next_after (Some pair) limit (left_of index range (Some pair)) → rest_count next < rest_count (Some pair)
  fewer_left pair limit None some is = omega arith
  fewer_left pair limit (Some next) some is =
      let left = left_of index range (Some pair) in
      let split = ap length (page_more index range (Some pair) limit next (sym is)) in
      let sum = length-append (take limit left) (left_of index range (Some next)) in
      let has = page_has (Some pair) limit left next some (sym is) in
      omega (arith, split, sum, has)
