-- Laws of what records set, and of what is taken back.
use Rattle.std.proofs.Common.{Option, ◌≡◌, ◌≢◌, ℕ, ◌-◌, List, [], ◌∷◌, ◌++◌, length, take, unwrap_or, true, refl, sym, ap, ◌∙◌, arith, length-append}
use Rattle.std.proofs.Math.Seq.{take-append_seam, take-length}
use Rattle.std.specs.FinMap as map
use Rattle.records.specs.ChangeValue.{ChangeValue}
use Rattle.records.specs.RecordValue.{RecordValue}
use Rattle.records.specs.Spelling.{old_row, new_row}
use Rattle.record_values.specs.Maps.{set_at, rid_exact, nat_exact, get-set_at_same, get-set_at_other, set_at-again, set_at-get}
use Rattle.model.specs.Table.{Table}
use Rattle.model.specs.Cells.{Cells, cells_after, rows_after, set_by, Pending, list_of, with_list, reverted, noted, taken_off}

-- ---- records

pub cells_after-append : (cells : Cells) (records later : List RecordValue)
    → cells_after cells (records ++ later) ≡ cells_after (cells_after cells records) later
cells_after-append cells [] later = refl
cells_after-append cells (r ∷ records) later = cells_after-append (set_by cells r.action) records later

pub cells_after_one_more : (cells : Cells) (records : List RecordValue) (r : RecordValue)
    → cells_after cells (records ++ r ∷ []) ≡ set_by (cells_after cells records) r.action
cells_after_one_more cells records r = cells_after-append cells records (r ∷ [])

-- the rows of the cells are those that the records set, whatever the other cells are
pub rows-cells_after : (cells : Cells) (records : List RecordValue) → (cells_after cells records).rows ≡ rows_after cells.rows records
rows-cells_after cells [] = refl
rows-cells_after cells (r ∷ records) = rows-cells_after (set_by cells r.action) records

-- ---- lists of changes

pub list_of-with_list : (pending : Pending) (txn : ℕ) (list : Option (List ChangeValue)) → list_of (with_list pending txn list) txn ≡ unwrap_or list []
list_of-with_list pending txn list = ap (λ o. unwrap_or o []) (get-set_at_same nat_exact pending txn list)

pub list_of_other : (pending : Pending) (txn other : ℕ) (list : Option (List ChangeValue)) → other ≢ txn
    → list_of (with_list pending txn list) other ≡ list_of pending other
list_of_other pending txn other list apart = ap (λ o. unwrap_or o []) (get-set_at_other nat_exact pending txn list other apart)

-- ---- changes taken back

pub reverted_one_more : (rows : Table) (changes : List ChangeValue) (c : ChangeValue)
    → reverted rows (changes ++ c ∷ []) ≡ reverted (set_at rows c.rid (old_row c.rows)) changes
reverted_one_more rows [] c = refl
reverted_one_more rows (d ∷ changes) c = ap (λ (t : Table). set_at t d.rid (old_row d.rows)) (reverted_one_more rows changes c)

pub made_and_taken : (rows : Table) (c : ChangeValue) → map.get rows c.rid ≡ old_row c.rows
    → set_at (set_at rows c.rid (new_row c.rows)) c.rid (old_row c.rows) ≡ rows
made_and_taken rows c was =
    set_at-again rid_exact rows c.rid (new_row c.rows) (old_row c.rows) ∙ ap (set_at rows c.rid) (sym was) ∙ set_at-get rid_exact rows c.rid

pub reverted_made : (rows : Table) (changes : List ChangeValue) (c : ChangeValue) → map.get rows c.rid ≡ old_row c.rows
    → reverted (set_at rows c.rid (new_row c.rows)) (changes ++ c ∷ []) ≡ reverted rows changes
reverted_made rows changes c was =
    reverted_one_more (set_at rows c.rid (new_row c.rows)) changes c ∙ ap (λ (t : Table). reverted t changes) (made_and_taken rows c was)

pub ruleset taking_back = (reverted_one_more, reverted_made)

-- ---- a transaction's list

at_end : (n : ℕ) (xs ys : List ChangeValue) → n ≡ length xs → take n (xs ++ ys) ≡ xs
at_end n xs ys is = ap (λ k. take k (xs ++ ys)) is ∙ take-append_seam xs ys

pub noted_first : (changes : List ChangeValue) (c : ChangeValue) → c.position ≡ length changes → noted changes c ≡ changes ++ c ∷ []
noted_first changes c is = ap (λ xs. xs ++ c ∷ []) (ap (λ k. take k changes) is ∙ take-length changes)

pub noted_again : (changes : List ChangeValue) (c : ChangeValue) → c.position ≡ length changes → noted (changes ++ c ∷ []) c ≡ changes ++ c ∷ []
noted_again changes c is = ap (λ xs. xs ++ c ∷ []) (at_end c.position changes (c ∷ []) is)

pub taken_off_last : (changes : List ChangeValue) (c : ChangeValue) → taken_off (changes ++ c ∷ []) true ≡ changes
taken_off_last changes c = at_end (length (changes ++ c ∷ []) - 1) changes (c ∷ []) (omega (arith, length-append changes (c ∷ [])))
