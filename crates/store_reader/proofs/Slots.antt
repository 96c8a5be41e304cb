-- Rows and changes are of slots that a page has: after the records of a log, and with changes taken back.
use Rattle.std.proofs.Common.{get_or, ◌≡◌, ℕ, suc, ◌<◌, Bool, true, false, cond, List, [], ◌∷◌, All, length, slice_index_or, Option, Some, unwrap_or, inl, inr}
use Rattle.std.proofs.Common.{refl, sym, ap, subst, ◌∙◌, arith}
use Rattle.std.proofs.lemmas.Bool.{cases_eq}
use Rattle.std.proofs.lemmas.List.Elements.{All-nil, All-head, All-tail, All-append, All-cons, All-take, All-same}
use Rattle.std.specs.List.{AllByRecursion}
use Rattle.std.specs.Ordering.{eq_by_cmp}
use Rattle.std.specs.FinMap as map
use Rattle.record_values.specs.Values.{Place}
use Rattle.records.specs.ChangeValue.{ChangeValue}
use Rattle.records.specs.RecordValue.{RecordValue}
use Rattle.record_values.specs.declared.version.Version.{Version}
use Rattle.records.proofs.Wide.{wide}
use Rattle.records.specs.Spelling.{old_row, new_row, Fits, FitsIn, ActionFits, TxnActionFits}
use Rattle.record_values.specs.Orders.{rid_cmp}
use Rattle.record_values.specs.Maps.{set_at, rid_exact, key_is, get-set_at}
use Rattle.record_values.specs.declared.rid.TheConstants.{SLOTS_PER_PAGE}
use Rattle.record_values.specs.declared.row.Row.{Row}
use Rattle.records.specs.declared.record.Part.TheVariants.{Slot, OldEntry, NewEntry}
use Rattle.records.specs.declared.record.TxnAction.{TxnAction}
use Rattle.records.specs.declared.record.TxnAction.TheVariants.{Forward, Undo, Commit, End}
use Rattle.records.specs.declared.record.Action.{Action}
use Rattle.records.specs.declared.record.Action.TheVariants.{OfTxn, OfIndex}
use Rattle.model.specs.Table.{Table}
use Rattle.model.specs.Cells.{Cells, Pending, list_of, with_list, list_by, taken_off, rows_by_txn, reverted, set_by, cells_after}
use Rattle.model.specs.Recovery.{all_reverted, recovered_rows}
use Rattle.model.proofs.CellsLaws.{list_of-with_list, list_of_other}
use Rattle.model.proofs.RecoveryLaws.{each_named}
use Rattle.gate_log.specs.Area.{records_of}

abbrev pub Slotted : ChangeValue → Type 0
Slotted c = c.rid.slot < SLOTS_PER_PAGE

abbrev pub AreRowsSlotted : Table → Type 0
AreRowsSlotted rows = (q : Place) (r : Row) → map.get rows q ≡ Some r → q.slot < SLOTS_PER_PAGE

abbrev pub AreListsSlotted : Pending → Type 0
AreListsSlotted pending = (txn : ℕ) → All Slotted (list_of pending txn)

abbrev pub AreSlotted : Cells → Type 0
AreSlotted cells = AreRowsSlotted cells.rows × AreListsSlotted cells.pending

set_slotted : (rows : Table) (k : Place) (v : Option Row) → k.slot < SLOTS_PER_PAGE → AreRowsSlotted rows → AreRowsSlotted (set_at rows k v)
set_slotted rows k v slotted is q row found = by_key (eq_by_cmp rid_cmp q k) refl
  where
    by_key : (b : Bool) → eq_by_cmp rid_cmp q k ≡ b → q.slot < SLOTS_PER_PAGE
    by_key true same = subst (λ (p : Place). p.slot < SLOTS_PER_PAGE) (sym (key_is rid_exact q k same)) slotted
    by_key false other = is q row (sym (get-set_at rid_exact rows k v q ∙ ap (λ b. cond b v (map.get rows q)) other) ∙ found)

-- ---- a record

rows_slotted : (rows : Table) (action : TxnAction) → TxnActionFits action → AreRowsSlotted rows → AreRowsSlotted (rows_by_txn rows action)
rows_slotted rows (Forward Slot c) fits is = set_slotted rows c.rid (new_row c.rows) fits.rid.slot is
rows_slotted rows (Forward OldEntry c) fits is = is
rows_slotted rows (Forward NewEntry c) fits is = is
rows_slotted rows (Undo Slot c last) fits is = set_slotted rows c.rid (old_row c.rows) fits.rid.slot is
rows_slotted rows (Undo OldEntry c last) fits is = is
rows_slotted rows (Undo NewEntry c last) fits is = is
rows_slotted rows Commit fits is = is
rows_slotted rows End fits is = is

taken_slotted : (changes : List ChangeValue) (last : Bool) → All Slotted changes → All Slotted (taken_off changes last)
taken_slotted changes true slotted = All-take Slotted _ changes slotted
taken_slotted changes false slotted = slotted

list_slotted : (action : TxnAction) (changes : List ChangeValue) → TxnActionFits action → All Slotted changes
    → All Slotted (unwrap_or (list_by changes action) [])
list_slotted (Forward part c) changes fits slotted =
    All-append Slotted _ _ (All-take Slotted c.position changes slotted) (All-cons Slotted c [] fits.rid.slot (All-nil Slotted))
list_slotted (Undo part c last) changes fits slotted = taken_slotted changes last slotted
list_slotted Commit changes fits slotted = All-nil Slotted
list_slotted End changes fits slotted = All-nil Slotted

with_list_slotted : (pending : Pending) (txn : ℕ) (list : Option (List ChangeValue)) → All Slotted (unwrap_or list []) → AreListsSlotted pending
    → AreListsSlotted (with_list pending txn list)
with_list_slotted pending txn list new slotted other =
    elim (cases_eq other txn) [
      | inl is ↦ subst (λ n. All Slotted (list_of (with_list pending txn list) n)) (sym is) (All-same Slotted _ _ (list_of-with_list pending txn list) new)
      | inr not ↦ All-same Slotted _ _ (list_of_other pending txn other list not) (slotted other)
    ]

step_slotted : (cells : Cells) (action : Action) → ActionFits action → AreSlotted cells → AreSlotted (set_by cells action)
step_slotted cells (OfTxn txn action) fits is = (
  rows_slotted cells.rows action fits.1 is.0,
  with_list_slotted cells.pending txn (list_by (list_of cells.pending txn) action) (list_slotted action (list_of cells.pending txn) fits.1 (is.1 txn)) is.1,
)
step_slotted cells (OfIndex action) fits is = is

pub after_slotted : (cells : Cells) (records : List RecordValue) → All Fits records → AreSlotted cells → AreSlotted (cells_after cells records)
after_slotted cells [] fits is = is
after_slotted cells (r ∷ records) fits is = after_slotted (set_by cells r.action) records (All-tail Fits r records fits)
    (step_slotted cells r.action (All-head Fits r records fits).action is)

-- the records of groups, where those of each group fit
pub groups_fit : (v : Version) (groups : List (List RecordValue)) → ((slot : ℕ) → slot < length groups → All (FitsIn v) (slice_index_or groups slot []))
    → All Fits (records_of groups)
groups_fit v [] each = All-nil Fits
groups_fit v (group ∷ groups) each = All-append Fits group (records_of groups) (λ k d below. wide v (get_or group k d) (each 0 (omega arith) k d below))
    (groups_fit v groups (λ slot below. each (suc slot) (omega (arith, below))))

-- ---- changes taken back

reverted_slotted : (rows : Table) (changes : List ChangeValue) → All Slotted changes → AreRowsSlotted rows → AreRowsSlotted (reverted rows changes)
reverted_slotted rows [] slotted is = is
reverted_slotted rows (c ∷ changes) slotted is =
    set_slotted (reverted rows changes) c.rid (old_row c.rows) (All-head Slotted c changes slotted)
    (reverted_slotted rows changes (All-tail Slotted c changes slotted) is)

all_reverted_slotted : (pending : Pending) (part : List (ℕ × List ChangeValue)) (rows : Table) → AreListsSlotted pending
    → AllByRecursion (λ e. list_of pending e.0 ≡ e.1) part → AreRowsSlotted rows → AreRowsSlotted (all_reverted rows part)
all_reverted_slotted pending [] rows slotted names is = is
all_reverted_slotted pending (e ∷ part) rows slotted names is =
    all_reverted_slotted pending part (reverted rows e.1) slotted names.1 (reverted_slotted rows e.1 (All-same Slotted _ _ (sym names.0) (slotted e.0)) is)

pub recovered_slotted : (cells : Cells) → AreSlotted cells → AreRowsSlotted (recovered_rows cells)
recovered_slotted cells is = all_reverted_slotted cells.pending (map.entries cells.pending) cells.rows is.1 (each_named cells.pending) is.0
