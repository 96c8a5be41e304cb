-- Rows that following records leave are in the store's pages, and so are those that a restart makes of them.
use Rattle.std.proofs.Common.{◌≡◌, ℕ, ◌<◌, Bool, true, false, cond, List, [], ◌∷◌, All, Option, unwrap_or, inl, inr, refl, sym, ap, subst, ◌∙◌}
use Rattle.std.proofs.lemmas.Bool.{cases_eq}
use Rattle.std.proofs.lemmas.List.Elements.{All-nil, All-head, All-tail, All-append, All-cons, All-take, All-same}
use Rattle.std.specs.List.{AllByRecursion}
use Rattle.std.specs.Ordering.{eq_by_cmp}
use Rattle.std.specs.FinMap as map
use Rattle.record_values.specs.Values.{Place}
use Rattle.records.specs.ChangeValue.{ChangeValue}
use Rattle.records.specs.Spelling.{old_row, new_row}
use Rattle.record_values.specs.Orders.{rid_cmp}
use Rattle.record_values.specs.Maps.{set_at, rid_exact, key_is, get-set_at}
use Rattle.record_values.specs.declared.row.Row.{Row}
use Rattle.records.specs.declared.record.Part.TheVariants.{Slot, OldEntry, NewEntry}
use Rattle.records.specs.declared.record.TxnAction.{TxnAction}
use Rattle.records.specs.declared.record.TxnAction.TheVariants.{Forward, Undo, Commit, End}
use Rattle.records.specs.declared.record.Action.{Action}
use Rattle.records.specs.declared.record.Action.TheVariants.{OfTxn, OfIndex}
use Rattle.model.specs.Table.{Table}
use Rattle.model.specs.Cells.{Cells, Pending, list_of, with_list, list_by, taken_off, rows_by_txn, reverted, set_by}
use Rattle.model.specs.Recovery.{all_reverted, recovered_rows}
use Rattle.model.specs.Following.{CanFollowTxn, CanFollowBy, IsWithin}
use Rattle.model.proofs.CellsLaws.{list_of-with_list, list_of_other}
use Rattle.model.proofs.RecoveryLaws.{each_named}

module _ (pages : ℕ) where
  abbrev Here : ChangeValue → Type 0
  Here c = c.rid.page < pages

  -- each change that may be taken back is of a place in the pages
  abbrev AreHere : Pending → Type 0
  AreHere pending = (txn : ℕ) → All Here (list_of pending txn)

  pub set_within : (rows : Table) (k : Place) (v : Option Row) → k.page < pages → IsWithin pages rows → IsWithin pages (set_at rows k v)
  set_within rows k v inside is q row found = by_key (eq_by_cmp rid_cmp q k) refl
    where
      by_key : (b : Bool) → eq_by_cmp rid_cmp q k ≡ b → q.page < pages
      by_key true same = subst (λ (p : Place). p.page < pages) (sym (key_is rid_exact q k same)) inside
      by_key false other = is q row (sym (get-set_at rid_exact rows k v q ∙ ap (λ b. cond b v (map.get rows q)) other) ∙ found)

  reverted_within : (rows : Table) (changes : List ChangeValue) → All Here changes → IsWithin pages rows → IsWithin pages (reverted rows changes)
  reverted_within rows [] here is = is
  reverted_within rows (c ∷ changes) here is =
      set_within (reverted rows changes) c.rid (old_row c.rows) (All-head Here c changes here) (reverted_within rows changes (All-tail Here c changes here) is)

  all_reverted_within : (pending : Pending) (part : List (ℕ × List ChangeValue)) (rows : Table) → AreHere pending
      → AllByRecursion (λ e. list_of pending e.0 ≡ e.1) part → IsWithin pages rows
      → IsWithin pages (all_reverted rows part)
  all_reverted_within pending [] rows here names is = is
  all_reverted_within pending (e ∷ part) rows here names is =
      all_reverted_within pending part (reverted rows e.1) here names.1 (reverted_within rows e.1 (All-same Here _ _ (sym names.0) (here e.0)) is)

  pub recovered_within : (cells : Cells) → AreHere cells.pending → IsWithin pages cells.rows → IsWithin pages (recovered_rows cells)
  recovered_within cells here is = all_reverted_within cells.pending (map.entries cells.pending) cells.rows here (each_named cells.pending) is

  -- ---- a record

  rows_by_txn_within : (cells : Cells) (txn : ℕ) (action : TxnAction) → CanFollowTxn pages cells txn action → IsWithin pages cells.rows
      → IsWithin pages (rows_by_txn cells.rows action)
  rows_by_txn_within cells txn (Forward Slot c) can is = set_within cells.rows c.rid (new_row c.rows) can.0 is
  rows_by_txn_within cells txn (Forward OldEntry c) can is = is
  rows_by_txn_within cells txn (Forward NewEntry c) can is = is
  rows_by_txn_within cells txn (Undo Slot c last) can is = set_within cells.rows c.rid (old_row c.rows) can.0 is
  rows_by_txn_within cells txn (Undo OldEntry c last) can is = is
  rows_by_txn_within cells txn (Undo NewEntry c last) can is = is
  rows_by_txn_within cells txn Commit can is = is
  rows_by_txn_within cells txn End can is = is

  taken_here : (changes : List ChangeValue) (last : Bool) → All Here changes → All Here (taken_off changes last)
  taken_here changes true here = All-take Here _ changes here
  taken_here changes false here = here

  list_here : (cells : Cells) (txn : ℕ) (action : TxnAction) (changes : List ChangeValue) → CanFollowTxn pages cells txn action → All Here changes
      → All Here (unwrap_or (list_by changes action) [])
  list_here cells txn (Forward part c) changes can here = All-append Here _ _ (All-take Here c.position changes here) (All-cons Here c [] can.0 (All-nil Here))
  list_here cells txn (Undo part c last) changes can here = taken_here changes last here
  list_here cells txn Commit changes can here = All-nil Here
  list_here cells txn End changes can here = All-nil Here

  pub with_list_here : (pending : Pending) (txn : ℕ) (list : Option (List ChangeValue)) → All Here (unwrap_or list []) → AreHere pending
      → AreHere (with_list pending txn list)
  with_list_here pending txn list new here other =
      elim (cases_eq other txn) [
        | inl is ↦ subst (λ n. All Here (list_of (with_list pending txn list) n)) (sym is) (All-same Here _ _ (list_of-with_list pending txn list) new)
        | inr not ↦ All-same Here _ _ (list_of_other pending txn other list not) (here other)
      ]

  -- rows and changes are in the pages
  abbrev AreIn : Cells → Type 0
  AreIn cells = IsWithin pages cells.rows × AreHere cells.pending

  pub step_in : (cells : Cells) (action : Action) → CanFollowBy pages cells action → AreIn cells → AreIn (set_by cells action)
  step_in cells (OfTxn txn action) can is = (
    rows_by_txn_within cells txn action can is.0,
    with_list_here cells.pending txn (list_by (list_of cells.pending txn) action) (list_here cells txn action (list_of cells.pending txn) can (is.1 txn)) is.1,
  )
  step_in cells (OfIndex action) can is = is
