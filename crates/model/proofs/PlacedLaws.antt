-- Where records follow one another, each change on a list has its position and a page of the store.
use Rattle.std.proofs.Common.{Option, Some, None, unwrap_or, ◌≡◌, ℕ, ◌+◌, ◌<◌, Bool, true, false, List, [], ◌∷◌, ◌++◌, length, ◌⊎◌, inl, inr, sym, ap, subst}
use Rattle.std.proofs.Common.{◌∙◌, arith}
use Rattle.std.proofs.lemmas.Bool.{cases_eq}
use Rattle.records.specs.ChangeValue.{ChangeValue}
use Rattle.records.specs.RecordValue.{RecordValue}
use Rattle.records.specs.declared.record.TxnAction.TheVariants.{Forward, Undo, Commit, End}
use Rattle.records.specs.declared.record.Action.{Action}
use Rattle.records.specs.declared.record.Action.TheVariants.{OfTxn, OfIndex}
use Rattle.model.specs.Cells.{Cells, Pending, cells_after, set_by, list_of, with_list, noted, taken_off}
use Rattle.model.specs.Following.{IsLastOf, CanFollowBy, AreFollowing, ArePlaced}
use Rattle.model.proofs.CellsLaws.{list_of-with_list, list_of_other, noted_first, noted_again, taken_off_last}

module _ (pages : ℕ) where
  pub placed_one_more : (n : ℕ) (xs : List ChangeValue) (c : ChangeValue) → ArePlaced pages n xs → c.position ≡ n + length xs → c.rid.page < pages
      → ArePlaced pages n (xs ++ c ∷ [])
  placed_one_more n [] c placed at inside = (omega (arith, at), inside, tt)
  placed_one_more n (d ∷ xs) c placed at inside =
      let later : c.position ≡ (n + 1) + length xs = omega (arith, at) in
      (placed.0, placed.1, placed_one_more (n + 1) xs c placed.2 later inside)

  pub placed_before : (n : ℕ) (xs : List ChangeValue) (c : ChangeValue) → ArePlaced pages n (xs ++ c ∷ []) → ArePlaced pages n xs
  placed_before n [] c placed = tt
  placed_before n (d ∷ xs) c placed = (placed.0, placed.1, placed_before (n + 1) xs c placed.2)

  -- the last of them
  pub placed_last : (n : ℕ) (xs : List ChangeValue) (c : ChangeValue) → ArePlaced pages n (xs ++ c ∷ []) → (c.position ≡ n + length xs) × (c.rid.page < pages)
  placed_last n [] c placed = (omega (arith, placed.0), placed.1)
  placed_last n (d ∷ xs) c placed =
      let last = placed_last (n + 1) xs c placed.2 in
      (omega (arith, last.0), last.1)

  -- the lists of all transactions
  abbrev pub EachIsPlaced : Pending → Type 0
  EachIsPlaced pending = (txn : ℕ) → ArePlaced pages 0 (list_of pending txn)

  one_set : (pending : Pending) (txn : ℕ) (list : Option (List ChangeValue)) → EachIsPlaced pending → ArePlaced pages 0 (unwrap_or list [])
      → EachIsPlaced (with_list pending txn list)
  one_set pending txn list each own t = elim (cases_eq t txn) [
    | inl is ↦ subst (ArePlaced pages 0) (sym (ap (list_of (with_list pending txn list)) is ∙ list_of-with_list pending txn list)) own
    | inr not ↦ subst (ArePlaced pages 0) (sym (list_of_other pending txn t list not)) (each t)
  ]

  noted_placed : (xs : List ChangeValue) (c : ChangeValue) → ArePlaced pages 0 xs → c.rid.page < pages → (c.position ≡ length xs) ⊎ IsLastOf xs c
      → ArePlaced pages 0 (noted xs c)
  noted_placed xs c placed inside (inl at) = subst (ArePlaced pages 0) (sym (noted_first xs c at)) (placed_one_more 0 xs c placed (omega (arith, at)) inside)
  noted_placed xs c placed inside (inr again) =
      subst (ArePlaced pages 0) (sym (ap (λ list. noted list c) again.1 ∙ noted_again again.0 c again.2)) (subst (ArePlaced pages 0) again.1 placed)

  taken_placed : (xs : List ChangeValue) (c : ChangeValue) (last : Bool) → ArePlaced pages 0 xs → IsLastOf xs c → ArePlaced pages 0 (taken_off xs last)
  taken_placed xs c false placed is = placed
  taken_placed xs c true placed is =
      subst (ArePlaced pages 0) (sym (ap (λ list. taken_off list true) is.1 ∙ taken_off_last is.0 c))
      (placed_before 0 is.0 c (subst (ArePlaced pages 0) is.1 placed))

  step_placed : (cells : Cells) (action : Action) → CanFollowBy pages cells action → EachIsPlaced cells.pending → EachIsPlaced (set_by cells action).pending
  step_placed cells (OfIndex action) can each = each
  step_placed cells (OfTxn txn (Forward part c)) can each =
      one_set cells.pending txn (Some (noted (list_of cells.pending txn) c)) each (noted_placed (list_of cells.pending txn) c (each txn) can.0 can.2)
  step_placed cells (OfTxn txn (Undo part c last)) can each =
      one_set cells.pending txn (Some (taken_off (list_of cells.pending txn) last)) each (taken_placed (list_of cells.pending txn) c last (each txn) can.2)
  step_placed cells (OfTxn txn Commit) can each = one_set cells.pending txn None each tt
  step_placed cells (OfTxn txn End) can each = one_set cells.pending txn None each tt

  pub following_placed : (last : ℕ) (cells : Cells) (records : List RecordValue) → AreFollowing pages last cells records → EachIsPlaced cells.pending
      → EachIsPlaced (cells_after cells records).pending
  following_placed last cells [] follow each = each
  following_placed last cells (r ∷ records) follow each =
      following_placed (last + 1) (set_by cells r.action) records follow.1 (step_placed cells r.action follow.0.allowed each)
