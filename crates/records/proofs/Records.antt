-- Records that are read are those that were written, and what was written is read again.
use Rattle.std.proofs.Common.{◌≡◌, ℕ, zero, suc, ◌-◌, ◌^◌, ◌<◌, ◌≤◌, Bool, true, false, cond, ltb, eqb, List, [], ◌∷◌, ◌++◌, length, take, Option, Some, None}
use Rattle.std.proofs.Common.{refl, sym, ap, subst, ◌∙◌, append_assoc, arith, inl, inr, IsTrue, length-append}
use Rattle.std.specs.Prelude.{IfSome, IfNone}
use Rattle.std.specs.Option.{option_map}
use Rattle.std.proofs.lemmas.Bool.{ltb-false, le-ltb, ltb-true, lt-ltb, eqb-true}
use Rattle.std.proofs.lemmas.List.{take_at}
use Rattle.records.specs.declared.change.TheConstants.{CHANGES_MAX}
use Rattle.record_values.specs.declared.number.TheConstants.{LAST_NUMBER}
use Rattle.records.specs.ChangeValue.{ChangeValue}
use Rattle.records.specs.RecordValue.{RecordValue, has_part, txn_has_rows, has_rows}
use Rattle.record_values.specs.declared.row.Row.{Row}
use Rattle.record_values.specs.declared.pair.Pair.{Pair}
use Rattle.records.specs.declared.change.Rows.{Rows}
use Rattle.records.specs.declared.change.Rows.TheVariants.{Inserted, Deleted, Updated}
use Rattle.records.specs.declared.record.Part.{Part}
use Rattle.records.specs.declared.record.Part.TheVariants.{Slot, OldEntry, NewEntry}
use Rattle.records.specs.declared.record.TxnAction.{TxnAction}
use Rattle.records.specs.declared.record.TxnAction.TheVariants.{Forward, Undo, Commit, End}
use Rattle.records.specs.declared.record.IndexAction.{IndexAction}
use Rattle.records.specs.declared.record.IndexAction.TheVariants.{Create, BuildPlace, BuildCheckpoint, BuildDone, Clean, Drop}
use Rattle.records.specs.declared.record.Action.{Action}
use Rattle.records.specs.declared.record.Action.TheVariants.{OfTxn, OfIndex}
use Rattle.records.specs.Spelling.{rid, row, change, pair, u64, old_row, new_row, RowsFit, ChangeFits, PairFits, TxnActionFits, IndexActionFits, ActionFits}
use Rattle.records.specs.Spelling.{flag, forward_kind, undo_kind, txn_fields, index_fields, txn_of, fields_of, spelling, Fits}
use Rattle.records.specs.Reading.{◌>>=◌, u64_at, byte_at, rid_at, row_at, rows_of, change_at, pair_at, flag_at, part_at, forward_at, undo_at, txn_action_at}
use Rattle.records.specs.Reading.{index_action_at, action_at, numbered, record_at}
use Rattle.records.proofs.Steps.{bind_some, passed_not, passed, chosen, some, some_is, by_kind, Takes, Takes-then, Takes-cons}
use Rattle.record_values.proofs.Bytes.{IsBytes, IsBytes-rest}
use Rattle.records.proofs.Fields.{u64_takes, u64_again, rid_takes, rid_again, RowFitsIfSome, row_takes, row_again, pair_takes, pair_again}

-- ---- changes

-- the rows of a change are those that were read
record BothRows (old new : Option Row) (rows : Rows) : Type 0 where
  pub old-is : old_row rows ≡ old
  pub new-is : new_row rows ≡ new
  pub fits : RowsFit rows

both_rows : (old new : Option Row) (rows : Rows) → RowFitsIfSome old → RowFitsIfSome new → rows_of old new ≡ Some rows → BothRows old new rows
both_rows None None rows p q e = absurd cc
both_rows None (Some n) rows p q e = subst (BothRows None (Some n)) (some_is (Inserted n) rows e) (record { old-is = refl; new-is = refl; fits = q })
both_rows (Some o) None rows p q e = subst (BothRows (Some o) None) (some_is (Deleted o) rows e) (record { old-is = refl; new-is = refl; fits = p })
both_rows (Some o) (Some n) rows p q e = subst (BothRows (Some o) (Some n)) (some_is (Updated o n) rows e)
    (record { old-is = refl; new-is = refl; fits = (p, q) })

rows_again : (rows : Rows) → rows_of (old_row rows) (new_row rows) ≡ Some rows
rows_again (Inserted new) = refl
rows_again (Deleted old) = refl
rows_again (Updated old new) = refl

old_fits : (rows : Rows) → RowsFit rows → RowFitsIfSome (old_row rows)
old_fits (Inserted new) h = tt
old_fits (Deleted old) h = h
old_fits (Updated old new) h = h.0

new_fits : (rows : Rows) → RowsFit rows → RowFitsIfSome (new_row rows)
new_fits (Inserted new) h = h
new_fits (Deleted old) h = tt
new_fits (Updated old new) h = h.1

pub change_takes : (bytes : List ℕ) (c : ChangeValue) (rest : List ℕ) → IsBytes bytes → change_at bytes ≡ Some (c, rest) → Takes bytes (change c) rest
    × ChangeFits c
unfolding change_at byte_at
change_takes [] c rest fits e = absurd cc
change_takes (position ∷ bs) c rest fits e =
    let p = bind_some (rid_at bs) (λ place. row_at place.1 >>= λ old. row_at old.1 >>= λ new. rows_of old.0 new.0 >>= λ rows.
    cond (ltb position CHANGES_MAX) (Some (record { position = position; rid = place.0; rows = rows }, new.1)) None) (c, rest) e in
    let o = bind_some (row_at p.0.1) (λ old. row_at old.1 >>= λ new. rows_of old.0 new.0 >>= λ rows.
    cond (ltb position CHANGES_MAX) (Some (record { position = position; rid = p.0.0; rows = rows }, new.1)) None) (c, rest) p.2 in
    let n = bind_some (row_at o.0.1) (λ new. rows_of o.0.0 new.0 >>= λ rows.
    cond (ltb position CHANGES_MAX) (Some (record { position = position; rid = p.0.0; rows = rows }, new.1)) None) (c, rest) o.2 in
    let r = bind_some (rows_of o.0.0 n.0.0) (λ rows. cond (ltb position CHANGES_MAX)
    (Some (record { position = position; rid = p.0.0; rows = rows }, n.0.1)) None) (c, rest) n.2 in
    let made : ChangeValue = record { position = position; rid = p.0.0; rows = r.0 } in
    let g = passed (ltb position CHANGES_MAX) (Some (made, n.0.1)) (c, rest) r.2 in
    let first = rid_takes bs p.0.0 p.0.1 (IsBytes-rest position bs fits) p.1 in
    let second = row_takes p.0.1 o.0.0 o.0.1 first.0.rest_fits o.1 in
    let third = row_takes o.0.1 n.0.0 n.0.1 second.0.rest_fits n.1 in
    let both = both_rows o.0.0 n.0.0 r.0 second.1 third.1 r.1 in
    let rows_taken : Takes p.0.1 (row (old_row r.0) ++ row (new_row r.0)) n.0.1 =
    rw (both.old-is, both.new-is) (Takes-then p.0.1 (row o.0.0) o.0.1 (row n.0.0) n.0.1 second.0 third.0) in
    subst (λ (x : ChangeValue × List ℕ). Takes (position ∷ bs) (change x.0) x.1 × ChangeFits x.0) (some_is (made, n.0.1) (c, rest) g.1) (
      Takes-cons position bs (rid p.0.0 ++ (row (old_row r.0) ++ row (new_row r.0))) n.0.1 (Takes-then bs (rid p.0.0) p.0.1 _ n.0.1 first.0 rows_taken),
      record { position = ltb-true _ _ g.0; rid = first.1; rows = both.fits },
    )

pub change_again : (c : ChangeValue) (rest : List ℕ) → ChangeFits c → change_at (change c ++ rest) ≡ Some (c, rest)
unfolding change_at byte_at
change_again c rest fits =
    let o = old_row c.rows in
    let n = new_row c.rows in
    let regroup : change c ++ rest ≡ c.position ∷ (rid c.rid ++ (row o ++ (row n ++ rest))) =
    ap (λ (t : List ℕ). c.position ∷ t) (append_assoc (rid c.rid) (row o ++ row n) rest
    ∙ ap (λ (t : List ℕ). rid c.rid ++ t) (append_assoc (row o) (row n) rest)) in
    let low : ltb c.position CHANGES_MAX ≡ true = lt-ltb _ _ fits.position in
    ap change_at regroup ∙ rw (
      rid_again c.rid (row o ++ (row n ++ rest)) fits.rid,
      row_again o (row n ++ rest) (old_fits c.rows fits.rows),
      row_again n rest (new_fits c.rows fits.rows),
      rows_again c.rows,
      low,
    ) refl

-- ---- the parts of an action

flag_takes : (bytes : List ℕ) (last : Bool) (rest : List ℕ) → IsBytes bytes → flag_at bytes ≡ Some (last, rest) → Takes bytes (flag last) rest
unfolding flag_at
flag_takes [] last rest fits e = absurd cc
flag_takes (zero ∷ bytes) last rest fits e =
    subst (λ (x : Bool × List ℕ). Takes (0 ∷ bytes) (flag x.0) x.1) (some_is (false, bytes) (last, rest) e)
    (record { parts = refl; rest_fits = IsBytes-rest 0 bytes fits })
flag_takes (suc zero ∷ bytes) last rest fits e =
    subst (λ (x : Bool × List ℕ). Takes (1 ∷ bytes) (flag x.0) x.1) (some_is (true, bytes) (last, rest) e)
    (record { parts = refl; rest_fits = IsBytes-rest 1 bytes fits })
flag_takes (suc (suc b) ∷ bytes) last rest fits e = absurd cc

flag_again : (last : Bool) (rest : List ℕ) → flag_at (flag last ++ rest) ≡ Some (last, rest)
unfolding flag_at
flag_again true rest = refl
flag_again false rest = refl

-- a change that has the part
record TakesPart (part : Part) (bytes : List ℕ) (c : ChangeValue) (rest : List ℕ) : Type 0 where
  pub taken : Takes bytes (change c) rest
  pub fits : ChangeFits c
  pub has : IsTrue (has_part part c.rows)

part_takes : (part : Part) (bytes : List ℕ) (c : ChangeValue) (rest : List ℕ) → IsBytes bytes → part_at part bytes ≡ Some (c, rest)
    → TakesPart part bytes c rest
unfolding part_at
part_takes part bytes c rest fits e =
    let b = bind_some (change_at bytes) (λ c. cond (has_part part c.0.rows) (Some (c.0, c.1)) None) (c, rest) e in
    let g = passed (has_part part b.0.0.rows) (Some (b.0.0, b.0.1)) (c, rest) b.2 in
    let t = change_takes bytes b.0.0 b.0.1 fits b.1 in
    subst (λ (x : ChangeValue × List ℕ). TakesPart part bytes x.0 x.1) (some_is (b.0.0, b.0.1) (c, rest) g.1) (record { taken = t.0; fits = t.1; has = g.0 })

part_again : (part : Part) (c : ChangeValue) (rest : List ℕ) → ChangeFits c → IsTrue (has_part part c.rows) → part_at part (change c ++ rest) ≡ Some (c, rest)
unfolding part_at
part_again part c rest fits has = rw (change_again c rest fits, has) refl

-- ---- actions of transactions

-- An action that was read behind its kind.
record TakesTxn (bytes : List ℕ) (kind : ℕ) (action : TxnAction) (rest : List ℕ) : Type 0 where
  pub taken : Takes (kind ∷ bytes) (txn_fields action) rest
  pub rows : IsTrue (txn_has_rows action)
  pub fits : TxnActionFits action

forward_takes : (part : Part) (bytes : List ℕ) (a : TxnAction) (rest : List ℕ) → IsBytes bytes → forward_at part bytes ≡ Some (a, rest)
    → TakesTxn bytes (forward_kind part) a rest
unfolding forward_at
forward_takes part bytes a rest fits e =
    let b = bind_some (part_at part bytes) (λ c. Some (Forward part c.0, c.1)) (a, rest) e in
    let t = part_takes part bytes b.0.0 b.0.1 fits b.1 in
    subst (λ (x : TxnAction × List ℕ). TakesTxn bytes (forward_kind part) x.0 x.1) (some_is (Forward part b.0.0, b.0.1) (a, rest) b.2)
    (record { taken = Takes-cons (forward_kind part) bytes (change b.0.0) b.0.1 t.taken; rows = t.has; fits = t.fits })

undo_takes : (part : Part) (bytes : List ℕ) (a : TxnAction) (rest : List ℕ) → IsBytes bytes → undo_at part bytes ≡ Some (a, rest)
    → TakesTxn bytes (undo_kind part) a rest
unfolding undo_at
undo_takes part bytes a rest fits e =
    let b = bind_some (part_at part bytes) (λ c. flag_at c.1 >>= λ last. Some (Undo part c.0 last.0, last.1)) (a, rest) e in
    let l = bind_some (flag_at b.0.1) (λ last. Some (Undo part b.0.0 last.0, last.1)) (a, rest) b.2 in
    let t = part_takes part bytes b.0.0 b.0.1 fits b.1 in
    let f = flag_takes b.0.1 l.0.0 l.0.1 t.taken.rest_fits l.1 in
    let both = Takes-then bytes (change b.0.0) b.0.1 (flag l.0.0) l.0.1 t.taken f in
    subst (λ (x : TxnAction × List ℕ). TakesTxn bytes (undo_kind part) x.0 x.1) (some_is (Undo part b.0.0 l.0.0, l.0.1) (a, rest) l.2)
    (record { taken = Takes-cons (undo_kind part) bytes (change b.0.0 ++ flag l.0.0) l.0.1 both; rows = t.has; fits = t.fits })

commit_takes : (bytes : List ℕ) (x a : TxnAction) (rest : List ℕ) (kind : ℕ) → TakesTxn bytes kind x bytes
    → some {A = TxnAction × List ℕ} (x, bytes) ≡ Some (a, rest) → TakesTxn bytes kind a rest
commit_takes bytes x a rest kind t e = subst (λ (x : TxnAction × List ℕ). TakesTxn bytes kind x.0 x.1) (some_is (x, bytes) (a, rest) e) t

txn_action_takes : (kind : ℕ) (bytes : List ℕ) (a : TxnAction) (rest : List ℕ) → IsBytes bytes → txn_action_at kind bytes ≡ Some (a, rest)
    → TakesTxn bytes kind a rest
unfolding txn_action_at
txn_action_takes kind bytes a rest fits =
    let at : (n : ℕ) → TakesTxn bytes n a rest → kind ≡ n → TakesTxn bytes kind a rest = λ n t is. subst (λ (k : ℕ). TakesTxn bytes k a rest) (sym is) t in
    by_kind kind 1 (λ is e. at 1 (forward_takes Slot bytes a rest fits e) is) (
    by_kind kind 2 (λ is e. at 2 (forward_takes OldEntry bytes a rest fits e) is) (
    by_kind kind 3 (λ is e. at 3 (forward_takes NewEntry bytes a rest fits e) is) (
    by_kind kind 4 (λ is e. at 4 (undo_takes NewEntry bytes a rest fits e) is) (
    by_kind kind 5 (λ is e. at 5 (undo_takes Slot bytes a rest fits e) is) (
    by_kind kind 6 (λ is e. at 6 (undo_takes OldEntry bytes a rest fits e) is) (
    by_kind kind 7 (λ is e. at 7 (commit_takes bytes Commit a rest 7 (record { taken = record { parts = refl; rest_fits = fits }; rows = refl; fits = tt }) e)
    is) (
    by_kind kind 8 (λ is e. at 8 (commit_takes bytes End a rest 8 (record { taken = record { parts = refl; rest_fits = fits }; rows = refl; fits = tt }) e) is)
    (λ e. absurd cc))))))))

forward_again : (part : Part) (c : ChangeValue) (rest : List ℕ) → ChangeFits c → IsTrue (has_part part c.rows)
    → forward_at part (change c ++ rest) ≡ Some (Forward part c, rest)
unfolding forward_at
forward_again part c rest fits has = rw (part_again part c rest fits has) refl

undo_again : (part : Part) (c : ChangeValue) (last : Bool) (rest : List ℕ) → ChangeFits c → IsTrue (has_part part c.rows)
    → undo_at part ((change c ++ flag last) ++ rest) ≡ Some (Undo part c last, rest)
unfolding undo_at
undo_again part c last rest fits has =
    ap (undo_at part) (append_assoc (change c) (flag last) rest) ∙ rw (part_again part c (flag last ++ rest) fits has, flag_again last rest) refl

abbrev txn_action_from : List ℕ → Option (TxnAction × List ℕ)
txn_action_from bytes = byte_at bytes >>= λ kind. txn_action_at kind.0 kind.1

txn_action_again : (a : TxnAction) (rest : List ℕ) → TxnActionFits a → IsTrue (txn_has_rows a) → txn_action_from (txn_fields a ++ rest) ≡ Some (a, rest)
unfolding byte_at txn_action_at
txn_action_again (Forward Slot c) rest fits has = forward_again Slot c rest fits has
txn_action_again (Forward OldEntry c) rest fits has = forward_again OldEntry c rest fits has
txn_action_again (Forward NewEntry c) rest fits has = forward_again NewEntry c rest fits has
txn_action_again (Undo NewEntry c last) rest fits has = undo_again NewEntry c last rest fits has
txn_action_again (Undo Slot c last) rest fits has = undo_again Slot c last rest fits has
txn_action_again (Undo OldEntry c last) rest fits has = undo_again OldEntry c last rest fits has
txn_action_again Commit rest fits has = refl
txn_action_again End rest fits has = refl

-- ---- actions of the builder and the cleaner

record TakesIndex (bytes : List ℕ) (kind : ℕ) (action : IndexAction) (rest : List ℕ) : Type 0 where
  pub taken : Takes (kind ∷ bytes) (index_fields action) rest
  pub fits : IndexActionFits action

alone_takes : (bytes : List ℕ) (x a : IndexAction) (rest : List ℕ) (kind : ℕ) → TakesIndex bytes kind x bytes
    → some {A = IndexAction × List ℕ} (x, bytes) ≡ Some (a, rest) → TakesIndex bytes kind a rest
alone_takes bytes x a rest kind t e = subst (λ (x : IndexAction × List ℕ). TakesIndex bytes kind x.0 x.1) (some_is (x, bytes) (a, rest) e) t

abbrev of_pair : (Pair → IndexAction) → Pair × List ℕ → Option (IndexAction × List ℕ)
of_pair of p = Some (of p.0, p.1)

-- an action of a pair
of_pair_takes : (of : Pair → IndexAction) (kind : ℕ) → ((p : Pair) → index_fields (of p) ≡ kind ∷ pair p) → ((p : Pair) → PairFits p → IndexActionFits (of p))
    → (bytes : List ℕ) (a : IndexAction) (rest : List ℕ) → IsBytes bytes → (pair_at bytes >>= of_pair of) ≡ Some (a, rest) → TakesIndex bytes kind a rest
of_pair_takes of kind spelled within bytes a rest fits e =
    let b = bind_some (pair_at bytes) (of_pair of) (a, rest) e in
    let t = pair_takes bytes b.0.0 b.0.1 fits b.1 in
    subst (λ (x : IndexAction × List ℕ). TakesIndex bytes kind x.0 x.1) (some_is (of b.0.0, b.0.1) (a, rest) b.2)
    (record {
      taken = subst (λ (text : List ℕ). Takes (kind ∷ bytes) text b.0.1) (sym (spelled b.0.0)) (Takes-cons kind bytes (pair b.0.0) b.0.1 t.0);
      fits = within b.0.0 t.1;
    })

abbrev placed : Pair → IndexAction
placed p = BuildPlace p

abbrev reached : Pair → IndexAction
reached p = BuildCheckpoint p

abbrev cleaned : Pair → IndexAction
cleaned p = Clean p

index_action_takes : (kind : ℕ) (bytes : List ℕ) (a : IndexAction) (rest : List ℕ) → IsBytes bytes → index_action_at kind bytes ≡ Some (a, rest)
    → TakesIndex bytes kind a rest
unfolding index_action_at
index_action_takes kind bytes a rest fits =
    let at : (n : ℕ) → TakesIndex bytes n a rest → kind ≡ n
    → TakesIndex bytes kind a rest = λ n t is. subst (λ (k : ℕ). TakesIndex bytes k a rest) (sym is) t in
    by_kind kind 9 (λ is e. at 9 (alone_takes bytes Create a rest 9 (record { taken = record { parts = refl; rest_fits = fits }; fits = tt }) e) is) (
    by_kind kind 10 (λ is e. at 10 (of_pair_takes placed 10 (λ p. refl) (λ p h. h) bytes a rest fits e) is) (
    by_kind kind 11 (λ is e. at 11 (of_pair_takes reached 11 (λ p. refl) (λ p h. h) bytes a rest fits e) is) (
    by_kind kind 12 (λ is e. at 12 (alone_takes bytes BuildDone a rest 12 (record { taken = record { parts = refl; rest_fits = fits }; fits = tt }) e) is) (
    by_kind kind 13 (λ is e. at 13 (of_pair_takes cleaned 13 (λ p. refl) (λ p h. h) bytes a rest fits e) is) (
    by_kind kind 14 (λ is e. at 14 (alone_takes bytes Drop a rest 14 (record { taken = record { parts = refl; rest_fits = fits }; fits = tt }) e) is)
    (λ e. absurd cc))))))

abbrev index_action_from : List ℕ → Option (IndexAction × List ℕ)
index_action_from bytes = byte_at bytes >>= λ kind. index_action_at kind.0 kind.1

index_action_again : (a : IndexAction) (rest : List ℕ) → IndexActionFits a → index_action_from (index_fields a ++ rest) ≡ Some (a, rest)
unfolding byte_at index_action_at
index_action_again Create rest fits = refl
index_action_again (BuildPlace p) rest fits = rw (pair_again p rest fits) refl
index_action_again (BuildCheckpoint p) rest fits = rw (pair_again p rest fits) refl
index_action_again BuildDone rest fits = refl
index_action_again (Clean p) rest fits = rw (pair_again p rest fits) refl
index_action_again Drop rest fits = refl

-- ---- actions

record TakesAction (bytes : List ℕ) (txn : ℕ) (action : Action) (rest : List ℕ) : Type 0 where
  pub taken : Takes bytes (fields_of action) rest
  pub txn-is : txn_of action ≡ txn
  pub rows : IsTrue (has_rows action)
  pub fits : ActionFits action

abbrev of_txn : ℕ → TxnAction × List ℕ → Option (Action × List ℕ)
of_txn txn a = Some (OfTxn txn a.0, a.1)

abbrev of_index : IndexAction × List ℕ → Option (Action × List ℕ)
of_index a = Some (OfIndex a.0, a.1)

action_takes : (txn : ℕ) (bytes : List ℕ) (a : Action) (rest : List ℕ) → txn < 2 ^ 64 → IsBytes bytes → action_at txn bytes ≡ Some (a, rest)
    → TakesAction bytes txn a rest
unfolding action_at byte_at
action_takes txn [] a rest lt fits e = absurd cc
action_takes txn (kind ∷ bytes) a rest lt fits e =
    elim (chosen (eqb txn 0) (index_action_at kind bytes >>= of_index) (txn_action_at kind bytes >>= of_txn txn) (Some (a, rest)) e) [
      | inl h ↦
          let b = bind_some (index_action_at kind bytes) of_index (a, rest) h.1 in
          let t = index_action_takes kind bytes b.0.0 b.0.1 (IsBytes-rest kind bytes fits) b.1 in
          subst (λ (x : Action × List ℕ). TakesAction (kind ∷ bytes) txn x.0 x.1) (some_is (OfIndex b.0.0, b.0.1) (a, rest) b.2)
          (record { taken = t.taken; txn-is = sym (eqb-true txn 0 h.0); rows = refl; fits = t.fits })
      | inr h ↦
          let begun : 1 ≤ txn = grind (arith, h.0) in
          let b = bind_some (txn_action_at kind bytes) (of_txn txn) (a, rest) h.1 in
          let t = txn_action_takes kind bytes b.0.0 b.0.1 (IsBytes-rest kind bytes fits) b.1 in
          subst (λ (x : Action × List ℕ). TakesAction (kind ∷ bytes) txn x.0 x.1) (some_is (OfTxn txn b.0.0, b.0.1) (a, rest) b.2)
          (record { taken = t.taken; txn-is = refl; rows = t.rows; fits = ((begun, lt), t.fits) })
    ]

abbrev none_read : Option (Action × List ℕ)
none_read = None

-- the same steps, with the kind read first
action_by_parts : (txn : ℕ) (bytes : List ℕ) → action_at txn bytes
    ≡ cond (eqb txn 0) (index_action_from bytes >>= of_index) (txn_action_from bytes >>= of_txn txn)
unfolding action_at byte_at
action_by_parts txn [] = neither (eqb txn 0)
  where
    neither : (b : Bool) → none_read ≡ cond b none_read none_read
    neither true = refl
    neither false = refl
action_by_parts txn (kind ∷ bytes) = refl

action_again : (a : Action) (rest : List ℕ) → ActionFits a → IsTrue (has_rows a) → action_at (txn_of a) (fields_of a ++ rest) ≡ Some (a, rest)
action_again (OfTxn txn a) rest fits has =
    let begun : eqb txn 0 ≡ false = grind (arith, fits.0.0) in
    action_by_parts txn (txn_fields a ++ rest) ∙ rw (begun, txn_action_again a rest fits.1 has) refl
action_again (OfIndex a) rest fits has = action_by_parts 0 (index_fields a ++ rest) ∙ rw (index_action_again a rest fits) refl

-- ---- records

-- what is read is spelled so
pub record_takes : (bytes : List ℕ) (r : RecordValue) (rest : List ℕ) → IsBytes bytes → record_at bytes ≡ Some (r, rest) → (bytes ≡ spelling r ++ rest) × Fits r
unfolding record_at
record_takes bytes r rest fits e =
    let n = bind_some (u64_at bytes) (λ n. u64_at n.1 >>= λ t. action_at t.0 t.1 >>= λ a. numbered n.0 a) (r, rest) e in
    let t = bind_some (u64_at n.0.1) (λ t. action_at t.0 t.1 >>= λ a. numbered n.0.0 a) (r, rest) n.2 in
    let a = bind_some (action_at t.0.0 t.0.1) (λ a. numbered n.0.0 a) (r, rest) t.2 in
    let made : RecordValue = record { number = n.0.0; action = a.0.0 } in
    let g = passed_not (eqb n.0.0 0) (cond (ltb LAST_NUMBER n.0.0) None (Some (made, a.0.1))) (r, rest) a.2 in
    let h = passed_not (ltb LAST_NUMBER n.0.0) (Some (made, a.0.1)) (r, rest) g.1 in
    let first = u64_takes bytes n.0.0 n.0.1 fits n.1 in
    let second = u64_takes n.0.1 t.0.0 t.0.1 first.0.rest_fits t.1 in
    let third = action_takes t.0.0 t.0.1 a.0.0 a.0.1 second.1 second.0.rest_fits a.1 in
    let tail : Takes n.0.1 (u64 (txn_of a.0.0) ++ fields_of a.0.0) a.0.1 =
    rw third.txn-is (Takes-then n.0.1 (u64 t.0.0) t.0.1 (fields_of a.0.0) a.0.1 second.0 third.taken) in
    let whole = Takes-then bytes (u64 n.0.0) n.0.1 (u64 (txn_of a.0.0) ++ fields_of a.0.0) a.0.1 first.0 tail in
    let low : 1 ≤ n.0.0 = grind (arith, g.0) in
    subst (λ (x : RecordValue × List ℕ). (bytes ≡ spelling x.0 ++ x.1) × Fits x.0) (some_is (made, a.0.1) (r, rest) h.1)
    (whole.parts, record { first = low; last = ltb-false _ _ h.0; rows = third.rows; action = third.fits })

txn_of-lt : (a : Action) → ActionFits a → txn_of a < 2 ^ 64
txn_of-lt (OfTxn txn action) fits = fits.0.1
txn_of-lt (OfIndex action) fits = omega arith

-- what is spelled so is read
pub record_again : (r : RecordValue) (rest : List ℕ) → Fits r → record_at (spelling r ++ rest) ≡ Some (r, rest)
unfolding record_at
record_again r rest fits =
    let txn = u64 (txn_of r.action) in
    let body = fields_of r.action in
    let regroup : spelling r ++ rest ≡ u64 r.number ++ (txn ++ (body ++ rest)) =
    append_assoc (u64 r.number) (txn ++ body) rest ∙ ap (λ (t : List ℕ). u64 r.number ++ t) (append_assoc txn body rest) in
    let some_number : eqb r.number 0 ≡ false = grind (arith, fits.first) in
    let within : ltb LAST_NUMBER r.number ≡ false = le-ltb _ _ (omega (arith, fits.last)) in
    let number_lt : r.number < 2 ^ 64 = omega (arith, fits.last) in
    ap (λ (bytes : List ℕ). u64_at bytes >>= λ n. u64_at n.1 >>= λ t. action_at t.0 t.1 >>= λ a. numbered n.0 a) regroup
    ∙ rw (
      u64_again r.number (txn ++ (body ++ rest)) number_lt,
      u64_again (txn_of r.action) (body ++ rest) (txn_of-lt r.action fits.action),
      action_again r.action rest fits.action fits.rows,
      some_number,
      within,
    ) refl

-- no spelling begins another, and a spelling is of one record
pub one_spelling : (a b : RecordValue) (x y : List ℕ) → Fits a → Fits b → spelling a ++ x ≡ spelling b ++ y → (a ≡ b) × (x ≡ y)
one_spelling a b x y p q e =
    let both = some_is (a, x) (b, y) (sym (record_again a x p) ∙ ap record_at e ∙ record_again b y q) in
    (ap (λ (z : RecordValue × List ℕ). z.0) both, ap (λ (z : RecordValue × List ℕ). z.1) both)

pub is_shorter : (bytes : List ℕ) (r : RecordValue) (rest : List ℕ) → IsBytes bytes → record_at bytes ≡ Some (r, rest) → length rest ≤ length bytes
is_shorter bytes r rest fits e =
    let t = record_takes bytes r rest fits e in
    rw t.0 (omega (arith, length-append {A = ℕ} (spelling r) rest))

-- ---- what a caller of the decoder gets

found_length : (bytes : List ℕ) (r : RecordValue) (rest : List ℕ) → bytes ≡ spelling r ++ rest → take (length bytes - length rest) bytes ≡ spelling r
found_length bytes r rest e =
    let len : length bytes - length rest ≡ length (spelling r) = rw e (omega (arith, length-append {A = ℕ} (spelling r) rest)) in
    rw len (ap (take (length (spelling r))) e ∙ take_at (spelling r) rest (length (spelling r)) refl)

abbrev pub with_length : List ℕ → RecordValue × List ℕ → RecordValue × ℕ
with_length bytes x = (x.0, length bytes - length x.1)

abbrev pub IsDecoded : List ℕ → Option (RecordValue × ℕ) → Type 0
IsDecoded bytes o = IfSome o (λ f. take f.1 bytes ≡ spelling f.0) × IfSome o (λ f. Fits f.0)

decoded_from : (bytes : List ℕ) (read : Option (RecordValue × List ℕ)) → IsBytes bytes → record_at bytes ≡ read
    → IsDecoded bytes (option_map (with_length bytes) read)
decoded_from bytes None fits e = (tt, tt)
decoded_from bytes (Some x) fits e =
    let t = record_takes bytes x.0 x.1 fits e in
    (found_length bytes x.0 x.1 t.0, t.1)

pub decoded : (bytes : List ℕ) (result : Option (RecordValue × ℕ)) → IsBytes bytes → result ≡ option_map (with_length bytes) (record_at bytes)
    → IsDecoded bytes result
decoded bytes result fits e = subst (IsDecoded bytes) (sym e) (decoded_from bytes (record_at bytes) fits refl)

pub undecoded : (bytes : List ℕ) (result : Option (RecordValue × ℕ)) → result ≡ option_map (with_length bytes) (record_at bytes)
    → IfNone result ((r : RecordValue) (rest : List ℕ) → Fits r → bytes ≡ spelling r ++ rest → ⊥)
undecoded bytes (Some f) e = tt
undecoded bytes None e = λ r rest fits is.
    let read : record_at bytes ≡ Some (r, rest) = ap record_at is ∙ record_again r rest fits in
    let bad = e ∙ ap (option_map (with_length bytes)) read in
    absurd cc
