-- A step of an undo.
use Rattle.std.proofs.Common.{Bool, List, None, Option, Some, [], ap, append-nil, arith, false, inl, inr, is_some, length, refl, subst, sym, take, true, ℕ}
use Rattle.std.proofs.Common.{◌++◌, ◌+◌, ◌-◌, ◌<◌, ◌∙◌, ◌∷◌, ◌≡◌, ◌≢◌, ◌≤◌}
use Rattle.std.proofs.Math.Seq.{take-append_seam}
use Rattle.std.proofs.lemmas.List.{length-append}
use Rattle.std.specs.FinMap.{get, insert, len}
use Rattle.std.specs.Option.{option_map}
use Rattle.std.specs.Prelude.{option_and_then}
use Rattle.records.specs.ChangeValue.{ChangeValue}
use Rattle.record_values.specs.Maps.{set_at}
use Rattle.records.specs.Spelling.{old_row}
use Rattle.record_values.specs.declared.error.Error.{Error}
use Rattle.record_values.specs.declared.error.Error.TheVariants.{NoSuchTxn}
use Rattle.record_values.specs.declared.number.TheConstants.{LAST_NUMBER}
use Rattle.record_values.specs.declared.pair.Mark.TheVariants.{Live, Marked}
use Rattle.record_values.specs.declared.pair.Pair.{Pair}
use Rattle.records.specs.declared.record.Part.TheVariants.{NewEntry, OldEntry, Slot}
use Rattle.model.specs.Pairs.{is_indexed, new_pair, old_pair}
use Rattle.txn_table.specs.Table as table
use Rattle.txn_table.specs.Table.{TxnState, last_change, put_at, without_last}
use Rattle.txn_table.specs.declared.progress.Progress.{Progress}
use Rattle.txn_table.specs.declared.progress.Progress.TheVariants.{OwesEntry, OwesRow, Ready, Rolling, UndoesEntry, UndoesRow}
use Rattle.marked_index.specs.Index.{pledges_used}
use Rattle.core_model.proofs.Laws.{not_none}
use Rattle.core_model.specs.Changes.{Changes, Unchanged, as_list, ◌▹◌}
use Rattle.core_model.specs.Invariants.{HasShape, IsShaped}
use Rattle.core_model.specs.Logs.{one_record}
use Rattle.core_model.specs.Records.{action_of, begun_action, is_last, undo, undo_action}
use Rattle.core_model.specs.States.{Active, Made, NewMarked, OldMarked, OldSet, Phase, RowSet, State}
use Rattle.core_model.specs.Steps as core
use Rattle.core_model.specs.Steps.{Undo, after, txn_at, undoing, undone, undone_first, undone_row, with_entry, with_places, with_txn, without_newest}
use Rattle.core_model.specs.Events.{Empty, Event, Refused, Standing, Undone}
use Rattle.core_model.specs.Replies.{unknown}
use Rattle.core_parts.specs.View.{Answers, CoreValue, IsProgressOf, IsSafe, IsState, Serves, Shows, ShowsTxn}
use Rattle.core_parts.specs.Moves.{txn_shown}
use Rattle.core_parts.specs.Private.{HasNoRecord, HasRecord, entry_restored, newest_taken_off, part_to_undo, reserved_of, row_restored, undo_begun}
use Rattle.core_parts.proofs.Due.{made, no_number, refusal, wants_memory}
use Rattle.core_parts.proofs.Inserting.{no_txn}
use Rattle.core_parts.proofs.Leaving.{there}
use Rattle.core_parts.proofs.Moved.{HasMoved, known, listed, moved_shown, places_are}
use Rattle.core_parts.proofs.Newest.{new_paid, newest_last, none_changed, old_paid, phase_of, shape, shaped}
use Rattle.core_parts.proofs.Next.{so_far, some_txn}
use Rattle.core_parts.proofs.Places.{reserved_within}
use Rattle.core_parts.proofs.Stepped.{IsNow, entry_moved, now_here, now_then, popped_now, put_now, row_moved}

-- ---- where the undo is

undoes_row : (f : Progress) → part_to_undo f ≡ Slot → f ≡ UndoesRow
undoes_row Ready e = absurd cc
undoes_row OwesRow e = absurd cc
undoes_row OwesEntry e = absurd cc
undoes_row Rolling e = absurd cc
undoes_row UndoesRow e = refl
undoes_row UndoesEntry e = absurd cc

undoes_entry : (f : Progress) → part_to_undo f ≡ OldEntry → f ≡ UndoesEntry
undoes_entry Ready e = absurd cc
undoes_entry OwesRow e = absurd cc
undoes_entry OwesEntry e = absurd cc
undoes_entry Rolling e = absurd cc
undoes_entry UndoesRow e = absurd cc
undoes_entry UndoesEntry e = refl

-- the next undo step is the first
record IsFirstPhase (phase : Phase) : Type 0 where
  applied : Bool
  does : (s : State) (t : ℕ) (x : Active) (older : Changes) (c : ChangeValue)
      → undone s t x (older ▹ c) phase ≡ undone_first s t x c older applied (new_pair (is_indexed s.life) c)
  says : (b : Bool) (t : ℕ) (older : Changes) (c : ChangeValue) → undo_action b t (older ▹ c) phase ≡ Some (begun_action t c (old_pair b c) (new_pair b c))

first_made : IsFirstPhase Made
first_made = record { applied = true; does = λ s t x older c. refl; says = λ b t older c. refl }

first_by : (f : Progress) (phase : Phase) → part_to_undo f ≡ NewEntry → IsProgressOf f phase → IsFirstPhase phase
first_by Ready phase un e = subst IsFirstPhase (sym e) first_made
first_by OwesRow phase un e = subst IsFirstPhase (sym e) (record { applied = false; does = λ s t x older c. refl; says = λ b t older c. refl })
first_by OwesEntry phase un e = subst IsFirstPhase (sym e) (record { applied = true; does = λ s t x older c. refl; says = λ b t older c. refl })
first_by Rolling phase un e = subst IsFirstPhase (sym e) first_made
first_by UndoesRow phase un e = absurd cc
first_by UndoesEntry phase un e = absurd cc

-- the next undo step sets the row
record SetsRow (s : State) (c : ChangeValue) (phase : Phase) : Type 0 where
  does : (t : ℕ) (x : Active) (older : Changes) → undone s t x (older ▹ c) phase ≡ undone_row s t x c older
  says : (t : ℕ) (older : Changes) → undo_action (is_indexed s.life) t (older ▹ c) phase ≡ Some (undo t Slot c (is_last (old_pair (is_indexed s.life) c)))

sets_first : (s : State) (c : ChangeValue) (phase : Phase) → IsFirstPhase phase → new_pair (is_indexed s.life) c ≡ None → SetsRow s c phase
sets_first s c phase first none = record {
  does = λ t x older. first.does s t x older c ∙ ap (undone_first s t x c older first.applied) none;
  says = λ t older. first.says (is_indexed s.life) t older c ∙ ap (λ o. Some (begun_action t c (old_pair (is_indexed s.life) c) o)) none;
}

sets_second : (s : State) (c : ChangeValue) (phase : Phase) → IsProgressOf UndoesRow phase → SetsRow s c phase
sets_second s c phase marked = subst (SetsRow s c) (sym marked.1) (record { does = λ t x older. refl; says = λ t older. refl })

-- ---- the list without its last change
front : (older : List ChangeValue) (c : ChangeValue) (all : List ChangeValue) → older ++ c ∷ [] ≡ all → older ≡ take (length all - 1) all
front older c all e =
    let long : length older ≡ length (older ++ c ∷ []) - 1 = omega (arith, length-append older (c ∷ [])) in
    sym (take-append_seam older (c ∷ [])) ∙ ap (λ n. take n (older ++ c ∷ [])) long ∙ ap (λ xs. take (length xs - 1) xs) e

-- ---- of a transaction
module _ (v : CoreValue) (s : State) (k : Standing) (st : IsState v s k) (t : ℕ) (x : TxnState) (here : txn_shown v t ≡ Some x) where
  abbrev h : Shows v s k
  h = st.shown

  same_index : is_indexed s.life ≡ is_indexed v.life
  same_index = ap is_indexed h.life

  safe : IsSafe v
  safe = record { state = s; standing = k; is = st }

  same_places : reserved_of (txn_shown v t) ≡ x.reserved
  same_places = ap reserved_of here

  within : x.reserved ≤ v.index.pledged
  within = reserved_within v t x here safe

  module _ (c : ChangeValue) (last : last_change x ≡ Some c) where
    older : (cs : Changes) × ((txn_at s t).changes ≡ cs ▹ c)
    older = newest_last v s k st t x here c last

    old_is : old_pair (is_indexed s.life) c ≡ old_pair (is_indexed v.life) c
    old_is = ap (λ b. old_pair b c) same_index

    new_is : new_pair (is_indexed s.life) c ≡ new_pair (is_indexed v.life) c
    new_is = ap (λ b. new_pair b c) same_index

    changed : (txn_at s t).changes ≢ Unchanged
    changed none = let is : Unchanged ≡ older.0 ▹ c = sym none ∙ older.1 in cc

    -- ---- the transaction after the step
    still_listed : as_list (txn_at s t).changes ≡ x.changes
    still_listed = listed v s k h t x here

    popped_txn : (n : ℕ) → ShowsTxn (without_last (put_at Rolling n x)) (without_newest older.0)
    popped_txn n = record { changes = front (as_list older.0) c x.changes (ap as_list (sym older.1) ∙ still_listed); phase = refl; rolling = refl }

    abbrev put_list : ℕ → List (ℕ × TxnState)
    put_list n = table.with_state (put_at Rolling n) t v.txns.active

    popped_list : (n : ℕ) → IsNow v.txns.active t (without_last (put_at Rolling n x)) (table.with_state without_last t (put_list n))
    popped_list n =
        let first = put_now v.txns.active t x here Rolling n in
        now_then v.txns.active t (put_at Rolling n x) (without_last (put_at Rolling n x)) (put_list n) (table.with_state without_last t (put_list n)) first
        (popped_now (put_list n) t (put_at Rolling n x) (now_here v.txns.active t (put_at Rolling n x) (put_list n) first))

    -- ---- what is made of the state
    abbrev stepped_by : State → State
    stepped_by z = record z { pledges = with_places s t 0 z.entries }

    after_is : after s (Undo t) ≡ stepped_by (undone s t (txn_at s t) (older.0 ▹ c) (txn_at s t).phase)
    after_is = ap (λ cs. stepped_by (undone s t (txn_at s t) cs (txn_at s t).phase)) older.1

    action_is : action_of s (Undo t) ≡ undo_action (is_indexed s.life) t (older.0 ▹ c) (txn_at s t).phase
    action_is = ap (λ cs. undo_action (is_indexed s.life) t cs (txn_at s t).phase) older.1

    answer : v.last < LAST_NUMBER → (v' : CoreValue) → Shows v' (after s (Undo t)) (record k { made = k.made + 1 })
        → v'.outbox ≡ v.outbox ++ one_record v.last (action_of s (Undo t)) → Answers v s k (Event.Undo t) Undone v'
    answer numbered v' shown waits = made v s k h (Event.Undo t) (known v s k h t x here) tt refl Undone (Undo t) (inr (changed, refl), refl) (λ n. n) (λ n.
        numbered) v' shown waits

    -- ---- the row is restored
    module _ (sets : SetsRow s c (txn_at s t).phase) where
      abbrev row_state : Option Pair → State
      row_state o = record s {
        rows = set_at s.rows c.rid (old_row c.rows);
        txns = with_txn s t (core.row_undone (txn_at s t) older.0 o);
        pledges = with_places s t 0 s.entries;
      }

      row_is : (o : Option Pair) → old_pair (is_indexed v.life) c ≡ o → after s (Undo t) ≡ row_state o
      row_is o e = after_is ∙ ap stepped_by (sets.does t (txn_at s t) older.0) ∙ ap row_state (old_is ∙ e)

      row_says : (o : Option Pair) → old_pair (is_indexed v.life) c ≡ o → action_of s (Undo t) ≡ Some (undo t Slot c (is_last o))
      row_says o e = action_is ∙ sets.says t older.0 ∙ ap (λ q. Some (undo t Slot c (is_last q))) (old_is ∙ e)

      row_shown : (o : Option Pair) → old_pair (is_indexed v.life) c ≡ o → Shows (row_restored v t c o) (after s (Undo t)) (record k { made = k.made + 1 })
      row_shown None e =
          subst (λ z. Shows (row_restored v t c None) z (record k { made = k.made + 1 })) (sym (row_is None e))
          (row_moved v s k h t x here (without_last (put_at Rolling (reserved_of (txn_shown v t)) x)) (without_newest older.0) (popped_txn _) _ (popped_list _)
          (row_restored v t c None).outbox c.rid (old_row c.rows) same_places)
      row_shown (Some p) e =
          subst (λ z. Shows (row_restored v t c (Some p)) z (record k { made = k.made + 1 })) (sym (row_is (Some p) e))
          (row_moved v s k h t x here (put_at UndoesEntry (reserved_of (txn_shown v t)) x) (undoing (txn_at s t) OldSet)
          (record { changes = still_listed; phase = refl; rolling = refl }) _ (put_now v.txns.active t x here UndoesEntry _)
          (row_restored v t c (Some p)).outbox c.rid (old_row c.rows) same_places)

      row_waits : (o : Option Pair) → old_pair (is_indexed v.life) c ≡ o → (row_restored v t c o).outbox ≡ v.outbox ++ one_record v.last (action_of s (Undo t))
      row_waits None e = ap (λ a. v.outbox ++ one_record v.last a) (sym (row_says None e))
      row_waits (Some p) e = ap (λ a. v.outbox ++ one_record v.last a) (sym (row_says (Some p) e))

      row_answers : v.last < LAST_NUMBER → Answers v s k (Event.Undo t) Undone (row_restored v t c (old_pair (is_indexed v.life) c))
      row_answers numbered = answer numbered _ (row_shown _ refl) (row_waits _ refl)

    -- ---- the new entry is marked, or the row is restored
    module _ (first : IsFirstPhase (txn_at s t).phase) where
      abbrev mark_state : Pair → State
      mark_state p = record s {
        entries = set_at s.entries p (Some Marked);
        txns = with_txn s t (undoing (txn_at s t) (NewMarked first.applied));
        pledges = with_places s t 0 (set_at s.entries p (Some Marked));
      }

      mark_is : (p : Pair) → new_pair (is_indexed v.life) c ≡ Some p → after s (Undo t) ≡ mark_state p
      mark_is p e = after_is ∙ ap stepped_by (first.does s t (txn_at s t) older.0 c ∙ ap (undone_first s t (txn_at s t) c older.0 first.applied) (new_is ∙ e))

      mark_says : (p : Pair) → new_pair (is_indexed v.life) c ≡ Some p → action_of s (Undo t) ≡ Some (undo t NewEntry c false)
      mark_says p e = action_is ∙ first.says (is_indexed s.life) t older.0 c ∙ ap (λ q. Some (begun_action t c (old_pair (is_indexed s.life) c) q)) (new_is ∙ e)

      begun_answers : v.last < LAST_NUMBER → (new : Option Pair) → new_pair (is_indexed v.life) c ≡ new
          → Answers v s k (Event.Undo t) Undone (undo_begun v t c (old_pair (is_indexed v.life) c) new)
      begun_answers numbered None e = row_answers (sets_first s c (txn_at s t).phase first (new_is ∙ e)) numbered
      begun_answers numbered (Some p) e =
          answer numbered _
          (subst (λ z. Shows (undo_begun v t c (old_pair (is_indexed v.life) c) (Some p)) z (record k { made = k.made + 1 })) (sym (mark_is p e))
          (entry_moved v s k h t x here (put_at UndoesRow (reserved_of (txn_shown v t) - pledges_used (get v.index.entries p)) x)
          (undoing (txn_at s t) (NewMarked first.applied)) (record { changes = still_listed; phase = (first.applied, refl); rolling = refl }) _
          (put_now v.txns.active t x here UndoesRow _) (undo_begun v t c (old_pair (is_indexed v.life) c) (Some p)).outbox p Marked
          (ap (λ n. n - pledges_used (get v.index.entries p)) same_places) (new_paid v s k st t x here c older.0 older.1 p e) within))
          (ap (λ a. v.outbox ++ one_record v.last a) (sym (mark_says p e)))

    -- ---- the old entry is live again
    module _ (is_set : (txn_at s t).phase ≡ OldSet) (p : Pair) (pair : old_pair (is_indexed v.life) c ≡ Some p) where
      abbrev live_state : State
      live_state = record s {
        entries = set_at s.entries p (Some Live);
        txns = with_txn s t (without_newest older.0);
        pledges = with_places s t 0 (set_at s.entries p (Some Live));
      }

      live_is : after s (Undo t) ≡ live_state
      live_is = after_is ∙ ap (λ phase. stepped_by (undone s t (txn_at s t) (older.0 ▹ c) phase)) is_set
          ∙ ap (λ o. stepped_by (record s { entries = with_entry s.entries o Live; txns = with_txn s t (without_newest older.0) })) (old_is ∙ pair)

      live_says : action_of s (Undo t) ≡ Some (undo t OldEntry c true)
      live_says = action_is ∙ ap (undo_action (is_indexed s.life) t (older.0 ▹ c)) is_set

      live_answers : v.last < LAST_NUMBER → Answers v s k (Event.Undo t) Undone (entry_restored v t c p)
      live_answers numbered =
          answer numbered _
          (subst (λ z. Shows (entry_restored v t c p) z (record k { made = k.made + 1 })) (sym live_is)
          (entry_moved v s k h t x here (without_last (put_at Rolling (reserved_of (txn_shown v t) - pledges_used (get v.index.entries p)) x))
          (without_newest older.0) (popped_txn _) _ (popped_list _) (entry_restored v t c p).outbox p Live
          (ap (λ n. n - pledges_used (get v.index.entries p)) same_places) (old_paid v s k st t x here c older.0 older.1 p pair) within))
          (ap (λ a. v.outbox ++ one_record v.last a) (sym live_says))

    -- ---- nothing but a number or memory refuses it
    makes_by : (phase : Phase) → undo_action (is_indexed s.life) t (older.0 ▹ c) phase ≢ None
    makes_by OldMarked e = not_none refl e
    makes_by RowSet e = not_none refl e
    makes_by Made e = not_none refl e
    makes_by (NewMarked applied) e = not_none refl e
    makes_by OldSet e = not_none refl e

    makes : action_of s (Undo t) ≢ None
    makes none = makes_by (txn_at s t).phase (sym action_is ∙ none)

    spent_answers : LAST_NUMBER ≤ v.last → Answers v s k (Event.Undo t) (Refused Error.Exhausted) v
    spent_answers le = no_number v s k h (Event.Undo t) (known v s k h t x here) tt refl Undone (Undo t) (inr (changed, refl), refl) (λ n. n) makes le

    wants_answers : v.last < LAST_NUMBER → Answers v s k (Event.Undo t) (Refused Error.NoMemory) v
    wants_answers numbered = wants_memory v s k h (Event.Undo t) (known v s k h t x here) tt refl Undone (Undo t) (inr (changed, refl), refl) (λ n. n) (λ n.
        numbered) (inl makes)

  -- ---- no change is left
  module _ (none : last_change x ≡ None) where
    empty : (txn_at s t).changes ≡ Unchanged
    empty = none_changed v s k st t x here none

    no_changes : x.changes ≡ []
    no_changes = sym (listed v s k h t x here) ∙ ap as_list empty

    phase_is : (txn_at s t).phase ≡ Made
    phase_is = subst (λ cs. IsShaped (is_indexed s.life) cs (txn_at s t).phase) empty (shaped v s k st t x here)

    abbrev empty_state : State
    empty_state = record s { txns = with_txn s t (undoing (txn_at s t) (txn_at s t).phase); pledges = with_places s t 0 s.entries }

    empty_is : after s (Undo t) ≡ empty_state
    empty_is = ap (λ cs. record (undone s t (txn_at s t) cs (txn_at s t).phase)
        { pledges = with_places s t 0 (undone s t (txn_at s t) cs (txn_at s t).phase).entries }) empty

    no_action : action_of s (Undo t) ≡ None
    no_action = ap (λ cs. undo_action (is_indexed s.life) t cs (txn_at s t).phase) empty

    now : IsNow v.txns.active t (without_last x) (table.with_state without_last t v.txns.active)
    now = popped_now v.txns.active t x here

    same_made : k ≡ record k { made = v.last }
    same_made = ap (λ n. record k { made = n }) h.made

    did_nothing : HasMoved v s k h t x here (without_last x) (newest_taken_off v t) empty_state k
    did_nothing = record {
      rows = h.rows;
      entries = h.entries;
      txn = undoing (txn_at s t) (txn_at s t).phase;
      txns = refl;
      is = record {
        changes = listed v s k h t x here ∙ no_changes ∙ ap (λ xs. take (length xs - 1) xs) (sym no_changes);
        phase = phase_is;
        rolling = refl;
      };
      holder = λ q. h.holder q ∙ sym (now.holders q);
      places = ap (insert s.pledges t) (sums _ (len s.entries) _ (places_are v s k h t x here));
      pledged = refl;
      states = now.states;
      rest = record {
        life = refl;
        pages = refl;
        capacity = refl;
        cleaned = refl;
        scan = refl;
        tried = refl;
        attempts = refl;
        commits = refl;
        begun = refl;
        many = now.many;
        same_life = refl;
        same_pages = refl;
        same_places = refl;
        same_cleaned = refl;
        same_bound = refl;
        same_given = refl;
        same_missed = refl;
        same_taken = refl;
      };
      standing = same_made;
    }
      where
        sums : (r n r' : ℕ) → r ≡ r' → r + 0 - (n - n) ≡ r'
        sums r n r' e = omega (arith, e)

    empty_answers : Answers v s k (Event.Undo t) Empty (newest_taken_off v t)
    empty_answers = made v s k h (Event.Undo t) (known v s k h t x here) tt refl Empty (Undo t) (inl (empty, refl), refl) (λ n. n) (λ n. absurd (n no_action))
        (newest_taken_off v t)
        (subst (λ z. Shows (newest_taken_off v t) z k) (sym empty_is)
        (moved_shown v s k h t x here (without_last x) (newest_taken_off v t) empty_state k did_nothing))
        (sym (append-nil v.outbox) ∙ ap (λ o. v.outbox ++ one_record v.last o) (sym no_action))

-- ---- whether a transaction is active
pub has_progress : (o : Option TxnState) → o ≢ None → option_map (λ (y : TxnState). y.progress) o ≡ None → ⊥
has_progress None there e = there refl
has_progress (Some x) there e = absurd cc

pub not_there : (o : Option TxnState) → is_some o ≡ false → o ≡ None
not_there None e = refl
not_there (Some x) e = absurd cc

pub is_there : (o : Option TxnState) → is_some o ≡ true → o ≢ None
is_there None e none = absurd cc
is_there (Some x) e none = not_none refl none

-- ---- whatever state the core stands for
module _ (v : CoreValue) (t : ℕ) where
  -- a transaction that has no change, and one that is not active
  pub nothing_left : option_and_then last_change (txn_shown v t) ≡ None → txn_shown v t ≢ None → (v' : CoreValue) → v' ≡ newest_taken_off v t
      → Serves v (Event.Undo t) Empty v'
  nothing_left none active v' same s k is =
      let x = there v t active in
      subst (Answers v s k (Event.Undo t) Empty) (sym same) (empty_answers v s k is t x.0 x.1 (ap (option_and_then last_change) (sym x.1) ∙ none))

  pub undo_unknown : txn_shown v t ≡ None → Serves v (Event.Undo t) (Refused NoSuchTxn) v
  undo_unknown none s k is = refusal v s k (Event.Undo t) NoSuchTxn is.shown (unknown (no_txn v s k is.shown t none))

  module _ (c : ChangeValue) (newest : option_and_then last_change (txn_shown v t) ≡ Some c) where
    of_txn : (x : TxnState) × (txn_shown v t ≡ Some x) × (last_change x ≡ Some c)
    of_txn = some_txn (txn_shown v t) c newest

    pub undo_refused : (error : Error) → HasNoRecord v t error → Serves v (Event.Undo t) (Refused error) v
    undo_refused error (inl why) s k is = subst (λ n. Answers v s k (Event.Undo t) (Refused n) v) (sym why.0) (undo_unknown why.1 s k is)
    undo_refused error (inr why) s k is = subst (λ n. Answers v s k (Event.Undo t) (Refused n) v) (sym why.0)
        (spent_answers v s k is t of_txn.0 of_txn.1 c of_txn.2 why.2)

    module _ (has : HasRecord v t) where
      pub undo_wants : (error : Error) (v' : CoreValue) → error ≡ Error.NoMemory → v' ≡ v → Serves v (Event.Undo t) (Refused error) v'
      undo_wants error v' e same s k is =
          subst (λ w. Answers v s k (Event.Undo t) (Refused error) w) (sym same)
          (subst (λ n. Answers v s k (Event.Undo t) (Refused n) v) (sym e) (wants_answers v s k is t of_txn.0 of_txn.1 c of_txn.2 has.numbered))

      -- by how far the transaction is
      module _ (f : Progress) (at_f : ◌≡◌ {A = Option Progress} (Some f) (option_map (λ (y : TxnState). y.progress) (txn_shown v t))) where
        so : (g : Progress) → f ≡ g → of_txn.0.progress ≡ g
        so g e = so_far of_txn.0 (txn_shown v t) of_txn.1 f g at_f e

        phase : (s : State) (k : Standing) (is : IsState v s k) (g : Progress) → f ≡ g → IsProgressOf g (txn_at s t).phase
        phase s k is g e = subst (λ p. IsProgressOf p (txn_at s t).phase) (so g e) (phase_of v s k is t of_txn.0 of_txn.1)

        -- the change has the entry that is owed
        entry_there : (s : State) (k : Standing) (is : IsState v s k) → f ≡ UndoesEntry → (p : Pair) × (old_pair (is_indexed v.life) c ≡ Some p)
        entry_there s k is is_entry =
            let first = newest_last v s k is t of_txn.0 of_txn.1 c of_txn.2 in
            let has_shape : HasShape (is_indexed s.life) c OldSet =
            subst (HasShape (is_indexed s.life) c) (phase s k is UndoesEntry is_entry) (shape v s k is t of_txn.0 of_txn.1 c first.0 first.1) in
            (has_shape.it, ap (λ life. old_pair (is_indexed life) c) (sym is.shown.life) ∙ has_shape.is)

        pub entry_moved_back : part_to_undo f ≡ OldEntry → IsSafe v → old_pair (is_indexed v.life) c ≢ None
        entry_moved_back is_entry safe = not_none (entry_there safe.state safe.standing safe.is (undoes_entry f is_entry)).1

        pub row_back : part_to_undo f ≡ Slot → (v' : CoreValue) → v' ≡ row_restored v t c (old_pair (is_indexed v.life) c) → Serves v (Event.Undo t) Undone v'
        row_back is_row v' same s k is = subst (Answers v s k (Event.Undo t) Undone) (sym same)
            (row_answers v s k is t of_txn.0 of_txn.1 c of_txn.2
            (sets_second s c (txn_at s t).phase (phase s k is UndoesRow (undoes_row f is_row))) has.numbered)

        pub begun_back : part_to_undo f ≡ NewEntry → (v' : CoreValue) → v' ≡ undo_begun v t c (old_pair (is_indexed v.life) c) (new_pair (is_indexed v.life) c)
            → Serves v (Event.Undo t) Undone v'
        begun_back un v' same s k is = subst (Answers v s k (Event.Undo t) Undone) (sym same)
            (begun_answers v s k is t of_txn.0 of_txn.1 c of_txn.2 (first_by f (txn_at s t).phase un (phase s k is f refl)) has.numbered _ refl)

        pub entry_back : part_to_undo f ≡ OldEntry → (v' : CoreValue) → ((p : Pair) → old_pair (is_indexed v.life) c ≡ Some p → v' ≡ entry_restored v t c p)
            → Serves v (Event.Undo t) Undone v'
        entry_back is_entry v' same s k is =
            let p = entry_there s k is (undoes_entry f is_entry) in
            subst (Answers v s k (Event.Undo t) Undone) (sym (same p.0 p.1))
            (live_answers v s k is t of_txn.0 of_txn.1 c of_txn.2 (phase s k is UndoesEntry (undoes_entry f is_entry)) p.0 p.1 has.numbered)

-- ---- what the code needs to know
pub old_enough : (v : CoreValue) (t : ℕ) (c : ChangeValue) → option_and_then last_change (txn_shown v t) ≡ Some c → (p : Pair)
    → old_pair (is_indexed v.life) c ≡ Some p → IsSafe v → pledges_used (get v.index.entries p) ≤ reserved_of (txn_shown v t)
old_enough v t c newest p pair safe =
    let x = some_txn (txn_shown v t) c newest in
    let first = newest_last v safe.state safe.standing safe.is t x.0 x.1 c x.2 in
    subst (λ o. pledges_used (get v.index.entries p) ≤ reserved_of o) (sym x.1) (old_paid v safe.state safe.standing safe.is t x.0 x.1 c first.0 first.1 p pair)
