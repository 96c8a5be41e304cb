-- Which replies to an insertion are allowed.
use Rattle.core_model.specs.Changes.{as_list}
use Rattle.std.proofs.Common.{Bool, Err, List, None, Ok, Option, Result, Some, [], ap, arith, cond, false, inl, inr, leb}
use Rattle.std.proofs.Common.{leb-false, length, refl, subst, sym, true, ℕ, ◌++◌, ◌+◌}
use Rattle.std.proofs.Common.{◌<◌, ◌∙◌, ◌≡◌, ◌≢◌, ◌≤◌}
use Rattle.std.proofs.lemmas.Bool.Decides.{nat_tests}
use Rattle.std.specs.FinMap.{get, len}
use Rattle.std.specs.Option.{option_or}
use Rattle.std.specs.Ordering.{is_lt}
use Rattle.std.specs.Prelude.{Contains, IfOk, IsSome, ◌↔◌}
use Rattle.std.specs.declared.cmp.Ordering.{Ordering}
use Rattle.std.specs.declared.cmp.Ordering.TheVariants.{Equal, Greater, Less}
use Rattle.heap_pages.specs.Pages as heap
use Rattle.records.specs.ChangeValue.{ChangeValue}
use Rattle.record_values.specs.Orders.{rid_cmp}
use Rattle.record_values.specs.Values.{Place}
use Rattle.records.specs.declared.change.Rows.TheVariants.{Inserted}
use Rattle.records.specs.declared.change.TheConstants.{CHANGES_MAX}
use Rattle.record_values.specs.declared.error.Error.{Error}
use Rattle.record_values.specs.declared.error.Error.TheVariants.{NoSuchTxn, TooManyChanges}
use Rattle.record_values.specs.declared.limits.TheConstants.{PLACES_PER_CHANGE}
use Rattle.record_values.specs.declared.number.TheConstants.{LAST_NUMBER}
use Rattle.records.specs.declared.record.Action.TheVariants.{OfTxn}
use Rattle.records.specs.declared.record.Part.TheVariants.{Slot}
use Rattle.records.specs.declared.record.TxnAction.TheVariants.{Forward}
use Rattle.record_values.specs.declared.row.Row.{Row}
use Rattle.model.specs.Pairs.{is_indexed, old_pair}
use Rattle.txn_table.specs.Table as table
use Rattle.txn_table.specs.Table.{TxnState, holder_of}
use Rattle.txn_table.specs.declared.progress.Progress.TheVariants.{Ready}
use Rattle.core_model.proofs.Laws.{not_none}
use Rattle.core_model.specs.Logs.{one_record}
use Rattle.core_model.specs.Records.{action_of, first_action}
use Rattle.core_model.specs.States.{State}
use Rattle.core_model.specs.Steps.{IsReady, Start, MachineStep, after, all_reserved, places_of, txn_at}
use Rattle.core_model.specs.Events.{Event, Refused, Reply, Standing}
use Rattle.core_model.specs.Replies.{HasNoMoreChanges, IsStepDue, IsFirst, IsFree, IsLeastFree, change_of, refusals, refused, refused_last, unknown}
use Rattle.core_parts.specs.Asked.{IsFine}
use Rattle.core_parts.specs.View.{Answers, AreOne, CoreValue, IsState, Serves, Shows}
use Rattle.core_parts.specs.Moves.{IsReadyOrNone, txn_shown}
use Rattle.core_parts.specs.Private.{is_full, is_unknown, HasPlacesLeft, IsAble, IsFreePlace, IsPlaceFor, IsUnable, IsUnroomy, MayStart, changes_of}
use Rattle.core_parts.specs.Private.{next_change}
use Rattle.core_parts.specs.Private.{row_first}
use Rattle.core_parts.proofs.Due.{made, no_number, refusal, wants_memory}
use Rattle.core_parts.proofs.Moved.{is_ready, known, many}
use Rattle.core_parts.proofs.Started.{row_shown}

-- ---- what refuses any change
pub no_txn : (v : CoreValue) (s : State) (k : Standing) → Shows v s k → (t : ℕ) → txn_shown v t ≡ None → s.txns t ≡ None
no_txn v s k h t none = subst (λ o. AreOne o (s.txns t)) none (h.txns t)

pub some_is : {A : Type 0} (a b : A) → (◌≡◌ {A = Option A} (Some a) (Some b)) → a ≡ b
some_is a b e = cc

pub unable : (v : CoreValue) (t : ℕ) (e : Error) → table.change_refusal t v.txns.active ≡ Some e → IsUnable v t e
unable v t e same = by_txn (txn_shown v t) refl same
  where
    by_many : (x : TxnState) → txn_shown v t ≡ Some x → (b : Bool) → leb CHANGES_MAX (length x.changes) ≡ b → cond b (Some TooManyChanges) None ≡ Some e
        → IsUnable v t e
    by_many x here true is same = is_full x here (grind (arith, nat_tests, is)) (sym (some_is TooManyChanges e same))
    by_many x here false is same = absurd cc

    by_txn : (o : Option TxnState) → txn_shown v t ≡ o → table.full_refusal o ≡ Some e → IsUnable v t e
    by_txn None here same = is_unknown here (sym (some_is NoSuchTxn e same))
    by_txn (Some x) here same = by_many x here (leb CHANGES_MAX (length x.changes)) refl same

pub able : (v : CoreValue) (t : ℕ) → table.change_refusal t v.txns.active ≡ None → IsAble v t
able v t same = by_txn (txn_shown v t) refl same
  where
    by_many : (x : TxnState) → txn_shown v t ≡ Some x → (b : Bool) → leb CHANGES_MAX (length x.changes) ≡ b → cond b (Some TooManyChanges) None ≡ None
        → IsAble v t
    by_many x here true is same = absurd cc
    by_many x here false is same = record { txn = x; here = here; room = leb-false CHANGES_MAX (length x.changes) is }

    by_txn : (o : Option TxnState) → txn_shown v t ≡ o → table.full_refusal o ≡ None → IsAble v t
    by_txn None here same = absurd cc
    by_txn (Some x) here same = by_many x here (leb CHANGES_MAX (length x.changes)) refl same

-- ---- room and numbers
pub has_places : (v : CoreValue) (s : State) (k : Standing) → Shows v s k → HasPlacesLeft v → (is_indexed s.life ≡ true)
    × (s.places < len s.entries + all_reserved s.pledges + places_of true) → ⊥
has_places v s k h fits less = more _ _ _ _ _ _ h.places (ap len h.entries) h.pledged (fits (ap is_indexed (sym h.life) ∙ less.0)) less.1
  where
    more : (p n r p' n' r' : ℕ) → p ≡ p' → n ≡ n' → r ≡ r' → n' + r' + PLACES_PER_CHANGE ≤ p' → p < n + r + PLACES_PER_CHANGE → ⊥
    more p n r p' n' r' e f g le less = omega (arith, e, f, g, le, less)

pub lacks_places : (v : CoreValue) (s : State) (k : Standing) → Shows v s k → (is_indexed v.life ≡ true)
    → v.index.capacity < len v.index.entries + v.index.pledged + PLACES_PER_CHANGE → (is_indexed s.life ≡ true)
    × (s.places < len s.entries + all_reserved s.pledges + places_of true)
lacks_places v s k h is less = (ap is_indexed h.life ∙ is, more _ _ _ _ _ _ h.places (ap len h.entries) h.pledged less)
  where
    more : (p n r p' n' r' : ℕ) → p ≡ p' → n ≡ n' → r ≡ r' → p' < n' + r' + PLACES_PER_CHANGE → p < n + r + PLACES_PER_CHANGE
    more p n r p' n' r' e f g less = omega (arith, e, f, g, less)

pub same_position : (v : CoreValue) (s : State) (k : Standing) → Shows v s k → (t : ℕ) (x : TxnState) → txn_shown v t ≡ Some x
    → length (as_list (txn_at s t).changes) ≡ changes_of (txn_shown v t)
same_position v s k h t x here = many v s k h t x here ∙ sym (ap changes_of here)

pub not_full : (v : CoreValue) (s : State) (k : Standing) → Shows v s k → (t : ℕ) (a : IsAble v t) → HasNoMoreChanges s t → ⊥
not_full v s k h t a le = apart _ _ (many v s k h t a.txn a.here) le a.room
  where
    apart : (n m : ℕ) → n ≡ m → CHANGES_MAX ≤ n → m < CHANGES_MAX → ⊥
    apart n m e l r = omega (arith, e, l, r)

pub full : (v : CoreValue) (s : State) (k : Standing) → Shows v s k → (t : ℕ) (x : TxnState) → txn_shown v t ≡ Some x → CHANGES_MAX ≤ length x.changes
    → HasNoMoreChanges s t
full v s k h t x here le = subst (λ n. CHANGES_MAX ≤ n) (sym (many v s k h t x here)) le

-- ---- an insertion
not_less : (o : Ordering) → o ≢ Less → is_lt o ≡ false
not_less Less n = absurd (n refl)
not_less Equal n = refl
not_less Greater n = refl

none_or_some : {T : Type 0} (o : Option T) → o ≡ None → IsSome o → ⊥
none_or_some None is some = absurd cc
none_or_some (Some x) is some = absurd cc

unheld_by : (o : Option ℕ) → (IsSome o → ⊥) → o ≡ None
unheld_by None h = refl
unheld_by (Some u) h = absurd (h refl)

none_listed : (q : Place) → ¬ Contains [] q
none_listed q at = absurd (omega (arith, at.1))

-- what the heap finds is the place for the row
pub is_place : (v : CoreValue) (held : List Place) → ((r : Place) → Contains held r ↔ IsSome (holder_of r v.txns.active)) → (r : Place)
    → heap.IsEmptyAndUnheld v.heap held r → ((q : Place) → heap.IsEmptyAndUnheld v.heap held q → rid_cmp q r ≢ Less) → IsPlaceFor v r
is_place v held are r free least = record {
  free = record { inside = free.inside; empty = free.empty; unheld = unheld_by _ (λ some. free.not_held ((are r).1 some)) };
  least = λ q other. least q (record {
    inside = other.inside;
    empty = other.empty;
    not_held = λ has.
        none_or_some (holder_of q v.txns.active) other.unheld ((are q).0 has);
  });
}

pub place_by : (v : CoreValue) (held : List Place) → ((r : Place) → Contains held r ↔ IsSome (holder_of r v.txns.active)) → (found : Result Place Error)
    → IfOk found (heap.IsEmptyAndUnheld v.heap held)
    → IfOk found (λ r. (q : Place) → heap.IsEmptyAndUnheld v.heap held q → rid_cmp q r ≢ Less) → IfOk found (IsPlaceFor v)
place_by v held are (Ok r) free least = is_place v held are r free least
place_by v held are (Err error) free least = tt

-- so it is where no list was given, and nobody holds what it finds
pub is_unheld_place : (v : CoreValue) (r : Place) → heap.IsEmptyAndUnheld v.heap [] r
    → ((q : Place) → heap.IsEmptyAndUnheld v.heap [] q → rid_cmp q r ≢ Less) → holder_of r v.txns.active ≡ None → IsPlaceFor v r
is_unheld_place v r free least unheld = record {
  free = record { inside = free.inside; empty = free.empty; unheld = unheld };
  least = λ q other. least q (record { inside = other.inside; empty = other.empty; not_held = none_listed q });
}

-- where the heap finds no empty place, none is free
pub no_empty_place : (v : CoreValue) → ((q : Place) → ¬ heap.IsEmptyAndUnheld v.heap [] q) → (q : Place) → ¬ IsFreePlace v q
no_empty_place v none q free = none q (record { inside = free.inside; empty = free.empty; not_held = none_listed q })

-- nor where it finds none that is not among the held ones
pub no_place : (v : CoreValue) (held : List Place) → ((r : Place) → Contains held r ↔ IsSome (holder_of r v.txns.active))
    → ((q : Place) → ¬ heap.IsEmptyAndUnheld v.heap held q) → (q : Place) → ¬ IsFreePlace v q
no_place v held are none q free = none q (record {
  inside = free.inside;
  empty = free.empty;
  not_held = λ has. none_or_some (holder_of q v.txns.active) free.unheld ((are q).0 has);
})

-- a place that nobody holds is there to touch
pub untouched : (t : ℕ) (r : Place) (es : List (ℕ × TxnState)) → table.change_refusal t es ≡ None → holder_of r es ≡ None → table.touch_refusal t r es ≡ None
untouched t r es may unheld = ap (λ (o : Option Error). option_or o (table.busy_refusal t (holder_of r es))) may
    ∙ ap (λ (o : Option ℕ). option_or None (table.busy_refusal t o)) unheld

pub may_start : (v : CoreValue) (t : ℕ) (r : Place) → table.change_refusal t v.txns.active ≡ None → IsPlaceFor v r → HasPlacesLeft v → v.last < LAST_NUMBER
    → MayStart v t r
may_start v t r may place fits numbered = record {
  able = able v t may;
  free = untouched t r v.txns.active may place.free.unheld;
  inside = place.free.inside.0;
  fits = fits;
  numbered = numbered;
}

module _ (v : CoreValue) (t : ℕ) (row : Row) (asked : IsReadyOrNone (txn_shown v t)) where
  abbrev e : Event
  e = Event.Insert t row

  pub insert_unable : (error : Error) → IsUnable v t error → Serves v e (Refused error) v
  insert_unable error (is_unknown none is) s k st = subst (λ n. Answers v s k e (Refused n) v) (sym is)
      (refusal v s k e NoSuchTxn st.shown (unknown (no_txn v s k st.shown t none)))
  insert_unable error (is_full x here le is) s k st = subst (λ n. Answers v s k e (Refused n) v) (sym is)
      (refusal v s k e TooManyChanges st.shown (refused (known v s k st.shown t x here)
      (is_ready v s k st.shown t x here (subst IsReadyOrNone here asked)) TooManyChanges (inl (full v s k st.shown t x here le, refl))))

  module _ (a : IsAble v t) where
    ready : a.txn.progress ≡ Ready
    ready = subst IsReadyOrNone a.here asked

    pub insert_unplaced : ((q : Place) → ¬ IsFreePlace v q) → Serves v e (Refused Error.HeapFull) v
    insert_unplaced none s k st = refusal v s k e Error.HeapFull st.shown
        (refused (known v s k st.shown t a.txn a.here) (is_ready v s k st.shown t a.txn a.here ready) Error.HeapFull
        (inr (not_full v s k st.shown t a, inl (full_heap, refl))))
      where
        full_heap : (r : Place) → IsFree s r → ⊥
        full_heap r free = none r (record {
          inside = (subst (λ n. r.page < n) st.shown.pages free.inside, free.slot);
          empty = ap (λ m. get m r) (sym st.shown.rows) ∙ free.empty;
          unheld = sym (st.shown.holder r) ∙ free.unheld;
        })

    module _ (r : Place) (place : IsPlaceFor v r) (s : State) (k : Standing) (st : IsState v s k) where
      abbrev h : Shows v s k
      h = st.shown

      free_is : (q : Place) → IsFreePlace v q → IsFree s q
      free_is q free = record {
        inside = subst (λ n. q.page < n) (sym h.pages) free.inside.0;
        slot = free.inside.1;
        empty = ap (λ m. get m q) h.rows ∙ free.empty;
        unheld = h.holder q ∙ free.unheld;
      }

      place_is : (q : Place) → IsFree s q → IsFreePlace v q
      place_is q free = record {
        inside = (subst (λ n. q.page < n) h.pages free.inside, free.slot);
        empty = ap (λ m. get m q) (sym h.rows) ∙ free.empty;
        unheld = sym (h.holder q) ∙ free.unheld;
      }

      least : IsLeastFree s r
      least = record { free = free_is r place.free; least = λ q free. not_less (rid_cmp q r) (place.least q (place_is q free)) }

      first : IsFirst (refusals s k e) None
      first = inr (not_full v s k h t a, inr (λ none. none r least.free, refl))

      abbrev step : MachineStep
      step = Start t (change_of s t r (Inserted row))

      due : IsStepDue s k e (Reply.Rid r) (Some step)
      due = (r, least, refl, refl)

      there : s.txns t ≡ None → ⊥
      there = known v s k h t a.txn a.here

      proper : IsReady (txn_at s t)
      proper = is_ready v s k h t a.txn a.here ready

      makes : action_of s step ≢ None
      makes none = not_none refl none

      insert_full : is_indexed v.life ≡ true → v.index.capacity < len v.index.entries + v.index.pledged + PLACES_PER_CHANGE
          → Answers v s k e (Refused Error.IndexFull) v
      insert_full is less = refusal v s k e Error.IndexFull h
          (refused_last there proper first (Reply.Rid r) (Some step) due Error.IndexFull (inl (lacks_places v s k h is less, refl)))

      module _ (fits : HasPlacesLeft v) where
        insert_spent : LAST_NUMBER ≤ v.last → Answers v s k e (Refused Error.Exhausted) v
        insert_spent le = no_number v s k h e there proper first (Reply.Rid r) step due (has_places v s k h fits) makes le

        module _ (numbered : v.last < LAST_NUMBER) where
          insert_wants : Answers v s k e (Refused Error.NoMemory) v
          insert_wants = wants_memory v s k h e there proper first (Reply.Rid r) step due (has_places v s k h fits) (λ n. numbered) (inl makes)

          abbrev c : ChangeValue
          c = next_change v t r (Inserted row)

          same_change : change_of s t r (Inserted row) ≡ c
          same_change = ap (λ (n : ℕ). let w : ChangeValue = record { position = n; rid = r; rows = Inserted row } in w) (same_position v s k h t a.txn a.here)

          none_old : (b : Bool) (n : ℕ) → let w : ChangeValue = record { position = n; rid = r; rows = Inserted row } in old_pair b w ≡ None
          none_old false n = refl
          none_old true n = refl

          insert_made : holder_of r (row_first v t c).txns.active ≡ Some t → Answers v s k e (Reply.Rid r) (row_first v t c)
          insert_made held = made v s k h e there proper first (Reply.Rid r) step due (has_places v s k h fits) (λ n. numbered) (row_first v t c)
              (subst (λ w. Shows (row_first v t c) (after s (Start t w)) (record k { made = k.made + 1 })) (sym same_change)
              (row_shown v s k h t a.txn a.here ready c (none_old (is_indexed v.life) c.position) held))
              (ap (λ w. v.outbox ++ one_record v.last (Some w)) (sym action))
            where
              action : first_action t (change_of s t r (Inserted row)) (old_pair (is_indexed s.life) (change_of s t r (Inserted row)))
                  ≡ OfTxn t (Forward Slot c)
              action = ap (first_action t (change_of s t r (Inserted row))) (none_old (is_indexed s.life) (length (as_list (txn_at s t).changes)))
                  ∙ ap (λ w. OfTxn t (Forward Slot w)) same_change

  pub insert_unroomy : IsAble v t → (r : Place) → IsPlaceFor v r → (error : Error) → IsUnroomy v error → Serves v e (Refused error) v
  insert_unroomy a r place error (inl why) s k st = subst (λ n. Answers v s k e (Refused n) v) (sym why.0) (insert_full a r place s k st why.1.0 why.1.1)
  insert_unroomy a r place error (inr why) s k st = subst (λ n. Answers v s k e (Refused n) v) (sym why.0) (insert_spent a r place s k st why.1 why.2)

  module _ (r : Place) (place : IsPlaceFor v r) (may : MayStart v t r) where
    pub insert_no_memory : (error : Error) (v' : CoreValue) → error ≡ Error.NoMemory → v' ≡ v → Serves v e (Refused error) v'
    insert_no_memory error v' is same s k st = subst (λ w. Answers v s k e (Refused error) w) (sym same)
        (subst (λ n. Answers v s k e (Refused n) v) (sym is) (insert_wants may.able r place s k st may.fits may.numbered))

    pub insert_fine : IsFine v e
    insert_fine = insert_no_memory Error.NoMemory v refl refl

    pub insert_done : (change : ChangeValue) (v' : CoreValue) → change ≡ next_change v t r (Inserted row) → v' ≡ row_first v t change
        → holder_of change.rid (row_first v t change).txns.active ≡ Some t → Serves v e (Reply.Rid r) v'
    insert_done change v' is made held s k st =
        subst (λ w. Answers v s k e (Reply.Rid r) w) (sym (made ∙ ap (row_first v t) is))
        (insert_made may.able r place s k st may.fits may.numbered (subst (λ w. holder_of w.rid (row_first v t w).txns.active ≡ Some t) is held))
