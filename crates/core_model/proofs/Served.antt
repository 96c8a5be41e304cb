-- Events with allowed replies make a run, and tell its history.
use Rattle.std.proofs.Common.{Bool, List, None, Option, Some, [], ap, append-nil, arith, cond, false, inl, inr, is_some, length, nat_eq, not, refl, subst, suc}
use Rattle.std.proofs.Common.{sym, take, true, true≢false, zero, ℕ, ◌++◌, ◌+◌, ◌-◌, ◌<◌, ◌&&◌, ◌||◌, ◌∙◌, ◌∷◌, ◌≡◌, ◌≢◌, ◌≤◌, ◌⊎◌}
use Rattle.std.proofs.lemmas.Bool.{eq-eqb}
use Rattle.std.proofs.lemmas.Bool.Decides.{eqb_tells}
use Rattle.std.specs.Cmp.{nat_cmp_total}
use Rattle.std.specs.FinMap.{empty, empty_of_len, get, get-empty, insert, len, len-empty, len-insert, len-remove, nat_cmp-IsAntisymmetric, remove}
use Rattle.std.specs.Ordering.{nat_cmp}
use Rattle.std.specs.Prelude.{map}
use Rattle.records.specs.ChangeValue.{ChangeValue}
use Rattle.records.specs.declared.change.Rows.TheVariants.{Deleted, Inserted, Updated}
use Rattle.record_values.specs.declared.pair.Mark.{Mark}
use Rattle.record_values.specs.declared.pair.Pair.{Pair}
use Rattle.records.specs.declared.record.Action.{Action}
use Rattle.model.specs.History.{AreRising, Deed, Item, life_after, table_after}
use Rattle.model.specs.declared.life.Life.TheVariants.{Building, Complete}
use Rattle.model.specs.declared.write.Write.{Write}
use Rattle.core_model.proofs.Replies.{due_enabled, is_active}
use Rattle.core_model.specs.Events.{BuildReply, Txn, Built, CleanReply, Cleaned, Cleaner, Done, Empty, Event, Idle, Kept, Placed, Rejected, Reply, Scanned}
use Rattle.core_model.specs.Events.{Standing, Stepped, Undone, Wrapped, after_build, after_clean, standing_after, standing_at}
use Rattle.core_model.specs.Records.{action_of, next_action, place_action, undo_action}
use Rattle.core_model.specs.Logs.{HasMade, item_at, next_number, one_record}
use Rattle.records.specs.RecordValue.{RecordValue}
use Rattle.model.specs.Given.{IsBeginning, given_after}
use Rattle.std.proofs.lemmas.List.{append_assoc, length-append}
use Rattle.record_values.specs.declared.error.Error.{Error}
use Rattle.record_values.specs.declared.number.TheConstants.{LAST_NUMBER}
use Rattle.record_values.specs.declared.txn.TheConstants.{TXNS_MAX}
use Rattle.std.proofs.lemmas.Bool.{cases_lt}
use Rattle.core_model.specs.Replies.{IsAllowed, IsBuildDue, IsStepDue, IsFirst, IsOfNone, IsProper, accepted, after_any, build_step, change_of, clean_step}
use Rattle.core_model.specs.Replies.{last_refusals, refusals_of, no_memory, refusals, refused, refused_last, skipped, unknown}
use Rattle.core_model.specs.Served.{AreTakenOnce, HasCounts, HasServed, HasStanding, asked_over, records_by, IsEnabledAny, IsMove, ServesAll, asked_after}
use Rattle.core_model.specs.Served.{items_at, items_of, nothing, number_after, served}
use Rattle.core_model.proofs.Laws.{fit_step, interleaved, items_deeds, deeds, made_holds, made_more, made_nothing, made_recovers, nat_decided, not_none}
use Rattle.core_model.proofs.Laws.{txn_apart, update_apart, update_here}
use Rattle.core_model.specs.Changes.{Changes, Unchanged, new_pair, old_pair, ◌▹◌}
use Rattle.core_model.specs.Histories.{CanOpen, IsFaithful, Opened, deeds_of, no_writes, opened, writes_after}
use Rattle.core_model.specs.Invariants.{Invariant, IsShaped, IsWellFormed}
use Rattle.core_model.specs.States.{Active, Made, NewMarked, OldMarked, OldSet, Phase, Pledges, RowSet, State}
use Rattle.core_model.specs.Steps.{IsActive, IsBuilding, Next, Start, MachineStep, Take, after, carried_on, is_indexed, is_pair_of, new_txn, page_taken}
use Rattle.core_model.specs.Steps.{row_made, row_undone, started, txn_at, undoing, undone, undone_first, update, with_change, with_phase, with_txn}
use Rattle.core_model.specs.Steps.{without_newest}

-- ---- what the standing says stays
record SameScan (s s' : State) : Type 0 where
  pub pages : s'.pages ≡ s.pages
  pub bound : s'.bound ≡ s.bound
  pub given : s'.given ≡ s.given
  pub missed : s'.missed ≡ s.missed
  pub taken : s'.taken ≡ s.taken
  pub life : s'.life ≡ s.life

same_self : (s : State) → SameScan s s
same_self s = record { pages = refl; bound = refl; given = refl; missed = refl; taken = refl; life = refl }

scan_started : (s : State) (t : ℕ) (x : Active) (c : ChangeValue) (o : Option Pair) → SameScan s (started s t x c o)
scan_started s t x c None = record { pages = refl; bound = refl; given = refl; missed = refl; taken = refl; life = refl }
scan_started s t x c (Some p) = record { pages = refl; bound = refl; given = refl; missed = refl; taken = refl; life = refl }

scan_carried : (s : State) (t : ℕ) (x : Active) (cs : Changes) (phase : Phase) → SameScan s (carried_on s t x cs phase)
scan_carried s t x Unchanged phase = same_self s
scan_carried s t x (older ▹ c) OldMarked = record { pages = refl; bound = refl; given = refl; missed = refl; taken = refl; life = refl }
scan_carried s t x (older ▹ c) RowSet = record { pages = refl; bound = refl; given = refl; missed = refl; taken = refl; life = refl }
scan_carried s t x (older ▹ c) Made = same_self s
scan_carried s t x (older ▹ c) (NewMarked b) = same_self s
scan_carried s t x (older ▹ c) OldSet = same_self s

scan_first : (s : State) (t : ℕ) (x : Active) (c : ChangeValue) (older : Changes) (b : Bool) (o : Option Pair) → SameScan s (undone_first s t x c older b o)
scan_first s t x c older b None = record { pages = refl; bound = refl; given = refl; missed = refl; taken = refl; life = refl }
scan_first s t x c older b (Some p) = record { pages = refl; bound = refl; given = refl; missed = refl; taken = refl; life = refl }

scan_undone : (s : State) (t : ℕ) (x : Active) (cs : Changes) (phase : Phase) → SameScan s (undone s t x cs phase)
scan_undone s t x Unchanged phase = record { pages = refl; bound = refl; given = refl; missed = refl; taken = refl; life = refl }
scan_undone s t x (older ▹ c) OldMarked = scan_first s t x c older false (new_pair (is_indexed s.life) c)
scan_undone s t x (older ▹ c) RowSet = scan_first s t x c older true (new_pair (is_indexed s.life) c)
scan_undone s t x (older ▹ c) Made = scan_first s t x c older true (new_pair (is_indexed s.life) c)
scan_undone s t x (older ▹ c) (NewMarked b) = record { pages = refl; bound = refl; given = refl; missed = refl; taken = refl; life = refl }
scan_undone s t x (older ▹ c) OldSet = record { pages = refl; bound = refl; given = refl; missed = refl; taken = refl; life = refl }

-- no transaction has a greater number
module _ (s : State) (n : ℕ) (le : (u : ℕ) (y : Active) → s.txns u ≡ Some y → u ≤ n) where
  gone_le : (t u : ℕ) (y : Active) → update nat_cmp s.txns t None u ≡ Some y → u ≤ n
  gone_le t u y e = elim (nat_decided u t) [
    | inl same ↦ absurd (not_none e (ap (update nat_cmp s.txns t None) same ∙ update_here nat_cmp_total s.txns t None))
    | inr m ↦ le u y (sym (update_apart nat_cmp-IsAntisymmetric s.txns t None u m) ∙ e)
  ]

  begun_le : (u : ℕ) (y : Active) → with_txn s (n + 1) new_txn u ≡ Some y → u ≤ n + 1
  begun_le u y e = elim (nat_decided u (n + 1)) [
    | inl same ↦ rw same (omega arith)
    | inr m ↦ let before : u ≤ n = le u y (sym (txn_apart s (n + 1) new_txn u m) ∙ e) in omega (arith, before)
  ]

  module _ (t : ℕ) (x : Active) (active : s.txns t ≡ Some x) where
    put_le : (x' : Active) (u : ℕ) (y : Active) → with_txn s t x' u ≡ Some y → u ≤ n
    put_le x' u y e = elim (nat_decided u t) [
      | inl same ↦ rw same (le t x active)
      | inr m ↦ le u y (sym (txn_apart s t x' u m) ∙ e)
    ]

    started_le : (c : ChangeValue) (o : Option Pair) (u : ℕ) (y : Active) → (started s t x c o).txns u ≡ Some y → u ≤ n
    started_le c (Some p) u y e = put_le (with_change x c OldMarked) u y e
    started_le c None u y e = put_le (with_change x c (row_made (new_pair (is_indexed s.life) c))) u y e

    carried_le : (cs : Changes) (phase : Phase) (u : ℕ) (y : Active) → (carried_on s t x cs phase).txns u ≡ Some y → u ≤ n
    carried_le Unchanged phase u y e = le u y e
    carried_le (older ▹ c) OldMarked u y e = put_le (with_phase x (row_made (new_pair (is_indexed s.life) c))) u y e
    carried_le (older ▹ c) RowSet u y e = put_le (with_phase x Made) u y e
    carried_le (older ▹ c) Made u y e = le u y e
    carried_le (older ▹ c) (NewMarked b) u y e = le u y e
    carried_le (older ▹ c) OldSet u y e = le u y e

    first_le : (c : ChangeValue) (older : Changes) (b : Bool) (o : Option Pair) (u : ℕ) (y : Active) → (undone_first s t x c older b o).txns u ≡ Some y → u ≤ n
    first_le c older b (Some p) u y e = put_le (undoing x (NewMarked b)) u y e
    first_le c older b None u y e = put_le (row_undone x older (old_pair (is_indexed s.life) c)) u y e

    undone_le : (cs : Changes) (phase : Phase) (u : ℕ) (y : Active) → (undone s t x cs phase).txns u ≡ Some y → u ≤ n
    undone_le Unchanged phase u y e = put_le (undoing x phase) u y e
    undone_le (older ▹ c) OldMarked u y e = first_le c older false (new_pair (is_indexed s.life) c) u y e
    undone_le (older ▹ c) RowSet u y e = first_le c older true (new_pair (is_indexed s.life) c) u y e
    undone_le (older ▹ c) Made u y e = first_le c older true (new_pair (is_indexed s.life) c) u y e
    undone_le (older ▹ c) (NewMarked b) u y e = put_le (row_undone x older (old_pair (is_indexed s.life) c)) u y e
    undone_le (older ▹ c) OldSet u y e = put_le (without_newest older) u y e

-- ---- no page is taken twice
once_kept : (s s' : State) → SameScan s s' → AreTakenOnce s → AreTakenOnce s'
once_kept s s' v once = record {
  given = λ p e. let was = once.given p (sym (ap (λ f. f p) v.given) ∙ e) in (ap (λ f. f p.rid.page) v.taken ∙ was.0, ap (λ f. f p) v.missed ∙ was.1);
  missed = λ p e. ap (λ f. f p.rid.page) v.taken ∙ once.missed p (sym (ap (λ f. f p) v.missed) ∙ e);
}

none_taken : (s : State) → ((p : Pair) → s.given p ≡ false) → ((p : Pair) → s.missed p ≡ false) → AreTakenOnce s
none_taken s given missed = record { given = λ p e. absurd (true≢false (sym e ∙ given p)); missed = λ p e. absurd (true≢false (sym e ∙ missed p)) }

or_true : (t : Bool) → (t || true) ≡ true
or_true true = refl
or_true false = refl

-- of a pair: whether it was given, missed, and its page taken; whether it is of the page that is taken now, and has a row there
given_then : (given missed taken now row : Bool) → (given ≡ true → (taken ≡ true) × (missed ≡ false)) → (missed ≡ true → taken ≡ true)
    → (now ≡ true → taken ≡ false) → (given || (now && row)) ≡ true → ((taken || now) ≡ true) × ((missed || (now && not row)) ≡ false)
given_then true missed taken true row g m n e = absurd (true≢false (sym (g refl).0 ∙ n refl))
given_then true missed taken false row g m n e = (ap (λ x. x || false) (g refl).0, ap (λ x. x || false) (g refl).1)
given_then false missed taken false row g m n e = absurd (true≢false (sym e))
given_then false missed taken true false g m n e = absurd (true≢false (sym e))
given_then false true taken true true g m n e = absurd (true≢false (sym (m refl) ∙ n refl))
given_then false false taken true true g m n e = (or_true taken, refl)

missed_then : (missed taken now row : Bool) → (missed ≡ true → taken ≡ true) → (missed || (now && not row)) ≡ true → (taken || now) ≡ true
missed_then true taken now row m e = ap (λ x. x || now) (m refl)
missed_then false taken true row m e = or_true taken
missed_then false taken false row m e = absurd (true≢false (sym e))

page_once : (s : State) (page : ℕ) → s.taken page ≡ false → AreTakenOnce s → AreTakenOnce (page_taken s page)
page_once s page fresh once = record {
  given = λ p. given_then (s.given p) (s.missed p) (s.taken p.rid.page) (nat_eq p.rid.page page) (is_pair_of (get s.rows p.rid) p) (once.given p)
      (once.missed p) (untaken p.rid.page);
  missed = λ p. missed_then (s.missed p) (s.taken p.rid.page) (nat_eq p.rid.page page) (is_pair_of (get s.rows p.rid) p) (once.missed p);
}
  where
    untaken : (n : ℕ) → nat_eq n page ≡ true → s.taken n ≡ false
    untaken n e = elim (eqb_tells n page) [ inl same ↦ ap s.taken same.1 ∙ fresh | inr other ↦ absurd (true≢false (sym e ∙ other.0)) ]

-- all that the standing says but the counts
record Stands (s : State) (k : Standing) : Type 0 where
  pub begun : (t : ℕ) (x : Active) → s.txns t ≡ Some x → t ≤ k.begun
  pub in_a_row : k.scanned ≤ s.pages
  pub taken : (n : ℕ) → n < k.scanned → s.taken n ≡ true
  pub once : AreTakenOnce s
  pub tried : 1 ≤ k.attempts → IsBuilding s.life → s.bound ≢ None

module _ (s : State) (k : Standing) (h : HasStanding s k) where
  as_before : Stands s k
  as_before = record { begun = h.begun; in_a_row = h.in_a_row; taken = h.taken; once = h.once; tried = h.tried }

  -- the builder is where it was
  standing_kept : (s' : State) (k' : Standing) → SameScan s s' → k'.scanned ≡ k.scanned → k'.attempts ≡ k.attempts
      → ((u : ℕ) (y : Active) → s'.txns u ≡ Some y → u ≤ k'.begun) → Stands s' k'
  standing_kept s' k' v a b le = record {
    begun = le;
    in_a_row = rw (a, v.pages) h.in_a_row;
    taken = λ n l. ap (λ f. f n) v.taken ∙ h.taken n (subst (λ m. n < m) a l);
    once = once_kept s s' v h.once;
    tried = λ l building e. h.tried (subst (λ m. 1 ≤ m) b l) (subst IsBuilding v.life building) (sym v.bound ∙ e);
  }

  or_now : (n m : ℕ) → n < m + 1 → (n < m) ⊎ (n ≡ m)
  or_now n m l = elim (nat_decided n m) [ inl same ↦ inr same | inr other ↦ inl (omega (arith, l, other)) ]

  scanned_taken : (page n : ℕ) → page ≡ k.scanned → n < k.scanned + 1 → (s.taken n || nat_eq n page) ≡ true
  scanned_taken page n e l = elim (or_now n k.scanned l) [
    | inl before ↦ rw (h.taken n before) refl
    | inr now ↦ or_right (s.taken n) (nat_eq n page) (rw (now, e) (nat_same k.scanned))
  ]
    where
      or_right : (a b : Bool) → b ≡ true → (a || b) ≡ true
      or_right true b e = refl
      or_right false b e = e

      nat_same : (n : ℕ) → nat_eq n n ≡ true
      nat_same n = eq-eqb n n refl

  built_standing : (b : BuildReply) → IsBuildDue s k b → Stands (after_any s (build_step b)) (after_build k b)
  built_standing Idle d = as_before
  built_standing (BuildReply.Marked p n) d = record {
    begun = h.begun;
    in_a_row = h.in_a_row;
    taken = h.taken;
    once = record { given = h.once.given; missed = h.once.missed };
    tried = λ l. absurd (omega (arith, l));
  }
  built_standing (Scanned page) d = record {
    begun = h.begun;
    in_a_row = row_more d.1 d.2;
    taken = λ n l. scanned_taken page n d.1 l;
    once = again (page_once s page d.3 h.once);
    tried = h.tried;
  }
    where
      row_more : page ≡ k.scanned → page < s.pages → k.scanned + 1 ≤ s.pages
      row_more e l = omega (arith, e, l)

      again : AreTakenOnce (page_taken s page) → AreTakenOnce (after s (Take page))
      again once = record { given = once.given; missed = once.missed }
  built_standing (Placed p) d = record {
    begun = h.begun;
    in_a_row = omega arith;
    taken = λ n l. absurd (omega (arith, l));
    once = record { given = h.once.given; missed = h.once.missed };
    tried = λ l building e. not_none refl e;
  }
  built_standing (Rejected p) d = record {
    begun = h.begun;
    in_a_row = omega arith;
    taken = λ n l. absurd (omega (arith, l));
    once = record { given = h.once.given; missed = h.once.missed };
    tried = λ l building e. not_none refl e;
  }
  built_standing (Done n) d = record {
    begun = h.begun;
    in_a_row = h.in_a_row;
    taken = h.taken;
    once = record { given = h.once.given; missed = h.once.missed };
    tried = λ l building. absurd (not_complete building.0 building.1);
  }
    where
      not_complete : (highest : Option Pair) → Complete ≡ Building highest → ⊥
      not_complete highest e = absurd (cc)

  cleaned_standing : (c : CleanReply) → Stands (after s (clean_step c)) (after_clean k c)
  cleaned_standing (Cleaned p) =
      standing_kept _ _ (record { pages = refl; bound = refl; given = refl; missed = refl; taken = refl; life = refl }) refl refl h.begun
  cleaned_standing (Kept p) = standing_kept _ _ (record { pages = refl; bound = refl; given = refl; missed = refl; taken = refl; life = refl }) refl refl
      h.begun
  cleaned_standing Wrapped = standing_kept _ _ (record { pages = refl; bound = refl; given = refl; missed = refl; taken = refl; life = refl }) refl refl h.begun

  -- with the reply and the step that are due
  at_due : (e : MachineStep) (right : Reply) (reply : Reply) (step : Option MachineStep) → reply ≡ right → step ≡ Some e
      → Stands (after s e) (standing_after k right) → Stands (after_any s step) (standing_after k reply)
  at_due e right reply step p q a = rw (p, q) a

  at_rest : (right : Reply) (reply : Reply) (step : Option MachineStep) → reply ≡ right → step ≡ None → Stands s (standing_after k right)
      → Stands (after_any s step) (standing_after k reply)
  at_rest right reply step p q a = rw (p, q) a

  other_made : (s' : State) (pledges : Pledges) → SameScan s s' → SameScan s (record s' { pledges = pledges })
  other_made s' pledges v = record { pages = v.pages; bound = v.bound; given = v.given; missed = v.missed; taken = v.taken; life = v.life }

  start_standing : (t : ℕ) (c : ChangeValue) (k' : Standing) → IsActive s t → k'.scanned ≡ k.scanned → k'.attempts ≡ k.attempts → k'.begun ≡ k.begun
      → Stands (after s (Start t c)) k'
  start_standing t c k' active a b n =
      standing_kept _ k' (other_made _ _ (scan_started s t (txn_at s t) c (old_pair (is_indexed s.life) c))) a b
      (λ u y e. rw n (started_le s k.begun h.begun t (txn_at s t) active c (old_pair (is_indexed s.life) c) u y e))

  due_stands : (e : Event) (reply : Reply) (step : Option MachineStep) → (IsOfNone s e → ⊥) → IsStepDue s k e reply step
      → Stands (after_any s step) (standing_after k reply)
  due_stands Event.Begin reply step known d = at_due _ _ reply step d.0 d.1
      (standing_kept _ _ (record { pages = refl; bound = refl; given = refl; missed = refl; taken = refl; life = refl }) refl refl (begun_le s k.begun h.begun))
  due_stands (Event.Insert t row) reply step known d =
      at_due _ _ reply step d.2 d.3 (start_standing t (change_of s t d.0 (Inserted row)) _ (is_active s t known) refl refl refl)
  due_stands (Event.Delete t r) reply step known d =
      at_due _ _ reply step d.2 d.3 (start_standing t (change_of s t r (Deleted d.0)) _ (is_active s t known) refl refl refl)
  due_stands (Event.Update t r row) reply step known d =
      at_due _ _ reply step d.2 d.3 (start_standing t (change_of s t r (Updated d.0 row)) _ (is_active s t known) refl refl refl)
  due_stands (Event.Step t) reply step known d =
      at_due (Next t) Stepped reply step d.0 d.1 (standing_kept _ _
      (other_made _ _ (scan_carried s t (txn_at s t) (txn_at s t).changes (txn_at s t).phase)) refl refl
      (carried_le s k.begun h.begun t (txn_at s t) (is_active s t known) (txn_at s t).changes (txn_at s t).phase))
  due_stands (Event.Undo t) reply step known d = elim d.0 [
    | inl empty ↦ at_due (MachineStep.Undo t) Empty reply step empty.1 d.1 (undone_standing t k (is_active s t known) refl refl refl)
    | inr more ↦ at_due (MachineStep.Undo t) Undone reply step more.1 d.1 (undone_standing t (standing_after k Undone) (is_active s t known) refl refl refl)
  ]
    where
      undone_standing : (t : ℕ) (k' : Standing) → IsActive s t → k'.scanned ≡ k.scanned → k'.attempts ≡ k.attempts → k'.begun ≡ k.begun
          → Stands (after s (MachineStep.Undo t)) k'
      undone_standing t k' active a b n =
          standing_kept _ k' (other_made _ _ (scan_undone s t (txn_at s t) (txn_at s t).changes (txn_at s t).phase)) a b
          (λ u y e. rw n (undone_le s k.begun h.begun t (txn_at s t) active (txn_at s t).changes (txn_at s t).phase u y e))
  due_stands (Event.End t) reply step known d = at_due _ _ reply step d.0 d.1
      (standing_kept _ _ (record { pages = refl; bound = refl; given = refl; missed = refl; taken = refl; life = refl }) refl refl
      (gone_le s k.begun h.begun t))
  due_stands (Event.Commit t) reply step known d = at_due _ _ reply step d.0 d.1
      (standing_kept _ _ (record { pages = refl; bound = refl; given = refl; missed = refl; taken = refl; life = refl }) refl refl
      (gone_le s k.begun h.begun t))
  due_stands Event.Create reply step known d = at_due MachineStep.Create (Reply.Ticketed (k.made + 1)) reply step d.0 d.1 (record {
    begun = h.begun;
    in_a_row = omega arith;
    taken = λ n l. absurd (omega (arith, l));
    once = none_taken _ (λ p. refl) (λ p. refl);
    tried = λ l. absurd (omega (arith, l));
  })
  due_stands Event.Build reply step known d = rw (d.2, d.3) (built_standing d.0 d.1)
  due_stands Event.Clean reply step known d = rw (d.2, d.3) (cleaned_standing d.0)
  due_stands (Event.Get r) reply step known d = at_rest _ reply step d.0 d.1 as_before
  due_stands (Event.Find key) reply step known d = at_rest _ reply step d.2 d.3 as_before
  due_stands Event.Life reply step known d = at_rest _ reply step d.0 d.1 as_before
  due_stands Event.Drop reply step known d = at_due MachineStep.Drop (Reply.Ticketed (k.made + 1)) reply step d.0 d.1 (record {
    begun = h.begun;
    in_a_row = omega arith;
    taken = λ n l. absurd (omega (arith, l));
    once = none_taken _ (λ p. refl) (λ p. refl);
    tried = λ l. absurd (omega (arith, l));
  })

-- ---- the counts
present_len : (m : Pledges) (t n : ℕ) → is_some (get m t) ≡ true → len (insert m t n) ≡ len m
present_len m t n e = len-insert nat_cmp_total m t n ∙ ap (λ b. cond b (len m) (len m + 1)) e

new_len : (m : Pledges) (t n : ℕ) → is_some (get m t) ≡ false → len (insert m t n) ≡ len m + 1
new_len m t n e = len-insert nat_cmp_total m t n ∙ ap (λ b. cond b (len m) (len m + 1)) e

less_len : (m : Pledges) (t : ℕ) → is_some (get m t) ≡ true → len (remove m t) ≡ len m - 1
less_len m t e = len-remove nat_cmp_total m t ∙ ap (λ b. cond b (len m - 1) (len m)) e

some_len : (m : Pledges) (t : ℕ) → is_some (get m t) ≡ true → 1 ≤ len m
some_len m t e = by_len (len m) refl
  where
    by_len : (n : ℕ) → len m ≡ n → 1 ≤ len m
    by_len zero l = absurd (true≢false (sym e ∙ ap (λ (f : Pledges). is_some (get f t)) (empty_of_len m l) ∙ ap is_some (get-empty nat_cmp t)))
    by_len (suc n) l = omega (arith, l)

module _ (s : State) (k : Standing) (i : IsWellFormed s) (h : HasStanding s k) where
  same_counts : (s' : State) (k' : Standing) → k'.active ≡ k.active → k'.begun ≡ k.begun → k.made ≤ k'.made → len s'.pledges ≡ len s.pledges → HasCounts s' k'
  same_counts s' k' a b m l =
      let active : k.active ≡ len s.pledges = h.counts.active in
      let few : k.active ≤ TXNS_MAX = h.counts.few in
      let ended : k.begun ≤ k.made + k.active = h.counts.ended in
      record { active = a ∙ active ∙ sym l; few = omega (arith, a, few); ended = omega (arith, a, b, m, ended) }

  is_pledged : (t : ℕ) → IsActive s t → is_some (get s.pledges t) ≡ true
  is_pledged t active = i.pledged t ∙ ap is_some active

  -- a transaction went on
  put_counts : (t n : ℕ) (s' : State) (k' : Standing) → IsActive s t → s'.pledges ≡ insert s.pledges t n → k'.active ≡ k.active → k'.begun ≡ k.begun
      → k.made ≤ k'.made → HasCounts s' k'
  put_counts t n s' k' active p a b m = same_counts s' k' a b m (ap len p ∙ present_len s.pledges t n (is_pledged t active))

  begun_counts : (TXNS_MAX ≤ k.active → ⊥) → HasCounts (after s (MachineStep.Begin (k.begun + 1))) (standing_after k (Txn (k.begun + 1)))
  begun_counts fewer =
      let active : k.active ≡ len s.pledges = h.counts.active in
      let ended : k.begun ≤ k.made + k.active = h.counts.ended in
      let new : len (insert s.pledges (k.begun + 1) 0) ≡ len s.pledges + 1 =
      new_len s.pledges (k.begun + 1) 0 (i.pledged (k.begun + 1) ∙ not_yet (s.txns (k.begun + 1)) refl) in
      let room : k.active < TXNS_MAX = below fewer in
      record { active = omega (arith, active, new); few = omega (arith, room); ended = omega (arith, ended) }
    where
      not_yet : (o : Option Active) → s.txns (k.begun + 1) ≡ o → is_some (s.txns (k.begun + 1)) ≡ false
      not_yet None e = ap is_some e
      not_yet (Some x) e = let l : k.begun + 1 ≤ k.begun = h.begun (k.begun + 1) x e in absurd (omega (arith, l))

      below : (TXNS_MAX ≤ k.active → ⊥) → k.active < TXNS_MAX
      below f = elim (cases_lt k.active TXNS_MAX) [ inl lt ↦ lt | inr le ↦ absurd (f le) ]

  gone_counts : (t : ℕ) (s' : State) (k' : Standing) → IsActive s t → s'.pledges ≡ remove s.pledges t → k'.active ≡ k.active - 1 → k'.begun ≡ k.begun
      → k'.made ≡ k.made + 1 → HasCounts s' k'
  gone_counts t s' k' on p a b m =
      let active : k.active ≡ len s.pledges = h.counts.active in
      let few : k.active ≤ TXNS_MAX = h.counts.few in
      let ended : k.begun ≤ k.made + k.active = h.counts.ended in
      let less : len (remove s.pledges t) ≡ len s.pledges - 1 = less_len s.pledges t (is_pledged t on) in
      let some : 1 ≤ len s.pledges = some_len s.pledges t (is_pledged t on) in
      let now : len s'.pledges ≡ len (remove s.pledges t) = ap len p in
      record { active = omega (arith, a, active, less, now); few = omega (arith, a, few); ended = omega (arith, a, b, m, ended, active, some) }

  built_counts : (b : BuildReply) → IsBuildDue s k b → HasCounts (after_any s (build_step b)) (after_build k b)
  built_counts Idle d = h.counts
  built_counts (BuildReply.Marked p n) d = same_counts _ _ refl refl (omega arith) refl
  built_counts (Scanned page) d = same_counts _ _ refl refl (omega arith) refl
  built_counts (Placed p) d = same_counts _ _ refl refl (omega arith) refl
  built_counts (Rejected p) d = same_counts _ _ refl refl (omega arith) refl
  built_counts (Done n) d = same_counts _ _ refl refl (omega arith) refl

  cleaned_counts : (c : CleanReply) → HasCounts (after s (clean_step c)) (after_clean k c)
  cleaned_counts (Cleaned p) = same_counts _ _ refl refl (omega arith) refl
  cleaned_counts (Kept p) = same_counts _ _ refl refl (omega arith) refl
  cleaned_counts Wrapped = same_counts _ _ refl refl (omega arith) refl

  counts_by : (right : Reply) (want : Option MachineStep) (reply : Reply) (step : Option MachineStep) → reply ≡ right → step ≡ want
      → HasCounts (after_any s want) (standing_after k right) → HasCounts (after_any s step) (standing_after k reply)
  counts_by right want reply step p q a = rw (p, q) a

  one_refused : {A : Type 0} {error : Error} → IsFirst ((A, error) ∷ []) None → A → ⊥
  one_refused (inl refuses) a = not_none refuses.1 refl
  one_refused (inr allows) a = allows.0 a

  due_counts : (e : Event) (reply : Reply) (step : Option MachineStep) → (IsOfNone s e → ⊥) → IsFirst (refusals s k e) None → IsStepDue s k e reply step
      → HasCounts (after_any s step) (standing_after k reply)
  due_counts Event.Begin reply step known first d = counts_by (Txn (k.begun + 1)) (Some (MachineStep.Begin (k.begun + 1))) reply step d.0 d.1
      (begun_counts (one_refused first))
  due_counts (Event.Insert t row) reply step known first d =
      counts_by _ _ reply step d.2 d.3 (put_counts t _ _ _ (is_active s t known) refl refl refl (omega arith))
  due_counts (Event.Delete t r) reply step known first d =
      counts_by _ _ reply step d.2 d.3 (put_counts t _ _ _ (is_active s t known) refl refl refl (omega arith))
  due_counts (Event.Update t r row) reply step known first d =
      counts_by _ _ reply step d.2 d.3 (put_counts t _ _ _ (is_active s t known) refl refl refl (omega arith))
  due_counts (Event.Step t) reply step known first d = counts_by _ _ reply step d.0 d.1 (put_counts t _ _ _ (is_active s t known) refl refl refl (omega arith))
  due_counts (Event.Undo t) reply step known first d = elim d.0 [
    | inl empty ↦ counts_by Empty (Some (MachineStep.Undo t)) reply step empty.1 d.1 (put_counts t _ _ k (is_active s t known) refl refl refl (omega arith))
    | inr more ↦ counts_by Undone (Some (MachineStep.Undo t)) reply step more.1 d.1
        (put_counts t _ _ (standing_after k Undone) (is_active s t known) refl refl refl (omega arith))
  ]
  due_counts (Event.End t) reply step known first d = counts_by _ _ reply step d.0 d.1 (gone_counts t _ _ (is_active s t known) refl refl refl refl)
  due_counts (Event.Commit t) reply step known first d = counts_by _ _ reply step d.0 d.1 (gone_counts t _ _ (is_active s t known) refl refl refl refl)
  due_counts Event.Create reply step known first d = counts_by _ _ reply step d.0 d.1 (same_counts _ _ refl refl (omega arith) refl)
  due_counts Event.Build reply step known first d = rw (d.2, d.3) (built_counts d.0 d.1)
  due_counts Event.Clean reply step known first d = rw (d.2, d.3) (cleaned_counts d.0)
  due_counts (Event.Get r) reply step known first d = counts_by _ _ reply step d.0 d.1 h.counts
  due_counts (Event.Find key) reply step known first d = counts_by _ _ reply step d.2 d.3 h.counts
  due_counts Event.Life reply step known first d = counts_by _ _ reply step d.0 d.1 h.counts
  due_counts Event.Drop reply step known first d = counts_by _ _ reply step d.0 d.1 (same_counts _ _ refl refl (omega arith) refl)

-- ---- the history
abbrev pub items_any : (ℕ → List Write) → ℕ → Option MachineStep → List Item
items_any writes last None = []
items_any writes last (Some e) = map (item_at last) (deeds_of writes e)

abbrev pub writes_any : (ℕ → List Write) → Option MachineStep → ℕ → List Write
writes_any writes None = writes
writes_any writes (Some e) = writes_after writes e

pub record Tells (writes : ℕ → List Write) (last : ℕ) (e : Event) (reply : Reply) (step : Option MachineStep) : Type 0 where
  pub items : items_at writes reply e ≡ items_any writes last step
  pub asked : asked_after writes reply e ≡ writes_any writes step

module _ (writes : ℕ → List Write) (last : ℕ) (e : Event) where
  tells_by : (right reply : Reply) (step want : Option MachineStep) → reply ≡ right → step ≡ want → Tells writes last e right want
      → Tells writes last e reply step
  tells_by right reply step want p q a = rw (p, q) a

built_tells : (s : State) (k : Standing) (writes : ℕ → List Write) (b : BuildReply) → IsBuildDue s k b
    → Tells writes k.made Event.Build (Built b) (build_step b)
built_tells s k writes Idle d = record { items = refl; asked = refl }
built_tells s k writes (BuildReply.Marked p n) d = record { items = ap (λ m. record { number = m; deed = Deed.Checkpointed p } ∷ []) d.3; asked = refl }
built_tells s k writes (Scanned page) d = record { items = refl; asked = refl }
built_tells s k writes (Placed p) d = record { items = refl; asked = refl }
built_tells s k writes (Rejected p) d = record { items = refl; asked = refl }
built_tells s k writes (Done n) d = record { items = ap (λ m. record { number = m; deed = Deed.Completed } ∷ []) d.2; asked = refl }

cleaned_tells : (writes : ℕ → List Write) (last : ℕ) (c : CleanReply) → Tells writes last Event.Clean (Cleaner c) (Some (clean_step c))
cleaned_tells writes last (Cleaned p) = record { items = refl; asked = refl }
cleaned_tells writes last (Kept p) = record { items = refl; asked = refl }
cleaned_tells writes last Wrapped = record { items = refl; asked = refl }

due_tells : (s : State) (k : Standing) (writes : ℕ → List Write) (e : Event) (reply : Reply) (step : Option MachineStep) → IsStepDue s k e reply step
    → Tells writes k.made e reply step
due_tells s k writes Event.Begin reply step d = tells_by writes k.made Event.Begin _ reply step _ d.0 d.1 (record { items = refl; asked = refl })
due_tells s k writes (Event.Insert t row) reply step d =
    tells_by writes k.made (Event.Insert t row) _ reply step _ d.2 d.3 (record { items = refl; asked = refl })
due_tells s k writes (Event.Delete t r) reply step d = tells_by writes k.made (Event.Delete t r) _ reply step _ d.2 d.3 (record { items = refl; asked = refl })
due_tells s k writes (Event.Update t r row) reply step d =
    tells_by writes k.made (Event.Update t r row) _ reply step _ d.2 d.3 (record { items = refl; asked = refl })
due_tells s k writes (Event.Step t) reply step d = tells_by writes k.made (Event.Step t) _ reply step _ d.0 d.1 (record { items = refl; asked = refl })
due_tells s k writes (Event.Undo t) reply step d = elim d.0 [
  | inl empty ↦ tells_by writes k.made (Event.Undo t) _ reply step _ empty.1 d.1 (record { items = refl; asked = refl })
  | inr more ↦ tells_by writes k.made (Event.Undo t) _ reply step _ more.1 d.1 (record { items = refl; asked = refl })
]
due_tells s k writes (Event.End t) reply step d = tells_by writes k.made (Event.End t) _ reply step _ d.0 d.1 (record { items = refl; asked = refl })
due_tells s k writes (Event.Commit t) reply step d = tells_by writes k.made (Event.Commit t) _ reply step _ d.0 d.1 (record { items = refl; asked = refl })
due_tells s k writes Event.Create reply step d = tells_by writes k.made Event.Create _ reply step _ d.0 d.1 (record { items = refl; asked = refl })
due_tells s k writes Event.Build reply step d = rw (d.2, d.3) (built_tells s k writes d.0 d.1)
due_tells s k writes Event.Clean reply step d = rw (d.2, d.3) (cleaned_tells writes k.made d.0)
due_tells s k writes (Event.Get r) reply step d = tells_by writes k.made (Event.Get r) _ reply step _ d.0 d.1 (record { items = refl; asked = refl })
due_tells s k writes (Event.Find key) reply step d = tells_by writes k.made (Event.Find key) _ reply step _ d.2 d.3 (record { items = refl; asked = refl })
due_tells s k writes Event.Life reply step d = tells_by writes k.made Event.Life _ reply step _ d.0 d.1 (record { items = refl; asked = refl })
due_tells s k writes Event.Drop reply step d = tells_by writes k.made Event.Drop _ reply step _ d.0 d.1 (record { items = refl; asked = refl })

-- ---- the numbers of records
next_made : (t : ℕ) (cs : Changes) (phase : Phase) (indexed : Bool) → IsShaped indexed cs phase → (phase ≡ OldMarked) ⊎ (phase ≡ RowSet) → (n : ℕ)
    → n + 1 ≡ next_number n (next_action t cs phase)
next_made t Unchanged phase indexed h o n = absurd (made_owes phase h o)
  where
    made_owes : (phase : Phase) → phase ≡ Made → (phase ≡ OldMarked) ⊎ (phase ≡ RowSet) → ⊥
    made_owes phase h (inl a) = absurd (cc)
    made_owes phase h (inr a) = absurd (cc)
next_made t (older ▹ c) OldMarked indexed h o n = refl
next_made t (older ▹ c) RowSet indexed h o n = refl
next_made t (older ▹ c) Made indexed h o n = absurd (elim o [ inl a ↦ made_marked a | inr a ↦ made_set a ])
  where
    made_marked : Made ≡ OldMarked → ⊥
    made_marked a = absurd (cc)

    made_set : Made ≡ RowSet → ⊥
    made_set a = absurd (cc)
next_made t (older ▹ c) (NewMarked b) indexed h o n = absurd (elim o [ inl a ↦ new_marked a | inr a ↦ new_set a ])
  where
    new_marked : NewMarked b ≡ OldMarked → ⊥
    new_marked a = absurd (cc)

    new_set : NewMarked b ≡ RowSet → ⊥
    new_set a = absurd (cc)
next_made t (older ▹ c) OldSet indexed h o n = absurd (elim o [ inl a ↦ old_marked a | inr a ↦ old_set a ])
  where
    old_marked : OldSet ≡ OldMarked → ⊥
    old_marked a = absurd (cc)

    old_set : OldSet ≡ RowSet → ⊥
    old_set a = absurd (cc)

undo_made : (t : ℕ) (cs : Changes) (phase : Phase) (indexed : Bool) → (cs ≡ Unchanged → ⊥) → (n : ℕ) → n + 1 ≡ next_number n (undo_action indexed t cs phase)
undo_made t Unchanged phase indexed h n = absurd (h refl)
undo_made t (older ▹ c) OldMarked indexed h n = refl
undo_made t (older ▹ c) RowSet indexed h n = refl
undo_made t (older ▹ c) Made indexed h n = refl
undo_made t (older ▹ c) (NewMarked b) indexed h n = refl
undo_made t (older ▹ c) OldSet indexed h n = refl

undo_none : (t : ℕ) (cs : Changes) (phase : Phase) (indexed : Bool) → cs ≡ Unchanged → (n : ℕ) → n ≡ next_number n (undo_action indexed t cs phase)
undo_none t cs phase indexed e n = ap (λ cs. next_number n (undo_action indexed t cs phase)) (sym e)

place_made : (p : Pair) (o : Option Mark) → o ≡ None → (n : ℕ) → n + 1 ≡ next_number n (place_action p o)
place_made p None e n = refl
place_made p (Some mark) e n = absurd (not_none refl e)

pub place_none : (p : Pair) (o : Option Mark) → (o ≡ None → ⊥) → (n : ℕ) → n ≡ next_number n (place_action p o)
place_none p None h n = absurd (h refl)
place_none p (Some mark) h n = refl

module _ (s : State) (k : Standing) (i : IsWellFormed s) where
  built_made : (b : BuildReply) → IsBuildDue s k b → (after_build k b).made ≡ number_after s k.made (build_step b)
  built_made Idle d = refl
  built_made (BuildReply.Marked p n) d = refl
  built_made (Scanned page) d = refl
  built_made (Placed p) d = place_made p (get s.entries p) d.2 k.made
  built_made (Rejected p) d = place_none p (get s.entries p) d.2 k.made
  built_made (Done n) d = refl

  cleaned_made : (c : CleanReply) → (after_clean k c).made ≡ number_after s k.made (Some (clean_step c))
  cleaned_made (Cleaned p) = refl
  cleaned_made (Kept p) = refl
  cleaned_made Wrapped = refl

  made_by : (right reply : Reply) (step want : Option MachineStep) → reply ≡ right → step ≡ want → (standing_after k right).made ≡ number_after s k.made want
      → (standing_after k reply).made ≡ number_after s k.made step
  made_by right reply step want p q a = rw (p, q) a

  due_made : (e : Event) (reply : Reply) (step : Option MachineStep) → (IsOfNone s e → ⊥) → IsProper s e → IsStepDue s k e reply step
      → (standing_after k reply).made ≡ number_after s k.made step
  due_made Event.Begin reply step known proper d = made_by _ reply step _ d.0 d.1 refl
  due_made (Event.Insert t row) reply step known proper d = made_by _ reply step _ d.2 d.3 refl
  due_made (Event.Delete t r) reply step known proper d = made_by _ reply step _ d.2 d.3 refl
  due_made (Event.Update t r row) reply step known proper d = made_by _ reply step _ d.2 d.3 refl
  due_made (Event.Step t) reply step known proper d =
      made_by _ reply step _ d.0 d.1 (next_made t (txn_at s t).changes (txn_at s t).phase (is_indexed s.life)
      (i.txns t (txn_at s t) (is_active s t known)).shaped proper.0 k.made)
  due_made (Event.Undo t) reply step known proper d = elim d.0 [
    | inl empty ↦ made_by _ reply step _ empty.1 d.1 (undo_none t (txn_at s t).changes (txn_at s t).phase (is_indexed s.life) empty.0 k.made)
    | inr more ↦ made_by _ reply step _ more.1 d.1 (undo_made t (txn_at s t).changes (txn_at s t).phase (is_indexed s.life) more.0 k.made)
  ]
  due_made (Event.End t) reply step known proper d = made_by _ reply step _ d.0 d.1 refl
  due_made (Event.Commit t) reply step known proper d = made_by _ reply step _ d.0 d.1 refl
  due_made Event.Create reply step known proper d = made_by _ reply step _ d.0 d.1 refl
  due_made Event.Build reply step known proper d = rw (d.2, d.3) (built_made d.0 d.1)
  due_made Event.Clean reply step known proper d = rw (d.2, d.3) (cleaned_made d.0)
  due_made (Event.Get r) reply step known proper d = made_by _ reply step _ d.0 d.1 refl
  due_made (Event.Find key) reply step known proper d = made_by _ reply step _ d.2 d.3 refl
  due_made Event.Life reply step known proper d = made_by _ reply step _ d.0 d.1 refl
  due_made Event.Drop reply step known proper d = made_by _ reply step _ d.0 d.1 refl

-- the number of the last record stays within the limit
number_within : (s : State) (k : Standing) (step : Option MachineStep) → IsFirst (refusals_of s k step) None → k.made ≤ LAST_NUMBER
    → number_after s k.made step ≤ LAST_NUMBER
number_within s k None last le = le
number_within s k (Some e) last le = by_action (action_of s e) refl
  where
    not_last : IsFirst (last_refusals s k e) None → (LAST_NUMBER ≤ k.made) × (action_of s e ≢ None) → ⊥
    not_last (inl refuses) full = not_none refuses.1 refl
    not_last (inr rest) full = elim rest.1 [ inl refuses ↦ not_none refuses.1 refl | inr allows ↦ allows.0 full ]

    by_action : (o : Option Action) → action_of s e ≡ o → next_number k.made o ≤ LAST_NUMBER
    by_action None is = le
    by_action (Some action) is = elim (cases_lt k.made LAST_NUMBER) [
      | inl lt ↦ omega (arith, lt)
      | inr full ↦ absurd (not_last last (full, λ none. not_none is none))
    ]

module _ (s : State) (k : Standing) (i : IsWellFormed s) (h : HasStanding s k) where
  due_standing : (e : Event) (reply : Reply) (step : Option MachineStep) → (IsOfNone s e → ⊥) → IsProper s e → IsFirst (refusals s k e) None
      → IsStepDue s k e reply step → IsFirst (refusals_of s k step) None → HasStanding (after_any s step) (standing_after k reply)
  due_standing e reply step known proper first d last =
      let a : Stands (after_any s step) (standing_after k reply) = due_stands s k h e reply step known d in
      record {
        begun = a.begun;
        in_a_row = a.in_a_row;
        taken = a.taken;
        once = a.once;
        tried = a.tried;
        counts = due_counts s k i h e reply step known first d;
        within = subst (λ n. n ≤ LAST_NUMBER) (sym (due_made s k i e reply step known proper d)) (number_within s k step last h.within);
      }

-- ---- one event
pub fit_any : (s : State) (step : Option MachineStep) → IsWellFormed s → IsEnabledAny s step → IsWellFormed (after_any s step)
fit_any s None i a = i
fit_any s (Some e) i a = fit_step s e i a

-- ---- one event after another
items_last : (writes : ℕ → List Write) (pairs : List (Event × Reply)) (e : Event) (reply : Reply)
    → items_of writes (pairs ++ (e, reply) ∷ []) ≡ items_of writes pairs ++ items_at (asked_over writes pairs) reply e
items_last writes [] e reply = append-nil (items_at writes reply e)
items_last writes (p ∷ pairs) e reply =
    ap (λ l. items_at writes p.1 p.0 ++ l) (items_last (asked_after writes p.1 p.0) pairs e reply)
    ∙ sym (append_assoc (items_at writes p.1 p.0) (items_of (asked_after writes p.1 p.0) pairs)
    (items_at (asked_over (asked_after writes p.1 p.0) pairs) reply e))

asked_last : (writes : ℕ → List Write) (pairs : List (Event × Reply)) (e : Event) (reply : Reply)
    → asked_over writes (pairs ++ (e, reply) ∷ []) ≡ asked_after (asked_over writes pairs) reply e
asked_last writes [] e reply = refl
asked_last writes (p ∷ pairs) e reply = asked_last (asked_after writes p.1 p.0) pairs e reply

-- one allowed reply more
serves_last : (s : State) (k : Standing) (pairs : List (Event × Reply)) (made : List RecordValue) (s' : State) (k' : Standing) (e : Event) (reply : Reply)
    (step : Option MachineStep) → ServesAll s k pairs made s' k' → IsAllowed s' k' e reply step
    → ServesAll s k (pairs ++ (e, reply) ∷ []) (made ++ records_by s' k'.made step) (after_any s' step) (standing_after k' reply)
serves_last s k pairs made s' k' e reply step nothing allowed =
    subst (λ rs. ServesAll s k ((e, reply) ∷ []) rs (after_any s step) (standing_after k reply)) (append-nil (records_by s k.made step))
    (served e reply step [] [] allowed nothing)
serves_last s k pairs made s' k' e reply step (served first_event first_reply first_step rest later first_allowed r) allowed =
    subst (λ rs. ServesAll s k ((first_event, first_reply) ∷ (rest ++ (e, reply) ∷ [])) rs (after_any s' step) (standing_after k' reply))
    (sym (append_assoc (records_by s k.made first_step) later (records_by s' k'.made step)))
    (served first_event first_reply first_step (rest ++ (e, reply) ∷ []) (later ++ records_by s' k'.made step) first_allowed
    (serves_last (after_any s first_step) (standing_after k first_reply) rest later s' k' e reply step r allowed))

module _ (o : Opened) (can : CanOpen o) (made : List RecordValue) (pairs : List (Event × Reply)) (s : State) (k : Standing)
    (h : HasServed o made pairs s k) where
  abbrev asked : ℕ → List Write
  asked = asked_over no_writes pairs

  served_holds : Invariant s
  served_holds = made_holds o can made (items_of no_writes pairs) asked s h.log

  longer_number : (n : ℕ) (action : Option Action) → n ≡ next_number k.made action → n ≡ o.given.last + length (made ++ one_record k.made action)
  longer_number n None e = e ∙ h.number ∙ ap (λ (rs : List RecordValue). o.given.last + length rs) (sym (append-nil made))
  longer_number n (Some action) e =
      let number : k.made ≡ o.given.last + length made = h.number in
      let more : length (made ++ one_record k.made (Some action)) ≡ length made + 1 = length-append made (one_record k.made (Some action)) in
      omega (arith, e, number, more)

  go_on : (e : Event) (reply : Reply) (step : Option MachineStep) → IsAllowed s k e reply step → IsEnabledAny s step
      → HasStanding (after_any s step) (standing_after k reply) → Tells asked k.made e reply step → (standing_after k reply).made ≡ number_after s k.made step
      → HasServed o (made ++ records_by s k.made step) (pairs ++ (e, reply) ∷ []) (after_any s step) (standing_after k reply)
  go_on e reply None allowed a standing t m = record {
    served = serves_last (opened o) (standing_at o.given.last) pairs made s k e reply None h.served allowed;
    log =
        subst (λ rs. HasMade o rs (items_of no_writes (pairs ++ (e, reply) ∷ [])) (asked_over no_writes (pairs ++ (e, reply) ∷ [])) s) (sym (append-nil made))
        (subst (λ items. HasMade o made items (asked_over no_writes (pairs ++ (e, reply) ∷ [])) s)
        (sym (items_last no_writes pairs e reply ∙ ap (λ l. items_of no_writes pairs ++ l) t.items ∙ append-nil (items_of no_writes pairs)))
        (subst (λ w. HasMade o made (items_of no_writes pairs) w s) (sym (asked_last no_writes pairs e reply ∙ t.asked)) h.log));
    number = m ∙ h.number ∙ ap (λ (rs : List RecordValue). o.given.last + length rs) (sym (append-nil made));
    standing = standing;
  }
  go_on e reply (Some step) allowed a standing t m =
      let few : len s.pledges ≤ TXNS_MAX = few_pledged h.standing.counts.active h.standing.counts.few in
      let more : HasMade o (made ++ one_record (o.given.last + length made) (action_of s step))
      (items_of no_writes pairs ++ map (item_at (o.given.last + length made)) (deeds_of asked step)) (writes_after asked step) (after s step) =
      made_more o can made (items_of no_writes pairs) asked s h.log step a few in
      record {
        served = serves_last (opened o) (standing_at o.given.last) pairs made s k e reply (Some step) h.served allowed;
        log =
            subst (λ items. HasMade o (made ++ one_record k.made (action_of s step)) items (asked_over no_writes (pairs ++ (e, reply) ∷ [])) (after s step))
            (sym (items_last no_writes pairs e reply ∙ ap (λ l. items_of no_writes pairs ++ l) t.items))
            (subst (λ w. HasMade o (made ++ one_record k.made (action_of s step)) (items_of no_writes pairs ++ map (item_at k.made) (deeds_of asked step)) w
            (after s step)) (sym (asked_last no_writes pairs e reply ∙ t.asked))
            (subst (λ n. HasMade o (made ++ one_record n (action_of s step)) (items_of no_writes pairs ++ map (item_at n) (deeds_of asked step))
            (writes_after asked step) (after s step)) (sym h.number) more));
        number = longer_number (standing_after k reply).made (action_of s step) m;
        standing = standing;
      }
    where
      few_pledged : k.active ≡ len s.pledges → k.active ≤ TXNS_MAX → len s.pledges ≤ TXNS_MAX
      few_pledged e l = omega (arith, e, l)

  -- the reply that is due
  served_due : (e : Event) (reply : Reply) (step : Option MachineStep) → (IsOfNone s e → ⊥) → IsProper s e → IsFirst (refusals s k e) None
      → IsStepDue s k e reply step → IsFirst (refusals_of s k step) None
      → HasServed o (made ++ records_by s k.made step) (pairs ++ (e, reply) ∷ []) (after_any s step) (standing_after k reply)
  served_due e reply step known proper first due last =
      let i : IsWellFormed s = served_holds.fit in
      go_on e reply step (accepted known proper first reply step due last) (due_enabled s k i h.standing e reply step known proper first due last)
      (due_standing s k i h.standing e reply step known proper first due last) (due_tells s k asked e reply step due)
      (due_made s k i e reply step known proper due)

  -- a refusal, or an event that is skipped
  without_step : (e : Event) (reply : Reply) → IsAllowed s k e reply None → standing_after k reply ≡ k → items_at asked reply e ≡ []
      → asked_after asked reply e ≡ asked → HasServed o (made ++ []) (pairs ++ (e, reply) ∷ []) s (standing_after k reply)
  without_step e reply allowed stays none same = go_on e reply None allowed tt (subst (HasStanding s) (sym stays) h.standing)
      (record { items = none; asked = same }) (ap (λ (n : Standing). n.made) stays)

  pub served_allowed : (e : Event) (reply : Reply) (step : Option MachineStep) → IsAllowed s k e reply step
      → HasServed o (made ++ records_by s k.made step) (pairs ++ (e, reply) ∷ []) (after_any s step) (standing_after k reply)
  served_allowed e reply step (unknown a) = without_step e _ (unknown a) refl refl refl
  served_allowed e reply step (skipped a b) = without_step e _ (skipped a b) refl refl refl
  served_allowed e reply step (refused a b error c) = without_step e _ (refused a b error c) refl refl refl
  served_allowed e reply step (refused_last a b c r x d error f) = without_step e _ (refused_last a b c r x d error f) refl refl refl
  served_allowed e reply step (no_memory a b c r x d f w) = without_step e _ (no_memory a b c r x d f w) refl refl refl
  served_allowed e reply step (accepted a b c r x d f) = served_due e r x a b c d f

served_on : (o : Opened) (can : CanOpen o) (before : List (Event × Reply)) (s : State) (k : Standing) (pairs : List (Event × Reply))
    (more : List RecordValue) (s' : State) (k' : Standing) → ServesAll s k pairs more s' k' → (made : List RecordValue) → HasServed o made before s k
    → HasServed o (made ++ more) (before ++ pairs) s' k'
served_on o can before s k pairs more s' k' nothing made h =
    subst (λ rs. HasServed o rs (before ++ []) s k) (sym (append-nil made)) (subst (λ ps. HasServed o made ps s k) (sym (append-nil before)) h)
served_on o can before s k pairs more s'' k'' (served e reply step rest later allowed r) made h =
    let one : HasServed o (made ++ records_by s k.made step) (before ++ (e, reply) ∷ []) (after_any s step) (standing_after k reply) =
    served_allowed o can made before s k h e reply step allowed in
    let all : HasServed o ((made ++ records_by s k.made step) ++ later) ((before ++ (e, reply) ∷ []) ++ rest) s'' k'' =
    served_on o can (before ++ (e, reply) ∷ []) (after_any s step) (standing_after k reply) rest later s'' k'' r (made ++ records_by s k.made step) one in
    subst (λ rs. HasServed o rs (before ++ (e, reply) ∷ rest) s'' k'') (append_assoc made (records_by s k.made step) later)
    (subst (λ ps. HasServed o ((made ++ records_by s k.made step) ++ later) ps s'' k'') (append_assoc before ((e, reply) ∷ []) rest) all)

pub opened_standing : (o : Opened) (last : ℕ) → last ≤ LAST_NUMBER → HasStanding (opened o) (standing_at last)
opened_standing o last le = record {
  begun = λ t x e. absurd (not_none e refl);
  in_a_row = omega arith;
  taken = λ n l. absurd (omega (arith, l));
  once = none_taken (opened o) (λ p. refl) (λ p. refl);
  tried = λ l. absurd (omega (arith, l));
  counts = record { active = sym (len-empty nat_cmp ℕ); few = omega arith; ended = omega arith };
  within = le;
}

pub served_nothing : (o : Opened) → o.given.last ≤ LAST_NUMBER → HasServed o [] [] (opened o) (standing_at o.given.last)
served_nothing o le = record { served = nothing; log = made_nothing o; number = no_more o.given.last; standing = opened_standing o o.given.last le }
  where
    no_more : (n : ℕ) → n ≡ n + 0
    no_more n = omega arith

pub all_served : (o : Opened) → CanOpen o → o.given.last ≤ LAST_NUMBER → (made : List RecordValue) (pairs : List (Event × Reply)) (s : State) (k : Standing)
    → ServesAll (opened o) (standing_at o.given.last) pairs made s k → HasServed o made pairs s k
all_served o can le made pairs s k r = served_on o can [] (opened o) (standing_at o.given.last) pairs made s k r [] (served_nothing o le)

-- the numbers of records and of transactions
pub served_numbers : (o : Opened) (made : List RecordValue) (pairs : List (Event × Reply)) (s : State) (k : Standing) → HasServed o made pairs s k
    → (k.made ≤ LAST_NUMBER) × (k.begun ≤ LAST_NUMBER + TXNS_MAX)
served_numbers o made pairs s k h =
    let ended : k.begun ≤ k.made + k.active = h.standing.counts.ended in
    let few : k.active ≤ TXNS_MAX = h.standing.counts.few in
    let within : k.made ≤ LAST_NUMBER = h.standing.within in
    (within, omega (arith, ended, few, within))

pub served_faithful : (o : Opened) → CanOpen o → (made : List RecordValue) (pairs : List (Event × Reply)) (s : State) (k : Standing)
    → HasServed o made pairs s k
    → IsFaithful s (table_after o.given.table (items_of no_writes pairs)) × (s.life ≡ life_after o.given.life (items_of no_writes pairs))
served_faithful o can made pairs s k h =
    interleaved o can h.log.steps s h.log.run (items_of no_writes pairs) (ap deeds h.log.history ∙ items_deeds no_writes (opened o) o.given.last h.log.steps)

pub served_recovers : (o : Opened) → CanOpen o → (made : List RecordValue) (pairs : List (Event × Reply)) (s : State) (k : Standing)
    → HasServed o made pairs s k → (n : ℕ) → n ≤ length made
    → IsBeginning o.given (items_of no_writes pairs) (o.given.last + n) (given_after o.given (take n made))
    × CanOpen (record o { given = given_after o.given (take n made) })
served_recovers o can made pairs s k h n le = made_recovers o can made (items_of no_writes pairs) (asked_over no_writes pairs) s h.log n le

-- a crash leaves a beginning of what was handed on
pub served_crashed : (o : Opened) → CanOpen o → (made : List RecordValue) (pairs : List (Event × Reply)) (s : State) (k : Standing) → HasServed o made pairs s k
    → (handed waiting : List RecordValue) → made ≡ handed ++ waiting
    → (n : ℕ) → n ≤ length handed → IsBeginning o.given (items_of no_writes pairs) (o.given.last + n) (given_after o.given (take n handed))
    × CanOpen (record o { given = given_after o.given (take n handed) })
served_crashed o can made pairs s k h handed waiting e n le =
    let longer : length (handed ++ waiting) ≡ length handed + length waiting = length-append handed waiting in
    let total : length made ≡ length (handed ++ waiting) = ap length e in
    subst (λ (rs : List RecordValue). IsBeginning o.given (items_of no_writes pairs) (o.given.last + n) (given_after o.given rs)
    × CanOpen (record o { given = given_after o.given rs })) (ap (take n) e ∙ front handed n le)
    (served_recovers o can made pairs s k h n (omega (arith, le, longer, total)))
  where
    front : (rs : List RecordValue) (n : ℕ) → n ≤ length rs → take n (rs ++ waiting) ≡ take n rs
    front rs zero le = refl
    front [] (suc n) le = absurd (omega (arith, le))
    front (r ∷ rs) (suc n) le = ap (λ l. r ∷ l) (front rs n (omega (arith, le)))

pub is_move : (s : State) (k : Standing) (e : Event) (reply : Reply) (step : Option MachineStep) → IsWellFormed s → HasStanding s k → IsAllowed s k e reply step
    → IsMove s k step (standing_after k reply)
is_move s k e reply step i h (unknown a) = record { enabled = tt; made = refl; fit = i; standing = h }
is_move s k e reply step i h (skipped a b) = record { enabled = tt; made = refl; fit = i; standing = h }
is_move s k e reply step i h (refused a b error c) = record { enabled = tt; made = refl; fit = i; standing = h }
is_move s k e reply step i h (refused_last a b c r x d error f) = record { enabled = tt; made = refl; fit = i; standing = h }
is_move s k e reply step i h (no_memory a b c r x d f w) = record { enabled = tt; made = refl; fit = i; standing = h }
is_move s k e reply step i h (accepted a b c r x d f) =
    let on : IsEnabledAny s x = due_enabled s k i h e r x a b c d f in
    record { enabled = on; made = due_made s k i e r x a b d; fit = fit_any s x i on; standing = due_standing s k i h e r x a b c d f }

-- ---- the items' numbers rise
rising_from : (n m : ℕ) (items : List Item) → n ≤ m → AreRising m items → AreRising n items
rising_from n m [] l h = tt
rising_from n m (item ∷ items) l h = (below_later n m item.number l h.0, h.1)
  where
    below_later : (n m k : ℕ) → n ≤ m → m < k → n < k
    below_later n m k l h = omega (arith, l, h)

-- at most one item, with the number of the record that was made
record IsTicketed (items : List Item) (n m : ℕ) : Type 0 where
  pub less : n ≤ m
  pub before : (later : List Item) → AreRising m later → AreRising n (items ++ later)

no_ticket : (n m : ℕ) → n ≤ m → IsTicketed [] n m
no_ticket n m l = record { less = l; before = λ later h. rising_from n m later l h }

one_ticket : (deed : Deed) (n m k : ℕ) → m ≡ n + 1 → k ≡ n + 1 → IsTicketed (record { number = k; deed = deed } ∷ []) n m
one_ticket deed n m k e f = record { less = omega (arith, e); before = λ later h. (at_next n k f, subst (λ w. AreRising w later) (e ∙ sym f) h) }
  where
    at_next : (n k : ℕ) → k ≡ n + 1 → n < k
    at_next n k f = omega (arith, f)

module _ (s : State) (k : Standing) (writes : ℕ → List Write) where
  more_made : (n : ℕ) → n ≤ n + 1
  more_made n = omega arith

  built_ticket : (b : BuildReply) → IsBuildDue s k b → IsTicketed (items_at writes (Built b) Event.Build) k.made (after_build k b).made
  built_ticket Idle d = no_ticket _ _ (omega arith)
  built_ticket (BuildReply.Marked p n) d = one_ticket (Deed.Checkpointed p) k.made (k.made + 1) n refl d.3
  built_ticket (Scanned page) d = no_ticket _ _ (omega arith)
  built_ticket (Placed p) d = no_ticket _ _ (more_made k.made)
  built_ticket (Rejected p) d = no_ticket _ _ (omega arith)
  built_ticket (Done n) d = one_ticket Deed.Completed k.made (k.made + 1) n refl d.2

  cleaned_ticket : (c : CleanReply) → IsTicketed (items_at writes (Cleaner c) Event.Clean) k.made (after_clean k c).made
  cleaned_ticket (Cleaned p) = no_ticket _ _ (more_made k.made)
  cleaned_ticket (Kept p) = no_ticket _ _ (omega arith)
  cleaned_ticket Wrapped = no_ticket _ _ (omega arith)

  ticket_by : (e : Event) (right reply : Reply) → reply ≡ right → IsTicketed (items_at writes right e) k.made (standing_after k right).made
      → IsTicketed (items_at writes reply e) k.made (standing_after k reply).made
  ticket_by e right reply p a = rw p a

  due_ticket : (e : Event) (reply : Reply) (step : Option MachineStep) → IsStepDue s k e reply step
      → IsTicketed (items_at writes reply e) k.made (standing_after k reply).made
  due_ticket Event.Begin reply step d = ticket_by Event.Begin _ reply d.0 (no_ticket _ _ (omega arith))
  due_ticket (Event.Insert t row) reply step d = ticket_by (Event.Insert t row) _ reply d.2 (no_ticket _ _ (more_made k.made))
  due_ticket (Event.Delete t r) reply step d = ticket_by (Event.Delete t r) _ reply d.2 (no_ticket _ _ (more_made k.made))
  due_ticket (Event.Update t r row) reply step d = ticket_by (Event.Update t r row) _ reply d.2 (no_ticket _ _ (more_made k.made))
  due_ticket (Event.Step t) reply step d = ticket_by (Event.Step t) _ reply d.0 (no_ticket _ _ (more_made k.made))
  due_ticket (Event.Undo t) reply step d = elim d.0 [
    | inl empty ↦ ticket_by (Event.Undo t) _ reply empty.1 (no_ticket _ _ (omega arith))
    | inr more ↦ ticket_by (Event.Undo t) _ reply more.1 (no_ticket _ _ (more_made k.made))
  ]
  due_ticket (Event.End t) reply step d = ticket_by (Event.End t) _ reply d.0 (no_ticket _ _ (more_made k.made))
  due_ticket (Event.Commit t) reply step d = ticket_by (Event.Commit t) _ reply d.0
      (one_ticket (Deed.Committed (writes t)) k.made (k.made + 1) (k.made + 1) refl refl)
  due_ticket Event.Create reply step d = ticket_by Event.Create _ reply d.0 (one_ticket Deed.Created k.made (k.made + 1) (k.made + 1) refl refl)
  due_ticket Event.Build reply step d = ticket_by Event.Build _ reply d.2 (built_ticket d.0 d.1)
  due_ticket Event.Clean reply step d = ticket_by Event.Clean _ reply d.2 (cleaned_ticket d.0)
  due_ticket (Event.Get r) reply step d = ticket_by (Event.Get r) _ reply d.0 (no_ticket _ _ (omega arith))
  due_ticket (Event.Find key) reply step d = ticket_by (Event.Find key) _ reply d.2 (no_ticket _ _ (omega arith))
  due_ticket Event.Life reply step d = ticket_by Event.Life _ reply d.0 (no_ticket _ _ (omega arith))
  due_ticket Event.Drop reply step d = ticket_by Event.Drop _ reply d.0 (one_ticket Deed.Dropped k.made (k.made + 1) (k.made + 1) refl refl)

ticketed : (s : State) (k : Standing) (e : Event) (reply : Reply) (step : Option MachineStep) (writes : ℕ → List Write) → IsAllowed s k e reply step
    → IsTicketed (items_at writes reply e) k.made (standing_after k reply).made
ticketed s k e reply step writes (unknown a) = no_ticket _ _ (omega arith)
ticketed s k e reply step writes (skipped a b) = no_ticket _ _ (omega arith)
ticketed s k e reply step writes (refused a b error c) = no_ticket _ _ (omega arith)
ticketed s k e reply step writes (refused_last a b c r x d error f) = no_ticket _ _ (omega arith)
ticketed s k e reply step writes (no_memory a b c r x d f w) = no_ticket _ _ (omega arith)
ticketed s k e reply step writes (accepted a b c r x d f) = due_ticket s k writes e r x d

-- the numbers are above that of the first record, and at most that of the last
all_rising : (s : State) (k : Standing) (pairs : List (Event × Reply)) (made : List RecordValue) (s' : State) (k' : Standing)
    → ServesAll s k pairs made s' k' → (writes : ℕ → List Write) → AreRising k.made (items_of writes pairs)
all_rising s k pairs made s' k' nothing writes = tt
all_rising s k pairs made s'' k'' (served e reply step rest later allowed r) writes =
    (ticketed s k e reply step writes allowed).before (items_of (asked_after writes reply e) rest)
    (all_rising (after_any s step) (standing_after k reply) rest later s'' k'' r (asked_after writes reply e))

pub served_rising : (o : Opened) (last : ℕ) (made : List RecordValue) (pairs : List (Event × Reply)) (s : State) (k : Standing)
    → ServesAll (opened o) (standing_at last) pairs made s k → AreRising last (items_of no_writes pairs)
served_rising o last made pairs s k r = all_rising (opened o) (standing_at last) pairs made s k r no_writes
