-- The cleaner's steps: the reply that is due, and what the core shows after it.
use Rattle.std.proofs.Common.{None, Option, Some, ap, append-nil, false, inl, inr, refl, subst, sym, true, true≢false, ◌+◌, ◌∙◌, ◌≡◌}
use Rattle.std.specs.FinMap.{get}
use Rattle.std.specs.Ordering.{is_lt}
use Rattle.std.specs.declared.cmp.Ordering.{Ordering}
use Rattle.std.specs.declared.cmp.Ordering.TheVariants.{Less}
use Rattle.record_values.specs.Maps.{set_at}
use Rattle.record_values.specs.Orders.{pair_cmp, is_above}
use Rattle.record_values.specs.declared.error.Error.{Error}
use Rattle.record_values.specs.declared.pair.Mark.{Mark}
use Rattle.record_values.specs.declared.pair.Pair.{Pair}
use Rattle.record_values.specs.KeyActions.{after_action}
use Rattle.model.specs.Pairs.{is_indexed}
use Rattle.record_values.specs.declared.key_action.KeyAction.TheVariants as key
use Rattle.model.specs.declared.life.Life.{Life}
use Rattle.model.specs.declared.life.Life.TheVariants.{Absent, Building, Complete}
use Rattle.marked_index.specs.Above.{IsAfter, IsLeastAbove}
use Rattle.core_model.proofs.Laws.{not_none}
use Rattle.core_model.specs.States.{State}
use Rattle.core_model.specs.Steps.{CanClean, IsPassed, Keep, MachineStep, Wrap, after}
use Rattle.core_model.specs.Events as events
use Rattle.core_model.specs.Events.{Event, Refused, Reply, Standing, standing_after}
use Rattle.core_model.specs.Replies.{IsStepDue, IsFirst, IsNextEntry, refusals, refused}
use Rattle.core_parts.specs.View.{Answers, CoreValue, IsScan, IsState, Serves, Shows}
use Rattle.core_parts.specs.Private.{HasNextNumber, IsUnrecorded, MayClean, taken_out}
use Rattle.core_parts.proofs.Due.{made, no_number, refusal, wants_memory}

absent_is : (life : Life) → is_indexed life ≡ false → life ≡ Absent
absent_is Absent e = refl
absent_is (Building highest) e = absurd (true≢false e)
absent_is Complete e = absurd (true≢false e)

pub nothing_to_clean : (v : CoreValue) → is_indexed v.life ≡ false → Serves v Event.Clean (Refused Error.NoIndex) v
nothing_to_clean v none s k st = refusal v s k Event.Clean Error.NoIndex st.shown
    (refused (λ x. x) tt Error.NoIndex (inl (absent_is s.life (ap is_indexed st.shown.life ∙ none), refl)))

indexed_apart : (life : Life) → is_indexed life ≡ true → life ≡ Absent → ⊥
indexed_apart life e f = true≢false (sym (sym (ap is_indexed f) ∙ e))

less_is : (r : Ordering) → is_lt r ≡ true → r ≡ Less
less_is Less e = refl
less_is Ordering.Equal e = cc
less_is Ordering.Greater e = cc

after_is : (o : Option Pair) (q : Pair) → is_above o q ≡ true → IsAfter o q
after_is None q e = tt
after_is (Some p) q e = less_is (pair_cmp p q) e

above_when : (o : Option Pair) (q : Pair) → IsAfter o q → is_above o q ≡ true
above_when None q a = refl
above_when (Some p) q a = ap is_lt a

module _ (v : CoreValue) (s : State) (k : Standing) (st : IsState v s k) (indexed : is_indexed v.life ≡ true) where
  abbrev h : Shows v s k
  h = st.shown

  first : IsFirst (refusals s k Event.Clean) None
  first = inr (indexed_apart s.life (ap is_indexed h.life ∙ indexed), refl)

  -- the scan and the transactions, which no step of the cleaner touches
  same_scan : IsScan v.scan s k
  same_scan = h.scan

  -- ---- at the end
  module _ (none : IsLeastAbove v.index.entries v.cleaned None) where
    abbrev wrapped : Reply
    wrapped = events.Cleaner events.Wrapped

    none_above : (p : Pair) → is_above s.cleaned p ≡ true → get s.entries p ≡ None
    none_above p over = ap (λ m. get m p) h.entries ∙ none p (after_is v.cleaned p (ap (λ o. is_above o p) (sym h.cleaned) ∙ over))

    wrapped_due : IsStepDue s k Event.Clean wrapped (Some Wrap)
    wrapped_due = (events.Wrapped, none_above, refl, refl)

    wrapped_shown : Shows (record v { cleaned = None }) (after s Wrap) (standing_after k wrapped)
    wrapped_shown = record {
      rows = h.rows;
      entries = h.entries;
      txns = h.txns;
      holder = h.holder;
      pledges = h.pledges;
      pledged = h.pledged;
      life = h.life;
      pages = h.pages;
      scan_pages = h.scan_pages;
      places = h.places;
      cleaned = refl;
      bound = h.bound;
      scan = record {
        run = h.scan.run;
        made = h.scan.made;
        given = h.scan.given;
        missed = h.scan.missed;
        taken = h.scan.taken;
        in_a_row = h.scan.in_a_row;
        untaken = h.scan.untaken;
      };
      made = h.made;
      begun = h.begun;
      active = h.active;
      attempts = h.attempts;
      all_attempts = h.all_attempts;
      commits = h.commits;
    }

    pub wrap_made : Answers v s k Event.Clean wrapped (record v { cleaned = None })
    wrap_made = made v s k h Event.Clean (λ x. x) tt first wrapped Wrap wrapped_due (λ x. x) (λ n. absurd (n refl)) (record v { cleaned = None }) wrapped_shown
        (sym (append-nil v.outbox))

  -- ---- at an entry
  module _ (p : Pair) (mark : Mark) (entry : IsLeastAbove v.index.entries v.cleaned (Some (p, mark))) where
    next : IsNextEntry s p
    next = record {
      there = λ e. not_none (ap (λ m. get m p) h.entries ∙ entry.1) e;
      above_place = ap (λ o. is_above o p) h.cleaned ∙ above_when v.cleaned p entry.0;
      least = λ q there over. not_above q (λ less. there (ap (λ m. get m q) h.entries
          ∙ entry.2 q (after_is v.cleaned q (ap (λ o. is_above o q) (sym h.cleaned) ∙ over)) less));
    }
      where
        not_above : (q : Pair) → (pair_cmp q p ≡ Less → ⊥) → is_above (Some q) p ≡ false
        not_above q n = by (pair_cmp q p) n
          where
            by : (r : Ordering) → (r ≡ Less → ⊥) → is_lt r ≡ false
            by Less m = absurd (m refl)
            by Ordering.Equal m = refl
            by Ordering.Greater m = refl

    can_is : MayClean v p → CanClean s p
    can_is may = record {
      marked = ap (λ m. get m p) h.entries ∙ may.marked;
      free = h.holder p.rid ∙ may.free;
      passed = subst (λ life. IsPassed life p) (sym h.life) may.passed;
    }

    may_is : CanClean s p → MayClean v p
    may_is can = record {
      marked = ap (λ m. get m p) (sym h.entries) ∙ can.marked;
      free = sym (h.holder p.rid) ∙ can.free;
      passed = subst (λ life. IsPassed life p) h.life can.passed;
    }

    module _ (may : MayClean v p) where
      abbrev out : Reply
      out = events.Cleaner (events.Cleaned p)

      out_due : IsStepDue s k Event.Clean out (Some (MachineStep.Clean p))
      out_due = (events.Cleaned p, (next, can_is may), refl, refl)

      pub clean_refused : (error : Error) → IsUnrecorded v error → Answers v s k Event.Clean (Refused error) v
      clean_refused error (inl why) = subst (λ e. Answers v s k Event.Clean (Refused e) v) (sym why.0)
          (no_number v s k h Event.Clean (λ x. x) tt first out (MachineStep.Clean p) out_due (λ x. x) (λ e. not_none refl e) why.1)
      clean_refused error (inr why) = subst (λ e. Answers v s k Event.Clean (Refused e) v) (sym why.0)
          (wants_memory v s k h Event.Clean (λ x. x) tt first out (MachineStep.Clean p) out_due (λ x. x) (λ n. why.1) (inl (λ e. not_none refl e)))

      out_shown : Shows (taken_out v p) (after s (MachineStep.Clean p)) (standing_after k out)
      out_shown = record {
        rows = h.rows;
        entries = ap (λ m. set_at m p None) h.entries ∙ ap (λ o. set_at v.index.entries p (after_action (key.Clean true) o)) (sym may.marked);
        txns = h.txns;
        holder = h.holder;
        pledges = h.pledges;
        pledged = h.pledged;
        life = h.life;
        pages = h.pages;
        scan_pages = h.scan_pages;
        places = h.places;
        cleaned = refl;
        bound = h.bound;
        scan = record {
          run = h.scan.run;
          made = h.scan.made;
          given = h.scan.given;
          missed = h.scan.missed;
          taken = h.scan.taken;
          in_a_row = h.scan.in_a_row;
          untaken = h.scan.untaken;
        };
        made = ap (λ n. n + 1) h.made;
        begun = h.begun;
        active = h.active;
        attempts = h.attempts;
        all_attempts = h.all_attempts;
        commits = h.commits;
      }

      pub clean_made : HasNextNumber v → Answers v s k Event.Clean out (taken_out v p)
      clean_made left = made v s k h Event.Clean (λ x. x) tt first out (MachineStep.Clean p) out_due (λ x. x) (λ n. left) (taken_out v p) out_shown refl

    module _ (kept : MayClean v p → ⊥) where
      abbrev stays : Reply
      stays = events.Cleaner (events.Kept p)

      stays_due : IsStepDue s k Event.Clean stays (Some (Keep p))
      stays_due = (events.Kept p, (next, λ can. kept (may_is can)), refl, refl)

      stays_shown : Shows (record v { cleaned = Some p }) (after s (Keep p)) (standing_after k stays)
      stays_shown = record {
        rows = h.rows;
        entries = h.entries;
        txns = h.txns;
        holder = h.holder;
        pledges = h.pledges;
        pledged = h.pledged;
        life = h.life;
        pages = h.pages;
        scan_pages = h.scan_pages;
        places = h.places;
        cleaned = refl;
        bound = h.bound;
        scan = record {
          run = h.scan.run;
          made = h.scan.made;
          given = h.scan.given;
          missed = h.scan.missed;
          taken = h.scan.taken;
          in_a_row = h.scan.in_a_row;
          untaken = h.scan.untaken;
        };
        made = h.made;
        begun = h.begun;
        active = h.active;
        attempts = h.attempts;
        all_attempts = h.all_attempts;
        commits = h.commits;
      }

      pub keep_made : Answers v s k Event.Clean stays (record v { cleaned = Some p })
      keep_made = made v s k h Event.Clean (λ x. x) tt first stays (Keep p) stays_due (λ x. x) (λ n. absurd (n refl))
          (record v { cleaned = Some p }) stays_shown (sym (append-nil v.outbox))

-- ---- what each call of a step serves, whatever state the core stands for
pub wrap_serves : (v : CoreValue) → is_indexed v.life ≡ true → IsLeastAbove v.index.entries v.cleaned None
    → Serves v Event.Clean (events.Cleaner events.Wrapped) (record v { cleaned = None })
wrap_serves v indexed none s k st = wrap_made v s k st indexed none

module _ (v : CoreValue) (indexed : is_indexed v.life ≡ true) (p : Pair) (entry : (mark : Mark) × IsLeastAbove v.index.entries v.cleaned (Some (p, mark))) where
  pub no_clean : MayClean v p → (error : Error) (v' : CoreValue) → IsUnrecorded v error → v' ≡ v → Serves v Event.Clean (Refused error) v'
  no_clean may error v' why same s k st = subst (Answers v s k Event.Clean (Refused error)) (sym same)
      (clean_refused v s k st indexed p entry.0 entry.1 may error why)

  pub clean_serves : MayClean v p → (v' : CoreValue) → HasNextNumber v → v' ≡ taken_out v p → Serves v Event.Clean (events.Cleaner (events.Cleaned p)) v'
  clean_serves may v' left is s k st = subst (Answers v s k Event.Clean (events.Cleaner (events.Cleaned p))) (sym is)
      (clean_made v s k st indexed p entry.0 entry.1 may left)

  pub keep_serves : (MayClean v p → ⊥) → Serves v Event.Clean (events.Cleaner (events.Kept p)) (record v { cleaned = Some p })
  keep_serves kept s k st = keep_made v s k st indexed p entry.0 entry.1 kept
