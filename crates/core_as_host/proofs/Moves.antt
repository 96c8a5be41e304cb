-- One step of the store as one step of host and index, or none.
use Rattle.std.proofs.Common.{Bool, List, None, Option, Some, [], ap, cond, false, inl, inr, refl, subst, sym, true, true≢false}
use Rattle.std.proofs.Common.{ℕ, ◌&&◌, ◌<◌, ◌||◌, ◌∙◌, ◌∷◌, ◌≡◌, ◌≢◌, ◌⊎◌}
use Rattle.std.specs.FinMap.{get}
use Rattle.record_values.specs.Entries.{Index}
use Rattle.record_values.specs.Maps.{set_at}
use Rattle.record_values.specs.Orders.{rid_cmp-IsAntisymmetric, rid_cmp_total}
use Rattle.record_values.specs.Values.{Place}
use Rattle.record_values.specs.declared.pair.Mark.TheVariants.{Live, Marked}
use Rattle.record_values.specs.declared.pair.Pair.{Pair}
use Rattle.record_values.specs.declared.row.Row.{Row}
use Rattle.model.specs.Table.{Table}
use Rattle.core_model.proofs.Laws.{apart, level, nat_decided, not_none, rid_decided, same_some, txn_apart, txn_here}
use Rattle.core_model.specs.Invariants.{IsBusyWith, IsUnfinished}
use Rattle.core_model.specs.States.{Active, Pledges, State}
use Rattle.core_model.specs.Steps.{with_txn}
use Rattle.online_model.specs.World as step
use Rattle.online_model.specs.World.{IsEnabled, IsMarkedAt, IsOfRow, Step, World, after, is_pair_of, is_put_due, no_step, one_step, with_at}
use Rattle.core_as_host.specs.Hosting.{GetsTo, IsWorldOf, key_of}
use Rattle.core_as_host.proofs.Rows.{pair_by_test, set_apart, set_here, test_by_pair}

module _ {X : Type 0} (f : Place → X) (r : Place) (v : X) where
  with_here : with_at f r v r ≡ v
  unfolding with_at
  with_here = ap (λ b. cond b v (f r)) (level rid_cmp_total r)

  with_apart : (q : Place) → q ≢ r → with_at f r v q ≡ f q
  unfolding with_at
  with_apart q n = ap (λ b. cond b v (f q)) (apart rid_cmp-IsAntisymmetric q r n)

pub by_one : (w : World) (s : State) (e : Step) → IsEnabled w e → IsWorldOf s (after w e) → GetsTo w s
by_one w s e enabled is = record { steps = e ∷ []; last = after w e; run = one_step e [] enabled no_step; is = is }

pub by_none : (w : World) (s : State) → IsWorldOf s w → GetsTo w s
by_none w s is = record { steps = []; last = w; run = no_step; is = is }

or_right : (a b : Bool) → b ≡ true → (a || b) ≡ true
or_right true b e = refl
or_right false b e = e

and_right : (a b : Bool) → (a && b) ≡ true → b ≡ true
and_right true b e = e
and_right false b e = absurd (true≢false (sym e))

-- a step of a transaction that is active
module _ (s : State) (w : World) (h : IsWorldOf s w) (t : ℕ) (x : Active) (was : s.txns t ≡ Some x)
    (x' : Active) (holder' : Place → Option ℕ) (pledges' : Pledges) where
  abbrev pub changed : Table → Index → State
  changed rows' entries' = record s { rows = rows'; entries = entries'; txns = with_txn s t x'; holder = holder'; pledges = pledges' }

  module _ (rows' : Table) (entries' : Index) where
    pub still : (r : Place) → (IsBusyWith x.changes x.phase r → IsBusyWith x'.changes x'.phase r) → IsUnfinished s r → IsUnfinished (changed rows' entries') r
    still r same u = elim (nat_decided u.transaction t) [
      | inl here ↦
          let is : u.txn ≡ x = same_some u.active (ap s.txns here ∙ was) in
          record {
            transaction = t;
            txn = x';
            active = txn_here s t x';
            busy = same (subst (λ (y : Active). IsBusyWith y.changes y.phase r) is u.busy);
          }
      | inr n ↦ record { transaction = u.transaction; txn = u.txn; active = txn_apart s t x' u.transaction n ∙ u.active; busy = u.busy }
    ]

    pub begun : (r : Place) → IsBusyWith x'.changes x'.phase r → IsUnfinished (changed rows' entries') r
    begun r busy = record { transaction = t; txn = x'; active = txn_here s t x'; busy = busy }

  -- no step: the keys of the rows are as they were
  pub by_nothing : (rows' : Table) → ((r : Place) → key_of (get rows' r) ≡ key_of (get s.rows r))
      → ((r : Place) → IsBusyWith x.changes x.phase r → IsBusyWith x'.changes x'.phase r) → GetsTo w (changed rows' s.entries)
  by_nothing rows' same keep = by_none w (changed rows' s.entries) (record {
    rows = λ r. h.rows r ∙ sym (same r);
    busy = λ r b. still rows' s.entries r (keep r) (h.busy r b);
    entries = h.entries;
    life = h.life;
    pages = h.pages;
    bound = h.bound;
    read_with = h.read_with;
    read_without = h.read_without;
    held_once = h.held_once;
    held_always = h.held_always;
  })

  -- a mark of this pair, by a transaction that is then not done with the row
  module _ (p : Pair) (others : (r : Place) → r ≢ p.rid → IsBusyWith x.changes x.phase r → ⊥) (here : IsBusyWith x'.changes x'.phase p.rid) where
    abbrev marked : Index
    marked = set_at s.entries p (Some Marked)

    mark_busy : (r : Place) → (after w (step.Mark p)).busy r ≡ true → IsUnfinished (changed s.rows marked) r
    mark_busy r b = elim (rid_decided r p.rid) [
      | inl same ↦ subst (λ q. IsUnfinished (changed s.rows marked) q) (sym same) (begun s.rows marked p.rid here)
      | inr n ↦ still s.rows marked r (λ k. absurd (others r n k)) (h.busy r (sym (with_apart w.busy p.rid _ r n) ∙ b))
    ]

    pub by_mark : GetsTo w (changed s.rows (set_at s.entries p (Some Marked)))
    by_mark = by_one w (changed s.rows marked) (step.Mark p) tt (record {
      rows = h.rows;
      busy = mark_busy;
      entries = ap (λ (m : Index). set_at m p (Some Marked)) h.entries;
      life = h.life;
      pages = h.pages;
      bound = h.bound;
      read_with = h.read_with;
      read_without = h.read_without;
      held_once = h.held_once;
      held_always = h.held_always;
    })

  -- a put of this pair, which the row has
  module _ (p : Pair) (others : (r : Place) → r ≢ p.rid → IsBusyWith x.changes x.phase r → ⊥) (is : key_of (get s.rows p.rid) ≡ Some p.key) where
    abbrev shown : Index
    shown = set_at s.entries p (Some Live)

    put_busy : (r : Place) → (after w (step.Put p)).busy r ≡ true → IsUnfinished (changed s.rows shown) r
    put_busy r b = elim (rid_decided r p.rid) [
      | inl same ↦ absurd (true≢false (sym b ∙ ap (with_at w.busy p.rid false) same ∙ with_here w.busy p.rid false))
      | inr n ↦ still s.rows shown r (λ k. absurd (others r n k)) (h.busy r (sym (with_apart w.busy p.rid false r n) ∙ b))
    ]

    pub by_put : GetsTo w (changed s.rows (set_at s.entries p (Some Live)))
    by_put = by_one w (changed s.rows shown) (step.Put p) (h.rows p.rid ∙ is) (record {
      rows = h.rows;
      busy = put_busy;
      entries = ap (λ (m : Index). set_at m p (Some Live)) h.entries;
      life = h.life;
      pages = h.pages;
      bound = h.bound;
      read_with = h.read_with;
      read_without = h.read_without;
      held_once = h.held_once;
      held_always = h.held_always;
    })

  -- the row at this place becomes this one
  module _ (r : Place) (row : Option Row) (others : (q : Place) → q ≢ r → IsBusyWith x.changes x.phase q → ⊥)
      (due : is_put_due (key_of row) ≡ true → IsBusyWith x'.changes x'.phase r) (may : IsMarkedAt w r) where
    abbrev set : Table
    set = set_at s.rows r row

    abbrev next : World
    next = after w (step.Change r (key_of row))

    change_rows : (q : Place) → next.rows q ≡ key_of (get set q)
    change_rows q = elim (rid_decided q r) [
      | inl same ↦ ap next.rows same ∙ with_here w.rows r (key_of row) ∙ sym (set_here s.rows r row) ∙ ap (λ x. key_of (get set x)) (sym same)
      | inr n ↦ with_apart w.rows r (key_of row) q n ∙ h.rows q ∙ sym (set_apart s.rows r row q n)
    ]

    change_busy : (q : Place) → next.busy q ≡ true → IsUnfinished (changed set s.entries) q
    change_busy q b = elim (rid_decided q r) [
      | inl same ↦
          let now : is_put_due (key_of row) ≡ true = sym (with_here w.busy r (is_put_due (key_of row))) ∙ ap next.busy (sym same) ∙ b in
          subst (λ v. IsUnfinished (changed set s.entries) v) (sym same) (begun set s.entries r (due now))
      | inr n ↦ still set s.entries q (λ k. absurd (others q n k)) (h.busy q (sym (with_apart w.busy r _ q n) ∙ b))
    ]

    pub by_change : GetsTo w (changed (set_at s.rows r row) s.entries)
    by_change = by_one w (changed set s.entries) (step.Change r (key_of row)) may (record {
      rows = change_rows;
      busy = change_busy;
      entries = h.entries;
      life = h.life;
      pages = h.pages;
      bound = h.bound;
      read_with = h.read_with;
      read_without = h.read_without;
      held_once = λ p e. or_right (w.held_once p) _ (test_by_pair (next.rows p.rid) p e);
      held_always = λ p e. pair_by_test (next.rows p.rid) p (and_right (w.held_always p) _ e);
    })
