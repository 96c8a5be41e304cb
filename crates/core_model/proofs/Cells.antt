-- The three kinds of step of a transaction: it marks a pair, puts a pair, or sets a row.
use Rattle.std.proofs.Common.{None, Option, Some, ap, inl, inr, refl, sym, true, true≢false, ℕ, ◌<◌, ◌∙◌, ◌≡◌, ◌≢◌, ◌⊎◌}
use Rattle.std.specs.FinMap.{get}
use Rattle.record_values.specs.Maps.{get-set_at_other, get-set_at_same, pair_exact, rid_exact, set_at}
use Rattle.record_values.specs.Orders.{pair_cmp-IsAntisymmetric, pair_cmp_total}
use Rattle.record_values.specs.Values.{Place}
use Rattle.record_values.specs.declared.pair.Mark.{Mark}
use Rattle.record_values.specs.declared.pair.Mark.TheVariants.{Live, Marked}
use Rattle.record_values.specs.declared.pair.Pair.{Pair}
use Rattle.record_values.specs.declared.row.Row.{Row}
use Rattle.model.specs.Table.{IsPairOf, Table}
use Rattle.record_values.specs.Entries.{Index}
use Rattle.model.specs.declared.life.Life.{Life}
use Rattle.model.specs.declared.life.Life.TheVariants.{Absent, Building}
use Rattle.core_model.proofs.Frames.{Frame, framed, moved, same_some, txn_here}
use Rattle.core_model.proofs.Latest.{Stays, not_none}
use Rattle.core_model.proofs.Orders.{decided}
use Rattle.core_model.specs.Changes.{latest, pair_of}
use Rattle.core_model.specs.Invariants.{IsBacked, IsBusyWith, IsChained, IsCoherent, IsHolderOf, IsPhaseOf, IsUnfinished, IsVisibleOrAhead, made_of}
use Rattle.core_model.specs.States.{Active, State}
use Rattle.core_model.specs.Steps.{is_indexed}

pub pair_decided : (a b : Pair) → (a ≡ b) ⊎ (a ≢ b)
pair_decided a b = decided pair_cmp_total pair_cmp-IsAntisymmetric a b

pub pair_is : (q : Pair) (r : Place) (row : Row) → row.key ≡ q.key → q.rid ≡ r → pair_of r row ≡ q
pair_is q r row k e = λ i. record { key = k i; rid = sym e i }

not_absent : (life : Life) → is_indexed life ≡ true → life ≡ Absent → ⊥
not_absent life e a = true≢false (sym e ∙ ap is_indexed a)

not_building : (life : Life) (highest : Option Pair) → life ≡ Building highest → life ≡ Absent → ⊥
not_building life highest e a = not_absent life (ap is_indexed e) a

live≢marked : {o : Option Mark} → o ≡ Some Live → o ≡ Some Marked → ⊥
live≢marked p q = absurd (cc)

-- what replaces a row here: nothing where there is no index, a row with its key, or one whose old pair is marked
unfoldable pub Replaced : State → Place → Row → Option Row → Type 0
Replaced s r row v = (s.life ≡ Absent) ⊎ (Stays row v ⊎ (get s.entries (pair_of r row) ≡ Some Marked))

module _ (s : State) (holder' : Place → Option ℕ) (r : Place) (t : ℕ) (x x' : Active) where
  -- what the step's cell has no part in
  pub record Ends : Type 0 where
    pub holder : (q : Place) → q ≢ r → holder' q ≡ s.holder q
    pub was : s.txns t ≡ Some x
    pub mine : (u : ℕ) → s.holder r ≡ Some u → u ≡ t
    pub held : holder' r ≡ Some t
    pub idle : (q : Place) → q ≢ r → IsBusyWith x.changes x.phase q → ⊥
    pub latest : (q : Place) (v : Option Row) → q ≢ r → latest (made_of x') q v ≡ latest (made_of x) q v
    pub inside : r.page < s.pages
    pub names : IsHolderOf holder' t x'.changes
    pub chained : IsChained s.committed x'.changes

  module _ (i : IsCoherent s) (n : Ends) where
    module _ (p : Pair) (here : p.rid ≡ r) (indexed : is_indexed s.life ≡ true) (mark : Mark) where
      abbrev entries' : Index
      entries' = set_at s.entries p (Some mark)

      now : get entries' p ≡ Some mark
      now = get-set_at_same pair_exact s.entries p (Some mark)

      other : (q : Pair) → q ≢ p → get entries' q ≡ get s.entries q
      other q m = get-set_at_other pair_exact s.entries p (Some mark) q m

      away : (q : Pair) → q.rid ≢ r → q ≢ p
      away q m e = m (ap (λ w. w.rid) e ∙ here)

      entry_frame : Frame s s.rows entries' holder' r t x x'
      entry_frame = record {
        rows = λ q m. refl;
        entries = λ q m. other q (away q m);
        holder = n.holder;
        was = n.was;
        mine = n.mine;
        held = n.held;
        idle = n.idle;
        latest = n.latest;
      }

      entry_backed_by : (q : Pair) → (q ≡ p) ⊎ (q ≢ p) → IsBacked s q → IsPairOf s.rows q ⊎ (get entries' q ≢ None)
      entry_backed_by q (inl same) h = inr (λ e. not_none now (ap (get entries') (sym same) ∙ e))
      entry_backed_by q (inr m) (inl is) = inl is
      entry_backed_by q (inr m) (inr some) = inr (λ e. some (sym (other q m) ∙ e))

      module _ (row : get s.rows r ≡ latest (made_of x') r (get s.committed r))
          (phase : IsPhaseOf (is_indexed s.life) entries' x'.changes x'.phase x'.rolling) where
        entry_step : ((q : Pair) → q.rid ≡ r → get entries' q ≡ Some Live → IsPairOf s.rows q)
            → ((of : Row) → get s.rows r ≡ Some of → (IsUnfinished (moved s s.rows entries' holder' r t x x') r → ⊥)
            → IsVisibleOrAhead (moved s s.rows entries' holder' r t x x') (pair_of r of))
            → IsCoherent (moved s s.rows entries' holder' r t x x')
        entry_step sound visible = framed s s.rows entries' holder' r t x x' entry_frame (record {
          row = row;
          inside = n.inside;
          names = n.names;
          chained = n.chained;
          phase = phase;
          sound = sound;
          visible = visible;
          empty = λ e q k. absurd (not_absent s.life indexed e);
          backed = λ h b q k g a. entry_backed_by q (pair_decided q p) (i.backed h b q g a);
        }) i

    module _ (p : Pair) (here : p.rid ≡ r) (indexed : is_indexed s.life ≡ true) (row : get s.rows r ≡ latest (made_of x') r (get s.committed r)) where
      mark_sound : (q : Pair) → (q ≡ p) ⊎ (q ≢ p) → get (set_at s.entries p (Some Marked)) q ≡ Some Live → IsPairOf s.rows q
      mark_sound q (inl same) e = absurd (live≢marked e (ap (get (set_at s.entries p (Some Marked))) same ∙ now p here indexed Marked))
      mark_sound q (inr m) e = i.sound q (sym (other p here indexed Marked q m) ∙ e)

      pub mark_step : IsPhaseOf (is_indexed s.life) (set_at s.entries p (Some Marked)) x'.changes x'.phase x'.rolling → IsBusyWith x'.changes x'.phase r
          → IsCoherent (moved s s.rows (set_at s.entries p (Some Marked)) holder' r t x x')
      mark_step phase busy = entry_step p here indexed Marked row phase
          (λ q k e. mark_sound q (pair_decided q p) e)
          (λ of e idle. absurd (idle (record { transaction = t; txn = x'; active = txn_here s t x'; busy = busy })))

      put_sound : (of : Row) → get s.rows r ≡ Some of → pair_of r of ≡ p → (q : Pair) → (q ≡ p) ⊎ (q ≢ p) → get (set_at s.entries p (Some Live)) q ≡ Some Live
          → IsPairOf s.rows q
      put_sound of at is q (inl same) e = record {
        row = of;
        is_there = ap (get s.rows) (ap (λ w. w.rid) same ∙ here)
            ∙ at;
        has_key = ap (λ w. w.key) (is ∙ sym same);
      }
      put_sound of at is q (inr m) e = i.sound q (sym (other p here indexed Live q m) ∙ e)

      pub put_step : (of : Row) → get s.rows r ≡ Some of → pair_of r of ≡ p
          → IsPhaseOf (is_indexed s.life) (set_at s.entries p (Some Live)) x'.changes x'.phase x'.rolling
          → IsCoherent (moved s s.rows (set_at s.entries p (Some Live)) holder' r t x x')
      put_step of at is phase = entry_step p here indexed Live row phase
          (λ q k e. put_sound of at is q (pair_decided q p) e)
          (λ of' at' idle. inl (ap (get (set_at s.entries p (Some Live))) (ap (pair_of r) (same_some at' at) ∙ is) ∙ now p here indexed Live))

    module _ (v : Option Row) (phase : IsPhaseOf (is_indexed s.life) s.entries x'.changes x'.phase x'.rolling) (replaced : (row : Row) → get s.rows r ≡ Some row
        → Replaced s r row v) where
      abbrev rows' : Table
      rows' = set_at s.rows r v

      set_now : get rows' r ≡ v
      set_now = get-set_at_same rid_exact s.rows r v

      row_frame : Frame s rows' s.entries holder' r t x x'
      row_frame = record {
        rows = λ q m. get-set_at_other rid_exact s.rows r v q m;
        entries = λ q m. refl;
        holder = n.holder;
        was = n.was;
        mine = n.mine;
        held = n.held;
        idle = n.idle;
        latest = n.latest;
      }

      -- an entry of the row that goes is of the new row too, or marked
      on_new : (q : Pair) → q.rid ≡ r → (is : IsPairOf s.rows q) → Replaced s r is.row v → (s.life ≡ Absent)
          ⊎ (IsPairOf rows' q ⊎ (get s.entries q ≡ Some Marked))
      unfolding Replaced
      on_new q k is (inl a) = inl a
      on_new q k is (inr (inl stay)) = inr (inl (record { row = stay.it; is_there = ap (get rows') k ∙ set_now ∙ stay.is; has_key = stay.key ∙ is.has_key }))
      on_new q k is (inr (inr marked)) = inr (inr (ap (get s.entries) (sym (pair_is q r is.row is.has_key k)) ∙ marked))

      row_at : (q : Pair) → q.rid ≡ r → IsPairOf s.rows q → (s.life ≡ Absent) ⊎ (IsPairOf rows' q ⊎ (get s.entries q ≡ Some Marked))
      row_at q k is = on_new q k is (replaced is.row (ap (get s.rows) (sym k) ∙ is.is_there))

      row_sound : (q : Pair) → get s.entries q ≡ Some Live → (s.life ≡ Absent) ⊎ (IsPairOf rows' q ⊎ (get s.entries q ≡ Some Marked)) → IsPairOf rows' q
      row_sound q e (inl a) = absurd (not_none e (i.empty a q))
      row_sound q e (inr (inl is)) = is
      row_sound q e (inr (inr marked)) = absurd (live≢marked e marked)

      row_backed_by : (q : Pair) (h : Option Pair) → s.life ≡ Building h → (s.life ≡ Absent) ⊎ (IsPairOf rows' q ⊎ (get s.entries q ≡ Some Marked))
          → IsPairOf rows' q ⊎ (get s.entries q ≢ None)
      row_backed_by q h b (inl a) = absurd (not_building s.life h b a)
      row_backed_by q h b (inr (inl is)) = inl is
      row_backed_by q h b (inr (inr marked)) = inr (λ e. not_none marked e)

      row_backed : (q : Pair) (h : Option Pair) → q.rid ≡ r → s.life ≡ Building h → IsBacked s q → IsPairOf rows' q ⊎ (get s.entries q ≢ None)
      row_backed q h k b (inl is) = row_backed_by q h b (row_at q k is)
      row_backed q h k b (inr some) = inr some

      pub row_step : v ≡ latest (made_of x') r (get s.committed r)
          → ((row : Row) → v ≡ Some row → (IsUnfinished (moved s rows' s.entries holder' r t x x') r → ⊥) → IsVisibleOrAhead s (pair_of r row))
          → IsCoherent (moved s rows' s.entries holder' r t x x')
      row_step row visible = framed s rows' s.entries holder' r t x x' row_frame (record {
        row = set_now ∙ row;
        inside = n.inside;
        names = n.names;
        chained = n.chained;
        phase = phase;
        sound = λ q k e. row_sound q e (row_at q k (i.sound q e));
        visible = λ of e idle. visible of (sym set_now ∙ e) idle;
        empty = λ e q k. i.empty e q;
        backed = λ h b q k g a. row_backed q h k b (i.backed h b q g a);
      }) i
