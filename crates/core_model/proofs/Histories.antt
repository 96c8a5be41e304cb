-- Every run has the history of its steps.
use Rattle.std.proofs.Common.{Bool, List, None, Option, Some, [], ap, arith, false, inl, inr, is_some, refl, subst, sym, true, true≢false, ℕ, ◌++◌, ◌<◌, ◌∙◌}
use Rattle.std.proofs.Common.{◌∷◌, ◌≡◌, ◌≢◌, ◌≤◌, ◌⊎◌}
use Rattle.std.specs.Cmp.{nat_cmp_total}
use Rattle.std.specs.FinMap.{get, get-empty, len, nat_cmp-IsAntisymmetric}
use Rattle.std.specs.Ordering.{nat_cmp}
use Rattle.std.specs.Prelude.{map}
use Rattle.records.specs.ChangeValue.{ChangeValue}
use Rattle.record_values.specs.Values.{Place}
use Rattle.record_values.specs.declared.pair.Mark.{Mark}
use Rattle.record_values.specs.declared.pair.Mark.TheVariants.{Live, Marked}
use Rattle.record_values.specs.declared.pair.Pair.{Pair}
use Rattle.record_values.specs.declared.row.Row.{Row}
use Rattle.model.specs.Committed.{writes_of}
use Rattle.model.specs.History.{Deed, Item, life_after, life_with, table_after, table_with}
use Rattle.model.specs.Table.{Table, applied}
use Rattle.model.specs.declared.life.Life.{Life}
use Rattle.model.specs.declared.life.Life.TheVariants.{Absent, Building, Complete}
use Rattle.model.specs.declared.write.Write.{Write}
use Rattle.core_model.proofs.Frames.{nat_decided, same_some}
use Rattle.core_model.proofs.Latest.{not_none}
use Rattle.core_model.proofs.Orders.{update_apart, update_here}
use Rattle.core_model.proofs.Runs.{run_keeps}
use Rattle.core_model.proofs.Sums.{none_reserved}
use Rattle.core_model.proofs.Txns.{newest_last}
use Rattle.core_model.specs.Changes.{Changes, Unchanged, as_list, new_pair, old_pair, pair_of, ◌▹◌}
use Rattle.core_model.specs.Histories.{AreItemsOf, CanOpen, FitsStore, IsCovered, ShowsJustTheRows, Opened, deeds_of, highest_of, history, no_writes, opened}
use Rattle.core_model.specs.Histories.{write_of, writes_after}
use Rattle.core_model.specs.Invariants.{Invariant, IsAhead, IsCoherent, IsUnfinished, IsWellFormed, Runs, no_step, one_step}
use Rattle.core_model.specs.States.{Active, Made, NewMarked, OldMarked, OldSet, Phase, RowSet, State}
use Rattle.core_model.specs.Steps.{Attempt, Begin, Checkpoint, Clean, Commit, Create, Drop, End, Finish, IsEnabled, Keep, Next, Start, MachineStep, Take, Undo}
use Rattle.core_model.specs.Steps.{Wrap, after, carried_on, is_indexed, new_txn, row_made, row_undone, started, txn_at, undoing, undone, undone_first}
use Rattle.record_values.specs.Orders.{is_above}
use Rattle.core_model.specs.Steps.{update, with_change, with_phase, without_newest}

-- the table and the life after these deeds
abbrev pub table_over : Table → List Deed → Table
table_over table [] = table
table_over table (deed ∷ deeds) = table_over (table_with table deed) deeds

abbrev pub life_over : Life → List Deed → Life
life_over life [] = life
life_over life (deed ∷ deeds) = life_over (life_with life deed) deeds

-- what was asked of each transaction that is not rolling back
pub record IsTold (txns : ℕ → Option Active) (writes : ℕ → List Write) : Type 0 where
  pub idle : (t : ℕ) → txns t ≡ None → writes t ≡ []
  pub active : (t : ℕ) (x : Active) → txns t ≡ Some x → x.rolling ≡ false → writes t ≡ writes_of (as_list x.changes)

-- ---- a core over loaded cells
module _ (o : Opened) (fits : FitsStore o) where
  at_highest : (p : Pair) (life : Life) → o.given.life ≡ life → highest_of life ≡ Some p → p.rid.page < o.pages
  at_highest p Absent l e = absurd (not_none e refl)
  at_highest p (Building h) l e = fits.highest p (l ∙ ap Building e)
  at_highest p Complete l e = absurd (not_none e refl)

  pub opened_fit : IsWellFormed (opened o)
  opened_fit = record {
    rows = fits.rows;
    held = λ r t e. absurd (not_none e refl);
    txns = λ t x e. absurd (not_none e refl);
    places = record {
      fits =
          let room : len o.given.entries ≤ o.places = fits.room in
          rw none_reserved (omega (arith, room));
      enough = λ t x e. absurd (not_none e refl);
    };
    inside = record {
      entries = fits.entries;
      bound = λ p e. at_highest p o.given.life refl e;
      highest = fits.highest;
      given = λ p e.
          absurd (true≢false (sym e));
    };
    pledged = λ t. ap is_some (get-empty nat_cmp t);
  }

module _ (o : Opened) (can : CanOpen o) where
  ahead_by : (p : Pair) (life : Life) (m : Option Mark) (b : Bool) → get o.given.entries p ≡ m → m ≢ Some Marked
      → (IsCovered life (highest_of life) p → get o.given.entries p ≡ Some Live) → is_above (highest_of life) p ≡ b
      → (life ≡ Absent → get o.given.entries p ≡ None)
      → (get o.given.entries p ≡ Some Live) ⊎ (get o.given.entries p ≡ None) × IsAhead life (highest_of life) (λ q. false) p
  ahead_by p life (Some Live) b e u c k a = inl e
  ahead_by p life (Some Marked) b e u c k a = absurd (u refl)
  ahead_by p Absent None b e u c k a = inr (e, tt)
  ahead_by p (Building h) None true e u c k a = inr (e, (k, refl))
  ahead_by p (Building h) None false e u c k a = absurd (not_none (c k) e)
  ahead_by p Complete None b e u c k a = absurd (not_none (c tt) e)

  opened_coherent : IsCoherent (opened o)
  opened_coherent = record {
    free = λ r e. refl;
    held = λ r t e. absurd (not_none e refl);
    inside = can.fits.rows;
    txns = λ t x e. absurd (not_none e refl);
    sound = can.sound;
    visible = λ r row e idle. ahead_by (pair_of r row) o.given.life _ _ refl (can.unmarked r row e) (can.complete r row e) refl (λ a.
        can.empty a (pair_of r row));
    empty = can.empty;
    backed = λ h e p g a. absurd (true≢false (sym g));
    behind = λ h e p a. subst (λ l. is_above (highest_of l) p ≡ true) e a;
  }

  pub opened_holds : Invariant (opened o)
  opened_holds = record { fit = opened_fit o can.fits; coherent = opened_coherent }

pub complete_by : (life : Life) (bound : Option Pair) (missed : Pair → Bool) (p : Pair) → IsAhead life bound missed p → IsCovered life bound p → ⊥
complete_by Absent bound missed p a c = c
complete_by (Building h) bound missed p a c = true≢false (sym a.0 ∙ c)
complete_by Complete bound missed p a c = a

pub live_by : (s : State) → Invariant s → (r : Place) (row : Row) → get s.rows r ≡ Some row → (IsUnfinished s r → ⊥) → IsCovered s.life s.bound (pair_of r row)
    → get s.entries (pair_of r row) ≡ Some Live
live_by s i r row e idle c = elim (i.coherent.visible r row e idle)
    [ inl live ↦ live | inr w ↦ absurd (complete_by s.life s.bound s.missed (pair_of r row) w.1 c) ]

pub whole : (s : State) → Invariant s → s.life ≡ Complete → ((t : ℕ) → s.txns t ≡ None) → ShowsJustTheRows s
whole s i complete quiet p = (
  i.coherent.sound p,
  λ is.
      subst (λ (q : Pair). get s.entries q ≡ Some Live) (λ j. record { key = is.has_key j; rid = p.rid })
      (live_by s i p.rid is.row is.is_there (λ h. not_none h.active (quiet h.transaction))
      (subst (λ life. IsCovered life s.bound (pair_of p.rid is.row)) (sym complete) tt)),
)

-- ---- the history
-- one transaction changes, and its writes with it
module _ (txns : ℕ → Option Active) (writes writes' : ℕ → List Write) (told : IsTold txns writes) (t : ℕ) (same : (u : ℕ) → u ≢ t → writes' u ≡ writes u) where
  other_idle : (o : Option Active) (u : ℕ) → u ≢ t → update nat_cmp txns t o u ≡ None → writes' u ≡ []
  other_idle o u n e = same u n ∙ told.idle u (sym (update_apart nat_cmp-IsAntisymmetric txns t o u n) ∙ e)

  other_active : (o : Option Active) (u : ℕ) (x : Active) → u ≢ t → update nat_cmp txns t o u ≡ Some x → x.rolling ≡ false
      → writes' u ≡ writes_of (as_list x.changes)
  other_active o u x n e f = same u n ∙ told.active u x (sym (update_apart nat_cmp-IsAntisymmetric txns t o u n) ∙ e) f

  at_txn : (o : Option Active) (u : ℕ) → u ≡ t → update nat_cmp txns t o u ≡ o
  at_txn o u e = ap (update nat_cmp txns t o) e ∙ update_here nat_cmp_total txns t o

  pub told_left : writes' t ≡ [] → IsTold (update nat_cmp txns t None) writes'
  told_left none_left = record {
    idle = λ u e. elim (nat_decided u t) [ inl is ↦ ap writes' is ∙ none_left | inr n ↦ other_idle None u n e ];
    active = λ u x e f. elim (nat_decided u t) [ inl is ↦ absurd (not_none e (at_txn None u is)) | inr n ↦ other_active None u x n e f ];
  }

  pub told_now : (x' : Active) → (x'.rolling ≡ false → writes' t ≡ writes_of (as_list x'.changes)) → IsTold (update nat_cmp txns t (Some x')) writes'
  told_now x' now = record {
    idle = λ u e. elim (nat_decided u t) [ inl is ↦ absurd (not_none (at_txn (Some x') u is) e) | inr n ↦ other_idle (Some x') u n e ];
    active = λ u x e f. elim (nat_decided u t) [
      | inl is ↦
          let who : x' ≡ x = same_some (at_txn (Some x') u is) e in
          ap writes' is ∙ now (ap (λ (y : Active). y.rolling) who ∙ f) ∙ ap (λ (y : Active). writes_of (as_list y.changes)) who
      | inr n ↦ other_active (Some x') u x n e f
    ];
  }

-- the same writes, where the transaction goes on with its changes or rolls back
told_on : (txns : ℕ → Option Active) (writes : ℕ → List Write) → IsTold txns writes → (t : ℕ) (x x' : Active) → txns t ≡ Some x
    → (x'.rolling ≡ false → (x.rolling ≡ false) × (x'.changes ≡ x.changes)) → IsTold (update nat_cmp txns t (Some x')) writes
told_on txns writes told t x x' active on =
    told_now txns writes writes told t (λ u n. refl) x' (λ f. told.active t x active (on f).0 ∙ ap (λ cs. writes_of (as_list cs)) (sym (on f).1))

rolls : (x x' : Active) → x'.rolling ≡ true → x'.rolling ≡ false → (x.rolling ≡ false) × (x'.changes ≡ x.changes)
rolls x x' e f = absurd (true≢false (sym e ∙ f))

told_started : (s : State) (writes : ℕ → List Write) → IsTold s.txns writes → (t : ℕ) (x : Active) (c : ChangeValue) → s.txns t ≡ Some x → x.rolling ≡ false
    → (o : Option Pair)
    → IsTold (started s t x c o).txns (update nat_cmp writes t (writes t ++ write_of c ∷ []))
told_started s writes told t x c active forward (Some p) =
    told_now s.txns writes (update nat_cmp writes t (writes t ++ write_of c ∷ [])) told t (λ u n. update_apart nat_cmp-IsAntisymmetric writes t _ u n)
    (with_change x c OldMarked)
    (λ f. update_here nat_cmp_total writes t _ ∙ ap (λ w. w ++ write_of c ∷ []) (told.active t x active forward) ∙ sym (newest_last c x.changes))
told_started s writes told t x c active forward None =
    told_now s.txns writes (update nat_cmp writes t (writes t ++ write_of c ∷ [])) told t (λ u n. update_apart nat_cmp-IsAntisymmetric writes t _ u n)
    (with_change x c (row_made (new_pair (is_indexed s.life) c)))
    (λ f. update_here nat_cmp_total writes t _ ∙ ap (λ w. w ++ write_of c ∷ []) (told.active t x active forward) ∙ sym (newest_last c x.changes))

told_carried : (s : State) (writes : ℕ → List Write) → IsTold s.txns writes → (t : ℕ) (x : Active) → s.txns t ≡ Some x → (cs : Changes) (phase : Phase)
    → IsTold (carried_on s t x cs phase).txns writes
told_carried s writes told t x active Unchanged phase = told
told_carried s writes told t x active (older ▹ c) OldMarked =
    told_on s.txns writes told t x (with_phase x (row_made (new_pair (is_indexed s.life) c))) active (λ f. (f, refl))
told_carried s writes told t x active (older ▹ c) RowSet = told_on s.txns writes told t x (with_phase x Made) active (λ f. (f, refl))
told_carried s writes told t x active (older ▹ c) Made = told
told_carried s writes told t x active (older ▹ c) (NewMarked b) = told
told_carried s writes told t x active (older ▹ c) OldSet = told

undone_rolls : (x : Active) (older : Changes) (o : Option Pair) → (row_undone x older o).rolling ≡ true
undone_rolls x older None = refl
undone_rolls x older (Some p) = refl

told_first : (s : State) (writes : ℕ → List Write) → IsTold s.txns writes → (t : ℕ) (x : Active) → s.txns t ≡ Some x
    → (c : ChangeValue) (older : Changes) (b : Bool) (o : Option Pair) → IsTold (undone_first s t x c older b o).txns writes
told_first s writes told t x active c older b (Some p) =
    told_on s.txns writes told t x (undoing x (NewMarked b)) active (rolls x (undoing x (NewMarked b)) refl)
told_first s writes told t x active c older b None =
    told_on s.txns writes told t x (row_undone x older (old_pair (is_indexed s.life) c)) active
    (rolls x (row_undone x older (old_pair (is_indexed s.life) c)) (undone_rolls x older (old_pair (is_indexed s.life) c)))

told_undone : (s : State) (writes : ℕ → List Write) → IsTold s.txns writes → (t : ℕ) (x : Active) → s.txns t ≡ Some x → (cs : Changes) (phase : Phase)
    → IsTold (undone s t x cs phase).txns writes
told_undone s writes told t x active Unchanged phase = told_on s.txns writes told t x (undoing x phase) active (rolls x (undoing x phase) refl)
told_undone s writes told t x active (older ▹ c) OldMarked = told_first s writes told t x active c older false (new_pair (is_indexed s.life) c)
told_undone s writes told t x active (older ▹ c) RowSet = told_first s writes told t x active c older true (new_pair (is_indexed s.life) c)
told_undone s writes told t x active (older ▹ c) Made = told_first s writes told t x active c older true (new_pair (is_indexed s.life) c)
told_undone s writes told t x active (older ▹ c) (NewMarked b) =
    told_on s.txns writes told t x (row_undone x older (old_pair (is_indexed s.life) c)) active
    (rolls x (row_undone x older (old_pair (is_indexed s.life) c)) (undone_rolls x older (old_pair (is_indexed s.life) c)))
told_undone s writes told t x active (older ▹ c) OldSet = told_on s.txns writes told t x (without_newest older) active (rolls x (without_newest older) refl)

emptied : (writes : ℕ → List Write) (t u : ℕ) → u ≢ t → update nat_cmp writes t [] u ≡ writes u
emptied writes t u n = update_apart nat_cmp-IsAntisymmetric writes t [] u n

told_gone : (s : State) (writes : ℕ → List Write) → IsTold s.txns writes → (t : ℕ) → IsTold (update nat_cmp s.txns t None) (update nat_cmp writes t [])
told_gone s writes told t = told_left s.txns writes (update nat_cmp writes t []) told t (emptied writes t) (update_here nat_cmp_total writes t [])

pub same_started : (s : State) (t : ℕ) (x : Active) (c : ChangeValue) (o : Option Pair) → (started s t x c o).committed ≡ s.committed
same_started s t x c None = refl
same_started s t x c (Some p) = refl

pub same_carried : (s : State) (t : ℕ) (x : Active) (cs : Changes) (phase : Phase) → (carried_on s t x cs phase).committed ≡ s.committed
same_carried s t x Unchanged phase = refl
same_carried s t x (older ▹ c) OldMarked = refl
same_carried s t x (older ▹ c) RowSet = refl
same_carried s t x (older ▹ c) Made = refl
same_carried s t x (older ▹ c) (NewMarked b) = refl
same_carried s t x (older ▹ c) OldSet = refl

same_first : (s : State) (t : ℕ) (x : Active) (c : ChangeValue) (older : Changes) (b : Bool) (o : Option Pair)
    → (undone_first s t x c older b o).committed ≡ s.committed
same_first s t x c older b None = refl
same_first s t x c older b (Some p) = refl

pub same_undone : (s : State) (t : ℕ) (x : Active) (cs : Changes) (phase : Phase) → (undone s t x cs phase).committed ≡ s.committed
same_undone s t x Unchanged phase = refl
same_undone s t x (older ▹ c) OldMarked = same_first s t x c older false (new_pair (is_indexed s.life) c)
same_undone s t x (older ▹ c) RowSet = same_first s t x c older true (new_pair (is_indexed s.life) c)
same_undone s t x (older ▹ c) Made = same_first s t x c older true (new_pair (is_indexed s.life) c)
same_undone s t x (older ▹ c) (NewMarked b) = refl
same_undone s t x (older ▹ c) OldSet = refl

-- a commit adds just what its transaction set
pub table_step : (s : State) (writes : ℕ → List Write) → IsTold s.txns writes → (e : MachineStep) → IsEnabled s e
    → (after s e).committed ≡ table_over s.committed (deeds_of writes e)
table_step s writes told (Begin t) a = refl
table_step s writes told (Start t c) a = same_started s t (txn_at s t) c (old_pair (is_indexed s.life) c)
table_step s writes told (Next t) a = same_carried s t (txn_at s t) (txn_at s t).changes (txn_at s t).phase
table_step s writes told (Undo t) a = same_undone s t (txn_at s t) (txn_at s t).changes (txn_at s t).phase
table_step s writes told (End t) a = refl
table_step s writes told (Commit t) a = ap (applied s.committed) (sym (told.active t (txn_at s t) a.0 a.1.1))
table_step s writes told Create a = refl
table_step s writes told (Take n) a = refl
table_step s writes told (Attempt p) a = refl
table_step s writes told (Checkpoint p) a = refl
table_step s writes told Finish a = refl
table_step s writes told (Clean p) a = refl
table_step s writes told (Keep p) a = refl
table_step s writes told Wrap a = refl
table_step s writes told Drop a = refl

pub told_step : (s : State) (writes : ℕ → List Write) → IsTold s.txns writes → (e : MachineStep) → IsEnabled s e
    → IsTold (after s e).txns (writes_after writes e)
told_step s writes told (Begin t) a = told_now s.txns writes writes told t (λ u n. refl) new_txn (λ f. told.idle t a)
told_step s writes told (Start t c) a = told_started s writes told t (txn_at s t) c a.active a.ready.1 (old_pair (is_indexed s.life) c)
told_step s writes told (Next t) a = told_carried s writes told t (txn_at s t) a.0 (txn_at s t).changes (txn_at s t).phase
told_step s writes told (Undo t) a = told_undone s writes told t (txn_at s t) a (txn_at s t).changes (txn_at s t).phase
told_step s writes told (End t) a = told_gone s writes told t
told_step s writes told (Commit t) a = told_gone s writes told t
told_step s writes told Create a = told
told_step s writes told (Take n) a = told
told_step s writes told (Attempt p) a = told
told_step s writes told (Checkpoint p) a = told
told_step s writes told Finish a = told
told_step s writes told (Clean p) a = told
told_step s writes told (Keep p) a = told
told_step s writes told Wrap a = told
told_step s writes told Drop a = told

life_started : (s : State) (t : ℕ) (x : Active) (c : ChangeValue) (o : Option Pair) → (started s t x c o).life ≡ s.life
life_started s t x c None = refl
life_started s t x c (Some p) = refl

life_carried : (s : State) (t : ℕ) (x : Active) (cs : Changes) (phase : Phase) → (carried_on s t x cs phase).life ≡ s.life
life_carried s t x Unchanged phase = refl
life_carried s t x (older ▹ c) OldMarked = refl
life_carried s t x (older ▹ c) RowSet = refl
life_carried s t x (older ▹ c) Made = refl
life_carried s t x (older ▹ c) (NewMarked b) = refl
life_carried s t x (older ▹ c) OldSet = refl

life_first : (s : State) (t : ℕ) (x : Active) (c : ChangeValue) (older : Changes) (b : Bool) (o : Option Pair) → (undone_first s t x c older b o).life ≡ s.life
life_first s t x c older b None = refl
life_first s t x c older b (Some p) = refl

life_undone : (s : State) (t : ℕ) (x : Active) (cs : Changes) (phase : Phase) → (undone s t x cs phase).life ≡ s.life
life_undone s t x Unchanged phase = refl
life_undone s t x (older ▹ c) OldMarked = life_first s t x c older false (new_pair (is_indexed s.life) c)
life_undone s t x (older ▹ c) RowSet = life_first s t x c older true (new_pair (is_indexed s.life) c)
life_undone s t x (older ▹ c) Made = life_first s t x c older true (new_pair (is_indexed s.life) c)
life_undone s t x (older ▹ c) (NewMarked b) = refl
life_undone s t x (older ▹ c) OldSet = refl

pub life_step : (s : State) (writes : ℕ → List Write) (e : MachineStep) → IsEnabled s e → (after s e).life ≡ life_over s.life (deeds_of writes e)
life_step s writes (Begin t) a = refl
life_step s writes (Start t c) a = life_started s t (txn_at s t) c (old_pair (is_indexed s.life) c)
life_step s writes (Next t) a = life_carried s t (txn_at s t) (txn_at s t).changes (txn_at s t).phase
life_step s writes (Undo t) a = life_undone s t (txn_at s t) (txn_at s t).changes (txn_at s t).phase
life_step s writes (End t) a = refl
life_step s writes (Commit t) a = refl
life_step s writes Create a = refl
life_step s writes (Take n) a = refl
life_step s writes (Attempt p) a = refl
life_step s writes (Checkpoint p) a = refl
life_step s writes Finish a = refl
life_step s writes (Clean p) a = refl
life_step s writes (Keep p) a = refl
life_step s writes Wrap a = refl
life_step s writes Drop a = refl

pub table_over-append : (table : Table) (ds es : List Deed) → table_over table (ds ++ es) ≡ table_over (table_over table ds) es
table_over-append table [] es = refl
table_over-append table (d ∷ ds) es = table_over-append (table_with table d) ds es

pub life_over-append : (life : Life) (ds es : List Deed) → life_over life (ds ++ es) ≡ life_over (life_over life ds) es
life_over-append life [] es = refl
life_over-append life (d ∷ ds) es = life_over-append (life_with life d) ds es

-- the life is that of the history
pub tells_life : (s s' : State) (es : List MachineStep) → Runs s es s' → (writes : ℕ → List Write) → s'.life ≡ life_over s.life (history writes es)
tells_life s s' es no_step writes = refl
tells_life s s' es (one_step e rest a r) writes =
    tells_life (after s e) s' rest r (writes_after writes e)
    ∙ ap (λ life. life_over life (history (writes_after writes e) rest)) (life_step s writes e a)
    ∙ sym (life_over-append s.life (deeds_of writes e) (history (writes_after writes e) rest))

-- the committed table is that of the history
pub tells_table : (s s' : State) (es : List MachineStep) → Runs s es s' → (writes : ℕ → List Write) → IsTold s.txns writes
    → s'.committed ≡ table_over s.committed (history writes es)
tells_table s s' es no_step writes told = refl
tells_table s s' es (one_step e rest a r) writes told =
    tells_table (after s e) s' rest r (writes_after writes e) (told_step s writes told e a)
    ∙ ap (λ table. table_over table (history (writes_after writes e) rest)) (table_step s writes told e a)
    ∙ sym (table_over-append s.committed (deeds_of writes e) (history (writes_after writes e) rest))

pub nothing_told : IsTold (λ t. None) no_writes
nothing_told = record { idle = λ t e. refl; active = λ t x e f. absurd (not_none e refl) }

pub items_table : (table : Table) (items : List Item) → table_over table (map (λ (item : Item). item.deed) items) ≡ table_after table items
items_table table [] = refl
items_table table (item ∷ items) = items_table (table_with table item.deed) items

pub items_life : (life : Life) (items : List Item) → life_over life (map (λ (item : Item). item.deed) items) ≡ life_after life items
items_life life [] = refl
items_life life (item ∷ items) = items_life (life_with life item.deed) items

pub told_table : (o : Opened) (es : List MachineStep) (s : State) → Runs (opened o) es s → (items : List Item) → AreItemsOf items es
    → s.committed ≡ table_after o.given.table items
told_table o es s r items h = tells_table (opened o) s es r no_writes nothing_told ∙ ap (table_over o.given.table) (sym h) ∙ items_table o.given.table items

pub told_life : (o : Opened) (es : List MachineStep) (s : State) → Runs (opened o) es s → (items : List Item) → AreItemsOf items es
    → s.life ≡ life_after o.given.life items
told_life o es s r items h = tells_life (opened o) s es r no_writes ∙ ap (life_over o.given.life) (sym h) ∙ items_life o.given.life items

pub interleaved_whole : (o : Opened) → CanOpen o → (es : List MachineStep) (s : State) → Runs (opened o) es s → s.life ≡ Complete → ((t : ℕ) → s.txns t ≡ None)
    → ShowsJustTheRows s
interleaved_whole o can es s r complete quiet = whole s (run_keeps _ s es r (opened_holds o can)) complete quiet
