-- The cells that the log has are those of the core.
use Rattle.std.proofs.Common.{◌≡◌, ◌≢◌, ℕ, ◌<◌, Bool, true, false, cond, List, [], ◌∷◌, Option, Some, None, refl, sym, ap, subst, ◌∙◌, arith, eqb, ◌&&◌, ◌||◌}
use Rattle.std.proofs.Common.{eq-eqb}
use Rattle.std.proofs.lemmas.Bool.{eqb-true, false≢true}
use Rattle.std.specs.FinMap.{get}
use Rattle.records.specs.ChangeValue.{ChangeValue}
use Rattle.record_values.specs.Maps.{alike, nat_exact}
use Rattle.record_values.specs.Values.{Place, is_among}
use Rattle.model.specs.Cells.{Cells}
use Rattle.txn_table.specs.Sound.{IsSoundTable, OneHolder, Rises}
use Rattle.txn_table.specs.Table.{TxnState, has_any, holder_of, state_of}
use Rattle.core_model.specs.Changes.{as_list}
use Rattle.core_model.specs.Records.{HasCells, IsListOf}
use Rattle.core_model.specs.States.{Active, State}
use Rattle.core_model.specs.Events.{Standing}
use Rattle.core_parts.specs.View.{AreOne, CoreValue, IsState}
use Rattle.core_copies.specs.Lists.{HasLists}
use Rattle.core_copies.specs.Shown.{IsCellsOf, list_shown}

-- ---- who holds a row of a sound table

abbrev Txns : Type 0
Txns = List (ℕ × TxnState)

itself : (n : ℕ) → eqb n n ≡ true
itself n = eq-eqb n n refl

same_state : (x y : TxnState) → (◌≡◌ {A = Option TxnState} (Some x) (Some y)) → x ≡ y
same_state x y e = cc

no_holder : (t : ℕ) → (◌≡◌ {A = Option ℕ} None (Some t)) → ⊥
no_holder t e = absurd cc

number_is : (t u : ℕ) → (◌≡◌ {A = Option ℕ} (Some t) (Some u)) → t ≡ u
number_is t u e = cc

-- the number of a holder is above those before it
holder_above : (low high t : ℕ) (r : Place) (es : Txns) → Rises low es high → holder_of r es ≡ Some t → low < t
holder_above low high t r [] rises at = absurd (no_holder t at)
holder_above low high t r (e ∷ es) rises at = by (holder_above e.0 high t r es rises.1) (is_among r e.1.rows) at
  where
    by : (holder_of r es ≡ Some t → e.0 < t) → (b : Bool) → cond b (Some e.0) (holder_of r es) ≡ Some t → low < t
    by rest true is = let same = number_is e.0 t is in omega (arith, rises.0, same)
    by rest false is = omega (arith, rises.0, rest is)

-- a row is among those of its holder
holds_it : (low high t : ℕ) (r : Place) (es : Txns) (x : TxnState) → Rises low es high → state_of t es ≡ Some x → holder_of r es ≡ Some t
    → is_among r x.rows ≡ true
holds_it low high t r [] x rises here at = absurd (no_holder t at)
holds_it low high t r (e ∷ es) x rises here at = by (holds_it e.0 high t r es x rises.1) (is_among r e.1.rows) refl at (eqb t e.0) refl here
  where
    by : (state_of t es ≡ Some x → holder_of r es ≡ Some t → is_among r x.rows ≡ true) → (b : Bool) → is_among r e.1.rows ≡ b
        → cond b (Some e.0) (holder_of r es) ≡ Some t → (c : Bool) → eqb t e.0 ≡ c → cond c (Some e.1) (state_of t es) ≡ Some x → is_among r x.rows ≡ true
    by rest true among at true is here = ap (λ (y : TxnState). is_among r y.rows) (sym (same_state e.1 x here)) ∙ among
    by rest true among at false is here = absurd (false≢true (sym is ∙ ap (λ n. eqb t n) (number_is e.0 t at) ∙ itself t))
    by rest false among at true is here =
        let above : e.0 < t = holder_above e.0 high t r es rises.1 at in
        let same : t ≡ e.0 = eqb-true t e.0 is in
        absurd (omega (arith, above, same))
    by rest false among at false is here = rest here at

-- and where it is among a transaction's, that is the holder
is_holder : (t : ℕ) (r : Place) (es : Txns) (x : TxnState) → OneHolder es → state_of t es ≡ Some x → is_among r x.rows ≡ true → holder_of r es ≡ Some t
is_holder t r [] x one here among = absurd cc
is_holder t r (e ∷ es) x one here among = by (λ later. is_holder t r es x one.1 later among) (eqb t e.0) refl here (is_among r e.1.rows) refl
  where
    by : (state_of t es ≡ Some x → holder_of r es ≡ Some t) → (c : Bool) → eqb t e.0 ≡ c → cond c (Some e.1) (state_of t es) ≡ Some x → (b : Bool)
        → is_among r e.1.rows ≡ b → cond b (Some e.0) (holder_of r es) ≡ Some t
    by rest true is here true its = ap Some (sym (eqb-true t e.0 is))
    by rest true is here false its = absurd (false≢true (sym its ∙ ap (λ (y : TxnState). is_among r y.rows) (same_state e.1 x here) ∙ among))
    by rest false is here true its = absurd (no_holder t (sym (one.0 r its) ∙ rest here))
    by rest false is here false its = rest here

-- the first of some rows is among them
first_among : (r : Place) (rs : List Place) → is_among r (r ∷ rs) ≡ true
first_among r rs = λ i. (itself r.page i && itself r.slot i) || is_among r rs

-- ---- lists

module _ (v : CoreValue) (s : State) (k : Standing) (cells : Cells) (sound : IsSoundTable v.txns) (st : IsState v s k) (h : HasLists s cells) (t : ℕ) where
  some_list : (list : List ChangeValue) → (◌≡◌ {A = Option (List ChangeValue)} (Some list) None) → ⊥
  some_list list e = absurd cc

  -- one that holds a row
  holding : (x : TxnState) → state_of t v.txns.active ≡ Some x → (r : Place) (rs : List Place) → x.rows ≡ r ∷ rs → get cells.pending t ≢ None
  holding x here r rs rows =
      h.listed t r (st.shown.holder r ∙ is_holder t r v.txns.active x sound.one_holder here (ap (is_among r) rows ∙ first_among r rs))

  -- one that holds none
  free : (x : TxnState) → state_of t v.txns.active ≡ Some x → x.rows ≡ [] → get cells.pending t ≢ None → ⊥
  free x here rows there =
      let held = h.holds t there in
      let among = holds_it 0 v.txns.begun t held.0 v.txns.active x sound.rising here (sym (st.shown.holder held.0) ∙ held.1) in
      false≢true (sym (ap (is_among held.0) rows) ∙ among)

  of_active : (x : TxnState) → state_of t v.txns.active ≡ Some x → (a : Active) → as_list a.changes ≡ x.changes → (l : Option (List ChangeValue))
      → get cells.pending t ≡ l → IsListOf l (Some a) → (rows : List Place) → x.rows ≡ rows → l ≡ cond (has_any rows) (Some x.changes) None
  of_active x here a changes None is list [] rows = refl
  of_active x here a changes None is list (r ∷ rs) rows = absurd (holding x here r rs rows is)
  of_active x here a changes (Some l) is list [] rows = absurd (free x here rows (λ none. some_list l (sym is ∙ none)))
  of_active x here a changes (Some l) is list (r ∷ rs) rows = ap Some (list ∙ changes)

  no_txn : (l : Option (List ChangeValue)) → IsListOf l None → l ≡ None
  no_txn None list = refl
  no_txn (Some l) list = absurd list

  list_is : (o : Option TxnState) → state_of t v.txns.active ≡ o → AreOne o (s.txns t) → IsListOf (get cells.pending t) (s.txns t)
      → get cells.pending t ≡ list_shown o
  list_is None here one list = no_txn (get cells.pending t) (subst (IsListOf (get cells.pending t)) one list)
  list_is (Some x) here one list = of_active x here one.0 one.2.changes (get cells.pending t) refl
      (subst (IsListOf (get cells.pending t)) one.1 list) x.rows refl

pub cells_shown : (v : CoreValue) (s : State) (k : Standing) (cells : Cells) → IsSoundTable v.txns → IsState v s k → HasCells s cells → HasLists s cells
    → IsCellsOf v cells
cells_shown v s k cells sound st has h = record {
  rows = has.rows ∙ st.shown.rows;
  entries = has.entries ∙ st.shown.entries;
  pending = λ t. list_is v s k cells sound st h t (state_of t v.txns.active) refl (st.shown.txns t) (has.pending t);
  life = has.life ∙ st.shown.life;
}

pub one_cells : (v : CoreValue) (a b : Cells) → IsCellsOf v a → IsCellsOf v b → a ≡ b
one_cells v a b f g = λ i. record { rows = (f.rows ∙ sym g.rows) i; entries = (f.entries ∙ sym g.entries) i; pending = same i; life = (f.life ∙ sym g.life) i }
  where
    same : a.pending ≡ b.pending
    same = alike nat_exact a.pending b.pending (λ t. f.pending t ∙ sym (g.pending t))
