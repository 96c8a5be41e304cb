-- Entries, the builder's places and the pairs that pages gave stay in the store's pages.
use Rattle.std.proofs.Common.{Bool, None, Option, Some, ap, inl, inr, nat_eq, refl, subst, sym, true, true≢false, ℕ, ◌&&◌, ◌<◌, ◌||◌, ◌∙◌, ◌≡◌, ◌≢◌}
use Rattle.std.specs.FinMap.{get, get-empty}
use Rattle.records.specs.ChangeValue.{ChangeValue}
use Rattle.record_values.specs.Maps.{get-set_at_other, get-set_at_same, pair_exact, set_at}
use Rattle.record_values.specs.Orders.{pair_cmp}
use Rattle.records.specs.Spelling.{new_row, old_row}
use Rattle.record_values.specs.declared.pair.Mark.{Mark}
use Rattle.record_values.specs.declared.pair.Mark.TheVariants.{Live, Marked}
use Rattle.record_values.specs.declared.pair.Pair.{Pair}
use Rattle.model.specs.Table.{IsPairOf}
use Rattle.record_values.specs.Entries.{Index}
use Rattle.model.specs.declared.life.Life.TheVariants.{Absent, Building, Complete}
use Rattle.core_model.proofs.Builds.{and_right, or_true, pair_by_test}
use Rattle.core_model.proofs.Cells.{pair_decided}
use Rattle.core_model.proofs.Latest.{Gone, gone_is, not_none}
use Rattle.core_model.specs.Changes.{Changes, Unchanged, new_pair, old_pair, ◌▹◌}
use Rattle.core_model.specs.Invariants.{IsHolderOf, IsStateInside, IsWellFormed}
use Rattle.core_model.specs.States.{Active, Made, NewMarked, OldMarked, OldSet, Phase, RowSet, State}
use Rattle.core_model.specs.Steps.{Attempt, Begin, Checkpoint, Clean, Commit, Create, Drop, End, Finish, IsEnabled, Keep, Next, Start, MachineStep, Take, Undo}
use Rattle.core_model.specs.Steps.{Wrap, after, carried_on, is_indexed, is_pair_of, moved_by, started, txn_at, undone, undone_first, undone_row, with_entry}

-- each entry is of these pages
abbrev EntriesInside : ℕ → Index → Type 0
EntriesInside pages entries = (p : Pair) → get entries p ≢ None → p.rid.page < pages

set_inside : (pages : ℕ) (entries : Index) (p : Pair) (o : Option Mark) → (o ≢ None → p.rid.page < pages) → EntriesInside pages entries
    → EntriesInside pages (set_at entries p o)
set_inside pages entries p o here h q n = elim (pair_decided q p) [
  | inl same ↦ subst (λ (w : Pair). w.rid.page < pages) (sym same)
      (here (λ e. n (ap (get (set_at entries p o)) same ∙ get-set_at_same pair_exact entries p o ∙ e)))
  | inr m ↦ h q (λ e. n (get-set_at_other pair_exact entries p o q m ∙ e))
]

pub with_inside : (pages : ℕ) (entries : Index) (o : Option Pair) (mark : Mark) → ((p : Pair) → o ≡ Some p → p.rid.page < pages) → EntriesInside pages entries
    → EntriesInside pages (with_entry entries o mark)
with_inside pages entries None mark here h = h
with_inside pages entries (Some p) mark here h = set_inside pages entries p (Some mark) (λ n. here p refl) h

-- the pairs of a change are of its row's page
pub old_inside : (pages : ℕ) (indexed : Bool) (c : ChangeValue) → c.rid.page < pages → (p : Pair) → old_pair indexed c ≡ Some p → p.rid.page < pages
old_inside pages indexed c l p e = let g : Gone indexed c.rid (old_row c.rows) p = gone_is indexed c.rid (old_row c.rows) (new_row c.rows) p e in
    subst (λ (w : Pair). w.rid.page < pages) (sym g.pair) l

pub new_inside : (pages : ℕ) (indexed : Bool) (c : ChangeValue) → c.rid.page < pages → (p : Pair) → new_pair indexed c ≡ Some p → p.rid.page < pages
new_inside pages indexed c l p e = let g : Gone indexed c.rid (new_row c.rows) p = gone_is indexed c.rid (new_row c.rows) (old_row c.rows) p e in
    subst (λ (w : Pair). w.rid.page < pages) (sym g.pair) l

-- the newest change of an active transaction is of the store's pages
pub change_inside : (s : State) → IsWellFormed s → (t : ℕ) (x : Active) → s.txns t ≡ Some x → (c : ChangeValue) (older : Changes) → x.changes ≡ older ▹ c
    → c.rid.page < s.pages
change_inside s i t x active c older e = let names : IsHolderOf s.holder t (older ▹ c) = subst (λ cs. IsHolderOf s.holder t cs) e (i.txns t x active).names in
    i.held c.rid t names.0

module _ (s : State) (i : IsWellFormed s) (h : IsStateInside s) (t : ℕ) (x : Active) where
  started_inside : (c : ChangeValue) → c.rid.page < s.pages → (o : Option Pair) → old_pair (is_indexed s.life) c ≡ o → IsStateInside (started s t x c o)
  started_inside c l (Some p) e =
      record {
        entries = set_inside s.pages s.entries p (Some Marked) (λ n. old_inside s.pages (is_indexed s.life) c l p e) h.entries;
        bound = h.bound;
        highest = h.highest;
        given = h.given;
      }
  started_inside c l None e = record { entries = h.entries; bound = h.bound; highest = h.highest; given = h.given }

  module _ (active : s.txns t ≡ Some x) where
    carried_inside : (cs : Changes) → x.changes ≡ cs → (phase : Phase) → IsStateInside (carried_on s t x cs phase)
    carried_inside Unchanged e phase = h
    carried_inside (older ▹ c) e OldMarked = record { entries = h.entries; bound = h.bound; highest = h.highest; given = h.given }
    carried_inside (older ▹ c) e RowSet = record {
      entries = with_inside s.pages s.entries (new_pair (is_indexed s.life) c) Live
          (new_inside s.pages (is_indexed s.life) c (change_inside s i t x active c older e)) h.entries;
      bound = h.bound;
      highest = h.highest;
      given = h.given;
    }
    carried_inside (older ▹ c) e Made = h
    carried_inside (older ▹ c) e (NewMarked b) = h
    carried_inside (older ▹ c) e OldSet = h

    row_inside : (c : ChangeValue) (older : Changes) → IsStateInside (undone_row s t x c older)
    row_inside c older = record { entries = h.entries; bound = h.bound; highest = h.highest; given = h.given }

    first_inside : (c : ChangeValue) (older : Changes) → x.changes ≡ older ▹ c → (b : Bool) (o : Option Pair) → new_pair (is_indexed s.life) c ≡ o
        → IsStateInside (undone_first s t x c older b o)
    first_inside c older e b (Some p) k = record {
      entries = set_inside s.pages s.entries p (Some Marked) (λ n.
          new_inside s.pages (is_indexed s.life) c (change_inside s i t x active c older e) p k) h.entries;
      bound = h.bound;
      highest = h.highest;
      given = h.given;
    }
    first_inside c older e b None k = row_inside c older

    undone_inside : (cs : Changes) → x.changes ≡ cs → (phase : Phase) → IsStateInside (undone s t x cs phase)
    undone_inside Unchanged e phase = record { entries = h.entries; bound = h.bound; highest = h.highest; given = h.given }
    undone_inside (older ▹ c) e OldMarked = first_inside c older e _ (new_pair (is_indexed s.life) c) refl
    undone_inside (older ▹ c) e RowSet = first_inside c older e _ (new_pair (is_indexed s.life) c) refl
    undone_inside (older ▹ c) e Made = first_inside c older e _ (new_pair (is_indexed s.life) c) refl
    undone_inside (older ▹ c) e (NewMarked b) = row_inside c older
    undone_inside (older ▹ c) e OldSet = record {
      entries = with_inside s.pages s.entries (old_pair (is_indexed s.life) c) Live
          (old_inside s.pages (is_indexed s.life) c (change_inside s i t x active c older e)) h.entries;
      bound = h.bound;
      highest = h.highest;
      given = h.given;
    }

taken_inside : (s : State) → IsWellFormed s → IsStateInside s → (n : ℕ) → (p : Pair)
    → (s.given p || (nat_eq p.rid.page n && is_pair_of (get s.rows p.rid) p)) ≡ true → p.rid.page < s.pages
taken_inside s i h n p e = elim (or_true (s.given p) _ e) [
  | inl before ↦ h.given p before
  | inr now ↦ let is : IsPairOf s.rows p = pair_by_test s.rows p (get s.rows p.rid) refl (and_right _ _ now) in i.rows p.rid is.row is.is_there
]

some_is : {A : Type 0} {a b : A} → Some a ≡ Some b → a ≡ b
some_is e = cc

highest_is : {o o' : Option Pair} → Building o ≡ Building o' → o ≡ o'
highest_is e = cc

not_complete : {o : Option Pair} → Complete ≡ Building o → ⊥
not_complete e = absurd (cc)

not_absent : {o : Option Pair} → Absent ≡ Building o → ⊥
not_absent e = absurd (cc)

moved_inside : (s : State) (e : MachineStep) → IsWellFormed s → IsStateInside s → IsEnabled s e → IsStateInside (moved_by s e)
moved_inside s (Begin t) i h a = record { entries = h.entries; bound = h.bound; highest = h.highest; given = h.given }
moved_inside s (Start t c) i h a = started_inside s i h t (txn_at s t) c a.inside _ refl
moved_inside s (Next t) i h a = carried_inside s i h t (txn_at s t) a.0 (txn_at s t).changes refl (txn_at s t).phase
moved_inside s (Undo t) i h a = undone_inside s i h t (txn_at s t) a (txn_at s t).changes refl (txn_at s t).phase
moved_inside s (End t) i h a = record { entries = h.entries; bound = h.bound; highest = h.highest; given = h.given }
moved_inside s (Commit t) i h a = record { entries = h.entries; bound = h.bound; highest = h.highest; given = h.given }
moved_inside s Create i h a = record {
  entries = h.entries;
  bound = λ p e. absurd (not_none e refl);
  highest = λ p e. absurd (not_none (highest_is e) refl);
  given = λ p e. absurd (true≢false (sym e));
}
moved_inside s (Take n) i h a = record { entries = h.entries; bound = h.bound; highest = h.highest; given = taken_inside s i h n }
moved_inside s (Attempt p) i h a = record {
  entries = set_inside s.pages s.entries p _ (λ n. h.given p a.given) h.entries;
  bound = λ q e. subst (λ (w : Pair). w.rid.page < s.pages) (some_is e) (h.given p a.given);
  highest = h.highest;
  given = h.given;
}
moved_inside s (Checkpoint p) i h a = record { entries = h.entries; bound = h.bound; highest = λ q e. h.bound q (a.1 ∙ highest_is e); given = h.given }
moved_inside s Finish i h a = record { entries = h.entries; bound = h.bound; highest = λ q e. absurd (not_complete e); given = h.given }
moved_inside s (Clean p) i h a = record {
  entries = set_inside s.pages s.entries p None (λ n. absurd (n refl)) h.entries;
  bound = h.bound;
  highest = h.highest;
  given = h.given;
}
moved_inside s (Keep p) i h a = record { entries = h.entries; bound = h.bound; highest = h.highest; given = h.given }
moved_inside s Wrap i h a = record { entries = h.entries; bound = h.bound; highest = h.highest; given = h.given }
moved_inside s Drop i h a = record {
  entries = λ p n. absurd (n (get-empty pair_cmp p));
  bound = λ p e. absurd (not_none e refl);
  highest = λ p e. absurd (not_absent e);
  given = λ p e. absurd (true≢false (sym e));
}

pub inside_step : (s : State) (e : MachineStep) → IsWellFormed s → IsStateInside s → IsEnabled s e → IsStateInside (after s e)
inside_step s e i h a = let m : IsStateInside (moved_by s e) = moved_inside s e i h a in
    record { entries = m.entries; bound = m.bound; highest = m.highest; given = m.given }
