-- The steps of a change move the pairs that the plain core's steps move.
use Rattle.std.proofs.Common.{Bool, List, None, Option, Some, ap, cond, false, not, refl, sym, true, ℕ, ◌∙◌, ◌≡◌}
use Rattle.std.proofs.lemmas.Slice.Eq.{bytes_eq-Decides}
use Rattle.std.specs.Cmp.Lexicographic.{pointwise}
use Rattle.std.specs.Prelude.{is_some, nat_eq}
use Rattle.records.specs.ChangeValue.{ChangeValue}
use Rattle.records.specs.Spelling.{new_row, old_row}
use Rattle.record_values.specs.Values.{Place}
use Rattle.records.specs.declared.change.Rows.{Rows}
use Rattle.records.specs.declared.change.Rows.TheVariants.{Deleted, Inserted, Updated}
use Rattle.record_values.specs.declared.pair.Pair.{Pair}
use Rattle.record_values.specs.declared.row.Row.{Row}
use Rattle.model.proofs.PairLaws.{key_test}
use Rattle.model.specs.Pairs.{new_pair, old_pair, pair_of}
use Rattle.core_steps.specs.Keys.{moved_pair}
use Rattle.core_steps.specs.Steps.{marks_new, marks_old, puts_new, puts_old}
use Rattle.core_parts.specs.Private.{entry_in}
use Rattle.std.specs.Prelude.{option_and_then}
use Rattle.records.specs.declared.record.Part.TheVariants.{NewEntry, OldEntry}
use Rattle.records.specs.declared.record.TxnAction.{TxnAction}
use Rattle.records.specs.declared.record.TxnAction.TheVariants.{Forward, Undo}
use Rattle.record_values.specs.declared.pair.Mark.{Mark}
use Rattle.core_steps.specs.Steps.{entry_step}

both : (a b : Bool) → (a ≡ true → b ≡ true) → (b ≡ true → a ≡ true) → a ≡ b
both true b f g = sym (f refl)
both false true f g = absurd cc_false
  where
    cc_false : ⊥
    cc_false = let e : false ≡ true = g refl in cc
both false false f g = refl

swapped : (xs ys : List ℕ) → pointwise nat_eq xs ys ≡ pointwise nat_eq ys xs
swapped xs ys = both _ _
    (λ e. (bytes_eq-Decides ys xs).1 (sym ((bytes_eq-Decides xs ys).0 e)))
    (λ e. (bytes_eq-Decides xs ys).1 (sym ((bytes_eq-Decides ys xs).0 e)))

same : (r : Place) (row : Row) (a b : Bool) → a ≡ b → cond (not a) (Some (pair_of r row)) None ≡ cond b None (Some (pair_of r row))
same r row true b e = ap (λ c. cond c None (Some (pair_of r row))) e
same r row false b e = ap (λ c. cond c None (Some (pair_of r row))) e

old_by : (b : Bool) (n : ℕ) (r : Place) (rows : Rows)
    → let c : ChangeValue = record { position = n; rid = r; rows = rows } in moved_pair b c (old_row rows) ≡ old_pair b c
old_by false n r (Inserted new) = refl
old_by true n r (Inserted new) = refl
old_by false n r (Deleted old) = refl
old_by true n r (Deleted old) = refl
old_by false n r (Updated old new) = refl
old_by true n r (Updated old new) = same r old (pointwise nat_eq old.key new.key) _ (key_test old new)

new_by : (b : Bool) (n : ℕ) (r : Place) (rows : Rows)
    → let c : ChangeValue = record { position = n; rid = r; rows = rows } in moved_pair b c (new_row rows) ≡ new_pair b c
new_by false n r (Inserted new) = refl
new_by true n r (Inserted new) = refl
new_by false n r (Deleted old) = refl
new_by true n r (Deleted old) = refl
new_by false n r (Updated old new) = refl
new_by true n r (Updated old new) = same r new (pointwise nat_eq old.key new.key) _ (swapped old.key new.key ∙ key_test new old)

pub old_moves : (b : Bool) (c : ChangeValue) → moved_pair b c (old_row c.rows) ≡ old_pair b c
old_moves b c = old_by b c.position c.rid c.rows

pub new_moves : (b : Bool) (c : ChangeValue) → moved_pair b c (new_row c.rows) ≡ new_pair b c
new_moves b c = new_by b c.position c.rid c.rows

-- ---- the entry of a step
none_by : (o : Option Pair) (mark : Mark) (action : TxnAction) → None ≡ option_and_then entry_in (entry_step o mark action) → o ≡ None
none_by None mark action e = refl
none_by (Some p) mark action e = absurd cc

some_by : (o : Option Pair) (mark : Mark) (action : TxnAction) (m : Pair × TxnAction) → Some m ≡ option_and_then entry_in (entry_step o mark action)
    → (o ≡ Some m.0) × (m.1 ≡ action)
some_by None mark action m e = absurd cc
some_by (Some p) mark action m e = let same : m ≡ (p, action) = inside m (p, action) e in
    (ap (λ (w : Pair × TxnAction). Some w.0) (sym same), ap (λ (w : Pair × TxnAction). w.1) same)
  where
    inside : (a b : Pair × TxnAction) → (◌≡◌ {A = Option (Pair × TxnAction)} (Some a) (Some b)) → a ≡ b
    inside a b e = cc

pub old_none : (b : Bool) (c : ChangeValue) → None ≡ option_and_then entry_in (marks_old b c) → old_pair b c ≡ None
old_none b c e = sym (old_moves b c) ∙ none_by _ _ _ e

pub old_some : (b : Bool) (c : ChangeValue) (m : Pair × TxnAction) → Some m ≡ option_and_then entry_in (marks_old b c) → (old_pair b c ≡ Some m.0)
    × (m.1 ≡ Forward OldEntry c)
old_some b c m e = let s = some_by _ _ _ m e in (sym (old_moves b c) ∙ s.0, s.1)

pub new_none : (b : Bool) (c : ChangeValue) → None ≡ option_and_then entry_in (puts_new b c) → new_pair b c ≡ None
new_none b c e = sym (new_moves b c) ∙ none_by _ _ _ e

pub new_some : (b : Bool) (c : ChangeValue) (m : Pair × TxnAction) → Some m ≡ option_and_then entry_in (puts_new b c) → (new_pair b c ≡ Some m.0)
    × (m.1 ≡ Forward NewEntry c)
new_some b c m e = let s = some_by _ _ _ m e in (sym (new_moves b c) ∙ s.0, s.1)

-- ---- whether a step has an entry
there : (o : Option Pair) (mark : Mark) (action : TxnAction) → true ≡ is_some (entry_step o mark action) → (p : Pair) × (o ≡ Some p)
there None mark action e = absurd cc
there (Some p) mark action e = (p, refl)

missing : (o : Option Pair) (mark : Mark) (action : TxnAction) → false ≡ is_some (entry_step o mark action) → o ≡ None
missing None mark action e = refl
missing (Some p) mark action e = absurd cc

pub new_there : (b : Bool) (c : ChangeValue) → true ≡ is_some (puts_new b c) → (p : Pair) × (new_pair b c ≡ Some p)
new_there b c e = let s = there _ _ _ e in (s.0, sym (new_moves b c) ∙ s.1)

pub new_missing : (b : Bool) (c : ChangeValue) → false ≡ is_some (puts_new b c) → new_pair b c ≡ None
new_missing b c e = sym (new_moves b c) ∙ missing _ _ _ e

pub old_there : (b : Bool) (c : ChangeValue) → true ≡ is_some (marks_old b c) → (p : Pair) × (old_pair b c ≡ Some p)
old_there b c e = let s = there _ _ _ e in (s.0, sym (old_moves b c) ∙ s.1)

pub old_missing : (b : Bool) (c : ChangeValue) → false ≡ is_some (marks_old b c) → old_pair b c ≡ None
old_missing b c e = sym (old_moves b c) ∙ missing _ _ _ e

-- ---- the entry of an undo's step
pub new_unmarked : (b : Bool) (c : ChangeValue) → None ≡ option_and_then entry_in (marks_new b c) → new_pair b c ≡ None
new_unmarked b c e = sym (new_moves b c) ∙ none_by _ _ _ e

pub new_marked : (b : Bool) (c : ChangeValue) (m : Pair × TxnAction) → Some m ≡ option_and_then entry_in (marks_new b c) → (new_pair b c ≡ Some m.0)
    × (m.1 ≡ Undo NewEntry c false)
new_marked b c m e = let s = some_by _ _ _ m e in (sym (new_moves b c) ∙ s.0, s.1)

pub old_unput : (b : Bool) (c : ChangeValue) → None ≡ option_and_then entry_in (puts_old b c) → old_pair b c ≡ None
old_unput b c e = sym (old_moves b c) ∙ none_by _ _ _ e

pub old_put : (b : Bool) (c : ChangeValue) (m : Pair × TxnAction) → Some m ≡ option_and_then entry_in (puts_old b c) → (old_pair b c ≡ Some m.0)
    × (m.1 ≡ Undo OldEntry c true)
old_put b c m e = let s = some_by _ _ _ m e in (sym (old_moves b c) ∙ s.0, s.1)
