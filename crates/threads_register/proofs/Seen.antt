-- What a session has of one transaction, as that transaction or another makes a step.
use Rattle.std.proofs.Common.{◌≡◌, ◌≢◌, ◌⊎◌, ℕ, Bool, true, false, cond, eqb, eq-eqb, ne_eqb, Option, Some, None, is_some, inl, inr, refl, sym, ap, ◌∙◌, subst}
use Rattle.std.specs.FinMap.{get}
use Rattle.std.specs.Option.{option_map}
use Rattle.record_values.specs.Values.{Place}
use Rattle.record_values.specs.declared.row.Row.{Row}
use Rattle.model.specs.declared.write.Write.{Write}
use Rattle.core_model.proofs.Laws.{rid_decided}
use Rattle.core_model.specs.States.{Active, State}
use Rattle.core_parts.specs.View.{CoreValue}
use Rattle.threads_sessions.specs.Steps.{rows_now}
use Rattle.threads_sessions.specs.Values.{ActiveValue, new_active, with_write}
use Rattle.threads_register.proofs.Lookups.{row_again, row_apart, row_set}
use Rattle.threads_register.proofs.Rows.{again_each, changed_each, none_each}
use Rattle.threads_register.specs.Agreement.{Agree, IsSeen, owed_write, row_at, row_held}

-- ---- who holds a row

pub held_mine : (t : ℕ) (row : Option Row) → row_held t (Some t) row ≡ Some row
held_mine t row = ap (λ b. cond b (Some row) None) (eq-eqb t t refl)

pub held_others : (t u : ℕ) (row : Option Row) → t ≢ u → row_held t (Some u) row ≡ None
held_others t u row apart = ap (λ b. cond b (Some row) None) (ne_eqb t u apart)

pub held_again : (t : ℕ) (o : Option ℕ) (r row : Option Row) → option_map (λ (x : Option Row). row) (row_held t o r) ≡ row_held t o row
held_again t None r row = refl
held_again t (Some u) r row = by (eqb t u)
  where
    by : (b : Bool) → option_map (λ (x : Option Row). row) (cond b (Some r) None) ≡ cond b (Some row) None
    by true = refl
    by false = refl

-- one that is not the holder, before and after
pub held_neither : (u t : ℕ) (o : Option ℕ) (r row : Option Row) → u ≢ t → (o ≡ None) ⊎ (o ≡ Some t) → row_held u o r ≡ None
held_neither u t o r row apart (inl is) = ap (λ (x : Option ℕ). row_held u x r) is
held_neither u t o r row apart (inr is) = ap (λ (x : Option ℕ). row_held u x r) is ∙ held_others u t r apart

-- ---- both have it, or neither

pub agree_none : (s : State) (t : ℕ) (a : Option ActiveValue) → Agree s t a None → a ≡ None
agree_none s t None h = refl
agree_none s t (Some a) h = absurd h

pub agree_there : (s : State) (t : ℕ) (a : Option ActiveValue) (o : Option Active) → is_some a ≡ true → Agree s t a o → (b : ActiveValue) × (x : Active)
    × (a ≡ Some b) × (o ≡ Some x) × IsSeen s t b x
agree_there s t None o there h = absurd cc
agree_there s t (Some a) (Some x) there h = (a, x, refl, refl, h)
agree_there s t (Some a) None there h = absurd h

-- only the owner's session has an active transaction
pub owner_is : (s : State) (t : ℕ) (a : Option ActiveValue) (b : Bool) (o : Option Active) → is_some a ≡ true → Agree s t a (cond b o None) → b ≡ true
owner_is s t a true o there h = refl
owner_is s t None false o there h = absurd cc
owner_is s t (Some a) false o there h = absurd h

module _ (s new : State) (u : ℕ) (same : (q : Place) → row_held u (new.holder q) (get new.rows q) ≡ row_held u (s.holder q) (get s.rows q)) where
  seen_kept : (a : ActiveValue) (x : Active) → IsSeen s u a x → IsSeen new u a x
  seen_kept a x h = record { rows = λ q. h.rows q ∙ sym (same q); one_each = h.one_each; unfinished = h.unfinished; rolling = h.rolling }

  pub agree_kept : (a : Option ActiveValue) (o : Option Active) → Agree s u a o → Agree new u a o
  agree_kept None None h = tt
  agree_kept (Some a) (Some x) h = seen_kept a x h
  agree_kept None (Some x) h = h
  agree_kept (Some a) None h = h

-- ---- steps of the transaction itself

-- a transaction that holds nothing yet
pub seen_new : (s : State) (t : ℕ) (x : Active) → ((q : Place) → s.holder q ≢ Some t) → owed_write x ≡ None → x.rolling ≡ false → IsSeen s t (new_active t) x
seen_new s t x free owes rolling = record { rows = λ q. sym (none q (s.holder q) (free q)); one_each = none_each; unfinished = sym owes; rolling = sym rolling }
  where
    none : (q : Place) (o : Option ℕ) → o ≢ Some t → row_held t o (get s.rows q) ≡ None
    none q None apart = refl
    none q (Some u) apart = held_others t u (get s.rows q) (λ e. apart (ap Some (sym e)))

-- it holds one row more, with what is there now
pub seen_changed : (s new : State) (t : ℕ) (a : ActiveValue) (x y : Active) (w : Write) (change : Option Write) → IsSeen s t a x
    → new.holder w.rid ≡ Some t → w.row ≡ get new.rows w.rid
    → ((q : Place) → q ≢ w.rid → row_held t (new.holder q) (get new.rows q) ≡ row_held t (s.holder q) (get s.rows q))
    → change ≡ owed_write y → y.rolling ≡ x.rolling → IsSeen new t (record a { rows = with_write w a.rows; unfinished = change }) y
seen_changed s new t a x y w change h held row others owes rolling = record {
  rows = λ q. elim (rid_decided q w.rid) [
    | inl is ↦ subst (λ (r : Place). row_at r (with_write w a.rows) ≡ row_held t (new.holder r) (get new.rows r)) (sym is)
        (row_set w a.rows ∙ (ap Some row ∙ sym (ap (λ (o : Option ℕ). row_held t o (get new.rows w.rid)) held ∙ held_mine t (get new.rows w.rid))))
    | inr apart ↦ row_apart q w a.rows apart ∙ (h.rows q ∙ sym (others q apart))
  ];
  one_each = changed_each w a.rows h.one_each;
  unfinished = owes;
  rolling = h.rolling ∙ sym rolling;
}

-- the rows that it holds are read again
pub seen_again : (s new : State) (core : CoreValue) (t : ℕ) (a : ActiveValue) (x y : Active) (change : Option Write) (rolling : Bool) → IsSeen s t a x
    → new.rows ≡ core.heap.rows → ((q : Place) → new.holder q ≡ s.holder q) → change ≡ owed_write y → rolling ≡ y.rolling
    → IsSeen new t (record a { rows = rows_now core a.rows; unfinished = change; rolling = rolling }) y
seen_again s new core t a x y change rolling h rows holder owes rolls = record {
  rows = λ q.
      row_again core q a.rows
      ∙ (ap (option_map (λ (r : Option Row). get core.heap.rows q)) (h.rows q)
      ∙ (held_again t (s.holder q) (get s.rows q) (get core.heap.rows q) ∙ (λ i. row_held t (sym (holder q) i) (get (sym rows i) q))));
  one_each = again_each core a.rows;
  unfinished = owes;
  rolling = rolls;
}
