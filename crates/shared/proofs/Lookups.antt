-- Lookups in a session, in the sessions of all seats, and in what the core shows.
use Rattle.std.proofs.Common.{◌≡◌, ◌==◌, ℕ, Bool, true, false, cond, eqb, eq-eqb, List, [], ◌∷◌, Option, Some, None, is_some, not, refl, sym, ap, ◌∙◌, subst}
use Rattle.std.proofs.lemmas.Bool.{eqb-true}
use Rattle.std.specs.Option.{option_map}
use Rattle.std.specs.Prelude.{option_and_then}
use Rattle.record_values.specs.declared.row.Row.{Row}
use Rattle.model.specs.declared.write.Write.{Write}
use Rattle.core_model.proofs.Laws.{same_some}
use Rattle.core_model.specs.States.{Active}
use Rattle.txn_table.specs.Table.{TxnState, rolls}
use Rattle.txn_table.specs.declared.progress.Progress.{Progress}
use Rattle.txn_table.specs.declared.progress.Progress.TheVariants.{OwesEntry, OwesRow, Ready, Rolling, UndoesEntry, UndoesRow}
use Rattle.core_parts.specs.Asked.{owed}
use Rattle.core_parts.specs.View.{AreOne, IsProgressOf}
use Rattle.core_parts.specs.declared.reply.Owed.{Owed}
use Rattle.threads_register.proofs.Laws.{some_is, with_own}
use Rattle.threads_register.specs.Agreement.{is_owed, row_held}
use Rattle.threads_sessions.specs.Values.{active_of, ActiveValue, has_unfinished, is_unfinished, SessionValue, with_active, without}
use Rattle.threads_sessions.specs.Steps.{ended}
use Rattle.shared.specs.Changed.{unfinished_of}

-- ---- a session's transactions

module _ (f : ActiveValue → ActiveValue) (keeps : (a : ActiveValue) → (f a).txn ≡ a.txn) (t : ℕ) where
  -- the others stay
  pub without_with : (xs : List ActiveValue) → without t (with_active f t xs) ≡ without t xs
  without_with [] = refl
  without_with (x ∷ xs) = by (eqb t x.txn) refl (without_with xs)
    where
      by : (b : Bool) → eqb t x.txn ≡ b → without t (with_active f t xs) ≡ without t xs
          → without t (cond b (f x ∷ xs) (x ∷ with_active f t xs)) ≡ cond (not b) (x ∷ without t xs) (without t xs)
      by true same rest = ap (λ n. cond (not (eqb t n)) (f x ∷ without t xs) (without t xs)) (keeps x)
          ∙ ap (λ b. cond (not b) (f x ∷ without t xs) (without t xs)) same
      by false same rest = ap (λ b. cond (not b) (x ∷ without t (with_active f t xs)) (without t (with_active f t xs))) same ∙ ap (λ l. x ∷ l) rest

  pub others_stay : (p : SessionValue) → ended (record p { active = with_active f t p.active }) t ≡ ended p t
  others_stay p = ap (λ l. record p { active = l }) (without_with p.active)

  pub still_active : (xs : List ActiveValue) → is_some (active_of t xs) ≡ true → is_some (active_of t (with_active f t xs)) ≡ true
  still_active xs own = ap is_some (with_own f keeps t xs) ∙ by (active_of t xs) own
    where
      by : (o : Option ActiveValue) → is_some o ≡ true → is_some (option_map f o) ≡ true
      by None e = e
      by (Some a) e = e

pub unfinished_is_some : (p : SessionValue) (t : ℕ) → is_unfinished p t ≡ is_some (unfinished_of p t)
unfinished_is_some p t = by (active_of t p.active)
  where
    by : (o : Option ActiveValue) → has_unfinished o ≡ is_some (option_and_then (λ (a : ActiveValue). a.unfinished) o)
    by None = refl
    by (Some a) = refl

-- ---- who holds a row

pub held_mine : (t : ℕ) (row : Option Row) → row_held t (Some t) row ≡ Some row
held_mine t row = ap (λ b. cond b (Some row) None) (eq-eqb t t refl)

-- a row that is held is its transaction's
pub held_by : (t : ℕ) (holder : Option ℕ) (there row : Option Row) → row_held t holder there ≡ Some row → (holder ≡ Some t) × (there ≡ row)
held_by t None there row e = absurd cc
held_by t (Some u) there row e = by (t == u) (eqb-true t u) e
  where
    by : (b : Bool) → (b ≡ true → t ≡ u) → cond b (Some there) None ≡ Some row → (Some u ≡ Some t) × (there ≡ row)
    by true same h = (ap Some (sym (same refl)), some_is there row h)
    by false same h = absurd cc

-- ---- whether a transaction owes a step

owed_at : (p : Progress) (x : Active) (w : Write) → IsProgressOf p x.phase → x.rolling ≡ rolls p
    → option_map (λ (step : Owed). w) (owed p) ≡ cond (is_owed x.phase x.rolling) (Some w) None
owed_at Ready x w phase rolling = λ i. cond (is_owed (sym phase i) (sym rolling i)) (Some w) None
owed_at OwesRow x w phase rolling = λ i. cond (is_owed (sym phase i) (sym rolling i)) (Some w) None
owed_at OwesEntry x w phase rolling = λ i. cond (is_owed (sym phase i) (sym rolling i)) (Some w) None
owed_at Rolling x w phase rolling = λ i. cond (is_owed (sym phase i) (sym rolling i)) (Some w) None
owed_at UndoesRow x w phase rolling = λ i. cond (is_owed (sym phase.1 i) (sym rolling i)) (Some w) None
owed_at UndoesEntry x w phase rolling = λ i. cond (is_owed (sym phase i) (sym rolling i)) (Some w) None

pub owed_one : (o : Option TxnState) (m : Option Active) (x : Active) (w : Write) → AreOne o m → m ≡ Some x
    → option_map (λ (step : Owed). w) (option_and_then owed (option_map (λ (y : TxnState). y.progress) o)) ≡ cond (is_owed x.phase x.rolling) (Some w) None
owed_one None m x w one is = absurd cc
owed_one (Some y) m x w one is =
    let same : one.0 ≡ x = same_some one.1 is in
    owed_at y.progress x w (subst (λ (z : Active). IsProgressOf y.progress z.phase) same one.2.phase) (ap (λ (z : Active). z.rolling) (sym same)
    ∙ one.2.rolling)
