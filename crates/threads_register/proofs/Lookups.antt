-- Lookups in lists of sessions, of transactions and of rows.
use Rattle.std.proofs.Common.{◌≡◌, ◌≢◌, ℕ, ◌<◌, Bool, true, false, cond, eqb, eq-eqb, ne_eqb, List, [], ◌∷◌, ◌++◌, length, Option, Some, None, filter, not}
use Rattle.std.proofs.Common.{◌&&◌, ◌==◌, refl, sym, ap, ◌∙◌, arith, zero, suc}
use Rattle.std.proofs.lemmas.Bool.{eqb-true}
use Rattle.std.specs.FinMap.{get}
use Rattle.std.specs.Option.{option_map}
use Rattle.std.specs.Prelude.{slice_get, slice_set}
use Rattle.record_values.specs.Values.{Place}
use Rattle.record_values.specs.declared.row.Row.{Row}
use Rattle.model.specs.declared.write.Write.{Write}
use Rattle.core_parts.specs.View.{CoreValue}
use Rattle.threads_sessions.specs.Steps.{rows_now}
use Rattle.threads_sessions.specs.Values.{active_of, ActiveValue, is_at, new_active, with_active, with_write, without}
use Rattle.threads_register.specs.Agreement.{row_at}

-- ---- lists

pub get_set : {A : Type 0} (l : List A) (i : ℕ) (a : A) → i < length l → slice_get (slice_set l i a) i ≡ Some a
get_set [] i a lt = absurd (omega arith)
get_set (x ∷ xs) zero a lt = refl
get_set (x ∷ xs) (suc i) a lt = get_set xs i a (omega arith)

pub get_set_other : {A : Type 0} (l : List A) (i j : ℕ) (a : A) → j ≢ i → slice_get (slice_set l i a) j ≡ slice_get l j
get_set_other [] i j a apart = refl
get_set_other (x ∷ xs) zero zero a apart = absurd (apart refl)
get_set_other (x ∷ xs) zero (suc j) a apart = refl
get_set_other (x ∷ xs) (suc i) zero a apart = refl
get_set_other (x ∷ xs) (suc i) (suc j) a apart = get_set_other xs i j a (λ e. apart (ap suc e))

pub set_length : {A : Type 0} (l : List A) (i : ℕ) (a : A) → length (slice_set l i a) ≡ length l
set_length [] i a = refl
set_length (x ∷ xs) zero a = refl
set_length (x ∷ xs) (suc i) a = ap suc (set_length xs i a)

pub get_within : {A : Type 0} (l : List A) (i : ℕ) (a : A) → slice_get l i ≡ Some a → i < length l
get_within [] i a e = absurd cc
get_within (x ∷ xs) zero a e = omega arith
get_within (x ∷ xs) (suc i) a e = let r = get_within xs i a e in omega arith

pub some_is : {A : Type 0} (a b : A) → Some a ≡ Some b → a ≡ b
some_is a b e = cc

-- ---- a session's transactions

pub new_other : (u t : ℕ) (xs : List ActiveValue) → u ≢ t → active_of u (xs ++ new_active t ∷ []) ≡ active_of u xs
new_other u t [] apart = ap (λ b. cond b (Some (new_active t)) None) (ne_eqb u t apart)
new_other u t (x ∷ xs) apart = ap (cond (eqb u x.txn) (Some x)) (new_other u t xs apart)

pub new_own : (t : ℕ) (xs : List ActiveValue) → active_of t xs ≡ None → active_of t (xs ++ new_active t ∷ []) ≡ Some (new_active t)
new_own t [] none = ap (λ b. cond b (Some (new_active t)) None) (eq-eqb t t refl)
new_own t (x ∷ xs) none = by (eqb t x.txn) none (new_own t xs)
  where
    by : (b : Bool) → cond b (Some x) (active_of t xs) ≡ None → (active_of t xs ≡ None → active_of t (xs ++ new_active t ∷ []) ≡ Some (new_active t))
        → cond b (Some x) (active_of t (xs ++ new_active t ∷ [])) ≡ Some (new_active t)
    by true h rest = absurd cc
    by false h rest = rest h

-- a transaction stands under its number
pub number_is : (t : ℕ) (xs : List ActiveValue) (a : ActiveValue) → active_of t xs ≡ Some a → a.txn ≡ t
number_is t [] a e = absurd cc
number_is t (x ∷ xs) a e = by (eqb t x.txn) (eqb-true t x.txn) e (number_is t xs a)
  where
    by : (b : Bool) → (b ≡ true → t ≡ x.txn) → cond b (Some x) (active_of t xs) ≡ Some a → (active_of t xs ≡ Some a → a.txn ≡ t) → a.txn ≡ t
    by true same h rest = ap (λ (y : ActiveValue). y.txn) (sym (some_is x a h)) ∙ sym (same refl)
    by false same h rest = rest h

module _ (f : ActiveValue → ActiveValue) (keeps : (a : ActiveValue) → (f a).txn ≡ a.txn) (t : ℕ) where
  pub with_own : (xs : List ActiveValue) → active_of t (with_active f t xs) ≡ option_map f (active_of t xs)
  with_own [] = refl
  with_own (x ∷ xs) = by (eqb t x.txn) refl (with_own xs)
    where
      by : (b : Bool) → eqb t x.txn ≡ b → active_of t (with_active f t xs) ≡ option_map f (active_of t xs)
          → active_of t (cond b (f x ∷ xs) (x ∷ with_active f t xs)) ≡ option_map f (cond b (Some x) (active_of t xs))
      by true same rest = ap (λ n. cond (eqb t n) (Some (f x)) (active_of t xs)) (keeps x) ∙ ap (λ b. cond b (Some (f x)) (active_of t xs)) same
      by false same rest = ap (λ b. cond b (Some x) (active_of t (with_active f t xs))) same ∙ rest

  pub with_other : (u : ℕ) (xs : List ActiveValue) → u ≢ t → active_of u (with_active f t xs) ≡ active_of u xs
  with_other u [] apart = refl
  with_other u (x ∷ xs) apart = by (eqb t x.txn) (eqb-true t x.txn) (with_other u xs apart)
    where
      by : (b : Bool) → (b ≡ true → t ≡ x.txn) → active_of u (with_active f t xs) ≡ active_of u xs
          → active_of u (cond b (f x ∷ xs) (x ∷ with_active f t xs)) ≡ cond (eqb u x.txn) (Some x) (active_of u xs)
      by true same rest =
          let no : eqb u x.txn ≡ false = ne_eqb u x.txn (λ e. apart (e ∙ sym (same refl))) in
          ap (λ n. cond (eqb u n) (Some (f x)) (active_of u xs)) (keeps x)
          ∙ ap (λ b. cond b (Some (f x)) (active_of u xs)) no ∙ sym (ap (λ b. cond b (Some x) (active_of u xs)) no)
      by false same rest = ap (cond (eqb u x.txn) (Some x)) rest

pub without_own : (t : ℕ) (xs : List ActiveValue) → active_of t (without t xs) ≡ None
without_own t [] = refl
without_own t (x ∷ xs) = by (eqb t x.txn) refl (without_own t xs)
  where
    by : (b : Bool) → eqb t x.txn ≡ b → active_of t (without t xs) ≡ None → active_of t (cond (not b) (x ∷ without t xs) (without t xs)) ≡ None
    by true same rest = rest
    by false same rest = ap (λ b. cond b (Some x) (active_of t (without t xs))) same ∙ rest

pub without_other : (u t : ℕ) (xs : List ActiveValue) → u ≢ t → active_of u (without t xs) ≡ active_of u xs
without_other u t [] apart = refl
without_other u t (x ∷ xs) apart = by (eqb t x.txn) (eqb-true t x.txn) (without_other u t xs apart)
  where
    by : (b : Bool) → (b ≡ true → t ≡ x.txn) → active_of u (without t xs) ≡ active_of u xs
        → active_of u (cond (not b) (x ∷ without t xs) (without t xs)) ≡ cond (eqb u x.txn) (Some x) (active_of u xs)
    by true same rest = rest ∙ sym (ap (λ b. cond b (Some x) (active_of u xs)) (ne_eqb u x.txn (λ e. apart (e ∙ sym (same refl)))))
    by false same rest = ap (cond (eqb u x.txn) (Some x)) rest

-- ---- places

and_first : (a b : Bool) → (a && b) ≡ true → a ≡ true
and_first true b e = refl
and_first false b e = absurd cc

and_second : (a b : Bool) → (a && b) ≡ true → b ≡ true
and_second true b e = e
and_second false b e = absurd cc

abbrev pub is_same : Place → Place → Bool
is_same q r = (r.page == q.page) && (r.slot == q.slot)

pub same_place : (q r : Place) → is_same q r ≡ true → q ≡ r
same_place q r e =
    let page = eqb-true r.page q.page (and_first (r.page == q.page) (r.slot == q.slot) e) in
    let slot = eqb-true r.slot q.slot (and_second (r.page == q.page) (r.slot == q.slot) e) in
    λ i. record { page = sym page i; slot = sym slot i }

pub itself : (r : Place) → is_same r r ≡ true
itself r = λ i. eq-eqb r.page r.page refl i && eq-eqb r.slot r.slot refl i

pub not_same : (q r : Place) → q ≢ r → is_same q r ≡ false
not_same q r apart = by (is_same q r) refl
  where
    by : (b : Bool) → is_same q r ≡ b → is_same q r ≡ false
    by true e = absurd (apart (same_place q r e))
    by false e = e

-- ---- the row of a place

-- a row that is set last, in place of what was at its place
pub row_set : (w : Write) (ws : List Write) → row_at w.rid (with_write w ws) ≡ Some w.row
row_set w [] = ap (λ b. cond b (Some w.row) None) (itself w.rid)
row_set w (v ∷ ws) = by (is_at w.rid v) refl (row_set w ws)
  where
    by : (b : Bool) → is_at w.rid v ≡ b → row_at w.rid (with_write w ws) ≡ Some w.row
        → row_at w.rid (cond (not b) (v ∷ filter (λ x. not (is_at w.rid x)) ws) (filter (λ x. not (is_at w.rid x)) ws) ++ w ∷ []) ≡ Some w.row
    by true e rest = rest
    by false e rest = ap (λ b. cond b (Some v.row) (row_at w.rid (with_write w ws))) e ∙ rest

pub row_apart : (q : Place) (w : Write) (ws : List Write) → q ≢ w.rid → row_at q (with_write w ws) ≡ row_at q ws
row_apart q w [] apart = ap (λ b. cond b (Some w.row) None) (not_same q w.rid apart)
row_apart q w (v ∷ ws) apart = by (is_at w.rid v) refl (row_apart q w ws apart)
  where
    by : (b : Bool) → is_at w.rid v ≡ b → row_at q (with_write w ws) ≡ row_at q ws
        → row_at q (cond (not b) (v ∷ filter (λ x. not (is_at w.rid x)) ws) (filter (λ x. not (is_at w.rid x)) ws) ++ w ∷ [])
        ≡ cond (is_at q v) (Some v.row) (row_at q ws)
    by true e rest = rest ∙ sym (ap (λ b. cond b (Some v.row) (row_at q ws)) (not_same q v.rid (λ is. apart (is ∙ sym (same_place w.rid v.rid e)))))
    by false e rest = ap (cond (is_at q v) (Some v.row)) rest

-- the rows read anew
pub row_again : (core : CoreValue) (q : Place) (ws : List Write)
    → row_at q (rows_now core ws) ≡ option_map (λ (r : Option Row). get core.heap.rows q) (row_at q ws)
row_again core q [] = refl
row_again core q (w ∷ ws) = by (is_at q w) (same_place q w.rid) (row_again core q ws)
  where
    by : (b : Bool) → (b ≡ true → q ≡ w.rid) → row_at q (rows_now core ws) ≡ option_map (λ (r : Option Row). get core.heap.rows q) (row_at q ws)
        → cond b (Some (get core.heap.rows w.rid)) (row_at q (rows_now core ws))
        ≡ option_map (λ (r : Option Row). get core.heap.rows q) (cond b (Some w.row) (row_at q ws))
    by true same rest = ap (λ (r : Place). Some (get core.heap.rows r)) (sym (same refl))
    by false same rest = rest
