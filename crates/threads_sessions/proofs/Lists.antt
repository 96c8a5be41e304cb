-- Active transactions, in a list of their fields and in one of their values.
use Rattle.std.proofs.Common.{◌≡◌, ℕ, ◌<◌, ◌+◌, zero, suc, Bool, true, false, cond, eqb, List, [], ◌∷◌, map, length, Option, Some, None, not, ◌&&◌, ◌≤◌, Vec}
use Rattle.std.proofs.Common.{filter, take, drop, get_or, ◌++◌, ◌==◌, unwrap_or, vec_len, vec_capacity, refl, sym, ap, ◌∙◌, subst, arith}
use Rattle.std.proofs.lemmas.List.{at_drop_more}
use Rattle.std.specs.Prelude.{slice_get, slice_set, slice_index_or, MatchOption, is_some}
use Rattle.threads_sessions.specs.declared.active.ActiveTxn.{ActiveTxn}
use Rattle.std.specs.Option.{option_map}
use Rattle.model.specs.declared.write.Write.{Write}
use Rattle.threads_sessions.specs.Values.{ActiveValue, active_of, with_active, can_go_on, without, rows_of}
use Rattle.core_parts.specs.View.{CoreValue}
use Rattle.threads_sessions.specs.Steps.{row_now, rows_now}
use Rattle.threads_sessions.specs.Active.{active_value, place_from, HasRoom, HasRoomAt, changed_at, IsPlace}

pub same_set : {A : Type 0} (xs : List (ActiveTxn A)) (i : ℕ) (b d : ActiveTxn A) → active_value b ≡ active_value (slice_index_or xs i d)
    → map active_value (slice_set xs i b) ≡ map active_value xs
same_set [] i b d e = refl
same_set (x ∷ xs) zero b d e = ap (λ v. v ∷ map active_value xs) e
same_set (x ∷ xs) (suc i) b d e = ap (λ l. active_value x ∷ l) (same_set xs i b d e)

pub room_there : {A : Type 0} (xs : List (ActiveTxn A)) (i : ℕ) (b : ActiveTxn A) → i < length xs → HasRoom b → HasRoomAt i (slice_set xs i b)
room_there [] i b lt room = absurd (omega arith)
room_there (x ∷ xs) zero b lt room = (b, refl, room)
room_there (x ∷ xs) (suc i) b lt room = room_there xs i b (omega arith) room

pub room_read : {A : Type 0} (xs : List (ActiveTxn A)) (i : ℕ) (a : ActiveTxn A) → a ≡ slice_index_or xs i a → HasRoomAt i xs → HasRoom a
room_read [] i a e has = absurd cc
room_read (x ∷ xs) zero a e has = let is : x ≡ has.0 = cc in subst HasRoom (sym (e ∙ is)) has.2
room_read (x ∷ xs) (suc i) a e has = room_read xs i a e has

pub place_within : {A : Type 0} (xs : List (ActiveTxn A)) (i : ℕ) → HasRoomAt i xs → i < length xs
place_within [] i has = absurd cc
place_within (x ∷ xs) zero has = omega arith
place_within (x ∷ xs) (suc i) has = let r = place_within xs i has in omega arith

pub set_changed : {A : Type 0} (f : ActiveValue → ActiveValue) (xs : List (ActiveTxn A)) (i : ℕ) (b d : ActiveTxn A)
    → active_value b ≡ f (active_value (slice_index_or xs i d)) → map active_value (slice_set xs i b) ≡ changed_at f i (map active_value xs)
set_changed f [] i b d e = refl
set_changed f (x ∷ xs) zero b d e = ap (λ v. v ∷ map active_value xs) e
set_changed f (x ∷ xs) (suc i) b d e = ap (λ l. active_value x ∷ l) (set_changed f xs i b d e)

some_is : {A : Type 0} (a b : A) → Some a ≡ Some b → a ≡ b
some_is a b e = cc

find_from : {A : Type 0} (txn j k : ℕ) (xs : List (ActiveTxn A)) → place_from txn j xs ≡ Some k → (i : ℕ) × (k ≡ j + i) × IsPlace txn xs i
find_from {A} txn j k [] e = absurd cc
find_from {A} txn j k (x ∷ xs) e = by (eqb txn x.txn) refl e (find_from txn (j + 1) k xs)
  where
    by : (b : Bool) → eqb txn x.txn ≡ b → cond b (Some j) (place_from txn (j + 1) xs) ≡ Some k
        → (place_from txn (j + 1) xs ≡ Some k → (i : ℕ) × (k ≡ (j + 1) + i) × IsPlace txn xs i) → (i : ℕ) × (k ≡ j + i) × IsPlace txn (x ∷ xs) i
    by true test h rest =
        let same : j ≡ k = cc in (
          0,
          omega (arith, same),
          record {
            changed = λ f. sym (ap (λ b. cond b (f (active_value x) ∷ map active_value xs) (active_value x ∷ with_active f txn (map active_value xs))) test);
            found = λ d. ap (λ b. cond b (Some (active_value x)) (active_of txn (map active_value xs))) test;
            there = ap (λ b. is_some (cond b (Some (active_value x)) (active_of txn (map active_value xs)))) test;
            number = λ a is. ap (λ (y : ActiveTxn A). eqb txn y.txn) (sym (some_is x a is)) ∙ test;
          },
        )
    by false test h rest =
        let r = rest h in (
          suc r.0,
          omega (arith, r.1),
          record {
            changed = λ f. ap (λ l. active_value x ∷ l) (r.2.changed f)
                ∙ sym (ap (λ b. cond b (f (active_value x) ∷ map active_value xs) (active_value x ∷ with_active f txn (map active_value xs))) test);
            found = λ d. ap (λ b. cond b (Some (active_value x)) (active_of txn (map active_value xs))) test ∙ r.2.found d;
            there = ap (λ b. is_some (cond b (Some (active_value x)) (active_of txn (map active_value xs)))) test ∙ r.2.there;
            number = λ a is. r.2.number a is;
          },
        )

pub find : {A : Type 0} (txn i : ℕ) (xs : List (ActiveTxn A)) → place_from txn 0 xs ≡ Some i → IsPlace txn xs i
find txn i xs e = let r = find_from txn 0 i xs e in let same : r.0 ≡ i = omega (arith, r.1) in subst (IsPlace txn xs) same r.2

pub find_none : {A : Type 0} (txn j : ℕ) (xs : List (ActiveTxn A)) → place_from txn j xs ≡ None → active_of txn (map active_value xs) ≡ None
find_none txn j [] e = refl
find_none txn j (x ∷ xs) e = by (eqb txn x.txn) e (find_none txn (j + 1) xs)
  where
    by : (b : Bool) → cond b (Some j) (place_from txn (j + 1) xs) ≡ None → (place_from txn (j + 1) xs ≡ None → active_of txn (map active_value xs) ≡ None)
        → cond b (Some (active_value x)) (active_of txn (map active_value xs)) ≡ None
    by true h rest = absurd cc
    by false h rest = rest h

pub found_at : {A : Type 0} (txn : ℕ) (xs : List (ActiveTxn A)) (r : Option ℕ) → r ≡ place_from txn 0 xs
    → MatchOption r (active_of txn (map active_value xs) ≡ None) (λ i. IsPlace txn xs i)
found_at txn xs None e = find_none txn 0 xs (sym e)
found_at txn xs (Some i) e = find txn i xs (sym e)

-- the walk over the list, at one of them
module _ {A : Type 0} (txn i : ℕ) (xs : List (ActiveTxn A)) (x : ActiveTxn A) (lt : i < length xs) (is : x ≡ get_or xs i x) (whole : Option ℕ)
    (so_far : place_from txn i (drop i xs) ≡ whole) where
  met : (b : Bool) → (txn == x.txn) ≡ b → cond b (Some i) (place_from txn (i + 1) (drop (i + 1) xs)) ≡ whole
  met b test =
      ap (λ (c : Bool). cond c (Some i) (place_from txn (i + 1) (drop (i + 1) xs))) (sym test)
      ∙ (ap (λ (y : ActiveTxn A). cond (txn == y.txn) (Some i) (place_from txn (i + 1) (drop (i + 1) xs))) is
      ∙ (sym (at_drop_more (place_from txn i) xs i x lt) ∙ so_far))

  pub first_here : (txn == x.txn) ≡ true → Some i ≡ whole
  first_here test = met true test

  pub not_here : (txn == x.txn) ≡ false → place_from txn (i + 1) (drop (i + 1) xs) ≡ whole
  not_here test = met false test

pub active_there : (txn : ℕ) (active : List ActiveValue) (a : ActiveValue) → active_of txn active ≡ Some a → is_some (active_of txn active) ≡ true
active_there txn active a e = ap is_some e

module _ {A : Type 0} (xs : List (ActiveTxn A)) (i : ℕ) (a : ActiveTxn A) (rows : Vec Write A) (is : a ≡ slice_index_or xs i a) where
  abbrev other : ActiveTxn A
  other = record { txn = a.txn; rows = rows; unfinished = a.unfinished; rolling = a.rolling }

  pub same_grown : rows.items ≡ a.rows.items → map active_value (slice_set xs i other) ≡ map active_value xs
  same_grown e = same_set xs i other a (ap (λ (l : List Write). record { txn = a.txn; rows = l; unfinished = a.unfinished; rolling = a.rolling }) e
      ∙ ap active_value is)

  pub room_grown : i < length xs → vec_len rows + 1 ≤ vec_capacity rows → HasRoomAt i (slice_set xs i other)
  room_grown lt room = room_there xs i other lt (omega (arith, room))

-- the transaction at this place, changed
pub one_changed : {A : Type 0} (xs : List (ActiveTxn A)) (i : ℕ) (a : ActiveTxn A) → a ≡ slice_index_or xs i a
    → (f : ActiveValue → ActiveValue) (b : ActiveTxn A) → active_value b ≡ f (active_value a)
    → map active_value (slice_set xs i b) ≡ changed_at f i (map active_value xs)
one_changed {A} xs i a is f b e = set_changed f xs i b a (e ∙ ap (λ (x : ActiveTxn A). f (active_value x)) is)

-- a transaction that is known may go on as its fields say
pub ready_now : (txn : ℕ) (active : List ActiveValue) (a : ActiveValue) (b : Bool) → active_of txn active ≡ Some a
    → b ≡ (not (is_some a.unfinished) && not a.rolling) → b ≡ can_go_on (active_of txn active)
ready_now txn active a b found e = e ∙ sym (ap can_go_on found)

-- a place that was found in a copy of the list
pub place_in : {A : Type 0} (txn i : ℕ) (xs ys : List (ActiveTxn A)) → ys ≡ xs → IsPlace txn ys i → IsPlace txn xs i
place_in txn i xs ys e p = subst (λ zs. IsPlace txn zs i) e p

value_filtered : {A : Type 0} (txn : ℕ) (xs : List (ActiveTxn A))
    → map active_value (filter (λ (a : ActiveTxn A). not (txn == a.txn)) xs) ≡ without txn (map active_value xs)
value_filtered {A} txn [] = refl
value_filtered {A} txn (x ∷ xs) = by (eqb txn x.txn) (value_filtered txn xs)
  where
    by : (b : Bool) → map active_value (filter (λ (a : ActiveTxn A). not (txn == a.txn)) xs) ≡ without txn (map active_value xs)
        → map active_value (cond (not b) (x ∷ filter (λ (a : ActiveTxn A). not (txn == a.txn)) xs) (filter (λ (a : ActiveTxn A). not (txn == a.txn)) xs))
        ≡ cond (not b) (active_value x ∷ without txn (map active_value xs)) (without txn (map active_value xs))
    by true rest = rest
    by false rest = ap (λ l. active_value x ∷ l) rest

-- the rows of the one that was found
pub rows_found : (txn : ℕ) (active : List ActiveValue) (a : ActiveValue) → active_of txn active ≡ Some a → rows_of txn active ≡ a.rows
rows_found txn active a found = ap (λ o. unwrap_or (option_map (λ (x : ActiveValue). x.rows) o) []) found

-- the transaction taken out of the list, and any other with its number
pub taken_out : {A : Type 0} (txn i k : ℕ) (xs : List (ActiveTxn A)) → k ≡ i + 1 → ((a : ActiveTxn A) → slice_get xs i ≡ Some a → (txn == a.txn) ≡ true)
    → map active_value (filter (λ (a : ActiveTxn A). not (txn == a.txn)) (take i xs ++ drop k xs)) ≡ without txn (map active_value xs)
taken_out {A} txn i zero xs e number = absurd (omega arith)
taken_out {A} txn zero (suc k) [] e number = refl
taken_out {A} txn (suc i) (suc k) [] e number = refl
taken_out {A} txn zero (suc k) (x ∷ xs) e number =
    let test = number x refl in
    let none : k ≡ 0 = omega arith in
    ap (λ n. map active_value (filter (λ (a : ActiveTxn A). not (txn == a.txn)) (drop n xs))) none
    ∙ value_filtered txn xs ∙ sym (ap (λ b. cond (not b) (active_value x ∷ without txn (map active_value xs)) (without txn (map active_value xs))) test)
taken_out {A} txn (suc i) (suc k) (x ∷ xs) e number = by (eqb txn x.txn) (taken_out txn i k xs (omega arith) number)
  where
    by : (b : Bool) → map active_value (filter (λ (a : ActiveTxn A). not (txn == a.txn)) (take i xs ++ drop k xs)) ≡ without txn (map active_value xs)
        → map active_value (cond (not b) (x ∷ filter (λ (a : ActiveTxn A). not (txn == a.txn)) (take i xs ++ drop k xs))
        (filter (λ (a : ActiveTxn A). not (txn == a.txn)) (take i xs ++ drop k xs)))
        ≡ cond (not b) (active_value x ∷ without txn (map active_value xs)) (without txn (map active_value xs))
    by true rest = rest
    by false rest = ap (λ l. active_value x ∷ l) rest

-- ---- rows that are read again, one after another

pub row_read : (core : CoreValue) (rows : List Write) (i : ℕ) (w d : Write) → row_now core w.rid ≡ row_now core (slice_index_or rows i d).rid
    → rows_now core (slice_set rows i w) ≡ rows_now core rows
row_read core [] i w d e = refl
row_read core (x ∷ xs) zero w d e = ap (λ v. v ∷ rows_now core xs) e
row_read core (x ∷ xs) (suc i) w d e = ap (λ l. row_now core x.rid ∷ l) (row_read core xs i w d e)

pub rows_read : (core : CoreValue) (rows : List Write) (i n : ℕ) (w : Write) → n ≡ i + 1 → w ≡ row_now core w.rid → rows_now core (take i rows) ≡ take i rows
    → rows_now core (take n (slice_set rows i w)) ≡ take n (slice_set rows i w)
rows_read core rows i zero w is e done = absurd (omega (arith, is))
rows_read core [] i (suc n) w is e done = refl
rows_read core (x ∷ xs) zero (suc n) w is e done =
    let none : n ≡ 0 = omega (arith, is) in
    let rest : rows_now core (take n xs) ≡ take n xs = subst (λ k. rows_now core (take k xs) ≡ take k xs) (sym none) refl in
    λ j. sym e j ∷ rest j
rows_read core (x ∷ xs) (suc i) (suc n) w is e done = let first = head_is _ _ _ _ done in let rest =
    rows_read core xs i n w (omega (arith, is)) e (tail_is _ _ _ _ done) in λ j. first j ∷ rest j
  where
    head_is : (a b : Write) (l m : List Write) → a ∷ l ≡ b ∷ m → a ≡ b
    head_is a b l m e = cc

    tail_is : (a b : Write) (l m : List Write) → a ∷ l ≡ b ∷ m → l ≡ m
    tail_is a b l m e = cc
