-- The commits of all sessions, and what they did to the index, as one of these changes.
use Rattle.std.proofs.Common.{◌≡◌, ◌≢◌, ◌+◌, ◌<◌, ℕ, Bool, true, false, cond, eqb, eq-eqb, ne_eqb, List, [], ◌∷◌, ◌++◌, length, Some, inl, inr, refl, sym, ap}
use Rattle.std.proofs.Common.{◌∙◌, subst, arith}
use Rattle.std.proofs.lemmas.Bool.{cases_eq}
use Rattle.std.proofs.lemmas.List.{length-append}
use Rattle.std.specs.Prelude.{slice_get, slice_set}
use Rattle.core_parts.specs.declared.parts.Ticket.{Ticket}
use Rattle.threads_sessions.specs.Values.{CommitValue, SessionValue, rows_of}
use Rattle.threads_sessions.specs.Steps.{committed}
use Rattle.threads_register.proofs.Lookups.{get_set, get_set_other, get_within, set_length, some_is}
use Rattle.threads_register.specs.Register.{AreAllCommits, AreBySeats, AreEmpty, AreNumbered, Commits, made_by}

-- ---- one more

made_by_more : {A : Type 0} (k : ℕ) (all : List (ℕ × A)) (c : A) → made_by k (all ++ (k, c) ∷ []) ≡ made_by k all ++ c ∷ []
made_by_more k [] c = ap (λ b. cond b (c ∷ []) []) (eq-eqb k k refl)
made_by_more k (e ∷ es) c = by (eqb k e.0) (made_by_more k es c)
  where
    by : (b : Bool) → made_by k (es ++ (k, c) ∷ []) ≡ made_by k es ++ c ∷ []
        → cond b (e.1 ∷ made_by k (es ++ (k, c) ∷ [])) (made_by k (es ++ (k, c) ∷ [])) ≡ cond b (e.1 ∷ made_by k es) (made_by k es) ++ c ∷ []
    by true rest = ap (λ l. e.1 ∷ l) rest
    by false rest = rest

made_by_other : {A : Type 0} (j k : ℕ) (all : List (ℕ × A)) (c : A) → j ≢ k → made_by j (all ++ (k, c) ∷ []) ≡ made_by j all
made_by_other j k [] c apart = ap (λ b. cond b (c ∷ []) []) (ne_eqb j k apart)
made_by_other j k (e ∷ es) c apart = ap (λ l. cond (eqb j e.0) (e.1 ∷ l) l) (made_by_other j k es c apart)

pub numbered_more : (n m : ℕ) (commits : Commits) (e : ℕ × CommitValue) → AreNumbered n commits → m ≡ n + length commits → e.1.ticket.commit ≡ Some m
    → AreNumbered n (commits ++ e ∷ [])
numbered_more n m [] e h is number = let same : m ≡ n = omega (arith, is) in (number ∙ ap (λ (x : ℕ). Some x) same, tt)
numbered_more n m (x ∷ xs) e h is number = (h.0, numbered_more (n + 1) m xs e h.1 (omega (arith, is)) number)

pub by_seats_more : {A : Type 0} (n : ℕ) (all : List (ℕ × A)) (e : ℕ × A) → AreBySeats n all → e.0 < n → AreBySeats n (all ++ e ∷ [])
by_seats_more n [] e h lt = (lt, tt)
by_seats_more n (x ∷ xs) e h lt = (h.0, by_seats_more n xs e h.1 lt)

-- ---- one session changes

module _ {A : Type 0} (f : SessionValue → List A) (book : List SessionValue) (all : List (ℕ × A)) (in_sessions : (seat : ℕ) (session : SessionValue)
    → slice_get book seat ≡ Some session → f session ≡ made_by seat all)
    (k : ℕ) (p : SessionValue) (there : slice_get book k ≡ Some p) where
  within : k < length book
  within = get_within book k p there

  its : (new session : SessionValue) (j : ℕ) → j ≡ k → slice_get (slice_set book k new) j ≡ Some session → new ≡ session
  its new session j is at = some_is new session (sym (get_set book k new within) ∙ (ap (slice_get (slice_set book k new)) (sym is) ∙ at))

  pub stays_in : (new : SessionValue) → f new ≡ f p → (j : ℕ) (session : SessionValue) → slice_get (slice_set book k new) j ≡ Some session
      → f session ≡ made_by j all
  stays_in new same j session at = elim (cases_eq j k) [
    | inl is ↦ ap f (sym (its new session j is at)) ∙ (same ∙ (in_sessions k p there ∙ ap (λ n. made_by n all) (sym is)))
    | inr not ↦ in_sessions j session (sym (get_set_other book k j new not) ∙ at)
  ]

  pub more_in : (new : SessionValue) (c : A) → f new ≡ f p ++ c ∷ [] → (j : ℕ) (session : SessionValue) → slice_get (slice_set book k new) j ≡ Some session
      → f session ≡ made_by j (all ++ (k, c) ∷ [])
  more_in new c more j session at = elim (cases_eq j k) [
    | inl is ↦
        ap f (sym (its new session j is at))
        ∙ (more ∙ (ap (λ (l : List A). l ++ c ∷ []) (in_sessions k p there) ∙ (sym (made_by_more k all c) ∙ ap (λ n. made_by n (all ++ (k, c) ∷ [])) (sym is))))
    | inr not ↦ in_sessions j session (sym (get_set_other book k j new not) ∙ at) ∙ sym (made_by_other j k all c not)
  ]

  pub by_seats_set : (new : SessionValue) → AreBySeats (length book) all → AreBySeats (length (slice_set book k new)) all
  by_seats_set new h = subst (λ n. AreBySeats n all) (sym (set_length book k new)) h

  pub by_seats_and : (new : SessionValue) (c : A) → AreBySeats (length book) all → AreBySeats (length (slice_set book k new)) (all ++ (k, c) ∷ [])
  by_seats_and new c h = subst (λ n. AreBySeats n (all ++ (k, c) ∷ [])) (sym (set_length book k new)) (by_seats_more (length book) all (k, c) h within)

-- ---- the commits

pub begins : (book : List SessionValue) → AreEmpty book → AreAllCommits book 0
begins book empty = record {
  commits = [];
  numbered = tt;
  counted = refl;
  by_seats = tt;
  in_sessions = λ seat session at.
      ap (λ (s : SessionValue). s.commits) (empty seat session at);
}

pub stays : (book : List SessionValue) (count : ℕ) → AreAllCommits book count → (seat : ℕ) (session new : SessionValue) → slice_get book seat ≡ Some session
    → new.commits ≡ session.commits → AreAllCommits (slice_set book seat new) count
stays book count all seat session new there same = record {
  commits = all.commits;
  numbered = all.numbered;
  counted = all.counted;
  by_seats = by_seats_set (λ (s : SessionValue). s.commits) book all.commits all.in_sessions seat session there new all.by_seats;
  in_sessions = stays_in (λ (s : SessionValue). s.commits) book all.commits all.in_sessions seat session there new same;
}

pub commits : (book : List SessionValue) (count : ℕ) → AreAllCommits book count → (seat : ℕ) (session : SessionValue) → slice_get book seat ≡ Some session
    → (txn : ℕ) (ticket : Ticket) → ticket.commit ≡ Some (count + 1)
    → AreAllCommits (slice_set book seat (committed session txn ticket)) (count + 1)
commits book count all seat session there txn ticket number =
    let c : CommitValue = record { ticket = ticket; writes = rows_of txn session.active } in
    let new : SessionValue = committed session txn ticket in
    record {
      commits = all.commits ++ (seat, c) ∷ [];
      numbered = numbered_more 1 (count + 1) all.commits (seat, c) all.numbered (omega (arith, all.counted)) number;
      counted = omega (arith, all.counted, length-append {A = ℕ × CommitValue} all.commits ((seat, c) ∷ []));
      by_seats = by_seats_and (λ (s : SessionValue). s.commits) book all.commits all.in_sessions seat session there new c all.by_seats;
      in_sessions = more_in (λ (s : SessionValue). s.commits) book all.commits all.in_sessions seat session there new c refl;
    }
