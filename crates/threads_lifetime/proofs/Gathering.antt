-- The next commit is at the front of its seat's list.
use Rattle.std.proofs.Common.{◌≡◌, ◌+◌, ◌<◌, ◌≤◌, ℕ, zero, suc, Bool, true, false, cond, eqb, eq-eqb, ne_eqb, List, [], ◌∷◌, ◌++◌, length, map, Option, None}
use Rattle.std.proofs.Common.{Some, IfNone, IfSome, Vec, inl, inr, refl, sym, ap, ◌∙◌, subst, arith, append-nil, vec_len}
use Rattle.std.proofs.lemmas.Bool.{cases_eq, eqb-true}
use Rattle.std.proofs.lemmas.List.{reverse-append}
use Rattle.std.specs.Option.{option_to_list}
use Rattle.std.specs.Prelude.{IsSome, reverse, slice_get, slice_index_or, slice_set}
use Rattle.threads_register.specs.Register.{AreAllCommits, AreBySeats, AreNumbered, Commits, made_by}
use Rattle.threads_sessions.specs.Values.{CommitValue, SessionValue}
use Rattle.shared.specs.Seats.{SeatValue}
use Rattle.threads_lifetime.specs.Gathered.{TakesFrom, commits_of, heads_with, is_numbered, lists_of}
use Rattle.threads_lifetime.proofs.Lists.{cons_first, cons_rest, get_set, get_set_other, map_count, map_get, map_more, map_set, set_itself, some_is}
use Rattle.threads_lifetime.proofs.Lists.{within_list}

-- the commits alone
abbrev pub commits_in : Commits → List CommitValue
commits_in commits = map (λ (c : ℕ × CommitValue). c.1) commits

-- each list has what its seat made of these
abbrev AreListsOf : List (List CommitValue) → Commits → Type 0
AreListsOf lists commits = (k : ℕ) (l : List CommitValue) → slice_get lists k ≡ Some l → l ≡ made_by k commits

-- ---- numbers

pub is_number : (n : ℕ) (o : Option ℕ) → is_numbered n o ≡ true → o ≡ Some n
is_number n None h = absurd cc
is_number n (Some k) h = ap Some (eqb-true k n h)

has_number : (n : ℕ) (o : Option ℕ) → o ≡ Some n → is_numbered n o ≡ true
has_number n o h = ap (is_numbered n) h ∙ eq-eqb n n refl

-- the commits that are left have higher numbers
above : (n k : ℕ) (commits : Commits) (c : CommitValue) (rest : List CommitValue) (number : ℕ) → AreNumbered n commits → made_by k commits ≡ c ∷ rest
    → c.ticket.commit ≡ Some number → n ≤ number
above n k [] c rest number h e is = absurd cc
above n k (x ∷ xs) c rest number h e is = by (eqb k x.0) e (λ later. above (n + 1) k xs c rest number h.1 later is)
  where
    by : (b : Bool) → cond b (x.1 ∷ made_by k xs) (made_by k xs) ≡ c ∷ rest → (made_by k xs ≡ c ∷ rest → n + 1 ≤ number) → n ≤ number
    by true e later =
        let same : n ≡ number = some_is n number (sym h.0 ∙ (ap (λ (y : CommitValue). y.ticket.commit) (cons_first x.1 c (made_by k xs) rest e) ∙ is)) in
        omega (arith, same)
    by false e later = let r = later e in omega (arith, r)

-- where the front of a list has the first number, it is the first commit
front_is : (n k : ℕ) (commits : Commits) (c : CommitValue) (rest : List CommitValue) → AreNumbered n commits → made_by k commits ≡ c ∷ rest
    → c.ticket.commit ≡ Some n
    → (left : Commits) × (commits ≡ (k, c) ∷ left) × (made_by k left ≡ rest)
front_is n k [] c rest h e is = absurd cc
front_is n k (x ∷ xs) c rest h e is = by (eqb k x.0) refl e
  where
    by : (b : Bool) → eqb k x.0 ≡ b → cond b (x.1 ∷ made_by k xs) (made_by k xs) ≡ c ∷ rest → (left : Commits) × (x ∷ xs ≡ (k, c) ∷ left)
        × (made_by k left ≡ rest)
    by true test e =
        let seat : k ≡ x.0 = eqb-true k x.0 test in
        let its : x.1 ≡ c = cons_first x.1 c (made_by k xs) rest e in
        (xs, (λ i. (sym seat i, its i) ∷ xs), cons_rest x.1 c (made_by k xs) rest e)
    by false test e = let r = above (n + 1) k xs c rest n h.1 e is in absurd (omega (arith, r))

-- ---- the gathering

-- some were gathered, and the lists have the others
pub record Gathers (seats number : ℕ) (lists : List (List CommitValue)) (gathered : List CommitValue) (commits : Commits) : Type 0 where
  pub done : Commits
  pub left : Commits
  pub all : commits ≡ done ++ left
  pub so_far : gathered ≡ commits_in done
  pub lists_are : AreListsOf lists left
  pub numbered : AreNumbered number left
  pub by_seats : AreBySeats seats left

append_one : (done left : Commits) (e : ℕ × CommitValue) → done ++ e ∷ left ≡ (done ++ e ∷ []) ++ left
append_one [] left e = refl
append_one (x ∷ xs) left e = ap (λ l. x ∷ l) (append_one xs left e)

pub one_more : (seats number : ℕ) (lists later : List (List CommitValue)) (gathered : List CommitValue) (commits : Commits) (c : CommitValue)
    → Gathers seats number lists gathered commits → TakesFrom number c lists later
    → Gathers seats (number + 1) later (gathered ++ c ∷ []) commits
one_more seats number lists later gathered commits c g t =
    let front = front_is number t.k g.left c t.rest g.numbered (sym (g.lists_are t.k (c ∷ t.rest) t.there)) t.numbered in
    let numbered : AreNumbered number ((t.k, c) ∷ front.0) = subst (AreNumbered number) front.1 g.numbered in
    let seated : AreBySeats seats ((t.k, c) ∷ front.0) = subst (AreBySeats seats) front.1 g.by_seats in record {
      done = g.done ++ (t.k, c) ∷ [];
      left = front.0;
      all = g.all ∙ (ap (λ l. g.done ++ l) front.1 ∙ append_one g.done front.0 (t.k, c));
      so_far = ap (λ l. l ++ c ∷ []) g.so_far ∙ sym (map_more (λ (e : ℕ × CommitValue). e.1) g.done (t.k, c));
      lists_are = λ j l at. elim (cases_eq j t.k) [
        | inl is ↦
            let its : t.rest ≡ l = some_is t.rest l (sym (get_set lists t.k t.rest (c ∷ t.rest) t.there)
            ∙ (ap (λ x. slice_get x t.k) (sym t.left) ∙ (ap (slice_get later) (sym is) ∙ at))) in
            sym its ∙ (sym front.2 ∙ ap (λ n. made_by n front.0) (sym is))
        | inr not ↦
            g.lists_are j l (sym (get_set_other lists t.k j t.rest not) ∙ (ap (λ x. slice_get x j) (sym t.left) ∙ at))
            ∙ (ap (made_by j) front.1 ∙ ap (λ b. cond b (c ∷ made_by j front.0) (made_by j front.0)) (ne_eqb j t.k not))
      ];
      numbered = numbered.1;
      by_seats = seated.1;
    }

pub none_left : (number : ℕ) (lists : List (List CommitValue)) (gathered : List CommitValue) (commits : Commits)
    → Gathers (length lists) number lists gathered commits
    → ((k : ℕ) (l : List CommitValue) → slice_get lists k ≡ Some l → heads_with number l ≡ false) → gathered ≡ commits_in commits
none_left number lists gathered commits g none = by g.left refl g.numbered g.by_seats g.lists_are
  where
    by : (left : Commits) → g.left ≡ left → AreNumbered number left → AreBySeats (length lists) left → AreListsOf lists left → gathered ≡ commits_in commits
    by [] is n s are = g.so_far ∙ ap commits_in (sym (append-nil g.done) ∙ (ap (λ l. g.done ++ l) (sym is) ∙ sym g.all))
    by (x ∷ xs) is n s are =
        let its = within_list lists x.0 s.0 in
        let list : its.0 ≡ x.1 ∷ made_by x.0 xs = are x.0 its.0 its.1 ∙ ap (λ b. cond b (x.1 ∷ made_by x.0 xs) (made_by x.0 xs)) (eq-eqb x.0 x.0 refl) in
        let both : true ≡ false = sym (ap (heads_with number) list ∙ has_number number x.1.ticket.commit n.0) ∙ none x.0 its.0 its.1 in absurd cc

-- the lists of all sessions have all commits
pub lists_made : (book : List SessionValue) (count : ℕ) (all : AreAllCommits book count) (lists : List (List CommitValue)) → lists ≡ commits_of book
    → AreListsOf lists all.commits
lists_made book count all lists is k l at =
    let its = map_get (λ (s : SessionValue). s.commits) book k l (ap (λ x. slice_get x k) (sym is) ∙ at) in
    its.2 ∙ all.in_sessions k its.0 its.1

pub starts : (number : ℕ) (lists : List (List CommitValue)) (book : List SessionValue) (count : ℕ) (all : AreAllCommits book count) → number ≡ 1
    → lists ≡ commits_of book → Gathers (length lists) number lists [] all.commits
starts number lists book count all one is = record {
  done = [];
  left = all.commits;
  all = refl;
  so_far = refl;
  lists_are = lists_made book count all lists is;
  numbered = subst (λ n. AreNumbered n all.commits) (sym one) all.numbered;
  by_seats = subst (λ n. AreBySeats n all.commits) (sym (ap length is ∙ map_count (λ (s : SessionValue). s.commits) book)) all.by_seats;
}

pub moved : (seats more number next : ℕ) (lists : List (List CommitValue)) (gathered later : List CommitValue) (commits : Commits) → seats ≡ more
    → number ≡ next → gathered ≡ later → Gathers seats number lists gathered commits → Gathers more next lists later commits
moved seats more number next lists gathered later commits a b c g =
    subst (λ n. Gathers n next lists later commits) a (subst (λ n. Gathers seats n lists later commits) b
    (subst (λ l. Gathers seats number lists l commits) c g))

-- ---- the lists

pub list_at : {A : Type 0} (lists : List (Vec CommitValue A)) (k : ℕ) (v : Vec CommitValue A) (l : List CommitValue) → v ≡ slice_index_or lists k v
    → slice_get (lists_of lists) k ≡ Some l → l ≡ reverse v.items
list_at [] k v l e at = absurd cc
list_at (x ∷ xs) zero v l e at = sym (some_is (reverse x.items) l at) ∙ ap (λ (y : Vec CommitValue _). reverse y.items) (sym e)
list_at (x ∷ xs) (suc k) v l e at = list_at xs k v l e at

pub list_there : {A : Type 0} (lists : List (Vec CommitValue A)) (k : ℕ) (v : Vec CommitValue A) → k < length lists → v ≡ slice_index_or lists k v
    → slice_get (lists_of lists) k ≡ Some (reverse v.items)
list_there [] k v lt e = absurd (omega (arith, lt))
list_there (x ∷ xs) zero v lt e = ap (λ (y : Vec CommitValue _). Some (reverse y.items)) (sym e)
list_there (x ∷ xs) (suc k) v lt e = list_there xs k v (omega (arith, lt)) e

pub list_within : {A : Type 0} (lists : List (Vec CommitValue A)) (k : ℕ) (l : List CommitValue) → slice_get (lists_of lists) k ≡ Some l → k < length lists
list_within [] k l at = absurd cc
list_within (x ∷ xs) zero l at = omega arith
list_within (x ∷ xs) (suc k) l at = let r = list_within xs k l at in omega (arith, r)

-- what is at the end of a list is its next commit
pub heads_last : (number : ℕ) (list rest : List CommitValue) (c : CommitValue) → list ≡ rest ++ c ∷ []
    → is_numbered number c.ticket.commit ≡ heads_with number (reverse list)
heads_last number list rest c is = sym (ap (λ l. heads_with number (reverse l)) is ∙ ap (heads_with number) (reverse-append rest (c ∷ [])))

pub heads_none : (number : ℕ) (list : List CommitValue) → length list ≡ 0 → false ≡ heads_with number (reverse list)
heads_none number [] none = refl
heads_none number (x ∷ xs) none = absurd (omega (arith, none))

-- it is popped
is_popped : (number : ℕ) (popped : Option CommitValue) (items rest : List CommitValue) → heads_with number (reverse items) ≡ true
    → items ≡ rest ++ option_to_list popped → (0 < length items → IsSome popped)
    → (c : CommitValue) × (popped ≡ Some c) × (reverse items ≡ c ∷ reverse rest) × (c.ticket.commit ≡ Some number)
is_popped number None [] rest heads is some = absurd cc
is_popped number None (x ∷ xs) rest heads is some = let no : false ≡ true = some (omega arith) in absurd cc
is_popped number (Some c) items rest heads is some =
    let back : reverse items ≡ c ∷ reverse rest = ap reverse is ∙ reverse-append rest (c ∷ []) in
    (c, refl, back, is_number number c.ticket.commit (sym (ap (heads_with number) back) ∙ heads))

module _ {A : Type 0} (number k : ℕ) (lists : List (Vec CommitValue A)) (old new : Vec CommitValue A) (popped : Option CommitValue) (list : List CommitValue)
    (there : slice_get (lists_of lists) k ≡ Some list) (heads : heads_with number list ≡ true)
    (at : old ≡ slice_index_or lists k old) (is : old.items ≡ new.items ++ option_to_list popped) (some : 0 < vec_len old → IsSome popped) where
  same : list ≡ reverse old.items
  same = list_at lists k old list at there

  taken : (c : CommitValue) × (popped ≡ Some c) × (reverse old.items ≡ c ∷ reverse new.items) × (c.ticket.commit ≡ Some number)
  taken = is_popped number popped old.items new.items (sym (ap (heads_with number) same)
      ∙ heads) is (λ (within : 0 < length old.items). some (subst (λ (n : ℕ). 0 < n) (sym old.ok.0) within))

  takes : TakesFrom number taken.0 (lists_of lists) (lists_of (slice_set lists k new))
  takes = record {
    k = k;
    rest = reverse new.items;
    there = there ∙ ap Some (same ∙ taken.2);
    left = map_set (λ (v : Vec CommitValue _). reverse v.items) lists k new;
    numbered = taken.3;
  }

  pub takes_some : IfSome popped (λ commit. TakesFrom number commit (lists_of lists) (lists_of (slice_set lists k new)))
  takes_some = subst (λ (r : Option CommitValue). IfSome r (λ commit. TakesFrom number commit (lists_of lists) (lists_of (slice_set lists k new))))
      (sym taken.1) takes

  pub takes_none : (Q : Type 0) → IfNone popped Q
  takes_none Q = subst (λ (r : Option CommitValue). IfNone r Q) (sym taken.1) tt

-- ---- the seats

-- one seat more was compared
pub seen_more : (book : List SessionValue) (seats : List SeatValue) (k : ℕ) (seat : SeatValue) → slice_get seats k ≡ Some seat
    → ((j : ℕ) (s : SeatValue) → j < k → slice_get seats j ≡ Some s → slice_get book s.number ≡ Some s.session) → slice_get book seat.number ≡ Some seat.session
    → (j : ℕ) (s : SeatValue) → j < k + 1 → slice_get seats j ≡ Some s → slice_get book s.number ≡ Some s.session
seen_more book seats k seat here before now j s below at = elim (cases_eq j k) [
  | inl is ↦ subst (λ (x : SeatValue). slice_get book x.number ≡ Some x.session) (some_is seat s (sym here ∙ (ap (slice_get seats) (sym is) ∙ at))) now
  | inr not ↦ before j s (omega (arith, below, not)) at
]

pub seats_kept : (items : List SeatValue) (k : ℕ) (old new : SeatValue) → slice_get items k ≡ Some old → new ≡ old → slice_set items k new ≡ items
seats_kept items k old new at same = ap (slice_set items k) same ∙ set_itself items k old at
