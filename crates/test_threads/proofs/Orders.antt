-- Seats in their order.
use Rattle.std.proofs.Common.{◌≡◌, ◌∙◌, ◌++◌, ◌∷◌, ℕ, List, [], Some, ap, length, length-append, map, refl, subst, sym}
use Rattle.std.proofs.lemmas.List.{length-map}
use Rattle.std.specs.Prelude.{slice_get}
use Rattle.atomic_table.specs.Seated.{TableId}
use Rattle.threads_lifetime.specs.Gathered.{AreAllSeats}
use Rattle.threads_lifetime.proofs.Orders.{one_more}
use Rattle.shared.specs.Seats.{AreNewSeats, SeatValue}

-- what stands behind a list
get_next : {X : Type 0} (xs : List X) (x : X) (ys : List X) → slice_get (xs ++ x ∷ ys) (length xs) ≡ Some x
get_next [] x ys = refl
get_next (z ∷ zs) x ys = get_next zs x ys

-- the next of new seats has the next number
pub next_is : {C : Type 0} (seat : C → SeatValue) (board : TableId) (count : ℕ) (before : List C) (s : SeatValue) (after all : List SeatValue)
    → AreNewSeats board count all → map seat before ++ s ∷ after ≡ all → s.number ≡ length before
next_is seat board count before s after all new e =
    (new.each (length (map seat before)) s (subst (λ (xs : List SeatValue). slice_get xs (length (map seat before)) ≡ Some s) e
    (get_next (map seat before) s after))).0 ∙ length-map before seat

-- the seats of a list, and those behind it: as the list is empty, and with one more of them in it
pub none_seated : {C : Type 0} (seat : C → SeatValue) (now : List C) (rest all : List SeatValue) → now ≡ [] → rest ≡ all → map seat now ++ rest ≡ all
none_seated seat now rest all none is = ap (λ cs. map seat cs ++ rest) none ∙ is

one_behind : {C : Type 0} (seat : C → SeatValue) (before : List C) (c : C) (rest : List SeatValue)
    → map seat (before ++ c ∷ []) ++ rest ≡ map seat before ++ seat c ∷ rest
one_behind seat [] c rest = refl
one_behind seat (b ∷ bs) c rest = ap (λ (xs : List SeatValue). seat b ∷ xs) (one_behind seat bs c rest)

pub one_seated : {C : Type 0} (seat : C → SeatValue) (before now : List C) (c : C) (first rest all : List SeatValue) → now ≡ before ++ c ∷ []
    → first ≡ seat c ∷ rest → map seat before ++ first ≡ all → map seat now ++ rest ≡ all
one_seated seat before now c first rest all one next so_far =
    ap (λ cs. map seat cs ++ rest) one ∙ (one_behind seat before c rest ∙ (ap (λ xs. map seat before ++ xs) (sym next) ∙ so_far))

-- one seat more, of the next number
pub one_pushed : (seats pushed : List SeatValue) (s : SeatValue) → pushed ≡ seats ++ s ∷ [] → AreAllSeats (length seats) seats → s.number ≡ length seats
    → AreAllSeats (length pushed) pushed
one_pushed seats pushed s e all next =
    subst (λ (xs : List SeatValue). AreAllSeats (length xs) xs) (sym e)
    (subst (λ (n : ℕ). AreAllSeats n (seats ++ s ∷ [])) (sym (length-append seats (s ∷ []))) (one_more (length seats) seats s all next))
