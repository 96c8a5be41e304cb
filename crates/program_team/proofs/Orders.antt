-- Seats in their order.
use Rattle.std.proofs.Common.{◌≡◌, ◌⊎◌, ◌∙◌, ◌+◌, ◌<◌, ◌++◌, ◌∷◌, ℕ, zero, suc, List, [], Some, subst, length, map, inl, inr, ⊎_elim, refl, sym, ap, arith}
use Rattle.std.proofs.Common.{length-append}
use Rattle.std.proofs.lemmas.List.{length-map}
use Rattle.std.proofs.lemmas.List.Elements.{All-nil}
use Rattle.std.proofs.lemmas.Option.{get_or_from_slice_get, slice_get_within}
use Rattle.std.specs.Prelude.{slice_get, slice_index_or}
use Rattle.std.specs.declared.vec.Vec.{Vec}
use Rattle.atomic_table.specs.Seated.{TableId}
use Rattle.threads_lifetime.specs.Gathered.{AreAllSeats}
use Rattle.threads_lifetime.proofs.Orders.{all_new}
use Rattle.shared.specs.Seats.{AckValue, AreNewSeats, SeatValue}
use Rattle.program_team.specs.Private.{AllTell, Tells}
use Rattle.program_team.specs.declared.writer.Acknowledged.{Acknowledged}

-- the last of a list with one more
pub get_last : {X : Type 0} (xs : List X) (x : X) → slice_get (xs ++ x ∷ []) (length xs) ≡ Some x
get_last [] x = refl
get_last (y ∷ ys) x = get_last ys x

-- and the others
pub get_first : {X : Type 0} (xs : List X) (x y : X) (k : ℕ) → slice_get xs k ≡ Some y → slice_get (xs ++ x ∷ []) k ≡ Some y
get_first [] x y k at = absurd cc
get_first (z ∷ zs) x y zero at = at
get_first (z ∷ zs) x y (suc k) at = get_first zs x y k at

-- which there are no more of
pub get_either : {X : Type 0} (xs : List X) (x y : X) (k : ℕ) → slice_get (xs ++ x ∷ []) k ≡ Some y → (slice_get xs k ≡ Some y) ⊎ ((k ≡ length xs) × (y ≡ x))
get_either [] x y zero at = inr (refl, cc)
get_either [] x y (suc k) at = absurd cc
get_either (z ∷ zs) x y zero at = inl at
get_either (z ∷ zs) x y (suc k) at = ⊎_elim (λ early. inl early) (λ last. inr (ap suc last.0, last.1)) (get_either zs x y k at)

-- what is at a place of a list
pub some_at : {X : Type 0} (xs : List X) (k : ℕ) → k < length xs → (x : X) × (slice_get xs k ≡ Some x)
some_at [] k within = absurd (omega (arith, within))
some_at (x ∷ xs) zero within = (x, refl)
some_at (x ∷ xs) (suc k) within = some_at xs k (omega (arith, within))

-- and of what comes of it
pub of_mapped : {X Y : Type 0} (f : X → Y) (xs : List X) (k : ℕ) (y : Y) → slice_get (map f xs) k ≡ Some y → (x : X) × (slice_get xs k ≡ Some x) × (f x ≡ y)
of_mapped f [] k y at = absurd cc
of_mapped f (x ∷ xs) zero y at = (x, refl, cc)
of_mapped f (x ∷ xs) (suc k) y at = of_mapped f xs k y at

pub in_mapped : {X Y : Type 0} (f : X → Y) (xs : List X) (k : ℕ) (x : X) → slice_get xs k ≡ Some x → slice_get (map f xs) k ≡ Some (f x)
in_mapped f [] k x at = absurd cc
in_mapped f (y ∷ ys) zero x at = cc
in_mapped f (y ∷ ys) (suc k) x at = in_mapped f ys k x at

-- one seat more, of the next number
pub one_more : (count : ℕ) (seats : List SeatValue) (s : SeatValue) → AreAllSeats count seats → s.number ≡ count → AreAllSeats (count + 1) (seats ++ s ∷ [])
one_more count seats s all next = record {
  counted = length-append seats (s ∷ []) ∙ ap (λ (n : ℕ). n + 1) all.counted;
  each = λ k x at. ⊎_elim (λ early. all.each k x early) (λ last. ap (λ (z : SeatValue). z.number) last.1
      ∙ (next ∙ (sym all.counted ∙ sym last.0))) (get_either seats s x k at);
}

-- all seats but for the last of them
pub all_but_last : (count : ℕ) (seats : List SeatValue) (s : SeatValue) → AreAllSeats count (seats ++ s ∷ [])
    → AreAllSeats (length seats) seats × (s.number ≡ length seats) × (length seats + 1 ≡ count)
all_but_last count seats s all = (
  record { counted = refl; each = λ k x at. all.each k x (get_first seats s x k at) },
  all.each (length seats) s (get_last seats s),
  sym (length-append seats (s ∷ [])) ∙ all.counted,
)

-- new seats, of which the last one has kept its number
pub last_kept : (board : TableId) (count : ℕ) (seats : List SeatValue) (s last : SeatValue) → AreNewSeats board count (seats ++ s ∷ [])
    → last.number ≡ s.number → AreAllSeats count (seats ++ last ∷ [])
last_kept board count seats s last new kept =
    let parted = all_but_last count seats s (all_new board count (seats ++ s ∷ []) new) in
    subst (λ (n : ℕ). AreAllSeats n (seats ++ last ∷ [])) parted.2 (one_more (length seats) seats last parted.0 (kept ∙ parted.1))

-- what has the same numbers at the same places
pub kept_in_order : {X : Type 0} (seat : X → SeatValue) (count : ℕ) (xs ys : List X) → length ys ≡ length xs
    → ((k : ℕ) (x : X) → k < length xs → (seat (slice_index_or ys k x)).number ≡ (seat (slice_index_or xs k x)).number)
    → AreAllSeats count (map seat xs) → AreAllSeats count (map seat ys)
kept_in_order seat count xs ys same numbers all = record {
  counted = length-map ys seat ∙ (same ∙ (sym (length-map xs seat) ∙ all.counted));
  each = λ k s at.
      let y = of_mapped seat ys k s at in
      let within : k < length xs = omega (arith, slice_get_within ys k y.0 y.1, same) in
      let x = some_at xs k within in
      let y_is = get_or_from_slice_get ys k y.0 y.0 y.1 in
      let x_is = get_or_from_slice_get xs k x.0 y.0 x.1 in
      sym (ap (λ (z : SeatValue). z.number) y.2)
      ∙ (sym (ap (λ z. (seat z).number) y_is)
      ∙ (numbers k y.0 within
      ∙ (ap (λ z. (seat z).number) x_is ∙ all.each k (seat x.0) (in_mapped seat xs k x.0 x.1))));
}

-- writers that have the seats that they had, and the last seat
pub all_left : {W X Y : Type 0} (seat : W → SeatValue) (count : ℕ) (before : Vec W X) (after : Vec W Y) (first last : SeatValue)
    → AreAllSeats count (map seat before.items ++ first ∷ []) → last.number ≡ first.number → after.len ≡ before.len
    → ((k : ℕ) (w : W) → k < before.len → (seat (slice_index_or after.items k w)).number ≡ (seat (slice_index_or before.items k w)).number)
    → AreAllSeats count (map seat after.items ++ last ∷ [])
all_left seat count before after first last all kept same numbers =
    let n = length (map seat before.items) in
    let parted = all_but_last count (map seat before.items) first all in
    subst (λ (m : ℕ). AreAllSeats m (map seat after.items ++ last ∷ [])) parted.2
    (one_more n (map seat after.items) last
    (kept_in_order seat n before.items after.items (sym after.ok.0 ∙ (same ∙ before.ok.0))
    (λ k w within. numbers k w (subst (λ (m : ℕ). k < m) (sym before.ok.0) within)) parted.0)
    (kept ∙ parted.1))

-- each of which tells what it may, where none told anything before
pub all_tell : {W X Y : Type 0} (seat : W → SeatValue) (acks : W → List AckValue) (told : W → List Acknowledged) (before : Vec W X) (after : Vec W Y)
    → after.len ≡ before.len
    → ((k : ℕ) (w : W) → slice_get before.items k ≡ Some w → told w ≡ [])
    → ((k : ℕ) (w : W) → k < before.len
    → Tells (seat (slice_index_or before.items k w)) (acks (slice_index_or before.items k w)) (told (slice_index_or before.items k w))
    → Tells (seat (slice_index_or after.items k w)) (acks (slice_index_or after.items k w)) (told (slice_index_or after.items k w)))
    → AllTell seat acks told after.items
all_tell {W = W} seat acks told before after same none tells k w at =
    let within : k < length before.items = omega (arith, slice_get_within after.items k w at, same, after.ok.0, before.ok.0) in
    let first = some_at before.items k within in
    let w_is = get_or_from_slice_get after.items k w w at in
    let first_is = get_or_from_slice_get before.items k first.0 w first.1 in
    let nothing : told (slice_index_or before.items k w) ≡ [] = ap told first_is ∙ none k first.0 first.1 in
    let now = tells k w (subst (λ (m : ℕ). k < m) (sym before.ok.0) within)
    (subst (λ (ts : List Acknowledged). Tells (seat (slice_index_or before.items k w)) (acks (slice_index_or before.items k w)) ts) (sym nothing) (All-nil _))
    in
    subst (λ (x : W). Tells (seat x) (acks x) (told x)) w_is now
