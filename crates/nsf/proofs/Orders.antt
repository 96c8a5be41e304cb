-- Seats in their order.
use Rattle.std.proofs.Common.{◌≡◌, ◌∙◌, ◌+◌, ◌<◌, ◌≤◌, ◌∷◌, ℕ, zero, suc, List, [], false, Some, subst, length, map, inl, inr, refl, sym, ap, arith}
use Rattle.std.proofs.lemmas.Bool.{cases_eq}
use Rattle.std.proofs.lemmas.List.{length-map}
use Rattle.std.proofs.lemmas.List.Elements.{All-cons, All-nil}
use Rattle.std.proofs.lemmas.Option.{get_or_from_slice_get, slice_get_within}
use Rattle.std.specs.Prelude.{slice_get, slice_index_or, slice_set}
use Rattle.std.specs.declared.vec.Vec.{Vec}
use Rattle.atomic_table.specs.Seated.{TableId}
use Rattle.threads_lifetime.specs.Gathered.{AreAllSeats}
use Rattle.shared.specs.Seats.{AreNewSeats, SeatValue}
use Rattle.threads_sessions.specs.Values.{empty_session}
use Rattle.std.specs.List.{All}
use Rattle.nsf.specs.Serving.{HaveWorked, unnamed}

-- what is at a place of a list
pub some_at : {X : Type 0} (xs : List X) (k : ℕ) → k < length xs → (x : X) × (slice_get xs k ≡ Some x)
some_at [] k within = absurd (omega (arith, within))
some_at (x ∷ xs) zero within = (x, refl)
some_at (x ∷ xs) (suc k) within = some_at xs k (omega (arith, within))

-- and of what comes of it
pub of_mapped : {X Y : Type 0} (f : X → Y) (xs : List X) (k : ℕ) (y : Y) → slice_get (map f xs) k ≡ Some y → (x : X) × (slice_get xs k ≡ Some x) × (f x ≡ y)
of_mapped f [] k y at = absurd cc
of_mapped f (x ∷ xs) zero y at = (x, refl, cc)
of_mapped f (x ∷ xs) (suc k) y at = of_mapped f xs k y at

pub in_mapped : {X Y : Type 0} (f : X → Y) (xs : List X) (k : ℕ) (x : X) → slice_get xs k ≡ Some x → slice_get (map f xs) k ≡ Some (f x)
in_mapped f [] k x at = absurd cc
in_mapped f (y ∷ ys) zero x at = cc
in_mapped f (y ∷ ys) (suc k) x at = in_mapped f ys k x at

-- new seats are all seats
pub all_new : (board : TableId) (count : ℕ) (seats : List SeatValue) → AreNewSeats board count seats → AreAllSeats count seats
all_new board count seats new = record { counted = new.counted; each = λ k x at. (new.each k x at).0 }

-- what has the same numbers at the same places
pub kept_in_order : {X : Type 0} (seat : X → SeatValue) (count : ℕ) (xs ys : List X) → length ys ≡ length xs
    → ((k : ℕ) (x : X) → k < length xs → (seat (slice_index_or ys k x)).number ≡ (seat (slice_index_or xs k x)).number)
    → AreAllSeats count (map seat xs) → AreAllSeats count (map seat ys)
kept_in_order seat count xs ys same numbers all = record {
  counted = length-map ys seat ∙ (same ∙ (sym (length-map xs seat) ∙ all.counted));
  each = λ k s at.
      let y = of_mapped seat ys k s at in
      let within : k < length xs = omega (arith, slice_get_within ys k y.0 y.1, same) in
      let x = some_at xs k within in
      let y_is = get_or_from_slice_get ys k y.0 y.0 y.1 in
      let x_is = get_or_from_slice_get xs k x.0 y.0 x.1 in
      sym (ap (λ (z : SeatValue). z.number) y.2)
      ∙ (sym (ap (λ z. (seat z).number) y_is)
      ∙ (numbers k y.0 within
      ∙ (ap (λ z. (seat z).number) x_is ∙ all.each k (seat x.0) (in_mapped seat xs k x.0 x.1))));
}

-- those that have the seats that they had
pub all_left : {W X Y : Type 0} (seat : W → SeatValue) (count : ℕ) (before : Vec W X) (after : Vec W Y) → AreAllSeats count (map seat before.items)
    → after.len ≡ before.len
    → ((k : ℕ) (w : W) → k < before.len → (seat (slice_index_or after.items k w)).number ≡ (seat (slice_index_or before.items k w)).number)
    → AreAllSeats count (map seat after.items)
all_left seat count before after all same numbers =
    kept_in_order seat count before.items after.items (sym after.ok.0
    ∙ (same ∙ before.ok.0)) (λ k w within. numbers k w (subst (λ (m : ℕ). k < m) (sym before.ok.0) within)) all

-- a seat that has read neither a horizon nor a mark, and has not asked all to stop
abbrev pub IsUnused : SeatValue → Type 0
IsUnused s = (s.sight.horizon ≡ 0) × (s.sight.mark ≡ 0) × (s.sight.stops ≡ false)

-- each has worked, by its place
cons_first : {X : Type 0} (a b : X) (xs ys : List X) → a ∷ xs ≡ b ∷ ys → a ≡ b
cons_first a b xs ys e = cc

cons_rest : {X : Type 0} (a b : X) (xs ys : List X) → a ∷ xs ≡ b ∷ ys → xs ≡ ys
cons_rest a b xs ys e = cc

in_order : {W C : Type 0} (client : W → C) (seat : W → SeatValue) (works : C → C → SeatValue → SeatValue → Type 0) (floor : ℕ) (xs ys : List W)
    (seats : List SeatValue) → length ys ≡ length xs
    → map unnamed seats ≡ map (λ w. unnamed (seat w)) ys
    → ((k : ℕ) (w : W) → slice_get xs k ≡ Some w → (seat w).session ≡ empty_session)
    → ((k : ℕ) (w : W) → slice_get xs k ≡ Some w → IsUnused (seat w))
    → ((k : ℕ) (w : W) → k < length xs
    → works (client (slice_index_or xs k w)) (client (slice_index_or ys k w)) (seat (slice_index_or xs k w)) (seat (slice_index_or ys k w)))
    → ((k : ℕ) (w : W) → slice_get ys k ≡ Some w → (seat w).sight.horizon ≤ floor)
    → HaveWorked works floor (map client xs) (map client ys) seats
in_order client seat works floor [] [] [] same left new unused each low = tt
in_order client seat works floor [] [] (s ∷ seats) same left new unused each low = absurd cc
in_order client seat works floor [] (y ∷ ys) seats same left new unused each low = absurd cc
in_order client seat works floor (x ∷ xs) [] seats same left new unused each low = absurd cc
in_order client seat works floor (x ∷ xs) (y ∷ ys) [] same left new unused each low = absurd cc
in_order client seat works floor (x ∷ xs) (y ∷ ys) (s ∷ seats) same left new unused each low = (
  record {
    first = seat x;
    new = new 0 x refl;
    unused = unused 0 x refl;
    last = seat y;
    has = sym (cons_first _ _ _ _ left);
    known = subst (λ (h : ℕ). h ≤ floor) (sym (ap (λ (z : SeatValue). z.sight.horizon) (cons_first _ _ _ _ left))) (low 0 y refl);
    worked = each 0 x (omega arith);
  },
  in_order client seat works floor xs ys seats (omega (arith, same)) (cons_rest _ _ _ _ left) (λ k w at. new (suc k) w at)
      (λ k w at. unused (suc k) w at)
      (λ k w within. each (suc k) w (omega (arith, within)))
      (λ k w at. low (suc k) w at),
)

pub all_worked : {W C X Y : Type 0} (client : W → C) (seat : W → SeatValue) (works : C → C → SeatValue → SeatValue → Type 0) (floor : ℕ)
    (before : Vec W X) (after : Vec W Y) (seats : List SeatValue) → after.len ≡ before.len
    → map unnamed seats ≡ map (λ w. unnamed (seat w)) after.items
    → ((k : ℕ) (w : W) → slice_get before.items k ≡ Some w → (seat w).session ≡ empty_session)
    → ((k : ℕ) (w : W) → slice_get before.items k ≡ Some w → IsUnused (seat w))
    → ((k : ℕ) (w : W) → k < before.len
    → works (client (slice_index_or before.items k w)) (client (slice_index_or after.items k w)) (seat (slice_index_or before.items k w))
    (seat (slice_index_or after.items k w)))
    → ((k : ℕ) (w : W) → slice_get after.items k ≡ Some w → (seat w).sight.horizon ≤ floor)
    → HaveWorked works floor (map client before.items) (map client after.items) seats
all_worked client seat works floor before after seats same left new unused each low =
    in_order client seat works floor before.items after.items seats (sym after.ok.0
    ∙ (same ∙ before.ok.0)) left new unused (λ k w within. each k w (subst (λ (m : ℕ). k < m) (sym before.ok.0) within)) low

-- a new seat has nothing in its session
pub new_session : {W : Type 0} (seat : W → SeatValue) (board : TableId) (count : ℕ) (seats : List SeatValue) (xs : List W) → map seat xs ≡ seats
    → AreNewSeats board count seats → (k : ℕ) (w : W) → slice_get xs k ≡ Some w → (seat w).session ≡ empty_session
new_session seat board count seats xs are new k w at =
    (new.each k (seat w) (ap (λ (l : List SeatValue). slice_get l k) (sym are) ∙ in_mapped seat xs k w at)).1

-- and has done nothing
pub new_unused : {W : Type 0} (seat : W → SeatValue) (board : TableId) (count : ℕ) (seats : List SeatValue) (xs : List W) → map seat xs ≡ seats
    → AreNewSeats board count seats → (k : ℕ) (w : W) → slice_get xs k ≡ Some w → IsUnused (seat w)
new_unused seat board count seats xs are new k w at =
    let is-new = new.each k (seat w) (ap (λ (l : List SeatValue). slice_get l k) (sym are) ∙ in_mapped seat xs k w at) in
    let blind = ap (λ v. record (seat w) { sight = v }) is-new.2 in
    (ap (λ (s : SeatValue). s.sight.horizon) blind, ap (λ (s : SeatValue). s.sight.mark) blind, ap (λ (s : SeatValue). s.sight.stops) blind)

-- seats, whatever their views' names are
unnamed_map : {W : Type 0} (seat : W → SeatValue) (xs : List W) → map unnamed (map seat xs) ≡ map (λ w. unnamed (seat w)) xs
unnamed_map seat [] = refl
unnamed_map seat (x ∷ xs) = ap (λ l. unnamed (seat x) ∷ l) (unnamed_map seat xs)

pub left_so : {W : Type 0} (seat : W → SeatValue) (seats : List SeatValue) (now old : List W) → seats ≡ map seat now
    → map (λ w. unnamed (seat w)) now ≡ map (λ w. unnamed (seat w)) old → map unnamed seats ≡ map (λ w. unnamed (seat w)) old
left_so seat seats now old is same = ap (map unnamed) is ∙ (unnamed_map seat now ∙ same)

-- what holds of what each has seen, holds of it under any name
pub each_left : {W : Type 0} (seat : W → SeatValue) (P : (safe mark : ℕ) → Type 0) (ys : List W) (seats : List SeatValue)
    → map unnamed seats ≡ map (λ w. unnamed (seat w)) ys
    → ((k : ℕ) (w : W) → slice_get ys k ≡ Some w → P (seat w).sight.safe (seat w).sight.mark)
    → All (λ (s : SeatValue). P s.sight.safe s.sight.mark) seats
each_left seat P [] [] left each = All-nil (λ (s : SeatValue). P s.sight.safe s.sight.mark)
each_left seat P [] (s ∷ seats) left each = absurd cc
each_left seat P (y ∷ ys) [] left each = absurd cc
each_left seat P (y ∷ ys) (s ∷ seats) left each =
    All-cons (λ (z : SeatValue). P z.sight.safe z.sight.mark) s seats
    (subst (λ (z : SeatValue). P z.sight.safe z.sight.mark) (sym (cons_first _ _ _ _ left)) (each 0 y refl))
    (each_left seat P ys seats (cons_rest _ _ _ _ left) (λ k w at. each (suc k) w at))

-- the marks that seats have read
pub marks_are : {W : Type 0} (seat : W → SeatValue) (seats : List SeatValue) (now : List W) → seats ≡ map seat now
    → map (λ w. (seat w).sight.mark) now ≡ map (λ (s : SeatValue). s.sight.mark) seats
marks_are seat seats now is = sym (ap (map (λ (s : SeatValue). s.sight.mark)) is ∙ mark_map seat now)
  where
    mark_map : {W : Type 0} (seat : W → SeatValue) (xs : List W) → map (λ (s : SeatValue). s.sight.mark) (map seat xs) ≡ map (λ w. (seat w).sight.mark) xs
    mark_map seat [] = refl
    mark_map seat (x ∷ xs) = ap (λ l. (seat x).sight.mark ∷ l) (mark_map seat xs)

-- ---- one of them in its place

some_is : {X : Type 0} (a b : X) → Some a ≡ Some b → a ≡ b
some_is a b e = cc

pub at_index : {X : Type 0} (xs : List X) (k : ℕ) (x : X) → k < length xs → x ≡ slice_index_or xs k x → slice_get xs k ≡ Some x
at_index [] k x within is = absurd (omega (arith, within))
at_index (y ∷ xs) zero x within is = ap Some (sym is)
at_index (y ∷ xs) (suc k) x within is = at_index xs k x (omega (arith, within)) is

pub set_map : {X Y : Type 0} (f : X → Y) (xs : List X) (k : ℕ) (old new : X) → slice_get xs k ≡ Some old → f new ≡ f old
    → map f (slice_set xs k new) ≡ map f xs
set_map f [] k old new at same = refl
set_map f (x ∷ xs) zero old new at same = ap (λ y. y ∷ map f xs) (same ∙ ap f (sym (some_is x old at)))
set_map f (x ∷ xs) (suc k) old new at same = ap (λ ys. f x ∷ ys) (set_map f xs k old new at same)

pub set_behind : {X : Type 0} (xs : List X) (k j : ℕ) (new : X) → k < j → slice_get (slice_set xs k new) j ≡ slice_get xs j
set_behind [] k j new less = refl
set_behind (x ∷ xs) zero zero new less = absurd (omega (arith, less))
set_behind (x ∷ xs) zero (suc j) new less = refl
set_behind (x ∷ xs) (suc k) zero new less = absurd (omega (arith, less))
set_behind (x ∷ xs) (suc k) (suc j) new less = set_behind xs k j new (omega (arith, less))

pub one_more : {X : Type 0} (P : X → Type 0) (xs : List X) (k : ℕ) (x : X) → slice_get xs k ≡ Some x
    → ((j : ℕ) (y : X) → j < k → slice_get xs j ≡ Some y → P y) → P x → (j : ℕ) (y : X) → j < k + 1 → slice_get xs j ≡ Some y → P y
one_more P xs k x here before now j y below at = elim (cases_eq j k) [
  | inl is ↦ subst P (some_is x y (sym here ∙ (ap (slice_get xs) (sym is) ∙ at))) now
  | inr not ↦ before j y (omega (arith, below, not)) at
]

-- what has the same numbers in the same order
pub all_numbered : {W : Type 0} (seat : W → SeatValue) (count : ℕ) (xs ys : List W)
    → map (λ w. (seat w).number) ys ≡ map (λ w. (seat w).number) xs → AreAllSeats count (map seat xs) → AreAllSeats count (map seat ys)
all_numbered {W} seat count xs ys same all = record {
  counted = length-map ys seat ∙ (sym (length-map ys number) ∙ (ap length same ∙ (length-map xs number ∙ (sym (length-map xs seat) ∙ all.counted))));
  each = λ k s at.
      let y = of_mapped seat ys k s at in
      let there : slice_get (map number xs) k ≡ Some (number y.0) = ap (λ l. slice_get l k) (sym same) ∙ in_mapped number ys k y.0 y.1 in
      let x = of_mapped number xs k (number y.0) there in
      sym (ap (λ (z : SeatValue). z.number) y.2) ∙ (sym x.2 ∙ all.each k (seat x.0) (in_mapped seat xs k x.0 x.1));
}
  where
    number : W → ℕ
    number w = (seat w).number
