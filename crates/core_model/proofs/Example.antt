-- The worked run.
use Rattle.std.proofs.Common.{Bool, None, Some, [], ap, arith, false, inl, inr, nat_eq, not, refl, suc, sym, true, true≢false, zero, ℕ, ◌&&◌, ◌+◌, ◌<◌, ◌∙◌}
use Rattle.std.proofs.Common.{◌∷◌, ◌≡◌, ◌≢◌, ◌≤◌}
use Rattle.std.specs.FinMap.{empty, get, get-empty, insert, len, len-empty}
use Rattle.record_values.specs.Maps.{get-set_at_other, get-set_at_same, pair_exact, rid_exact, set_at}
use Rattle.record_values.specs.Orders.{pair_cmp, rid_cmp, is_above}
use Rattle.record_values.specs.declared.pair.Mark.{Mark}
use Rattle.record_values.specs.declared.pair.Mark.TheVariants.{Marked}
use Rattle.record_values.specs.declared.pair.Pair.{Pair}
use Rattle.record_values.specs.declared.row.Row.{Row}
use Rattle.record_values.specs.KeyActions.{after_action}
use Rattle.model.specs.Table.{IsPairOf, Table}
use Rattle.record_values.specs.Entries.{Index}
use Rattle.record_values.specs.declared.key_action.KeyAction.TheVariants.{BuildPut}
use Rattle.model.specs.declared.life.Life.TheVariants.{Absent, Building, Complete}
use Rattle.core_model.proofs.Builds.{pair_by_test}
use Rattle.core_model.proofs.Frames.{rid_decided, same_some}
use Rattle.core_model.proofs.Latest.{not_none}
use Rattle.core_model.proofs.Orders.{above_self}
use Rattle.core_model.proofs.Sums.{none_reserved, reserved_insert}
use Rattle.core_model.specs.Example.{insertion, last, opening, pair, place, row, steps}
use Rattle.core_model.specs.Histories.{CanOpen, opened}
use Rattle.core_model.specs.Invariants.{Runs, no_step, one_step}
use Rattle.core_model.specs.States.{Pledges, State}
use Rattle.core_model.specs.Steps.{Attempt, Begin, Create, End, Finish, IsEnabled, Start, Take, Undo, after, all_reserved, is_pair_of, reserved, update}

abbrev rows : Table
rows = set_at empty place (Some row)

row_there : get rows place ≡ Some row
row_there = get-set_at_same rid_exact empty place (Some row)

only_pair : (q : Pair) → IsPairOf rows q → q ≡ pair
only_pair q is = elim (rid_decided q.rid place) [
  | inl same ↦
      let is_row : is.row ≡ row = same_some is.is_there (ap (get rows) same ∙ row_there) in
      λ j. record { key = (sym is.has_key ∙ ap (λ (r : Row). r.key) is_row) j; rid = same j }
  | inr n ↦ absurd (not_none is.is_there (get-set_at_other rid_exact empty place (Some row) q.rid n ∙ get-empty rid_cmp q.rid))
]

missed_by : (q : Pair) (b : Bool) → is_pair_of (get rows q.rid) q ≡ b → q ≢ pair → nat_eq q.rid.page 0 ≡ true → (nat_eq q.rid.page 0 && not b) ≡ true
missed_by q true e n t = absurd (n (only_pair q (pair_by_test rows q (get rows q.rid) refl e)))
missed_by q false e n t = rw t refl

missed_other : (q : Pair) → q ≢ pair → nat_eq q.rid.page 0 ≡ true → (nat_eq q.rid.page 0 && not (is_pair_of (get rows q.rid) q)) ≡ true
missed_other q n t = missed_by q _ refl n t

page_zero : (n : ℕ) → n < 1 → nat_eq n 0 ≡ true
page_zero zero h = refl
page_zero (suc n) h = absurd (omega arith)

not_below : (q : Pair) → is_above (Some q) pair ≡ true → q ≢ pair
not_below q h e = true≢false (sym h ∙ ap (λ w. is_above (Some w) pair) e ∙ above_self pair)

not_after : (q : Pair) → is_above (Some pair) q ≡ true → q ≢ pair
not_after q h e = true≢false (sym h ∙ ap (is_above (Some pair)) e ∙ above_self pair)

abbrev pub s1 : State
s1 = after (opened opening) Create

abbrev pub s2 : State
s2 = after s1 (Begin 1)

abbrev pub s3 : State
s3 = after s2 (Start 1 insertion)

abbrev pub s4 : State
s4 = after s3 (Take 0)

abbrev pub s5 : State
s5 = after s4 (Undo 1)

abbrev pub s6 : State
s6 = after s5 (Undo 1)

abbrev pub s7 : State
s7 = after s6 (Undo 1)

abbrev pub s8 : State
s8 = after s7 (End 1)

abbrev pub s9 : State
s9 = after s8 (Attempt pair)

enough_room : (n m : ℕ) → n ≡ 0 → m ≡ 0 → n + m + 4 ≤ 64
enough_room n m a b = omega (arith, a, b)

abbrev no_pledges : Pledges
no_pledges = empty

pub first_reserved : all_reserved (insert no_pledges 1 0) ≡ 0
first_reserved =
    let sums : all_reserved (insert no_pledges 1 0) + reserved no_pledges 1 ≡ all_reserved no_pledges + 0 = reserved_insert no_pledges 1 0 in
    let nothing : all_reserved no_pledges ≡ 0 = none_reserved in
    omega (arith, sums, nothing)

a3 : IsEnabled s2 (Start 1 insertion)
unfolding update
a3 = record {
  active = refl;
  ready = (refl, refl);
  position = refl;
  before = get-empty rid_cmp place;
  mine = inl refl;
  inside = omega arith;
  room = λ e. enough_room _ _ (len-empty pair_cmp Mark) first_reserved;
}

a5 : IsEnabled s4 (Undo 1)
unfolding update
a5 = refl

a6 : IsEnabled s5 (Undo 1)
unfolding update
a6 = refl

a7 : IsEnabled s6 (Undo 1)
unfolding update
a7 = refl

a8 : IsEnabled s7 (End 1)
unfolding update
a8 = (refl, refl)

abbrev pub marked : Index
marked = set_at empty pair (Some Marked)

pub is_marked : get marked pair ≡ Some Marked
is_marked = get-set_at_same pair_exact empty pair (Some Marked)

rows_then : s4.rows ≡ rows
unfolding update
rows_then = refl

pub entries_then : s8.entries ≡ marked
unfolding update
entries_then = refl

given_then : s8.given pair ≡ true
unfolding update
given_then = ap (λ o. is_pair_of o pair) row_there

pub a9 : IsEnabled s8 (Attempt pair)
unfolding update
a9 = record {
  building = (None, refl);
  given = given_then;
  rising = refl;
  all_taken = page_zero;
  none_left = λ q a l t. missed_other q (not_below q l) t;
  room = λ e. absurd (not_none is_marked e);
}

pub a10 : IsEnabled s9 Finish
unfolding update
a10 = record { building = (None, refl); all_taken = page_zero; none_left = λ q a t. missed_other q (not_after q a) t }

from_9 : Runs s9 (Finish ∷ []) last
from_9 = one_step {s = s9} {s' = last} Finish [] a10 no_step

from_8 : Runs s8 (Attempt pair ∷ Finish ∷ []) last
from_8 = one_step {s = s8} {s' = last} (Attempt pair) (Finish ∷ []) a9 from_9

from_7 : Runs s7 (End 1 ∷ Attempt pair ∷ Finish ∷ []) last
from_7 = one_step {s = s7} {s' = last} (End 1) (Attempt pair ∷ Finish ∷ []) a8 from_8

from_6 : Runs s6 (Undo 1 ∷ End 1 ∷ Attempt pair ∷ Finish ∷ []) last
from_6 = one_step {s = s6} {s' = last} (Undo 1) (End 1 ∷ Attempt pair ∷ Finish ∷ []) a7 from_7

from_5 : Runs s5 (Undo 1 ∷ Undo 1 ∷ End 1 ∷ Attempt pair ∷ Finish ∷ []) last
from_5 = one_step {s = s5} {s' = last} (Undo 1) (Undo 1 ∷ End 1 ∷ Attempt pair ∷ Finish ∷ []) a6 from_6

from_4 : Runs s4 (Undo 1 ∷ Undo 1 ∷ Undo 1 ∷ End 1 ∷ Attempt pair ∷ Finish ∷ []) last
from_4 = one_step {s = s4} {s' = last} (Undo 1) (Undo 1 ∷ Undo 1 ∷ End 1 ∷ Attempt pair ∷ Finish ∷ []) a5 from_5

from_3 : Runs s3 (Take 0 ∷ Undo 1 ∷ Undo 1 ∷ Undo 1 ∷ End 1 ∷ Attempt pair ∷ Finish ∷ []) last
from_3 = one_step {s = s3} {s' = last} (Take 0) (Undo 1 ∷ Undo 1 ∷ Undo 1 ∷ End 1 ∷ Attempt pair ∷ Finish ∷ []) (None, refl) from_4

from_2 : Runs s2 (Start 1 insertion ∷ Take 0 ∷ Undo 1 ∷ Undo 1 ∷ Undo 1 ∷ End 1 ∷ Attempt pair ∷ Finish ∷ []) last
from_2 = one_step {s = s2} {s' = last} (Start 1 insertion) (Take 0 ∷ Undo 1 ∷ Undo 1 ∷ Undo 1 ∷ End 1 ∷ Attempt pair ∷ Finish ∷ []) a3 from_3

from_1 : Runs s1 (Begin 1 ∷ Start 1 insertion ∷ Take 0 ∷ Undo 1 ∷ Undo 1 ∷ Undo 1 ∷ End 1 ∷ Attempt pair ∷ Finish ∷ []) last
from_1 = one_step {s = s1} {s' = last} (Begin 1) (Start 1 insertion ∷ Take 0 ∷ Undo 1 ∷ Undo 1 ∷ Undo 1 ∷ End 1 ∷ Attempt pair ∷ Finish ∷ []) refl from_2

pub example : Runs (opened opening) steps last
example = one_step {s = opened opening} {s' = last} Create
    (Begin 1 ∷ Start 1 insertion ∷ Take 0 ∷ Undo 1 ∷ Undo 1 ∷ Undo 1 ∷ End 1 ∷ Attempt pair ∷ Finish ∷ []) (refl, λ t. refl) from_1

-- with no row and no entry a core may begin
pub example_opens : CanOpen opening
example_opens = record {
  sound = λ p e. absurd (not_none e (get-empty pair_cmp p));
  complete = λ r w e c. absurd (not_none e (get-empty rid_cmp r));
  unmarked = λ r w e. absurd (not_none e (get-empty rid_cmp r));
  empty = λ e p. get-empty pair_cmp p;
  fits = record {
    rows = λ r w e. absurd (not_none e (get-empty rid_cmp r));
    entries = λ p n. absurd (n (get-empty pair_cmp p));
    highest = λ p e. absurd (apart_lives p e);
    room = let none : len (empty {K = Pair} {X = Mark} {R = pair_cmp}) ≡ 0 = len-empty pair_cmp Mark in omega (arith, none);
  };
}
  where
    apart_lives : (p : Pair) → Absent ≡ Building (Some p) → ⊥
    apart_lives p e = absurd (cc)

pub example_marked : get last.entries pair ≡ Some Marked
unfolding update
example_marked = get-set_at_same pair_exact marked pair (after_action BuildPut (get marked pair)) ∙ ap (after_action BuildPut) is_marked

pub example_complete : last.life ≡ Complete
unfolding update
example_complete = refl
