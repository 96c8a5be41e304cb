-- The worked run.
use Rattle.std.proofs.Common.{Bool, List, None, Some, [], ap, arith, false, inl, inr, nat_eq, not, refl}
use Rattle.std.proofs.Common.{subst, suc, sym, true, true≢false, zero, ℕ, ◌&&◌, ◌<◌, ◌||◌, ◌∙◌, ◌≡◌, ◌≢◌}
use Rattle.std.proofs.Common.{◌∷◌, ◌⊎◌}
use Rattle.std.specs.FinMap.{empty, get, get-empty}
use Rattle.std.specs.Ordering.{eq_by_cmp}
use Rattle.record_values.specs.Entries.{Index}
use Rattle.record_values.specs.Maps.{get-set_at_other, get-set_at_same, key_is, pair_exact, set_at}
use Rattle.record_values.specs.Orders.{is_above, pair_cmp}
use Rattle.record_values.specs.Values.{Place}
use Rattle.record_values.specs.declared.pair.Mark.TheVariants.{Live, Marked}
use Rattle.record_values.specs.declared.pair.Pair.{Pair}
use Rattle.online_model.proofs.Orders.{not_none, pair_by_test, rid_decided, same_some, with_apart}
use Rattle.online_model.specs.Example.{created, first, kept, last, no_row, one_row, rolled_back, second, steps}
use Rattle.online_model.specs.Keeping.{IsCreated, IsQuiet}
use Rattle.online_model.specs.World.{Attempt, CanAttempt, CanClean, CanFinish, Change, Checkpoint, Clean, Finish}
use Rattle.online_model.specs.World.{IsMarkedAt, IsReadOf, Mark, Put, Reopen, Runs, Step, TakePage, World}
use Rattle.online_model.specs.World.{after, built, is_among, is_pair_of, no_step, one_step, pair_at, with_at}

-- ---- the worlds, one after another
abbrev pub w1 : World
w1 = after created (Mark rolled_back)

abbrev pub w2 : World
w2 = after w1 (Change second (Some rolled_back.key))

abbrev pub w3 : World
w3 = after w2 (Put rolled_back)

abbrev pub w4 : World
w4 = after w3 (TakePage 0 (kept ∷ rolled_back ∷ []))

abbrev pub w5 : World
w5 = after w4 (Mark rolled_back)

abbrev pub w6 : World
w6 = after w5 (Change second None)

abbrev pub w7 : World
w7 = after w6 (Attempt kept)

abbrev pub w8 : World
w8 = after w7 (Attempt rolled_back)

abbrev pub w9 : World
w9 = after w8 Checkpoint

abbrev pub w10 : World
w10 = after w9 Reopen

abbrev pub w11 : World
w11 = after w10 (TakePage 0 (kept ∷ []))

abbrev pub w12 : World
w12 = after w11 Finish

-- ---- pairs
or_true : (a b : Bool) → (a || b) ≡ true → (a ≡ true) ⊎ (b ≡ true)
or_true true b e = inl refl
or_true false b e = inr e

and_left : (a b : Bool) → (a && b) ≡ true → a ≡ true
and_left true b e = refl
and_left false b e = e

among_two : (p : Pair) → is_among p (kept ∷ rolled_back ∷ []) ≡ true → (p ≡ kept) ⊎ (p ≡ rolled_back)
among_two p e = elim (or_true (eq_by_cmp pair_cmp p kept) _ e) [
  | inl one ↦ inl (key_is pair_exact p kept one)
  | inr more ↦ elim (or_true (eq_by_cmp pair_cmp p rolled_back) false more) [
    | inl two ↦ inr (key_is pair_exact p rolled_back two)
    | inr none ↦ absurd (true≢false (sym none))
  ]
]

among_one : (p : Pair) → is_among p (kept ∷ []) ≡ true → p ≡ kept
among_one p e = elim (or_true (eq_by_cmp pair_cmp p kept) false e) [
  | inl one ↦ key_is pair_exact p kept one
  | inr none ↦ absurd (true≢false (sym none))
]

apart : kept ≢ rolled_back
apart e = true≢false (sym (ap (is_above (Some kept)) e))

first_row : one_row first ≡ Some kept.key
unfolding with_at
first_row = refl

-- the one row's pair
only_kept : (p : Pair) → is_pair_of (one_row p.rid) p ≡ true → p ≡ kept
only_kept p e = elim (rid_decided p.rid first) [
  | inl same ↦ λ j. record { key = (same_some (pair_by_test (one_row p.rid) p e) (ap one_row same ∙ first_row)) j; rid = same j }
  | inr n ↦ absurd (not_none (pair_by_test (one_row p.rid) p e) (with_apart no_row first (Some kept.key) p.rid n))
]

page_zero : (n : ℕ) → n < 1 → nat_eq n 0 ≡ true
page_zero zero h = refl
page_zero (suc n) h = absurd (omega arith)

left_out : (a b : Bool) → a ≡ true → (b ≡ true → ⊥) → ((a && not b) || false) ≡ true
left_out true true e n = absurd (n refl)
left_out true false e n = refl
left_out false b e n = absurd (true≢false (sym e))

-- a pair that is neither was left out
neither : (q : Pair) → q.rid.page < 1 → q ≢ kept → q ≢ rolled_back → w4.read_without q ≡ true
neither q inside n m = left_out (nat_eq q.rid.page 0) (is_among q (kept ∷ rolled_back ∷ [])) (page_zero q.rid.page inside)
    (λ e. elim (among_two q e) [ inl one ↦ absurd (n one) | inr two ↦ absurd (m two) ])

-- ---- the entries, one after another
abbrev m1 : Index
m1 = set_at empty rolled_back (Some Marked)

abbrev m3 : Index
m3 = set_at m1 rolled_back (Some Live)

abbrev m5 : Index
m5 = set_at m3 rolled_back (Some Marked)

abbrev m7 : Index
m7 = set_at m5 kept (built (get m5 kept))

abbrev m8 : Index
m8 = set_at m7 rolled_back (built (get m7 rolled_back))

marked_5 : get m5 rolled_back ≡ Some Marked
marked_5 = get-set_at_same pair_exact m3 rolled_back (Some Marked)

absent_5 : get m5 kept ≡ None
absent_5 = get-set_at_other pair_exact m3 rolled_back (Some Marked) kept apart
    ∙ (get-set_at_other pair_exact m1 rolled_back (Some Live) kept apart
    ∙ (get-set_at_other pair_exact empty rolled_back (Some Marked) kept apart ∙ get-empty pair_cmp kept))

live_7 : get m7 kept ≡ Some Live
live_7 = get-set_at_same pair_exact m5 kept (built (get m5 kept)) ∙ ap built absent_5

marked_7 : get m7 rolled_back ≡ Some Marked
marked_7 = get-set_at_other pair_exact m5 kept (built (get m5 kept)) rolled_back (λ e. apart (sym e)) ∙ marked_5

live_8 : get m8 kept ≡ Some Live
live_8 = get-set_at_other pair_exact m7 rolled_back (built (get m7 rolled_back)) kept apart ∙ live_7

marked_8 : get m8 rolled_back ≡ Some Marked
marked_8 = get-set_at_same pair_exact m7 rolled_back (built (get m7 rolled_back)) ∙ ap built marked_7

-- ---- when each step comes, it is enabled
no_row_yet : w1.rows second ≡ None
unfolding with_at
no_row_yet = refl

can_2 : IsMarkedAt w1 second
can_2 key e = absurd (not_none e no_row_yet)

can_3 : w2.rows second ≡ Some rolled_back.key
unfolding with_at
can_3 = refl

kept_held : w3.held_once kept ≡ true
unfolding with_at
kept_held = refl

rolled_back_held : w3.held_once rolled_back ≡ true
unfolding with_at
rolled_back_held = refl

can_4 : IsReadOf w3 0 (kept ∷ rolled_back ∷ [])
can_4 = record {
  each = λ p e. elim (among_two p e) [
    | inl one ↦ subst (λ q. w3.held_once q ≡ true) (sym one) kept_held
    | inr two ↦ subst (λ q. w3.held_once q ≡ true) (sym two) rolled_back_held
  ];
  all = λ p page e. subst (λ q. is_among q (kept ∷ rolled_back ∷ []) ≡ true)
      (sym (only_kept p (and_left (is_pair_of (one_row p.rid) p) _ e))) refl;
}

row_5 : w5.rows second ≡ Some rolled_back.key
row_5 = can_3

can_6 : IsMarkedAt w5 second
can_6 key e = inl (subst (λ k. get m5 (pair_at second k) ≡ Some Marked) (same_some row_5 e) marked_5)

can_7 : CanAttempt w6 kept
can_7 = record {
  building = (None, refl);
  read = refl;
  rising = refl;
  none_between = λ q inside over under. neither q inside (not_kept q under) (not_rolled_back q under);
}
  where
    not_kept : (q : Pair) → is_above (Some q) kept ≡ true → q ≢ kept
    not_kept q h e = true≢false (sym h ∙ ap (λ p. is_above (Some p) kept) e)

    not_rolled_back : (q : Pair) → is_above (Some q) kept ≡ true → q ≢ rolled_back
    not_rolled_back q h e = true≢false (sym h ∙ ap (λ p. is_above (Some p) kept) e)

can_8 : CanAttempt w7 rolled_back
can_8 = record {
  building = (None, refl);
  read = refl;
  rising = refl;
  none_between = λ q inside over under. neither q inside (not_kept q over) (not_rolled_back q under);
}
  where
    not_kept : (q : Pair) → is_above (Some kept) q ≡ true → q ≢ kept
    not_kept q h e = true≢false (sym h ∙ ap (is_above (Some kept)) e)

    not_rolled_back : (q : Pair) → is_above (Some q) rolled_back ≡ true → q ≢ rolled_back
    not_rolled_back q h e = true≢false (sym h ∙ ap (λ p. is_above (Some p) rolled_back) e)

kept_holds : w10.held_once kept ≡ true
unfolding with_at
kept_holds = refl

gone : w10.rows second ≡ None
unfolding with_at
gone = refl

-- the rows after the rollback are those before the insertion
only_kept_now : (p : Pair) → is_pair_of (w10.rows p.rid) p ≡ true → p ≡ kept
only_kept_now p e = elim (rid_decided p.rid second) [
  | inl same ↦ absurd (not_none (pair_by_test (w10.rows p.rid) p e) (ap w10.rows same ∙ gone))
  | inr n ↦ only_kept p (sym (ap (λ o. is_pair_of o p) (with_apart w5.rows second None p.rid n ∙ with_apart one_row second (Some rolled_back.key) p.rid n)) ∙ e)
]

can_11 : IsReadOf w10 0 (kept ∷ [])
can_11 = record {
  each = λ p e. subst (λ q. w10.held_once q ≡ true) (sym (among_one p e)) kept_holds;
  all = λ p page e. subst (λ q. is_among q (kept ∷ []) ≡ true) (sym (only_kept_now p e)) refl;
}

can_12 : CanFinish w11
can_12 = record {
  building = (Some rolled_back, refl);
  none_above = λ q inside over. left_out (nat_eq q.rid.page 0) (is_among q (kept ∷ [])) (page_zero q.rid.page inside)
      (λ e. not_kept q over (among_one q e));
}
  where
    not_kept : (q : Pair) → is_above (Some rolled_back) q ≡ true → q ≢ kept
    not_kept q h e = true≢false (sym h ∙ ap (is_above (Some rolled_back)) e)

can_13 : CanClean w12 rolled_back
can_13 = record { marked = marked_8; passed = tt }

-- ---- the run
abbrev from_12 : List Step
from_12 = Clean rolled_back ∷ []

abbrev from_11 : List Step
from_11 = Finish ∷ from_12

abbrev from_10 : List Step
from_10 = TakePage 0 (kept ∷ []) ∷ from_11

abbrev from_9 : List Step
from_9 = Reopen ∷ from_10

abbrev from_8 : List Step
from_8 = Checkpoint ∷ from_9

abbrev from_7 : List Step
from_7 = Attempt rolled_back ∷ from_8

abbrev from_6 : List Step
from_6 = Attempt kept ∷ from_7

abbrev from_5 : List Step
from_5 = Change second None ∷ from_6

abbrev from_4 : List Step
from_4 = Mark rolled_back ∷ from_5

abbrev from_3 : List Step
from_3 = TakePage 0 (kept ∷ rolled_back ∷ []) ∷ from_4

abbrev from_2 : List Step
from_2 = Put rolled_back ∷ from_3

abbrev from_1 : List Step
from_1 = Change second (Some rolled_back.key) ∷ from_2

run_12 : Runs w12 from_12 last
run_12 = one_step {w = w12} {w' = last} (Clean rolled_back) [] can_13 no_step

run_11 : Runs w11 from_11 last
run_11 = one_step {w = w11} {w' = last} Finish from_12 can_12 run_12

run_10 : Runs w10 from_10 last
run_10 = one_step {w = w10} {w' = last} (TakePage 0 (kept ∷ [])) from_11 can_11 run_11

run_9 : Runs w9 from_9 last
run_9 = one_step {w = w9} {w' = last} Reopen from_10 tt run_10

run_8 : Runs w8 from_8 last
run_8 = one_step {w = w8} {w' = last} Checkpoint from_9 (None, refl) run_9

run_7 : Runs w7 from_7 last
run_7 = one_step {w = w7} {w' = last} (Attempt rolled_back) from_8 can_8 run_8

run_6 : Runs w6 from_6 last
run_6 = one_step {w = w6} {w' = last} (Attempt kept) from_7 can_7 run_7

run_5 : Runs w5 from_5 last
run_5 = one_step {w = w5} {w' = last} (Change second None) from_6 can_6 run_6

run_4 : Runs w4 from_4 last
run_4 = one_step {w = w4} {w' = last} (Mark rolled_back) from_5 tt run_5

run_3 : Runs w3 from_3 last
run_3 = one_step {w = w3} {w' = last} (TakePage 0 (kept ∷ rolled_back ∷ [])) from_4 can_4 run_4

run_2 : Runs w2 from_2 last
run_2 = one_step {w = w2} {w' = last} (Put rolled_back) from_3 can_3 run_3

run_1 : Runs w1 from_1 last
run_1 = one_step {w = w1} {w' = last} (Change second (Some rolled_back.key)) from_2 can_2 run_2

pub example : Runs created steps last
example = one_step {w = created} {w' = last} (Mark rolled_back) from_1 tt run_1

-- ---- how it begins and ends
pub example_created : IsCreated created
example_created = record {
  quiet = λ r. refl;
  inside = λ r key e. elim (rid_decided r first) [
    | inl same ↦ subst (λ (q : Place). q.page < 1) (sym same) (omega arith)
    | inr n ↦ absurd (not_none e (with_apart no_row first (Some kept.key) r n))
  ];
  empty = refl;
  life = refl;
  bound = refl;
  held_once = λ p. refl;
  held_always = λ p. refl;
  read_with = λ p. refl;
  read_without = λ p. refl;
}

quiet_there : last.busy second ≡ false
unfolding with_at
quiet_there = refl

pub example_quiet : IsQuiet last
example_quiet r = elim (rid_decided r second) [
  | inl same ↦ ap last.busy same ∙ quiet_there
  | inr n ↦ with_apart w5.busy second false r n ∙ (with_apart w3.busy second _ r n
      ∙ (with_apart w2.busy second false r n ∙ (with_apart w1.busy second true r n ∙ with_apart created.busy second _ r n)))
]

pub example_placed : get last.entries kept ≡ Some Live
example_placed = get-set_at_other pair_exact m8 rolled_back None kept apart ∙ live_8

pub example_cleaned : get last.entries rolled_back ≡ None
example_cleaned = get-set_at_same pair_exact m8 rolled_back None
