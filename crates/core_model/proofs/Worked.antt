-- The worked script.
use Rattle.std.proofs.Common.{List, None, Some, [], ap, arith, false, inl, inr, refl, subst, suc, sym, true≢false, zero, ℕ, ◌+◌, ◌<◌, ◌∷◌, ◌≡◌, ◌≤◌}
use Rattle.std.specs.Cmp.{nat_cmp_is}
use Rattle.std.specs.FinMap.{get, get-empty, len-empty}
use Rattle.std.specs.Ordering.{is_lt, nat_cmp, ordering_then}
use Rattle.std.specs.declared.cmp.Ordering.{Ordering}
use Rattle.std.specs.declared.cmp.Ordering.TheVariants.{Equal, Greater, Less}
use Rattle.record_values.specs.Orders.{pair_cmp, rid_cmp}
use Rattle.record_values.specs.Values.{Place}
use Rattle.record_values.specs.declared.error.Error.{Error}
use Rattle.record_values.specs.declared.pair.Mark.{Mark}
use Rattle.record_values.specs.declared.number.TheConstants.{LAST_NUMBER}
use Rattle.model.specs.declared.life.Life.TheVariants.{Absent, Building}
use Rattle.core_model.specs.Events.{Built, Done, Empty, Ended, Event, Rejected, Reply, Scanned, Standing, Txn, Undone, standing_after, standing_at}
use Rattle.core_model.specs.Replies.{IsAllowed, IsFirst, IsFree, IsNextPair, accepted}
use Rattle.core_model.specs.Logs.{next_number, records_from, records_over}
use Rattle.core_model.specs.Records.{action_of}
use Rattle.core_model.specs.Served.{ServesAll, nothing, served}
use Rattle.core_model.specs.Worked.{script, standing}
use Rattle.core_model.proofs.Example.{a10, a9, first_reserved, is_marked, s1, s2, s3, s4, s5, s6, s7, s8, s9}
use Rattle.core_model.proofs.Laws.{not_none}
use Rattle.core_model.proofs.Served.{place_none}
use Rattle.core_model.specs.Example.{insertion, last, opening, pair, place, row, steps}
use Rattle.core_model.specs.Histories.{opened}
use Rattle.core_model.specs.States.{Active, State}
use Rattle.core_model.specs.Steps.{Attempt, Finish, Start, MachineStep, Take, after, update}

not_last : (n : ℕ) → n ≤ 6 → LAST_NUMBER ≤ n → ⊥
not_last n l h = omega (arith, l, h)

nothing_refused : {A : Type 0} (n : ℕ) → n ≤ 6 → IsFirst ((⊥, Error.IndexFull) ∷ ((LAST_NUMBER ≤ n) × A, Error.Exhausted) ∷ []) None
nothing_refused n l = inr (λ h. h, inr (λ h. not_last n l h.0, refl))

abbrev k0 : Standing
k0 = record { made = 0; begun = 0; active = 0; commits = 0; attempts = 0; all_attempts = 0; scanned = 0 }

abbrev k1 : Standing
k1 = record { made = 1; begun = 0; active = 0; commits = 0; attempts = 0; all_attempts = 0; scanned = 0 }

abbrev k2 : Standing
k2 = record { made = 1; begun = 1; active = 1; commits = 0; attempts = 0; all_attempts = 0; scanned = 0 }

abbrev k3 : Standing
k3 = record { made = 2; begun = 1; active = 1; commits = 0; attempts = 0; all_attempts = 0; scanned = 0 }

abbrev k4 : Standing
k4 = record { made = 2; begun = 1; active = 1; commits = 0; attempts = 0; all_attempts = 0; scanned = 1 }

abbrev k5 : Standing
k5 = record { made = 3; begun = 1; active = 1; commits = 0; attempts = 0; all_attempts = 0; scanned = 1 }

abbrev k6 : Standing
k6 = record { made = 4; begun = 1; active = 1; commits = 0; attempts = 0; all_attempts = 0; scanned = 1 }

abbrev k7 : Standing
k7 = record { made = 4; begun = 1; active = 1; commits = 0; attempts = 0; all_attempts = 0; scanned = 1 }

abbrev k8 : Standing
k8 = record { made = 5; begun = 1; active = 0; commits = 0; attempts = 0; all_attempts = 0; scanned = 1 }

abbrev k9 : Standing
k9 = record { made = 5; begun = 1; active = 0; commits = 0; attempts = 1; all_attempts = 1; scanned = 0 }

abbrev k10 : Standing
k10 = record { made = 6; begun = 1; active = 0; commits = 0; attempts = 1; all_attempts = 1; scanned = 0 }

building≢absent : Building None ≡ Absent → ⊥
building≢absent e = absurd (cc)

active_there : {x : Active} → Some x ≡ None → ⊥
active_there e = not_none refl e

free_place : IsFree s2 place
unfolding update
free_place = record { inside = omega arith; slot = omega arith; empty = get-empty rid_cmp place; unheld = refl }

none_less : (n : ℕ) → is_lt (nat_cmp n 0) ≡ false
none_less zero = ap is_lt (sym (nat_cmp_is 0 0 Equal refl))
none_less (suc n) = ap is_lt (sym (nat_cmp_is (suc n) 0 Greater (omega arith)))

neither : (a b : Ordering) → is_lt a ≡ false → is_lt b ≡ false → is_lt (ordering_then a b) ≡ false
neither Less b h k = h
neither Equal b h k = k
neither Greater b h k = refl

none_below : (q : Place) → is_lt (rid_cmp q place) ≡ false
none_below q = neither (nat_cmp q.page 0) (nat_cmp q.slot 0) (none_less q.page) (none_less q.slot)

few_entries : (n m : ℕ) → n ≡ 0 → m ≡ 0 → 64 < n + m + 4 → ⊥
few_entries n m a b h = omega (arith, a, b, h)

too_many : 16 ≤ 0 → ⊥
too_many h = omega (arith, h)

no_changes : 64 ≤ 0 → ⊥
no_changes h = omega (arith, h)

next_pair : IsNextPair s8 pair
next_pair = record { given = a9.given; rising = a9.rising; all_taken = a9.all_taken; none_left = a9.none_left }

allowed_0 : IsAllowed (opened opening) k0 Event.Create (Reply.Ticketed 1) (Some MachineStep.Create)
unfolding update
allowed_0 = accepted (λ h. h) tt (inr (λ e. true≢false (sym e), inr (λ h. active_there (sym h.2), refl))) (Reply.Ticketed 1) (Some MachineStep.Create) (
  refl,
  refl,
) (nothing_refused 0 (omega arith))

allowed_1 : IsAllowed (s1) k1 Event.Begin (Txn 1) (Some (MachineStep.Begin 1))
unfolding update
allowed_1 = accepted (λ h. h) tt (inr (λ h. too_many h, refl)) (Txn 1) (Some (MachineStep.Begin 1)) (refl, refl) (nothing_refused 1 (omega arith))

allowed_2 : IsAllowed (s2) k2 (Event.Insert 1 row) (Reply.Rid place) (Some (Start 1 insertion))
unfolding update
allowed_2 = accepted (λ h. active_there h) (refl, refl) (inr (λ h. no_changes h, inr (λ h. h place free_place, refl))) (Reply.Rid place)
    (Some (Start 1 insertion)) (place, record { free = free_place; least = λ q f. none_below q }, refl, refl)
    (inr (λ h. few_entries _ _ (len-empty pair_cmp Mark) first_reserved h.1, inr (λ h. not_last 1 (omega arith) h.0, refl)))

allowed_3 : IsAllowed (s3) k3 Event.Build (Built (Scanned 0)) (Some (Take 0))
unfolding update
allowed_3 = accepted (λ h. h) tt (inr (λ e. building≢absent e, refl)) (Built (Scanned 0)) (Some (Take 0)) (
  Scanned 0,
  (((None, refl), omega arith), refl, omega arith, refl),
  refl,
  refl,
) (nothing_refused 2 (omega arith))

allowed_4 : IsAllowed (s4) k4 (Event.Undo 1) Undone (Some (MachineStep.Undo 1))
unfolding update
allowed_4 = accepted (λ h. active_there h) tt refl Undone (Some (MachineStep.Undo 1)) (inr (λ e. absurd (cc), refl), refl) (nothing_refused 2 (omega arith))

allowed_5 : IsAllowed (s5) k5 (Event.Undo 1) Undone (Some (MachineStep.Undo 1))
unfolding update
allowed_5 = accepted (λ h. active_there h) tt refl Undone (Some (MachineStep.Undo 1)) (inr (λ e. absurd (cc), refl), refl) (nothing_refused 3 (omega arith))

allowed_6 : IsAllowed (s6) k6 (Event.Undo 1) Empty (Some (MachineStep.Undo 1))
unfolding update
allowed_6 = accepted (λ h. active_there h) tt refl Empty (Some (MachineStep.Undo 1)) (inl (refl, refl), refl) (nothing_refused 4 (omega arith))

allowed_7 : IsAllowed (s7) k7 (Event.End 1) Ended (Some (MachineStep.End 1))
unfolding update
allowed_7 = accepted (λ h. active_there h) refl refl Ended (Some (MachineStep.End 1)) (refl, refl) (nothing_refused 4 (omega arith))

allowed_8 : IsAllowed (s8) k8 Event.Build (Built (Rejected pair)) (Some (Attempt pair))
unfolding update
allowed_8 = accepted (λ h. h) tt (inr (λ e. building≢absent e, refl)) (Built (Rejected pair)) (Some (Attempt pair)) (
  Rejected pair,
  (((None, refl), omega arith), next_pair, λ e. not_none is_marked e),
  refl,
  refl,
)
    (inr (λ h. not_none is_marked h.0, inr (λ h. not_last 5 (omega arith) h.0, refl)))

allowed_9 : IsAllowed (s9) k9 Event.Build (Built (Done 6)) (Some Finish)
unfolding update
allowed_9 = accepted (λ h. h) tt (inr (λ e. building≢absent e, refl)) (Built (Done 6)) (Some Finish) (
  Done 6,
  (((None, refl), omega arith), a10, refl),
  refl,
  refl,
) (nothing_refused 5 (omega arith))

-- a step with its reply, before what is served after it
one_more : {s new : State} {k next : Standing} (e : Event) (reply : Reply) (step : MachineStep) (rest : List (Event × Reply)) (es : List MachineStep)
    → IsAllowed s k e reply (Some step) → (standing_after k reply).made ≡ next_number k.made (action_of s step)
    → ServesAll (after s step) (standing_after k reply) rest (records_from (after s step) (standing_after k reply).made es) new next
    → ServesAll s k ((e, reply) ∷ rest) (records_from s k.made (step ∷ es)) new next
one_more {s = s} {new = new} {k = k} {next = next} e reply step rest es allowed number more =
    served e reply (Some step) rest (records_from (after s step) (next_number k.made (action_of s step)) es) allowed
    (subst (λ n. ServesAll (after s step) (standing_after k reply) rest (records_from (after s step) n es) new next) number more)

abbrev script_9 : List (Event × Reply)
script_9 = (Event.Build, Built (Done 6)) ∷ []

abbrev script_8 : List (Event × Reply)
script_8 = (Event.Build, Built (Rejected pair)) ∷ script_9

abbrev script_7 : List (Event × Reply)
script_7 = (Event.End 1, Ended) ∷ script_8

abbrev script_6 : List (Event × Reply)
script_6 = (Event.Undo 1, Empty) ∷ script_7

abbrev script_5 : List (Event × Reply)
script_5 = (Event.Undo 1, Undone) ∷ script_6

abbrev script_4 : List (Event × Reply)
script_4 = (Event.Undo 1, Undone) ∷ script_5

abbrev script_3 : List (Event × Reply)
script_3 = (Event.Build, Built (Scanned 0)) ∷ script_4

abbrev script_2 : List (Event × Reply)
script_2 = (Event.Insert 1 row, Reply.Rid place) ∷ script_3

abbrev script_1 : List (Event × Reply)
script_1 = (Event.Begin, Txn 1) ∷ script_2

abbrev steps_9 : List MachineStep
steps_9 = Finish ∷ []

abbrev steps_8 : List MachineStep
steps_8 = Attempt pair ∷ steps_9

abbrev steps_7 : List MachineStep
steps_7 = MachineStep.End 1 ∷ steps_8

abbrev steps_6 : List MachineStep
steps_6 = MachineStep.Undo 1 ∷ steps_7

abbrev steps_5 : List MachineStep
steps_5 = MachineStep.Undo 1 ∷ steps_6

abbrev steps_4 : List MachineStep
steps_4 = MachineStep.Undo 1 ∷ steps_5

abbrev steps_3 : List MachineStep
steps_3 = Take 0 ∷ steps_4

abbrev steps_2 : List MachineStep
steps_2 = Start 1 insertion ∷ steps_3

abbrev steps_1 : List MachineStep
steps_1 = MachineStep.Begin 1 ∷ steps_2

number_9 : 6 ≡ next_number 5 (action_of s9 Finish)
unfolding update
number_9 = refl

number_8 : 5 ≡ next_number 5 (action_of s8 (Attempt pair))
unfolding update
number_8 = place_none pair (get s8.entries pair) (λ e. not_none is_marked e) 5

number_7 : 5 ≡ next_number 4 (action_of s7 (MachineStep.End 1))
unfolding update
number_7 = refl

number_6 : 4 ≡ next_number 4 (action_of s6 (MachineStep.Undo 1))
unfolding update
number_6 = refl

number_5 : 4 ≡ next_number 3 (action_of s5 (MachineStep.Undo 1))
unfolding update
number_5 = refl

number_4 : 3 ≡ next_number 2 (action_of s4 (MachineStep.Undo 1))
unfolding update
number_4 = refl

number_3 : 2 ≡ next_number 2 (action_of s3 (Take 0))
unfolding update
number_3 = refl

number_2 : 2 ≡ next_number 1 (action_of s2 (Start 1 insertion))
unfolding update
number_2 = refl

number_1 : 1 ≡ next_number 1 (action_of s1 (MachineStep.Begin 1))
unfolding update
number_1 = refl

number_0 : 1 ≡ next_number 0 (action_of (opened opening) MachineStep.Create)
unfolding update
number_0 = refl

from_9 : ServesAll s9 k9 script_9 (records_from s9 5 steps_9) last standing
from_9 = one_more {s = s9} {new = last} {k = k9} {next = standing} Event.Build (Built (Done 6)) Finish [] [] allowed_9 number_9 nothing

from_8 : ServesAll s8 k8 script_8 (records_from s8 5 steps_8) last standing
from_8 = one_more {s = s8} {new = last} {k = k8} {next = standing} Event.Build (Built (Rejected pair)) (Attempt pair) script_9 steps_9 allowed_8 number_8 from_9

from_7 : ServesAll s7 k7 script_7 (records_from s7 4 steps_7) last standing
from_7 = one_more {s = s7} {new = last} {k = k7} {next = standing} (Event.End 1) Ended (MachineStep.End 1) script_8 steps_8 allowed_7 number_7 from_8

from_6 : ServesAll s6 k6 script_6 (records_from s6 4 steps_6) last standing
from_6 = one_more {s = s6} {new = last} {k = k6} {next = standing} (Event.Undo 1) Empty (MachineStep.Undo 1) script_7 steps_7 allowed_6 number_6 from_7

from_5 : ServesAll s5 k5 script_5 (records_from s5 3 steps_5) last standing
from_5 = one_more {s = s5} {new = last} {k = k5} {next = standing} (Event.Undo 1) Undone (MachineStep.Undo 1) script_6 steps_6 allowed_5 number_5 from_6

from_4 : ServesAll s4 k4 script_4 (records_from s4 2 steps_4) last standing
from_4 = one_more {s = s4} {new = last} {k = k4} {next = standing} (Event.Undo 1) Undone (MachineStep.Undo 1) script_5 steps_5 allowed_4 number_4 from_5

from_3 : ServesAll s3 k3 script_3 (records_from s3 2 steps_3) last standing
from_3 = one_more {s = s3} {new = last} {k = k3} {next = standing} Event.Build (Built (Scanned 0)) (Take 0) script_4 steps_4 allowed_3 number_3 from_4

from_2 : ServesAll s2 k2 script_2 (records_from s2 1 steps_2) last standing
from_2 = one_more {s = s2} {new = last} {k = k2} {next = standing} (Event.Insert 1 row) (Reply.Rid place) (Start 1 insertion)
    script_3 steps_3 allowed_2 number_2 from_3

from_1 : ServesAll s1 k1 script_1 (records_from s1 1 steps_1) last standing
from_1 = one_more {s = s1} {new = last} {k = k1} {next = standing} Event.Begin (Txn 1) (MachineStep.Begin 1) script_2 steps_2 allowed_1 number_1 from_2

pub served_script : ServesAll (opened opening) (standing_at 0) script (records_over opening steps) last standing
served_script = one_more {s = opened opening} {new = last} {k = k0} {next = standing} Event.Create (Reply.Ticketed 1) MachineStep.Create
    script_1 steps_1 allowed_0 number_0 from_1
