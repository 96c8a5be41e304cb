-- Each entry of the unfinished transactions is found under its number.
use Rattle.std.proofs.Common.{◌≡◌, ◌≢◌, ℕ, Bool, true, false, cond, ◌&&◌, List, [], ◌∷◌, Some, unwrap_or, ap, subst, ◌∙◌}
use Rattle.std.specs.Prelude.{T}
use Rattle.std.specs.List.{AllByRecursion}
use Rattle.std.specs.Ordering.{nat_cmp, is_lt}
use Rattle.std.specs.Cmp.{nat_cmp_total, tied_itself}
use Rattle.std.specs.FinMap as map
use Rattle.std.specs.FinMap.Entries.{find, is_sorted, below_all}
use Rattle.records.specs.ChangeValue.{ChangeValue}
use Rattle.record_values.specs.Maps.{nat_exact, same_key, other_key}
use Rattle.model.specs.Cells.{Pending, list_of}

abbrev Lists : Type 0
Lists = List (ℕ × List ChangeValue)

left : (a b : Bool) → T (a && b) → T a
left true b h = tt
left false b h = absurd h

right : (a b : Bool) → T (a && b) → T b
right true b h = h
right false b h = absurd h

apart : (k x : ℕ) → T (is_lt (nat_cmp k x)) → x ≢ k
apart k x h is = subst (λ r. T (is_lt r)) (ap (nat_cmp k) is ∙ tied_itself nat_cmp_total k) h

-- each entry of a list in order is found under its key
abbrev AreFound : Lists → Lists → Type 0
AreFound all part = AllByRecursion (λ e. find nat_cmp e.0 all ≡ Some e.1) part

found_later : (k : ℕ) (changes : List ChangeValue) (all part : Lists) → T (below_all nat_cmp k part) → AreFound all part → AreFound ((k, changes) ∷ all) part
found_later k changes all [] below found = tt
found_later k changes all (e ∷ part) below found = (
  ap (λ b. cond b (Some changes) (find nat_cmp e.0 all)) (other_key nat_exact e.0 k (apart k e.0 (left _ _ below))) ∙ found.0,
  found_later k changes all part (right _ _ below) found.1,
)

each_found : (all : Lists) → T (is_sorted nat_cmp all) → AreFound all all
each_found [] sorted = tt
each_found (e ∷ all) sorted = (
  ap (λ b. cond b (Some e.1) (find nat_cmp e.0 all)) (same_key nat_exact e.0),
  found_later e.0 e.1 all all (left _ _ sorted) (each_found all (right _ _ sorted)),
)

module _ (pending : Pending) where
  -- each of these is a transaction's list
  abbrev AreNamed : Lists → Type 0
  AreNamed part = AllByRecursion (λ e. list_of pending e.0 ≡ e.1) part

  named : (part : Lists) → AreFound (map.entries pending) part → AreNamed part
  named [] found = tt
  named (e ∷ part) found = (ap (λ o. unwrap_or o []) (map.get-entries pending e.0 ∙ found.0), named part found.1)

  -- so is each entry, under its transaction's number
  pub each_named : AllByRecursion (λ e. list_of pending e.0 ≡ e.1) (map.entries pending)
  each_named = named (map.entries pending) (each_found (map.entries pending) (map.entries_sorted pending))
