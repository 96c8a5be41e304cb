-- What can be the pairs of a page.
use Rattle.std.specs.List.Sorted.{IsStrictlyIncreasing}
use Rattle.std.specs.Prelude.{All, List, length, map, ℕ, ◌≡◌, ◌≤◌}
use Rattle.record_values.specs.declared.pair.Pair.{Pair}
use Rattle.record_values.specs.declared.rid.TheConstants.{SLOTS_PER_PAGE}

-- no more pairs than a page has slots, each of this page, in the order of their slots, no slot twice
pub record IsPage (page : ℕ) (pairs : List Pair) : Type 0 where
  pub few : length pairs ≤ SLOTS_PER_PAGE
  pub own : All (λ p. p.rid.page ≡ page) pairs
  pub in_slot_order : IsStrictlyIncreasing (map (λ p. p.rid.slot) pairs)
