-- What every step keeps, and what follows from it.
use Rattle.std.specs.FinMap.{empty, get}
use Rattle.std.specs.Prelude.{List, None, Option, Some, false, true, ℕ, ◌<◌, ◌≡◌, ◌≢◌, ◌⊎◌, ◌↔◌}
use Rattle.record_values.specs.Orders.{is_above}
use Rattle.record_values.specs.Values.{Place}
use Rattle.record_values.specs.declared.pair.Mark.TheVariants.{Live}
use Rattle.record_values.specs.declared.pair.Pair.{Pair}
use Rattle.online_model.specs.declared.life.Life.{Life}
use Rattle.online_model.specs.declared.life.Life.TheVariants.{Building, Complete}
use Rattle.online_model.specs.World.{IsOfRow, World, is_pair_of, pair_at}

-- the builder will come to this pair, since its row has had it all the time
pub record IsToCome (w : World) (p : Pair) : Type 0 where
  pub above : is_above w.bound p ≡ true
  pub always : w.held_always p ≡ true
  pub inside : p.rid.page < w.pages

-- the index is being built, and the builder will come to this pair
abbrev pub IsAhead : World → Life → Pair → Type 0
IsAhead w (Building highest) p = IsToCome w p
IsAhead w Complete p = ⊥

-- the pair is visible, or it has no entry and the builder will come to it
abbrev pub IsVisibleOrAhead : World → Pair → Type 0
IsVisibleOrAhead w p = (get w.entries p ≡ Some Live) ⊎ (get w.entries p ≡ None) × IsAhead w w.life p

-- what every step keeps
pub record Invariant (w : World) : Type 0 where
  -- a visible entry is the pair of a row
  pub sound : (p : Pair) → get w.entries p ≡ Some Live → IsOfRow w p
  -- a row with no unfinished change has its pair visible, or the builder will come to it
  pub visible : (r : Place) (key : List ℕ) → w.rows r ≡ Some key → w.busy r ≡ false
      → IsVisibleOrAhead w (pair_at r key)
  -- a pair that a row had, above the builder, is the pair of a row still, or has an entry
  pub backed : (highest : Option Pair) → w.life ≡ Building highest → (p : Pair) → w.held_once p ≡ true
      → is_above w.bound p ≡ true → IsOfRow w p ⊎ (get w.entries p ≢ None)
  -- a page was read only with pairs that a row had at some moment
  pub read_with : (p : Pair) → w.read_with p ≡ true → w.held_once p ≡ true
  -- a page was read without a pair only where no row had it all the time
  pub read_without : (p : Pair) → w.read_without p ≡ true → w.held_always p ≡ false
  -- the checkpoint is not above the builder
  pub checkpoint : (highest : Option Pair) → w.life ≡ Building highest → (p : Pair) → is_above w.bound p ≡ true
      → is_above highest p ≡ true

-- an index was just created: no row has an unfinished change, and every row is in the pages that the builder reads
pub record IsCreated (w : World) : Type 0 where
  pub quiet : (r : Place) → w.busy r ≡ false
  pub inside : (r : Place) (key : List ℕ) → w.rows r ≡ Some key → r.page < w.pages
  pub empty : w.entries ≡ empty
  pub life : w.life ≡ Building None
  pub bound : w.bound ≡ None
  pub held_once : (p : Pair) → w.held_once p ≡ is_pair_of (w.rows p.rid) p
  pub held_always : (p : Pair) → w.held_always p ≡ is_pair_of (w.rows p.rid) p
  pub read_with : (p : Pair) → w.read_with p ≡ false
  pub read_without : (p : Pair) → w.read_without p ≡ false

-- no row has an unfinished change
abbrev pub IsQuiet : World → Type 0
IsQuiet w = (r : Place) → w.busy r ≡ false

-- the visible entries are exactly the pairs of the rows
abbrev pub ShowsExactlyTheRows : World → Type 0
ShowsExactlyTheRows w = (p : Pair) → (get w.entries p ≡ Some Live) ↔ IsOfRow w p

-- the index is complete, or the builder is past this pair
abbrev pub IsCovered : World → Pair → Type 0
IsCovered w p = (w.life ≡ Complete) ⊎ (is_above w.bound p ≡ false)
