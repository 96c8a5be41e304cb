-- Places of rows, as C has them.
use Rattle.std.specs.Prelude.{◌≡◌, ◌<◌, ◌≤◌, ℕ, List, length, slice_index_or}
use Rattle.std.specs.declared.alloc.Global.{Global}
use Rattle.record_values.specs.Values.{Place}
use Rattle.restart.specs.declared.event.Reply.{Reply}
use Rattle.restart.specs.declared.event.Reply.TheVariants.{Found}
use Rattle.nsf_c.specs.declared.spot.Spot.{Spot}

-- a place as C has it
abbrev pub spot_of : Place → Spot
spot_of rid = record { page = rid.page; slot = rid.slot }

-- the place at an index, where there is one
abbrev pub nowhere : Place
nowhere = record { page = 0; slot = 0 }

-- the place at an index, or none
abbrev pub rid_at : List Place → ℕ → Place
rid_at rids k = slice_index_or rids k nowhere

-- so with places of C
abbrev pub spot_at : List Spot → ℕ → Spot
spot_at spots k = slice_index_or spots k (spot_of nowhere)

-- as many of the places as there is room for stand in front, and what is behind them stays
pub record IsFilled (rids : List Place) (old new : List Spot) : Type 0 where
  pub room : length new ≡ length old
  pub front : (k : ℕ) → k < length old → k < length rids → spot_at new k ≡ spot_of (rid_at rids k)
  pub behind : (k : ℕ) → length rids ≤ k → spot_at new k ≡ spot_at old k

-- the places that a search found
abbrev pub FillsWith : Reply Global → List Spot → List Spot → Type 0
FillsWith (Found rids) old new = IsFilled rids.items old new
FillsWith reply old new = new ≡ old
