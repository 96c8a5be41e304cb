-- The store's own machine as a host of the part: its table is the host's rows, each by its key alone, and its index is
-- the part's.
use Rattle.std.specs.FinMap.{get}
use Rattle.std.specs.Prelude.{List, None, Option, Some, false, true, ℕ, ◌≡◌}
use Rattle.record_values.specs.Values.{Place}
use Rattle.record_values.specs.declared.pair.Pair.{Pair}
use Rattle.record_values.specs.declared.row.Row.{Row}
use Rattle.model.specs.declared.life.Life.{Life as StoreLife}
use Rattle.model.specs.declared.life.Life.TheVariants.{Absent, Building as StoreBuilding, Complete as StoreComplete}
use Rattle.core_model.specs.Histories.{highest_of}
use Rattle.core_model.specs.Invariants.{IsUnfinished}
use Rattle.core_model.specs.States.{State}
use Rattle.online_model.specs.World.{IsOfRow, Runs, Step, World}
use Rattle.online_model.specs.declared.life.Life.{Life}
use Rattle.online_model.specs.declared.life.Life.TheVariants.{Building, Complete}

-- the key of a row, where there is one
abbrev pub key_of : Option Row → Option (List ℕ)
key_of None = None
key_of (Some row) = Some row.key

-- the store's index is as far as the part's
abbrev pub IsSameLife : StoreLife → Life → Type 0
IsSameLife Absent life = ⊥
IsSameLife (StoreBuilding highest) life = life ≡ Building highest
IsSameLife StoreComplete life = life ≡ Complete

-- This world is the store: its rows and its index, as far as that is built. A row is busy only while an active
-- transaction has an unfinished change of it.
pub record IsWorldOf (s : State) (w : World) : Type 0 where
  pub rows : (r : Place) → w.rows r ≡ key_of (get s.rows r)
  pub busy : (r : Place) → w.busy r ≡ true → IsUnfinished s r
  pub entries : w.entries ≡ s.entries
  pub life : IsSameLife s.life w.life
  pub pages : w.pages ≡ s.pages
  pub bound : w.bound ≡ s.bound
  pub read_with : (p : Pair) → w.read_with p ≡ s.given p
  pub read_without : (p : Pair) → w.read_without p ≡ s.missed p
  pub held_once : (p : Pair) → IsOfRow w p → w.held_once p ≡ true
  pub held_always : (p : Pair) → w.held_always p ≡ true → IsOfRow w p

-- the world of the store can get to one of this state, by steps of host and index of which each is enabled
pub record GetsTo (w : World) (s : State) : Type 0 where
  pub steps : List Step
  pub last : World
  pub run : Runs w steps last
  pub is : IsWorldOf s last

-- The store after a stop, before anything is taken back: what the builder had read is lost, and it goes on above the
-- checkpoint. The steps that take the unfinished changes back are the store's own, `Undo`.
abbrev pub reopened : State → State
reopened s = record s {
  bound = highest_of s.life;
  given = λ p. false;
  missed = λ p. false;
  taken = λ n. false;
}
