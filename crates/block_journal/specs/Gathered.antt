-- Blocks that are gathered for a batch. (No public clause cites this.)
use Rattle.std.specs.Prelude.{◌≡◌, ℕ, ◌+◌, ◌<◌, ◌≤◌, true, List, length, map, Vec}
use Rattle.block_batch.specs.Batch.{Batch, Entry, batch_in, count_in, is_batch}
use Rattle.block_batch.specs.declared.head.TheConstants.{PLACES_MAX}
use Rattle.block_journal.specs.declared.gathered.Gathered.{Gathered}
use Rattle.block_journal.specs.Entries.{entries_in}

module _ {A : Type 0} where
  abbrev pub entries_of : Gathered A → List Entry
  entries_of g = entries_in g.area.items g.places g.count

  -- the batches of areas
  abbrev pub batches_of : List (Vec (List ℕ) A) → List Batch
  batches_of areas = map (λ (area : Vec (List ℕ) A). batch_in area.items) areas

  -- a buffer of an area that a batch can have, with the place of each of its blocks
  pub record IsBuffer (g : Gathered A) : Type 0 where
    pub places : length g.places ≡ PLACES_MAX
    pub few : length g.area.items ≤ PLACES_MAX + 1
    pub count : g.count < length g.area.items

  -- one of so many blocks, with nothing gathered
  pub record IsEmptyBuffer (size : ℕ) (g : Gathered A) : Type 0 where
    pub buffer : IsBuffer g
    pub long : length g.area.items ≡ size
    pub none : g.count ≡ 0

  -- the area has the batch of this number with its blocks
  pub record IsSealed (number : ℕ) (g : Gathered A) : Type 0 where
    pub batch : is_batch g.area.items ≡ true
    pub same : batch_in g.area.items ≡ record { number = number; entries = entries_of g }
    pub counted : count_in g.area.items ≡ g.count
