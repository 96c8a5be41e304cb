-- The parts of a journal. (No public clause cites this.)
use Rattle.std.specs.Prelude.{◌≡◌, ◌+◌, ◌^◌, ◌<◌, false, length}
use Rattle.block_device.specs.BlocksPast.{BlocksPast}
use Rattle.block_journal.specs.declared.parts.JournalParts.{JournalParts}
use Rattle.block_journal.specs.Layout.{kept_start, IsInside}
use Rattle.block_journal.specs.Gathered.{batches_of, entries_of, IsBuffer}
use Rattle.block_journal.specs.Value.{JournalValue, IsReady}

module _ {B A : Type 0} where
  -- what they show
  abbrev pub value_of : JournalParts B A → JournalValue B
  value_of p = record {
    below = p.below;
    shape = p.shape;
    last = record { number = p.number; entries = entries_of p.last };
    next = entries_of p.next;
    offered = batches_of p.offered.items;
    has_failed = p.has_failed;
    refused = p.refused;
  }

  -- the buffers are of areas, the numbers of the blocks are small, and it is ready unless a call has failed
  pub record IsSound (past_of : B → BlocksPast) (p : JournalParts B A) : Type 0 where
    pub last : IsBuffer p.last
    pub last_size : length p.last.area.items ≡ p.shape.area
    pub next : IsBuffer p.next
    pub next_size : length p.next.area.items ≡ p.shape.area
    pub small : kept_start p.shape + p.shape.kept < 2 ^ 64
    pub inside : IsInside p.shape (past_of p.below).file.content
    pub ready : p.has_failed ≡ false → IsReady past_of (value_of p)
