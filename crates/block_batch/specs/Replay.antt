-- What is replayed of a journal of two areas.
use Rattle.std.specs.Prelude.{◌≡◌, ◌+◌, ◌≤◌, nat_lt, ◌==◌, if◌then◌else◌, List, [], ◌++◌, Option, Some, None, Contains}
use Rattle.block_device.specs.Blocks.{CrashFile, SameOutside}
use Rattle.block_batch.specs.Batch.{Entry, Batch, replayed, IsPlace}

-- of two batches: the one with the higher number, and before it the other one where its number is the one before
abbrev pub in_order : Batch → Batch → List Entry
in_order x y =
    if x.number + 1 == y.number then x.entries ++ y.entries
    else if y.number + 1 == x.number then y.entries ++ x.entries
    else if nat_lt x.number y.number then y.entries
    else x.entries

-- of what the two areas have
abbrev pub pending : Option Batch → Option Batch → List Entry
pending None None = []
pending (Some x) None = x.entries
pending None (Some y) = y.entries
pending (Some x) (Some y) = in_order x y

-- The last batch was committed, and gave these blocks, which are kept outside the places of its own.
pub record IsCommitted (last : Batch) (settled kept : CrashFile) : Type 0 where
  pub elsewhere : SameOutside (IsPlace last.entries) settled kept
  pub there : replayed last.entries settled ≡ settled

-- These batches were handed to be written, or found as the journal was opened: at most the one behind the last.
pub record AreOffered (offered : List Batch) (last next : Batch) (settled : CrashFile) : Type 0 where
  pub follows : next.number ≡ last.number + 1
  pub none_later : (x : Batch) → Contains offered x → x.number ≤ next.number
  pub is_next : (x : Batch) → Contains offered x → x.number ≡ next.number → x ≡ next
  pub is_last : (x : Batch) → Contains offered x → x.number ≡ last.number → x ≡ last
  pub before : (x : Batch) → Contains offered x → x.number + 1 ≡ last.number
      → replayed last.entries (replayed x.entries settled) ≡ settled
