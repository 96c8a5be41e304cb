use Rattle.std.proofs.Common.{◌≡◌, ℕ, ◌<◌, ◌≤◌, List, length}
use Rattle.block_device.specs.Blocks.{CrashFile, SameOutside}
use Rattle.block_device.specs.BlocksPast.{BlocksPast, RunsWithin}
use Rattle.block_batch.specs.Batch.{Entry, IsPlace, replayed}
use Rattle.block_journal.specs.Layout.{area_of, kept_of}
use Rattle.block_journal.specs.Journal.{InRunOrKept}
use Rattle.block_journal.specs.Entries.{entries_in}
use Rattle.block_journal.specs.Gathered.{entries_of}
use Rattle.block_journal.proofs.writing.write_places.Given as goal

abbrev pub invariant-loop : goal.invariant-loop
invariant-loop g l =
    let h = g.B.Blocks.past_of in
    record {
      within : (first count : ℕ) (all : List Entry) (image : CrashFile) (start : BlocksPast)
          → ((place : ℕ) → IsPlace (entries_of l.last) place → IsPlace all place)
          → RunsWithin (InRunOrKept l.shape first count all) image start (h l.initial.below)
          → RunsWithin (InRunOrKept l.shape first count all) image start (h l.below);
      areas : (a : ℕ) → a < 2 → area_of l.shape (h l.below).file.content a ≡ area_of l.shape (h l.initial.below).file.content a;
      far : l.counter ≤ l.i;
      low : l.i ≤ l.last.count;
      placed : SameOutside (IsPlace (entries_of l.next))
          (replayed (entries_in l.last.area.items l.last.places l.i) (kept_of l.shape (h l.initial.below).file.content))
          (kept_of l.shape (h l.below).file.content);
      size : length (h l.below).file.content ≡ length (h l.initial.below).file.content;
      back : g.B.Blocks.written_back l.below ≡ g.B.Blocks.written_back l.initial.below;
      quiet : g.B.Blocks.failures l.below ≡ g.B.Blocks.failures l.initial.below;
    }
