-- The blocks before a journal stay.
use Rattle.std.proofs.Common.{◌≡◌, ⊎_elim, ℕ, ◌<◌, List, ap, subst, arith}
use Rattle.block_device.specs.Blocks.{BlockFile, CrashFile, IsCrashFile, IsSynced, block}
use Rattle.block_device.specs.BlocksPast.{BlocksPast, RunsWithin}
use Rattle.block_device.proofs.CrashFiles.{crash_synced}
use Rattle.block_device.proofs.Moments.{at_end, goes_on, started}
use Rattle.block_batch.specs.Batch.{Entry}
use Rattle.block_journal.specs.declared.shape.Shape.{Shape}
use Rattle.block_journal.specs.Journal.{InRunOrKept, LeavesBefore, MayWrite, OnlyReads}

-- what a commit and what a replay may write are behind them
pub not_by_commit : (g : Shape) (a : ℕ) (entries : List Entry) (n : ℕ) → n < g.first → ¬ MayWrite g a entries n
not_by_commit g a entries n below there = ⊎_elim (λ run. omega (arith, run.0, below)) (λ kept. omega (arith, kept.2, below)) there

pub not_by_replay : (g : Shape) (entries : List Entry) (n : ℕ) → n < g.first → ¬ InRunOrKept g 0 0 entries n
not_by_replay g entries n below there = ⊎_elim (λ run. omega (arith, run.0, run.1)) (λ kept. omega (arith, kept.2, below)) there

-- calls were made that write none of them
pub leaves_before : (g : Shape) (S : ℕ → Type 0) (old new : BlocksPast) → ((n : ℕ) → n < g.first → ¬ S n) → RunsWithin S old.file.content old new
    → LeavesBefore g old new
leaves_before g S old new out within = record {
  later = within.run.later;
  kept = within.run.kept;
  each = λ t c from to crash n below. (within.run.each t c from to crash).same n (out n below);
}

-- no call was made, and no block is loose
pub none_before : (g : Shape) (old : BlocksPast) → IsSynced old.file → LeavesBefore g old old
none_before g old synced = started old (λ c. (n : ℕ) → n < g.first → block c n ≡ block old.file.content n)
    (λ c crash n below. ap (λ (l : CrashFile). block l n) (crash_synced old.file c synced crash))

-- calls that only read, behind it
pub before_read : (g : Shape) (old mid new : BlocksPast) → LeavesBefore g old mid → OnlyReads mid new → LeavesBefore g old new
before_read g old mid new leaves reads = goes_on old mid new (λ c. (n : ℕ) → n < g.first → block c n ≡ block old.file.content n) leaves reads.time
    (λ c crash. at_end old mid (λ c. (n : ℕ) → n < g.first → block c n ≡ block old.file.content n) leaves c
    (subst (λ (f : BlockFile). IsCrashFile f c) reads.file crash))
