-- What a device over a file of blocks keeps from call to call. (No public clause cites this.)
use Rattle.std.specs.Prelude.{◌≡◌, ◌⊎◌, ℕ, ◌≤◌, true, false, length}
use Rattle.sector_device.specs.Disk.{IsCrashState}
use Rattle.block_device.specs.BlocksPast.{BlocksPast}
use Rattle.block_journal.specs.Journal.{KeepsBatch, LeavesBefore, OnlyReads}
use Rattle.block_journal.specs.Value.{LeavesEither}
use Rattle.block_table.specs.Checked.{CheckedValue, kept_table, settled_data, settled_table}
use Rattle.block_file.specs.declared.plan.Plan.{Plan}
use Rattle.block_file.specs.declared.parts.Held.{Held}
use Rattle.block_file.specs.declared.parts.DiskParts.{DiskParts}
use Rattle.block_file.specs.Plans.{IsPlan}
use Rattle.block_file.specs.Sectors.{sectors_of}
use Rattle.block_file.specs.Disks.{BeforeStays, CrashStandsNow, EachCrashStands, EachOffers, OffersOne, disk_of}
use Rattle.block_file.specs.Disks.{journal_in, moment_in, state_at}

-- What was put may have been committed: as the file stood before, or with all that was put.
pub record Moves {B : Type 0} (past_of : B → BlocksPast) (old new : CheckedValue B) : Type 0 where
  pub shape : new.journal.shape ≡ old.journal.shape
  pub blocks : new.blocks ≡ old.blocks
  pub settled : (settled_table past_of new ≡ settled_table past_of old)
      ⊎ (settled_table past_of new ≡ kept_table past_of old)
  pub any_moment : old.journal.has_failed ≡ false → LeavesEither past_of old.journal new.journal
  pub offers : OffersOne old.journal new.journal
  pub before : old.journal.has_failed ≡ false
      → LeavesBefore old.journal.shape (past_of old.journal.below) (past_of new.journal.below)
  pub holds : old.journal.has_failed ≡ false
      → KeepsBatch old.journal.shape old.journal.last (past_of old.journal.below) (past_of new.journal.below)
  pub refused : old.journal.has_failed ≡ true
      → OnlyReads (past_of old.journal.below) (past_of new.journal.below) × (new.journal.offered ≡ old.journal.offered)

module _ {B A : Type 0} (past_of : B → BlocksPast) where
  -- What was committed, and what a crash leaves of the file now, stand for crash states of the disk.
  pub record IsKept (p : Plan) (s : Held B A) : Type 0 where
    pub shape : (journal_in s).shape ≡ p.shape
    pub blocks : s.checked.blocks ≡ p.blocks
    pub settled : IsCrashState (disk_of past_of p s) (sectors_of p.lead p.sectors (settled_data past_of s.checked))
    pub now : CrashStandsNow past_of p s

  pub record IsSound (d : DiskParts B A) : Type 0 where
    pub plan : IsPlan d.plan
    pub kept : IsKept d.plan d.now
    pub rising : (j : ℕ) → j ≤ length d.past.items → moment_in past_of (state_at d j) ≤ moment_in past_of d.now
    pub each : EachCrashStands past_of d
    pub offers : EachOffers d
    pub before : BeforeStays past_of d
