-- What a device over a file of blocks holds, and what a crash leaves of the file.
use Rattle.std.specs.Prelude.{◌≡◌, ◌⊎◌, ℕ, ◌+◌, ◌<◌, Bool, false, ◌||◌, ◌==◌, List, [], ◌∷◌, ◌++◌, length}
use Rattle.std.specs.Prelude.{slice_index_or, Some}
use Rattle.std.proofs.Common.{ap, le_refl}
use Rattle.std.proofs.lemmas.List.{get_or_past}
use Rattle.sector_device.specs.Disk.{Disk, IsCrashState}
use Rattle.sector_device.specs.DevicePast.{DevicePast}
use Rattle.block_device.specs.Blocks.{CrashFile, IsCrashFile, block}
use Rattle.block_device.specs.BlocksPast.{BlocksPast, Between}
use Rattle.block_batch.specs.Batch.{Batch}
use Rattle.block_journal.specs.Journal.{OnlyReads}
use Rattle.block_journal.specs.Layout.{IsHonest}
use Rattle.block_journal.specs.Value.{JournalValue, failures_of, next_batch}
use Rattle.block_table.specs.Checked.{CheckedValue, data_now, kept_table, settled_table}
use Rattle.block_file.specs.declared.plan.Plan.{Plan}
use Rattle.block_file.specs.declared.parts.Held.{Held}
use Rattle.block_file.specs.declared.parts.DiskParts.{DiskParts}
use Rattle.block_file.specs.Header.{plan_told}
use Rattle.block_file.specs.Plans.{disk_image}
use Rattle.block_file.specs.Sectors.{sectors_of, sectors_are_whole}

-- whether sector k is one of these
abbrev pub is_one_of : List ℕ → ℕ → Bool
is_one_of [] k = false
is_one_of (n ∷ sectors) k = (k == n) || is_one_of sectors k

-- Under the premise, the crash file of the file stands for a crash state of this disk.
abbrev pub StandsForCrash : Plan → List Batch → Disk → CrashFile → Type 0
StandsForCrash p offered disk image = IsHonest offered p.shape image → IsCrashState disk (disk_image p image)

-- of these batches one more was handed to be written, which a commit makes, or none
abbrev pub OffersOne : {B : Type 0} → JournalValue B → JournalValue B → Type 0
OffersOne old new = (new.offered ≡ old.offered) ⊎ (new.offered ≡ old.offered ++ next_batch old ∷ [])

module _ {B A : Type 0} where
  -- the journal in a state
  abbrev pub journal_in : Held B A → JournalValue B
  journal_in s = s.checked.journal

  -- where the file has its sectors, the journal now, and the file of blocks
  abbrev pub disk_plan : DiskParts B A → Plan
  disk_plan d = d.plan

  abbrev pub disk_journal : DiskParts B A → JournalValue B
  disk_journal d = journal_in d.now

  abbrev pub disk_file : DiskParts B A → B
  disk_file d = (journal_in d.now).below

  -- what it holds now, and the checked blocks in that
  abbrev pub disk_state : DiskParts B A → Held B A
  disk_state d = d.now

  abbrev pub disk_blocks : DiskParts B A → CheckedValue B
  disk_blocks d = d.now.checked

  -- whether a commit has failed
  abbrev pub disk_failed : DiskParts B A → Bool
  disk_failed d = (journal_in d.now).has_failed

  -- the number of the batch that was committed last
  abbrev pub disk_number : DiskParts B A → ℕ
  disk_number d = (journal_in d.now).last.number

  -- the t-th state: one of those that were, or the last one
  abbrev pub state_at : DiskParts B A → ℕ → Held B A
  state_at d t = slice_index_or d.past.items t d.now

  -- THE LAW: From one moment of the disk to the next one at most one batch is handed to be written: the one that was
  -- gathered.
  abbrev pub EachOffers : DiskParts B A → Type 0
  EachOffers d = (j : ℕ) → j < length d.past.items
      → OffersOne (journal_in (state_at d j)) (journal_in (state_at d (j + 1)))

  -- how many calls have failed: of the file, and reads of a block that was damaged
  abbrev pub disk_failures : (B → ℕ) → DiskParts B A → ℕ
  disk_failures failures d = failures_of failures (journal_in d.now) + d.damaged

  module _ (past_of : B → BlocksPast) where
    -- the disk in a state
    abbrev pub disk_of : Plan → Held B A → Disk
    disk_of p s = record {
      content = sectors_of p.lead p.sectors (data_now past_of s.checked);
      unsynced = is_one_of s.written.items;
    }

    -- the disk as it is, and as it was before each of its calls
    abbrev pub disk_past : DiskParts B A → DevicePast
    disk_past d = record {
      disk = disk_of d.plan d.now;
      moment = length d.past.items;
      disk_at = λ t. disk_of d.plan (state_at d t);
      now = ap (disk_of d.plan) (get_or_past d.past.items (length d.past.items) d.now (le_refl (length d.past.items)));
      whole = sectors_are_whole d.plan.lead d.plan.sectors (data_now past_of d.now.checked);
    }

    -- the table and the data: with what was put since the last commit, and as that left them
    abbrev pub disk_table : DiskParts B A → CrashFile
    disk_table d = kept_table past_of d.now.checked

    abbrev pub disk_settled : DiskParts B A → CrashFile
    disk_settled d = settled_table past_of d.now.checked

    -- which moment of the file it was in a state
    abbrev pub moment_in : Held B A → ℕ
    moment_in s = (past_of (journal_in s).below).moment

    -- THE LAW: From the j-th moment of the disk to the next one, whatever a crash leaves of the file stands, under the
    -- premise, for a crash state of the disk at that moment.
    abbrev pub EachCrashStands : DiskParts B A → Type 0
    EachCrashStands d = (j : ℕ) → j < length d.past.items → Between (past_of (journal_in d.now).below).file_at
        (moment_in (state_at d j)) (moment_in (state_at d (j + 1)))
        (StandsForCrash d.plan (journal_in (state_at d (j + 1))).offered (disk_of d.plan (state_at d j)))

    -- and so for what a crash leaves now
    abbrev pub CrashStandsNow : Plan → Held B A → Type 0
    CrashStandsNow p s = (image : CrashFile) → IsCrashFile (past_of (journal_in s).below).file image
        → StandsForCrash p (journal_in s).offered (disk_of p s) image

    -- what the file held as the disk was opened
    abbrev pub first_content : DiskParts B A → CrashFile
    first_content d = (past_of (journal_in (state_at d 0)).below).file.content

    -- whatever a crash leaves since the disk was opened has P
    abbrev pub SinceOpened : DiskParts B A → (CrashFile → Type 0) → Type 0
    SinceOpened d P = Between (past_of (journal_in d.now).below).file_at (moment_in (state_at d 0)) (moment_in d.now) P

    -- THE LAW: Whatever a crash leaves since the disk was opened has the blocks before the journal as they were then;
    abbrev pub BeforeStays : DiskParts B A → Type 0
    BeforeStays d = SinceOpened d
        (λ image. (n : ℕ) → n < d.plan.shape.first → block image n ≡ block (first_content d) n)

    -- and so it tells where the disk is, if the file did then.
    abbrev pub TellsStill : DiskParts B A → Type 0
    TellsStill d = plan_told (first_content d) ≡ Some d.plan → SinceOpened d (λ image. plan_told image ≡ Some d.plan)

    -- A call only read: nothing was put or written, and what is known of the journal stays.
    pub record ReadsAlone (old new : DiskParts B A) : Type 0 where
      pub plan : disk_plan new ≡ disk_plan old
      pub table : disk_table new ≡ disk_table old
      pub journal : disk_journal new ≡ record (disk_journal old) {
        below = disk_file new;
        refused = (disk_journal new).refused;
      }
      pub file : OnlyReads (past_of (disk_file old)) (past_of (disk_file new))
