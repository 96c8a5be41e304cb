-- Devices in files of the system.
use Rattle.std.proofs.Common.{◌≡◌, ◌≢◌, ◌⊎◌, inl, inr, ℕ, ◌+◌, ◌^◌, List, [], false, Some, length, nat_lt, replicate, refl, sym, ◌∙◌, ap, subst, arith, ◌&&◌}
use Rattle.std.proofs.lemmas.Bool.{and_parts, ltb-true}
use Rattle.std.proofs.Math.ListN.{length-replicate}
use Rattle.block_device.specs.Blocks.{BlockFile, CrashFile, block, zero_block}
use Rattle.block_device.specs.BlocksPast.{WrittenBack}
use Rattle.block_journal.specs.Journal.{LeavesBefore, WritesBackFirst, WritesBackFrom}
use Rattle.block_journal.specs.Layout.{IsInside, kept_start, recovered}
use Rattle.block_table.specs.Table.{EachFits}
use Rattle.block_file.specs.Closing.{StandsAlone}
use Rattle.block_file.specs.Damage.{CanBeOpened}
use Rattle.block_file.specs.Disks.{disk_failed, disk_past, journal_in}
use Rattle.block_file.specs.Header.{CanBeTold, plan_told}
use Rattle.block_file.specs.Making.{WritesNewBack}
use Rattle.block_file.specs.Plans.{disk_image}
use Rattle.block_file.specs.Settling.{AreHandedOn, OpensUnder, StaysUnder}
use Rattle.block_file.specs.declared.opening.FileError.{FileError}
use Rattle.block_file.specs.declared.opening.FileError.TheVariants.{Damaged, FileFailed, NoBatch, NoHeader, NoMemory, TooShort}
use Rattle.block_file.specs.declared.parts.DiskParts.{DiskParts}
use Rattle.block_file.specs.declared.plan.Plan.{Plan}
use Rattle.block_host.specs.FileBlocks.{past_of, written_back_of}
use Rattle.block_host.specs.Opened.{IsOpened, IsRead, first_read}
use Rattle.block_host.specs.declared.error.DiskError.{DiskError}
use Rattle.block_host.specs.declared.error.DiskError.TheVariants as disk
use Rattle.block_host.specs.declared.error.DiskError.TheVariants.{File, Open}
use Rattle.block_host.specs.declared.mirror.FileBlocks.{FileBlocks}

-- what the file of a device was first is what it was as it was just read
file_first : {F A : Type 0} (b : FileBlocks F A) (d : DiskParts (FileBlocks F A) A) → (past_of b).moment ≡ 0
    → LeavesBefore d.plan.shape (past_of b) (past_of (journal_in d.now).below) → (past_of (journal_in d.now).below).file_at 0 ≡ (past_of b).file
file_first b d none before =
    before.kept 0 (omega arith) ∙ subst (λ (t : ℕ). (past_of b).file_at t ≡ (past_of b).file) none (past_of b).now

-- so it held the same
pub as_first : {F A : Type 0} (b : FileBlocks F A) (d : DiskParts (FileBlocks F A) A) → (past_of b).moment ≡ 0
    → LeavesBefore d.plan.shape (past_of b) (past_of (journal_in d.now).below) → first_read d ≡ (past_of b).file.content
as_first b d none before = ap (λ (f : BlockFile). f.content) (file_first b d none before)

-- a device that was opened in a file which was just read
module _ {F A : Type 0} (b : FileBlocks F A) (d : DiskParts (FileBlocks F A) A) (none : (past_of b).moment ≡ 0)
    (stays : StaysUnder (journal_in d.now).offered d.plan.shape (past_of b) (past_of (journal_in d.now).below))
    (before : LeavesBefore d.plan.shape (past_of b) (past_of (journal_in d.now).below)) where
  as_read : first_read d ≡ (past_of b).file.content
  as_read = as_first b d none before

  wrote_back : written_back_of b ≡ []
      → WritesBackFirst d.plan.shape (past_of b) (past_of (journal_in d.now).below) (written_back_of b) (written_back_of (journal_in d.now).below)
      → WritesBackFrom d.plan.shape ((past_of (journal_in d.now).below).file_at 0) 0 (past_of (journal_in d.now).below) []
      (written_back_of (journal_in d.now).below)
  wrote_back none_back wrote =
      let new = past_of (journal_in d.now).below in
      let now = written_back_of (journal_in d.now).below in
      subst (λ (f : BlockFile). WritesBackFrom d.plan.shape f 0 new [] now) (sym (file_first b d none before))
      (subst (λ (t : ℕ). WritesBackFrom d.plan.shape (past_of b).file t new [] now) none
      (subst (λ (l : List WrittenBack). WritesBackFirst d.plan.shape (past_of b) new l now) none_back wrote))

  pub opened : plan_told (past_of b).file.content ≡ Some d.plan → (disk_past past_of d).disk.content ≡ disk_image d.plan (past_of b).file.content
      → EachFits d.plan.blocks (recovered d.plan.shape (past_of b).file.content)
      → AreHandedOn d.plan.shape (past_of b).file.content (journal_in d.now).offered
      → (CanBeOpened d.plan (past_of b).file.content
      → OpensUnder (journal_in d.now).offered d.plan (past_of b) (past_of (journal_in d.now).below))
      → StandsAlone d.plan (past_of (journal_in d.now).below).file.content (disk_past past_of d).disk.content
      → ((n : ℕ) → (past_of (journal_in d.now).below).file.loose n ≡ false) → written_back_of b ≡ []
      → WritesBackFirst d.plan.shape (past_of b) (past_of (journal_in d.now).below) (written_back_of b) (written_back_of (journal_in d.now).below)
      → IsOpened d
  opened told content fits handed again alone safe none_back wrote = record {
    told = ap plan_told as_read ∙ told;
    content = content ∙ ap (disk_image d.plan) (sym as_read);
    fits = subst (λ (l : CrashFile). EachFits d.plan.blocks (recovered d.plan.shape l)) (sym as_read) fits;
    handed = subst (λ (l : CrashFile). AreHandedOn d.plan.shape l (journal_in d.now).offered) (sym as_read) handed;
    back = wrote_back none_back wrote;
    any_moment = λ t c from to crash honest.
        stays.each t c (omega (arith, none)) to crash honest ∙ ap (recovered d.plan.shape) (sym as_read);
    opens = λ can t c from to crash. (again (subst (CanBeOpened d.plan) as_read can)).each t c (omega (arith, none)) to crash;
    headers = λ t c from to crash n below. before.each t c (omega (arith, none)) to crash n below ∙ ap (λ (l : CrashFile). block l n) (sym as_read);
    alone = alone;
    safe = safe;
  }

-- one that is read alone
pub is_read : {F A : Type 0} (b : FileBlocks F A) (d : DiskParts (FileBlocks F A) A) → (past_of b).moment ≡ 0
    → LeavesBefore d.plan.shape (past_of b) (past_of (journal_in d.now).below) → plan_told (past_of b).file.content ≡ Some d.plan
    → (disk_past past_of d).disk.content ≡ disk_image d.plan (past_of b).file.content → disk_failed d ≡ false → IsRead d
is_read b d none before told content sound = record {
  told = ap plan_told (as_first b d none before) ∙ told;
  content = content ∙ ap (disk_image d.plan) (sym (as_first b d none before));
  sound = sound;
}

-- one that was made in a file which was just made
pub made_back : {F A : Type 0} (p : Plan) (b : FileBlocks F A) (d : DiskParts (FileBlocks F A) A) → (past_of b).moment ≡ 0 → written_back_of b ≡ []
    → WritesNewBack p (past_of b).moment (past_of (journal_in d.now).below) (written_back_of b) (written_back_of (journal_in d.now).below)
    → WritesNewBack p 0 (past_of (journal_in d.now).below) [] (written_back_of (journal_in d.now).below)
made_back p b d none none_back wrote =
    let new = past_of (journal_in d.now).below in
    let now = written_back_of (journal_in d.now).below in
    subst (λ (l : List WrittenBack). WritesNewBack p 0 new l now) none_back
    (subst (λ (t : ℕ). WritesNewBack p t new (written_back_of b) now) none wrote)

-- a file of zeros that has as many blocks as a plan asks for
pub has_room : (p : Plan) (image : CrashFile) (blocks : ℕ) → CanBeTold p → blocks ≡ kept_start p.shape + p.shape.kept → image ≡ replicate blocks zero_block
    → IsInside p.shape image
has_room p image blocks told count zeros =
    let one = and_parts (nat_lt p.sectors (2 ^ 60)) (nat_lt p.lead 8 && (nat_lt 2 p.shape.area && nat_lt p.shape.area 256)) told.can in
    let two = and_parts (nat_lt p.lead 8) (nat_lt 2 p.shape.area && nat_lt p.shape.area 256) one.1 in
    let three = and_parts (nat_lt 2 p.shape.area) (nat_lt p.shape.area 256) two.1 in
    record {
      some = omega (arith, ltb-true 2 p.shape.area three.0);
      few = omega (arith, ltb-true p.shape.area 256 three.1);
      room = omega (arith, count, ap length zeros, length-replicate blocks zero_block);
    }

-- what an error of a device says of the file, or else this
abbrev error_in : FileError → DiskError → FileError
error_in other (File e) = e
error_in other (Open e) = other
error_in other (disk.Damaged n) = other

not_made : (e : FileError) → e ≢ NoHeader → e ≢ TooShort → e ≢ NoBatch → ((n : ℕ) → e ≢ Damaged n) → (e ≡ NoMemory) ⊎ (e ≡ FileFailed)
not_made NoMemory header short batch damaged = inl refl
not_made FileFailed header short batch damaged = inr refl
not_made NoHeader header short batch damaged = absurd (header refl)
not_made TooShort header short batch damaged = absurd (short refl)
not_made NoBatch header short batch damaged = absurd (batch refl)
not_made (Damaged n) header short batch damaged = absurd (damaged n refl)

-- why none is made in it
pub why_none : (e error : FileError) → Path DiskError (File e) (File error) → e ≢ NoHeader → e ≢ TooShort → e ≢ NoBatch → ((n : ℕ) → e ≢ Damaged n)
    → (error ≡ NoMemory) ⊎ (error ≡ FileFailed)
why_none e error is header short batch damaged =
    subst (λ (x : FileError). (x ≡ NoMemory) ⊎ (x ≡ FileFailed)) (ap (error_in error) is) (not_made e header short batch damaged)
