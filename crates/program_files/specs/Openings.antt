-- How the store on a disk is opened, once the length of the disk was compared with its own.
use Rattle.std.specs.Prelude.{◌≡◌, ◌⊎◌, ◌≤◌, length, ℕ}
use Rattle.record_values.specs.GeometryValue.{GeometryValue, sectors_of}
use Rattle.record_values.specs.declared.error.Error.{Error}
use Rattle.sector_device.specs.DevicePast.{DevicePast, OnlyReads, Rises}
use Rattle.flip_image.specs.Store.{IsStore}
use Rattle.flip_image.specs.declared.half.Half.{Half}
use Rattle.program_commands.specs.declared.store.Store.{Store}
use Rattle.program_commands.specs.Store.{IsRefusedOn, OpensOn}
use Rattle.program_files.specs.Lengths.{IsLonger}
use Rattle.program_files.specs.Refusals.{IsBecause}
use Rattle.program_files.specs.declared.refused.Refused.{Refused}
use Rattle.program_files.specs.declared.refused.Refused.TheVariants as refusal

module _ {D : Type 0} (past_of : D → DevicePast) (failures : D → ℕ) where
  -- The store was opened on the disk, which was only read before. If it has version 2 or 3, the disk is no longer than
  -- the store, unless the disk failed while it was read.
  pub record OpensWhole (disk : D) (store : Store D) : Type 0 where
    pub read : D
    pub reads : OnlyReads (past_of disk) (past_of read)
    pub fits : (g : GeometryValue) (half : Half) → IsStore g half (past_of disk).disk.content
        → (length (past_of disk).disk.content ≤ sectors_of g) ⊎ Rises (failures disk) (failures read)
    pub opens : OpensOn past_of read store

  -- A restart refuses the disk, which was only read before, by this error. If that is that the disk failed, a reason
  -- may be told in place of it.
  pub record IsRefusedAs (disk : D) (told : Refused) : Type 0 where
    pub read : D
    pub reads : OnlyReads (past_of disk) (past_of read)
    pub after : D
    pub error : Error
    pub refuses : IsRefusedOn past_of failures read after error
    pub because : IsBecause (refusal.Store error) told

  -- the disk is longer than a store that it begins with; or a restart refuses it
  abbrev pub IsUnopened : D → Refused → Type 0
  IsUnopened disk told = IsLonger (past_of disk).disk.content told ⊎ IsRefusedAs disk told
