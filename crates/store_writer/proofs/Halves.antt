-- What becomes of what a half has where its log is written.
use Rattle.std.proofs.Common.{◌≡◌, ℕ, ◌+◌, ◌*◌, ◌≤◌, List, [], ◌∷◌, ◌++◌, length, sym, ap, subst, ◌∙◌, arith, length-append}
use Rattle.sector_device.specs.Disk.{CrashState, sector, SameOutside}
use Rattle.records.specs.RecordValue.{RecordValue}
use Rattle.record_values.specs.GeometryValue.{GeometryValue, sectors_of}
use Rattle.record_values.specs.declared.version.Version.TheVariants.{Two}
use Rattle.model.specs.Cells.{Cells, cells_after}
use Rattle.model.specs.Following.{AreFollowing}
use Rattle.model.proofs.CellsLaws.{cells_after-append}
use Rattle.model.proofs.FollowingLaws.{following-append}
use Rattle.gate_log.specs.Area.{HoldsGroups, records_of}
use Rattle.gate_log.proofs.Readings.{records_of_one_more, told_by_its_sectors}
use Rattle.flip_image.specs.declared.half.Half.{Half}
use Rattle.flip_image.specs.declared.half.Half.TheVariants.{A, B}
use Rattle.flip_image.specs.Layout.{InHalf, InHalfImage, log_first}
use Rattle.flip_image.specs.Store.{IsStore, HoldsImage}
use Rattle.flip_image.proofs.Sides.{behind_front, image_inside, log_inside, store_in_front}
use Rattle.store_image_half.proofs.Told.{stays}
use Rattle.store_reader.specs.Contents.{log_area}
use Rattle.store_writer.specs.Contents.{HalfHas}

-- two images have the same sectors where P holds
pub record SameIn (P : ℕ → Type 0) (image c : CrashState) : Type 0 where
  pub sectors : length c ≡ length image
  pub same : (n : ℕ) → P n → sector c n ≡ sector image n

pub in_from_outside : (P S : ℕ → Type 0) (image c : CrashState) → ((n : ℕ) → P n → ¬ S n) → SameOutside S image c → SameIn P image c
in_from_outside P S image c apart same = record { sectors = same.sectors; same = λ n inside. same.same n (apart n inside) }

-- both logs end within the store
pub log_room : (g : GeometryValue) (half : Half) → log_first g half + 8 * g.slots ≤ sectors_of g
log_room g A = omega arith
log_room g B = omega arith

module _ (g : GeometryValue) (half : Half) (image c : CrashState) where
  pub image_apart : SameIn (InHalfImage g half) image c → (base : ℕ) (cells : Cells) → HoldsImage g half image base cells → HoldsImage g half c base cells
  image_apart same base cells held = stays Two g _ image c same.same base cells held

  module _ (last : ℕ) (cells : Cells) (has : HalfHas g half image last cells) (same : SameIn (InHalfImage g half) image c) where
    -- the image is the same, and the log has the same groups
    pub same_groups : HoldsGroups (log_area g half) c has.groups → HalfHas g half c last cells
    same_groups held = record {
      base = has.base;
      copied = has.copied;
      imaged = image_apart same has.base has.copied has.imaged;
      groups = has.groups;
      held = held;
      following = has.following;
      last-is = has.last-is;
      cells-are = has.cells-are;
    }

    -- the image is the same, and the log has one group more
    pub one_group_more : (group : List RecordValue) → AreFollowing g.pages last cells group → HoldsGroups (log_area g half) c (has.groups ++ group ∷ [])
        → HalfHas g half c (last + length group) (cells_after cells group)
    one_group_more group follow held = record {
      base = has.base;
      copied = has.copied;
      imaged = image_apart same has.base has.copied has.imaged;
      groups = has.groups ++ group ∷ [];
      held = held;
      following = subst (AreFollowing g.pages has.base has.copied) (sym (records_of_one_more has.groups group))
          (following-append g.pages has.base has.copied (records_of has.groups) group has.following
          (subst (λ n. AreFollowing g.pages n (cells_after has.copied (records_of has.groups)) group) has.last-is
          (subst (λ (x : Cells). AreFollowing g.pages last x group) has.cells-are follow)));
      last-is = omega (arith, has.last-is, ap length (records_of_one_more has.groups group), length-append (records_of has.groups) group);
      cells-are = ap (λ (x : Cells). cells_after x group) has.cells-are ∙ sym (cells_after-append has.copied (records_of has.groups) group)
          ∙ ap (cells_after has.copied) (sym (records_of_one_more has.groups group));
    }

-- what a half has is told by its sectors
pub half_apart : (g : GeometryValue) (half : Half) (image c : CrashState) → SameIn (InHalf g half) image c → (last : ℕ) (cells : Cells)
    → HalfHas g half image last cells → HalfHas g half c last cells
half_apart g half image c same last cells has =
    same_groups g half image c last cells has (record { sectors = same.sectors; same = λ n inside. same.same n (image_inside g half n inside) })
    (told_by_its_sectors (log_area g half) image c has.groups same.sectors (λ n inside. same.same n (log_inside g half n inside)) has.held)

-- a store is told by the sectors in front of its halves, whatever is written into one
pub store_apart : (g : GeometryValue) (current half : Half) (image c : CrashState) → SameOutside (InHalf g half) image c → IsStore g current image
    → IsStore g current c
store_apart g current half image c same = store_in_front g current image c same.sectors (λ n few.
    same.same n (λ inside. omega (arith, few, behind_front g half n inside)))
