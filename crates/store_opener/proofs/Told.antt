-- What a store gives is told by its current half and by the sectors in front of the halves.
use Rattle.std.proofs.Common.{◌≡◌, inl, inr, ℕ, ◌≤◌, List, [], length, refl, sym, subst}
use Rattle.std.specs.FinMap.{len}
use Rattle.sector_device.specs.Disk.{CrashState, Disk, sector, IsSynced, SameOutside}
use Rattle.sector_device.proofs.Sectors.{crash_synced}
use Rattle.records.specs.RecordValue.{RecordValue}
use Rattle.record_values.specs.GeometryValue.{GeometryValue}
use Rattle.record_values.specs.declared.error.Error.{Error}
use Rattle.model.specs.Cells.{Cells}
use Rattle.model.specs.Given.{Given, opening_cells}
use Rattle.model.proofs.GivenLaws.{given_again}
use Rattle.gate_log.specs.Area.{HoldsGroups}
use Rattle.record_values.specs.declared.version.Version.TheVariants.{Two}
use Rattle.gate_log.proofs.Readings as log
use Rattle.store_image_half.proofs.Readings as images
use Rattle.flip_image.specs.declared.half.Half.{Half}
use Rattle.flip_image.specs.Layout.{InHalf, header_sector}
use Rattle.flip_image.specs.Store.{IsStore, HoldsImage}
use Rattle.flip_image.proofs.Sides.{image_inside, log_inside}
use Rattle.flip_image.proofs.Stores.{one_half}
use Rattle.flip_image.proofs.Stores as stores
use Rattle.store_reader.specs.Contents.{Gives, HoldsStore, IsUnreadable, log_area}
use Rattle.store_reader.proofs.Readings.{one_geometry, one_given, readable}
use Rattle.store_opener.specs.Reopening.{ReopeningLeaves, IsSpare, IsWrittenBack}

-- two images have the same sectors in a half
pub record SameHalf (g : GeometryValue) (half : Half) (image c : CrashState) : Type 0 where
  pub sectors : length c ≡ length image
  pub same : (n : ℕ) → InHalf g half n → sector c n ≡ sector image n

module _ (g : GeometryValue) (half : Half) (image c : CrashState) (same : SameHalf g half image c) where
  pub imaged_told : (base : ℕ) (cells : Cells) → HoldsImage g half image base cells → HoldsImage g half c base cells
  imaged_told base cells held = images.told_by_its_sectors Two g (header_sector g half) image c (λ n inside.
      same.same n (image_inside g half n inside)) base cells held

  pub groups_told : (groups : List (List RecordValue)) → HoldsGroups (log_area g half) image groups → HoldsGroups (log_area g half) c groups
  groups_told groups held = log.told_by_its_sectors (log_area g half) image c groups same.sectors (λ n inside. same.same n (log_inside g half n inside)) held

  holds_told : IsStore g half c → (base : ℕ) (cells : Cells) (records : List RecordValue) → HoldsStore image g half base cells records
      → HoldsStore c g half base cells records
  holds_told store base cells records holds = record {
    store = store;
    imaged = imaged_told base cells holds.imaged;
    groups = holds.groups;
    held = groups_told holds.groups holds.held;
    all = holds.all;
    following = holds.following;
  }

  -- where this half is current in both
  pub gives_told : IsStore g half image → IsStore g half c → (given : Given) → Gives image g given → Gives c g given
  gives_told before store given gives = record {
    half = half;
    base = gives.base;
    cells = gives.cells;
    records = gives.records;
    holds = holds_told store gives.base gives.cells gives.records
        (subst (λ (h : Half). HoldsStore image g h gives.base gives.cells gives.records)
        (one_half Two g g gives.half half image gives.holds.store before) gives.holds);
    recovered = gives.recovered;
    room = gives.room;
  }

-- the image of what was given, with an empty log, gives it again
pub gives_image : (image : CrashState) (g : GeometryValue) (half : Half) (given : Given) → IsStore g half image
    → HoldsImage g half image given.last (opening_cells given) → HoldsGroups (log_area g half) image [] → len given.entries ≤ g.entries → Gives image g given
gives_image image g half given store imaged held room = record {
  half = half;
  base = given.last;
  cells = opening_cells given;
  records = [];
  holds = record { store = store; imaged = imaged; groups = []; held = held; all = refl; following = tt };
  recovered = sym (given_again given);
  room = room;
}

-- what is written back gives whatever was given before
pub still_gives : (before image : CrashState) → IsWrittenBack before image → (g : GeometryValue) (given : Given) → Gives before g given → Gives image g given
still_gives before image back g given gave =
    subst (λ (h : GeometryValue). Gives image h given) (one_geometry Two before back.geometry g back.given given back.gave gave)
    (subst (λ (x : Given). Gives image back.geometry x) (one_given Two before back.geometry g back.given given back.gave gave) back.gives)

pub around : (before image : CrashState) → IsWrittenBack before image → (g : GeometryValue) (half : Half) → IsStore g half before
    → SameOutside (IsSpare g half) before image
around before image back g half store =
    subst (λ (h : GeometryValue). SameOutside (IsSpare h half) before image) (stores.one_geometry Two back.geometry g back.half half before back.store store)
    (subst (λ (h : Half). SameOutside (IsSpare back.geometry h) before image)
    (one_half Two back.geometry g back.half half before back.store store) back.outside)

pub spared : (before image : CrashState) (e : Error) → IsUnreadable before e → ¬ IsWrittenBack before image
spared before image e unreadable back = readable Two before back.geometry back.given e back.gave unreadable

pub synced_gives : (before : Disk) (image : CrashState) → IsSynced before → ReopeningLeaves before image → (g : GeometryValue) (given : Given)
    → Gives before.content g given → Gives image g given
synced_gives before image all (inl crash) g given gave = subst (λ (c : CrashState). Gives c g given) (sym (crash_synced before image all crash)) gave
synced_gives before image all (inr back) g given gave = still_gives before.content image back g given gave
