-- An image of a store has room for what the store gives.
use Rattle.std.proofs.Common.{ℕ, ◌+◌, All, length, sym, ap, subst, arith}
use Rattle.std.specs.FinMap as map
use Rattle.sector_device.specs.Disk.{CrashState}
use Rattle.record_values.specs.declared.version.Version.{Version}
use Rattle.record_values.specs.GeometryValue.{GeometryValue}
use Rattle.records.specs.Spelling.{Fits}
use Rattle.model.specs.Cells.{Cells, cells_after}
use Rattle.model.specs.Given.{Given, opening_cells}
use Rattle.model.specs.Inside.{IsGivenInside}
use Rattle.model.proofs.InsideLaws.{after_inside, recovered_inside}
use Rattle.store_image_half.specs.Image.{no_cells}
use Rattle.store_image_half.specs.Source.{FitsImage}
use Rattle.flip_image.specs.Layout.{header_sector_in}
use Rattle.store_reader.specs.Contents.{GivesIn}
use Rattle.store_reader.proofs.Inside.{inside, lists_slotted}
use Rattle.store_reader.proofs.Slots.{AreRowsSlotted, AreSlotted, after_slotted, groups_fit, recovered_slotted}

module _ (v : Version) (image : CrashState) (g : GeometryValue) (given : Given) (gives : GivesIn v image g given) where
  abbrev first : ℕ
  first = header_sector_in v g gives.half

  abbrev left : Cells
  left = cells_after gives.cells gives.records

  left_slotted : AreSlotted left
  left_slotted = after_slotted gives.cells gives.records
      (subst (All Fits) (sym gives.holds.all) (groups_fit v gives.holds.groups (λ slot below. (gives.holds.held.opened slot below).1.each)))
      (λ q r found. (gives.holds.imaged.within q r found).1, λ txn. lists_slotted v g first image gives.base gives.cells gives.holds.imaged txn)

  slotted : AreRowsSlotted given.table
  slotted = subst AreRowsSlotted (sym (ap (λ (x : Given). x.table) gives.recovered)) (recovered_slotted left left_slotted)

  given_inside : IsGivenInside g.pages given
  given_inside = subst (IsGivenInside g.pages) (sym gives.recovered)
      (recovered_inside g.pages left (gives.base + length gives.records)
      (after_inside g.pages gives.base gives.cells gives.records gives.holds.following (inside v g first image gives.base gives.cells gives.holds.imaged)))

  pub fits : FitsImage g no_cells → FitsImage g (opening_cells given)
  fits none = record {
    inside = record { rows = given_inside.rows; entries = given_inside.entries; changes = none.inside.changes; life = given_inside.life };
    slots = slotted;
    room = omega (arith, gives.room, map.len-entries given.entries);
    txns = none.txns;
    changes = none.changes;
    placed = none.placed;
  }
