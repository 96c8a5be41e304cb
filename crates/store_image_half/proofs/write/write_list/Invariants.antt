use Rattle.std.proofs.Common.{◌≡◌, ◌⊎◌, ℕ, ◌<◌, Some, true, length}
use Rattle.std.specs.Prelude.{slice_get}
use Rattle.sector_device.specs.Disk.{SameOutside}
use Rattle.sector_device.specs.DevicePast.{RunsWithin}
use Rattle.records.specs.ChangeValue.{ChangeValue}
use Rattle.store_image_half.specs.Layout.{InList}
use Rattle.store_image_half.specs.Image.{IsItem, item_bytes, item_of}
use Rattle.store_image_half.proofs.write.write_list.Given as goal

abbrev pub invariant-loop-position : goal.invariant-loop-position
invariant-loop-position g l =
    let h = g.D.Device.past_of in
    let old = h l.initial.device in
    record {
      placed : (p : ℕ) (c : ChangeValue) → p < l.position → slice_get l.changes p ≡ Some c
          → IsItem l.fn.geometry (item_bytes (h l.device).disk.content l.fn.first l.fn.h p) (item_of c);
      outside : SameOutside (InList l.fn.first l.fn.h (length l.changes)) old.disk.content (h l.device).disk.content;
      within : RunsWithin (λ n. InList l.fn.first l.fn.h (length l.changes) n ⊎ (old.disk.unsynced n ≡ true)) old.disk.content old (h l.device);
      failures : g.D.Device.failures l.device ≡ g.D.Device.failures l.initial.device;
    }
