use Rattle.std.proofs.Common.{◌≡◌, ◌⊎◌, ℕ, ◌+◌, ◌*◌, ◌<◌, true, length}
use Rattle.std.specs.Prelude.{slice_get}
use Rattle.sector_device.specs.Disk.{SameOutside}
use Rattle.sector_device.specs.DevicePast.{RunsWithin}
use Rattle.store_image_half.specs.Layout.{InEntries}
use Rattle.store_image_half.specs.Image.{entry_bytes}
use Rattle.store_image_half.specs.Steps.{IsEntryPlace}
use Rattle.store_image_half.proofs.write.write_entries.Given as goal

abbrev pub invariant-loop-k : goal.invariant-loop-k
invariant-loop-k g l =
    let h = g.D.Device.past_of in
    let old = h l.initial.device in
    record {
      placed : (i : ℕ) → i < 8 * l.k → IsEntryPlace (entry_bytes l.fn.geometry (h l.device).disk.content l.fn.first (l.fn.start + i)) (slice_get l.entries i);
      outside : SameOutside (InEntries l.fn.geometry l.fn.first l.fn.start (length l.entries)) old.disk.content (h l.device).disk.content;
      within : RunsWithin (λ n. InEntries l.fn.geometry l.fn.first l.fn.start (length l.entries) n
          ⊎ (old.disk.unsynced n ≡ true)) old.disk.content old (h l.device);
      failures : g.D.Device.failures l.device ≡ g.D.Device.failures l.initial.device;
    }
