use Rattle.std.proofs.Common.{◌≡◌, ◌⊎◌, ℕ, ◌+◌, ◌<◌, true}
use Rattle.sector_device.specs.Disk.{sector, SameOutside}
use Rattle.sector_device.specs.DevicePast.{RunsWithin}
use Rattle.store_image_half.specs.Layout.{page_at, InPage}
use Rattle.store_image_half.proofs.write.write_page.Given as goal

abbrev pub invariant-loop-k : goal.invariant-loop-k
invariant-loop-k g l =
    let h = g.D.Device.past_of in
    let old = h l.initial.device in
    record {
      written : (j : ℕ) → j < l.k → sector (h l.device).disk.content (page_at l.first l.page + j) ≡ sector l.sectors j;
      outside : SameOutside (InPage l.first l.page) old.disk.content (h l.device).disk.content;
      within : RunsWithin (λ n. InPage l.first l.page n ⊎ (old.disk.unsynced n ≡ true)) old.disk.content old (h l.device);
      failures : g.D.Device.failures l.device ≡ g.D.Device.failures l.initial.device;
    }
