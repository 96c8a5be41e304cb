use Rattle.std.proofs.Common.{◌≡◌, ℕ, ◌<◌}
use Rattle.store_image_half.specs.Layout.{InPages}
use Rattle.store_image_half.specs.Steps.{WritesIn}
use Rattle.store_image_half.specs.Part.{HasPage}
use Rattle.store_image_half.proofs.whole.write_pages.Given as goal

abbrev pub invariant-loop-page : goal.invariant-loop-page
invariant-loop-page g l =
    let hist = g.D.Device.past_of in
    record {
      written : (p : ℕ) → p < l.page → HasPage l.fn.first (hist l.device).disk.content p (g.S.CellSource.cells l.source).rows;
      part : WritesIn (InPages l.fn.geometry l.fn.first) (hist l.initial.device) (hist l.device);
      failures : g.D.Device.failures l.device ≡ g.D.Device.failures l.initial.device;
    }
