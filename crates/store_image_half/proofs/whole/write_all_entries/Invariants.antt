use Rattle.std.proofs.Common.{◌≡◌, ℕ, ◌*◌, ◌<◌}
use Rattle.std.specs.Prelude.{slice_get}
use Rattle.std.specs.FinMap.{entries}
use Rattle.store_image_half.specs.Layout.{InEntries}
use Rattle.store_image_half.specs.Image.{entry_bytes}
use Rattle.store_image_half.specs.Source.{IsPassed}
use Rattle.store_image_half.specs.Steps.{IsEntryPlace, WritesIn}
use Rattle.store_image_half.proofs.whole.write_all_entries.Given as goal

abbrev pub invariant-loop-k : goal.invariant-loop-k
invariant-loop-k g l =
    let hist = g.D.Device.past_of in
    let all = entries (g.S.CellSource.cells l.source).entries in
    record {
      passed : 8 * l.k < l.fn.count → IsPassed all (8 * l.k) l.last;
      placed : (i : ℕ) → i < 8 * l.k → IsEntryPlace (entry_bytes l.fn.geometry (hist l.device).disk.content l.fn.first i) (slice_get all i);
      part : WritesIn (InEntries l.fn.geometry l.fn.first 0 l.fn.count) (hist l.initial.device) (hist l.device);
      failures : g.D.Device.failures l.device ≡ g.D.Device.failures l.initial.device;
    }
