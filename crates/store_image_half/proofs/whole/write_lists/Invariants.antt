use Rattle.std.proofs.Common.{◌≡◌, ℕ, ◌<◌, List, Some}
use Rattle.std.specs.Prelude.{slice_get}
use Rattle.std.specs.FinMap.{entries}
use Rattle.records.specs.ChangeValue.{ChangeValue}
use Rattle.store_image_half.specs.Image.{HoldsList, InLists}
use Rattle.store_image_half.specs.Steps.{IsReached, WritesIn}
use Rattle.store_image_half.proofs.whole.write_lists.Given as goal

abbrev pub invariant-loop-h : goal.invariant-loop-h
invariant-loop-h g l =
    let hist = g.D.Device.past_of in
    let lists = entries (g.S.CellSource.cells l.source).pending in
    record {
      reached : IsReached lists l.h l.last;
      written : (k : ℕ) (list : ℕ × List ChangeValue) → k < l.h → slice_get lists k ≡ Some list
          → HoldsList l.fn.geometry l.fn.first (hist l.device).disk.content k list.1;
      part : WritesIn (InLists l.fn.first (g.S.CellSource.cells l.source)) (hist l.initial.device) (hist l.device);
      failures : g.D.Device.failures l.device ≡ g.D.Device.failures l.initial.device;
    }
