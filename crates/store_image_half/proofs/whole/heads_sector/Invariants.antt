use Rattle.std.proofs.Common.{◌≡◌, ℕ, ◌<◌, List, Some}
use Rattle.std.specs.Prelude.{slice_get}
use Rattle.std.specs.Option.{option_map}
use Rattle.std.specs.FinMap.{entries}
use Rattle.records.specs.ChangeValue.{ChangeValue}
use Rattle.records.specs.Spelling.{IsTxn}
use Rattle.store_image_parts.specs.Spelling.{head}
use Rattle.store_image_half.specs.Layout.{cut}
use Rattle.store_image_half.specs.Image.{head_of}
use Rattle.store_image_half.specs.Steps.{IsReached}
use Rattle.store_image_half.proofs.whole.heads_sector.Given as goal

abbrev pub invariant-loop-k : goal.invariant-loop-k
invariant-loop-k g l =
    let lists = entries (g.S.CellSource.cells l.source).pending in
    record {
      reached : IsReached lists l.k l.last;
      spelled : (i : ℕ) → i < l.k → cut l.bytes 32 i ≡ head (option_map head_of (slice_get lists i));
      txns : (i : ℕ) (list : ℕ × List ChangeValue) → i < l.k → slice_get lists i ≡ Some list → IsTxn list.0;
    }
