use Rattle.std.proofs.Common.{◌≡◌, ℕ, ◌<◌, Option, Some}
use Rattle.std.specs.Prelude.{slice_get}
use Rattle.record_values.specs.declared.pair.Pair.{Pair}
use Rattle.record_values.specs.declared.pair.Mark.{Mark}
use Rattle.store_image_half.specs.Layout.{cut}
use Rattle.store_image_half.specs.Steps.{IsEntryPlace}
use Rattle.store_image_half.proofs.whole.pieces_of.Given as goal

abbrev pub invariant-loop-j : goal.invariant-loop-j
invariant-loop-j l = (i : ℕ) (o : Option (Pair × Mark)) → i < l.j → slice_get l.entries i ≡ Some o → IsEntryPlace (cut l.bytes 64 i) o
