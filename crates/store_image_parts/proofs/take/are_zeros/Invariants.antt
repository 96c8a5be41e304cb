use Rattle.std.proofs.Common.{◌≡◌, ◌&&◌, eqb, drop}
use Rattle.store_image_parts.specs.Reading.{are_zeros}
use Rattle.store_image_parts.proofs.take.are_zeros.Given as goal

abbrev pub invariant-loop-byte : goal.invariant-loop-byte
invariant-loop-byte l = record {
  tested : are_zeros l.bytes ≡ (eqb l.any 0 && are_zeros (drop l.byte-index l.bytes));
}
