use Rattle.std.proofs.Common.{refl}
use Rattle.store_image_parts.proofs.Zeros.{more_tested, all_tested}
use Rattle.store_image_parts.proofs.take.are_zeros.Goals as goal

pub loop-byte-init : goal.loop-byte-init
loop-byte-init c = record { tested = refl }

pub loop-byte-preserved : goal.loop-byte-preserved
loop-byte-preserved c = record
    { tested = more_tested c.args.bytes.now c.loop-byte.byte-index c.loop-byte.any c.loop-byte-test.true c.loop-byte.invariant.tested }

pub returns : goal.returns
returns c = all_tested c.args.bytes.now c.loop-byte.byte-index c.loop-byte.any c.loop-byte-test.false c.loop-byte.invariant.tested
