use Rattle.std.proofs.Common.{arith}
use Rattle.block_journal.proofs.Crash.{area_before_kept}
use Rattle.block_journal.proofs.reading.keep_area.Goals as goal

pub overflow_mul-start : goal.overflow_mul-start
overflow_mul-start g c = omega (arith, area_before_kept c.args.shape c.args.a c.requires.low, c.requires.small)

pub overflow_add-start : goal.overflow_add-start
overflow_add-start g c = omega (arith, area_before_kept c.args.shape c.args.a c.requires.low, c.requires.small)

pub keep-requires : goal.keep-requires
keep-requires g c = omega (arith, area_before_kept c.args.shape c.args.a c.requires.low, c.requires.inside.room)

pub returns : goal.returns
returns g c = record { past = c.keep.ensures.past; back = c.keep.ensures.back; back_err = c.keep.ensures.back_err; counts = c.keep.ensures.counts }
