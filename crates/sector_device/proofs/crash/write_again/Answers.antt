use Rattle.std.proofs.Common.{arith}
use Rattle.sector_device.proofs.Again.{set_whole, marked, none_set, none_marked}
use Rattle.sector_device.proofs.crash.write_again.Goals as goal

pub returns-then-content-at-clause-content : goal.returns-then-content-at-clause-content
returns-then-content-at-clause-content c = none_set c.args.content.now c.args.at c.args.bytes.now (omega (arith, c.if-content-at.true))

pub returns-then-content-at-clause-marks : goal.returns-then-content-at-clause-marks
returns-then-content-at-clause-marks c = none_marked c.args.marks.now c.args.at (omega (arith, c.if-content-at.true, c.requires))

pub returns-clause-marks : goal.returns-clause-marks
returns-clause-marks c = marked c.args.marks.now c.args.at

pub returns-clause-whole : goal.returns-clause-whole
returns-clause-whole c = set_whole c.args.content.now c.args.at c.sector_of.result c.sector_of.ensures.whole
