use Rattle.std.proofs.Common.{to_z-of_z}
use Rattle.program_arguments.proofs.args.numbers.Goals as goal

pub returns : goal.returns
returns c =
    rw (c.value_parser.ensures, c.new.ensures.start, c.new.ensures.end, to_z-of_z c.ranges.least, to_z-of_z c.ranges.most) at c.range.ensures
