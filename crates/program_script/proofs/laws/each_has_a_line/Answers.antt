use Rattle.program_script.proofs.Writing.{line_of}
use Rattle.program_script.proofs.laws.each_has_a_line.Goals as goal

pub returns : goal.returns
returns c = line_of
