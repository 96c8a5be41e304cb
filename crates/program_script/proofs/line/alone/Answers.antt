use Rattle.program_script.proofs.Cuts.{not_alone}
use Rattle.program_script.proofs.line.alone.Goals as goal

pub returns-in-Some : goal.returns-in-Some
returns-in-Some c = rw c.in-Some.is (not_alone c.args.command 32 c.in-Some.field-0.now)
