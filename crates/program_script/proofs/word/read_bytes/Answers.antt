use Rattle.program_script.proofs.ShellLines.{given_by, none_given}
use Rattle.program_script.proofs.word.read_bytes.Goals as goal

pub returns-clause-given : goal.returns-clause-given
returns-clause-given c = given_by c.args.word.now c.in_ok-found.found c.in_ok-found.ensures

pub returns-clause-none : goal.returns-clause-none
returns-clause-none c = none_given c.args.word.now c.in_ok-found.found c.in_ok-found.ensures
