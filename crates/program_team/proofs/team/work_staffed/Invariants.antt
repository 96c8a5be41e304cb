use Rattle.std.specs.Prelude.{Some}
use Rattle.program_team.proofs.team.work_staffed.Given as goal

abbrev pub ghosts-run_all : goal.ghosts-run_all
ghosts-run_all g a = record { begun = Some a.loops.flush }
