use Rattle.program_team.proofs.team.work_on.Given as goal

abbrev pub ghosts-begin : goal.ghosts-begin
ghosts-begin g a = record { site = a.store.site }
