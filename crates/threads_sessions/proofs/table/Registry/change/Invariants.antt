use Rattle.threads_sessions.proofs.table.Registry.change.Given as goal

abbrev pub ghosts-show : goal.ghosts-show
ghosts-show g a = record { session = a.session.now }
