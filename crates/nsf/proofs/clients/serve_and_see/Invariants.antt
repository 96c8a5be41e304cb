use Rattle.nsf.proofs.clients.serve_and_see.Given as goal

abbrev pub ghosts-begin : goal.ghosts-begin
ghosts-begin g a = record { site = a.store.site }
