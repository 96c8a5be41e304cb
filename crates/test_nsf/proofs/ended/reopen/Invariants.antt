use Rattle.test_nsf.proofs.ended.reopen.Given as goal

abbrev pub ghosts-put_in : goal.ghosts-put_in
ghosts-put_in g a = record { site = a.store.site }
