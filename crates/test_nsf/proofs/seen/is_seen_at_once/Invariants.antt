use Rattle.test_nsf.proofs.seen.is_seen_at_once.Given as goal

abbrev pub ghosts-do_in : goal.ghosts-do_in
ghosts-do_in g a = record { site = a.store.site }
