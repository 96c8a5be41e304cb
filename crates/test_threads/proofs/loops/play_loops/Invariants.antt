use Rattle.test_threads.proofs.loops.play_loops.Given as goal

abbrev pub ghosts-play_in : goal.ghosts-play_in
ghosts-play_in g a = record { site = a.store.site }
