use Rattle.test_threads.proofs.players.lead_chairs.Goals as goal

pub run_by_leaders-ran-requires-clause-begun : goal.run_by_leaders-ran-requires-clause-begun
run_by_leaders-ran-requires-clause-begun g c κs within = c.requires
