use Rattle.test_threads.proofs.runs.run_by_leaders.Goals as goal

pub run_led-requires-clause-begun : goal.run_led-requires-clause-begun
run_led-requires-clause-begun g c κs within = c.requires.begun
