use Rattle.std.specs.Prelude.{Some}
use Rattle.test_threads.proofs.players.play_chairs.Given as goal

abbrev pub ghosts-lead_chairs : goal.ghosts-lead_chairs
ghosts-lead_chairs g a = record { begun = Some a.loops.flush }
