use Rattle.std.specs.Prelude.{Some}
use Rattle.nsf.proofs.led.seat_all.Given as goal

abbrev pub ghosts-run_all : goal.ghosts-run_all
ghosts-run_all g a = record { begun = Some a.flush }
