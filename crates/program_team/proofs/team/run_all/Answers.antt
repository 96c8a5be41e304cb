use Rattle.std.proofs.Common.{ap}
use Rattle.shared.specs.Seats.{SeatValue}
use Rattle.program_team.proofs.team.run_all.Goals as goal

pub run_led-requires-clause-begun : goal.run_led-requires-clause-begun
run_led-requires-clause-begun g c κs within = c.requires.begun

pub returns-in-Ok-clause-last : goal.returns-in-Ok-clause-last
returns-in-Ok-clause-last g c = ap (λ (s : SeatValue). s.number) c.another_view-view.ensures.seat

pub returns-in-Err-clause-last : goal.returns-in-Err-clause-last
returns-in-Err-clause-last g c = ap (λ (s : SeatValue). s.number) c.another_view-view.ensures.seat
