use Rattle.std.proofs.Common.{◌≡◌, ◌≤◌, [], length, take, vec_capacity}
use Rattle.record_values.specs.GeometryValue.{GeometryValue}
use Rattle.headline.specs.Kept.{KeepsDays}
use Rattle.headline.specs.AtRest.{AtRest}
use Rattle.headline.proofs.daily.live_each_day.Given as goal

abbrev pub invariant-loop-day : goal.invariant-loop-day
invariant-loop-day g l = record {
  even : length l.answers.items ≡ l.day-index;
  room : length l.days ≤ vec_capacity l.answers;
  keeps : (size : GeometryValue) (began : AtRest) → KeepsDays {M = g.row.A.Denot} g.D.Device.past_of g.D.Device.failures size began [] [] l.fn.device
      → KeepsDays g.D.Device.past_of g.D.Device.failures size began (take l.day-index l.days) l.answers.items l.device;
}
