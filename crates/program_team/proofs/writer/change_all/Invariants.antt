use Rattle.std.proofs.Common.{◌≡◌}
use Rattle.program_team.specs.Private.{Tells}
use Rattle.program_team.proofs.writer.change_all.Given as goal

abbrev pub invariant-loop-number : goal.invariant-loop-number
invariant-loop-number g l = record {
  number : l.writer.seat.number ≡ l.fn.writer.seat.number;
  tells : Tells l.fn.writer.seat l.fn.writer.acks.items l.fn.writer.acknowledged.items → Tells l.writer.seat l.writer.acks.items l.writer.acknowledged.items;
}
