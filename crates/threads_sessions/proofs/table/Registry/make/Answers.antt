use Rattle.std.proofs.Common.{rules, arith}
use Rattle.threads_sessions.proofs.Keeps.{deals, halves}
use Rattle.threads_sessions.proofs.table.Registry.make.Goals as goal

pub split_seat-seat-requires : goal.split_seat-seat-requires
split_seat-seat-requires g c = (search rules, omega arith, deals _ _ (search rules))

pub split_seat-other-requires : goal.split_seat-other-requires
split_seat-other-requires g c = (search rules, omega arith, halves _ _ (search rules))
