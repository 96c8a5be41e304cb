use Rattle.std.proofs.Common.{rules, arith}
use Rattle.threads_sessions.proofs.Keeps.{hands_over, glues, halves}
use Rattle.threads_sessions.proofs.table.Registry.change.Goals as goal

pub split_seat-whole-requires : goal.split_seat-whole-requires
split_seat-whole-requires g c = (search rules, omega arith, hands_over _ _ (search rules))

pub join_seat-requires : goal.join_seat-requires
join_seat-requires g c = (search rules, search rules, search rules, omega arith, glues _ _ _ _ (search rules) (search rules) (search rules))

pub split_seat-requires : goal.split_seat-requires
split_seat-requires g c = (search rules, omega arith, halves _ _ (search rules))
