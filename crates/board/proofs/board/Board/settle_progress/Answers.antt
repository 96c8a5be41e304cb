use Rattle.std.proofs.Common.{rules, arith}
use Rattle.board.proofs.Keeps.{tells_seen, learns, compares, tells_built}
use Rattle.board.proofs.board.Board.settle_progress.Goals as goal

pub split_seat-seen-requires : goal.split_seat-seen-requires
split_seat-seen-requires g c = (search rules, omega arith, tells_seen _ _)

pub join_seat-requires : goal.join_seat-requires
join_seat-requires g c = (search rules, search rules, search rules, omega arith, learns _ _ _ _ (search rules))

pub load-requires : goal.load-requires
load-requires g c = (search rules, omega arith, compares _ _ _)

pub split_seat-published-requires : goal.split_seat-published-requires
split_seat-published-requires g c = (search rules, omega arith, tells_built _ _ (search rules))

pub join_seat-requires-2 : goal.join_seat-requires-2
join_seat-requires-2 g c = (search rules, search rules, search rules, omega arith, learns _ _ _ _ (search rules))

pub returns-clause-progress : goal.returns-clause-progress
returns-clause-progress g c = search rules
