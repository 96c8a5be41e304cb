use Rattle.std.proofs.Common.{rules, arith}
use Rattle.board.proofs.Keeps.{tells_seen, learns, compares, tells_flushed}
use Rattle.board.proofs.board.Board.settle.Goals as goal

pub split_seat-seen-requires : goal.split_seat-seen-requires
split_seat-seen-requires g c = (search rules, omega arith, tells_seen _ _)

pub join_seat-requires : goal.join_seat-requires
join_seat-requires g c = (search rules, search rules, search rules, omega arith, learns _ _ _ _ (search rules))

pub load-requires : goal.load-requires
load-requires g c = (search rules, omega arith, compares _ _ _)

pub split_seat-published-requires : goal.split_seat-published-requires
split_seat-published-requires g c = (search rules, omega arith, tells_flushed _ _ (search rules))

pub join_seat-requires-2 : goal.join_seat-requires-2
join_seat-requires-2 g c = (search rules, search rules, search rules, omega arith, learns _ _ _ _ (search rules))

pub returns-clause-horizon : goal.returns-clause-horizon
returns-clause-horizon g c = search rules

pub returns-clause-noted : goal.returns-clause-noted
returns-clause-noted g c = search rules

pub returns-clause-failed : goal.returns-clause-failed
returns-clause-failed g c = search rules
