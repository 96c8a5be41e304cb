use Rattle.std.proofs.Common.{rules, arith}
use Rattle.board.proofs.Keeps.{cuts_view}
use Rattle.board.proofs.board.Board.another.Goals as goal

pub split_seat-seat-requires : goal.split_seat-seat-requires
split_seat-seat-requires g c = (search rules, omega arith, cuts_view _ _ (search rules))
