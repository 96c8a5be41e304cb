use Rattle.std.proofs.Common.{rules, arith}
use Rattle.board.proofs.Keeps.{sets_stop}
use Rattle.board.proofs.board.Board.stop.Goals as goal

pub store-requires : goal.store-requires
store-requires g c = (search rules, omega arith, sets_stop _ _ _ (search rules))
