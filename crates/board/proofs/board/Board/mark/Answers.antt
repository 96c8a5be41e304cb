use Rattle.std.proofs.Common.{rules, arith}
use Rattle.board.proofs.Keeps.{reads_mark}
use Rattle.board.proofs.board.Board.mark.Goals as goal

pub load-requires : goal.load-requires
load-requires g c = (search rules, omega arith, reads_mark _ _ _)
