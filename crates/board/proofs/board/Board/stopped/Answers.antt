use Rattle.std.proofs.Common.{rules, arith}
use Rattle.board.proofs.Keeps.{reads_stop}
use Rattle.board.proofs.board.Board.stopped.Goals as goal

pub load-requires : goal.load-requires
load-requires g c = (search rules, omega arith, reads_stop _ _ _ (search rules))
