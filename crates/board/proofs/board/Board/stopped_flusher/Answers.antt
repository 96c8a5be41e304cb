use Rattle.std.proofs.Common.{rules, arith}
use Rattle.board.proofs.Keeps.{hears_stop}
use Rattle.board.proofs.board.Board.stopped_flusher.Goals as goal

pub load-requires : goal.load-requires
load-requires g c = (search rules, omega arith, hears_stop _ _ _)
