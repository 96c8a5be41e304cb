use Rattle.std.proofs.Common.{rules, arith}
use Rattle.board.proofs.Keeps.{raises_progress}
use Rattle.board.proofs.board.Board.raise_progress.Goals as goal

pub fetch_max-requires : goal.fetch_max-requires
fetch_max-requires g c = (search rules, omega arith, raises_progress _ _ _ _ (search rules))
