use Rattle.std.proofs.Common.{rules, arith}
use Rattle.board.proofs.Keeps.{notes_mark, raises_horizon}
use Rattle.board.proofs.board.Board.publish.Goals as goal

pub store-requires : goal.store-requires
store-requires g c = (search rules, omega arith, notes_mark _ _ _ _ (search rules))

pub fetch_max-before-requires : goal.fetch_max-before-requires
fetch_max-before-requires g c = (search rules, omega arith, raises_horizon _ _ _ _ (search rules))

pub returns : goal.returns
returns g c = search rules
