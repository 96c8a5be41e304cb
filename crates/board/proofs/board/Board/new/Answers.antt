use Rattle.std.proofs.Common.{rules, arith}
use Rattle.board.proofs.Keeps.{begins, cuts_builder, cuts_reader}
use Rattle.board.proofs.board.Board.new.Goals as goal

pub of_words-requires : goal.of_words-requires
of_words-requires g c = begins

pub split_seat-builder-requires : goal.split_seat-builder-requires
split_seat-builder-requires g c = let w = c.in_ok-table.ensures.0 in (search rules, omega arith, cuts_builder _ _ (search rules))

pub split_seat-reader-requires : goal.split_seat-reader-requires
split_seat-reader-requires g c = let w = c.in_ok-table.ensures.0 in (search rules, omega arith, cuts_reader _ _ (search rules) (search rules))
