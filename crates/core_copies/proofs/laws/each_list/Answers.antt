use Rattle.core_copies.proofs.Listed.{lists_begin, lists_go_on}
use Rattle.core_copies.proofs.Owned.{cells_shown}
use Rattle.core_copies.proofs.laws.each_list.Goals as goal

pub returns-clause-begins : goal.returns-clause-begins
returns-clause-begins c = lists_begin

pub returns-clause-goes_on : goal.returns-clause-goes_on
returns-clause-goes_on c = lists_go_on

pub returns-clause-shown : goal.returns-clause-shown
returns-clause-shown c = cells_shown
