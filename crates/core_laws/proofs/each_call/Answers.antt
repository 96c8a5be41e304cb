use Rattle.core_laws.proofs.Standing.{begins, hands_on, replies}
use Rattle.core_laws.proofs.each_call.Goals as goal

pub returns-clause-begins : goal.returns-clause-begins
returns-clause-begins c = begins

pub returns-clause-replies : goal.returns-clause-replies
returns-clause-replies c = replies

pub returns-clause-hands_on : goal.returns-clause-hands_on
returns-clause-hands_on c = hands_on
