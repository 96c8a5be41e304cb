use Rattle.core_laws.proofs.Answered.{answer_alike, answer_reply}
use Rattle.core_laws.proofs.one_answer.Goals as goal

pub returns-clause-reply : goal.returns-clause-reply
returns-clause-reply c = answer_reply

pub returns-clause-value : goal.returns-clause-value
returns-clause-value c = answer_alike
