use Rattle.core_parts.proofs.Due.{stands}
use Rattle.nsf_core.proofs.laws.each_answer.Goals as goal

pub returns : goal.returns
returns c = stands
