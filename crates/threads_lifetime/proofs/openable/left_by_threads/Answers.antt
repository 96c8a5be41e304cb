use Rattle.threads_lifetime.proofs.Again.{ended_again, flushed_again}
use Rattle.threads_lifetime.proofs.openable.left_by_threads.Goals as goal

pub returns-clause-flushed : goal.returns-clause-flushed
returns-clause-flushed c = λ o g handed floor image can pages places left. flushed_again o g image pages places handed floor can left

pub returns-clause-ended : goal.returns-clause-ended
returns-clause-ended c = λ o g seats popped floor image pages places some. ended_again o g image pages places seats popped floor some
