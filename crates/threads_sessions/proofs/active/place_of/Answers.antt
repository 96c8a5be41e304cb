use Rattle.threads_sessions.proofs.Lists.{found_at}
use Rattle.threads_sessions.proofs.active.place_of.Goals as goal

pub returns-clause-found : goal.returns-clause-found
returns-clause-found g c = found_at c.args.txn c.args.active.now _ c.index_of.ensures.place
