use Rattle.threads_lifetime.specs.Gathered.{sessions_of}
use Rattle.threads_lifetime.proofs.gather.gather_commits.Goals as goal

pub returns-clause-ok : goal.returns-clause-ok
returns-clause-ok g c = λ count all. c.in_ok-gathered.ensures.ok (sessions_of c.args.seats.items) count c.in_ok-lists.ensures.lists all
