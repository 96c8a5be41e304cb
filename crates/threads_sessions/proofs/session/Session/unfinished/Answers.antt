use Rattle.std.proofs.Common.{rules}
use Rattle.threads_sessions.proofs.session.Session.unfinished.Goals as goal

pub returns-in-Some : goal.returns-in-Some
returns-in-Some g c = search rules
