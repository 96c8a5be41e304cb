use Rattle.threads_sessions.proofs.Keeps.{begins}
use Rattle.threads_sessions.proofs.table.Registry.new.Goals as goal

pub of_words-requires : goal.of_words-requires
of_words-requires g c = begins
