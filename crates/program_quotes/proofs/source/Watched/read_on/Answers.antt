use Rattle.program_quotes.proofs.SourceLemmas.{keeps_none}
use Rattle.program_quotes.proofs.source.Watched.read_on.Goals as goal

pub returns-in-Err-note-clause-bytes : goal.returns-in-Err-note-clause-bytes
returns-in-Err-note-clause-bytes g c =
    rw c.in-Err-note.ensures.source (keeps_none _ _ _ c.in-Err-note.ensures.none c.in-Ok.ensures.bytes.0)
