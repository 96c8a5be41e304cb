use Rattle.online_notes.proofs.Bytes.{note_once}
use Rattle.online_notes.proofs.laws.one_note.Goals as goal

pub returns : goal.returns
returns c = note_once
