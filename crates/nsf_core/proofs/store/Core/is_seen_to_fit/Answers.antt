use Rattle.std.proofs.Common.{sym, ◌∙◌}
use Rattle.std.proofs.lemmas.Bool.{false≢true}
use Rattle.nsf_core.proofs.store.Core.is_seen_to_fit.Goals as goal

pub note_entries-requires : goal.note_entries-requires
note_entries-requires g c = record {
  complete = c.in-Complete.is;
  noted = λ r few on. let noted = rw c.deref_mut.ensures.value at on in absurd (false≢true (sym (c.in-Ok.ensures _) ∙ noted));
}

pub returns : goal.returns
returns g c = λ is. (c.note_entries.ensures.stand c.if-not-note_entries.false, c.are_all_noted.ensures is)

pub returns-in_default : goal.returns-in_default
returns-in_default g c = λ is. absurd (false≢true is)
