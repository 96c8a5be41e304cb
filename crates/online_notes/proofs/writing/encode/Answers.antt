use Rattle.std.proofs.Common.{rules}
use Rattle.online_notes.proofs.writing.encode.Goals as goal

pub returns-in-EntryIs-default-Some-Marked-clause-ok :
    goal.returns-in-EntryIs-default-Some-Marked-clause-ok
returns-in-EntryIs-default-Some-Marked-clause-ok g c = search rules
