-- What an index that was dropped hands to its caller.
use Rattle.record_values.specs.Entries.{Index}
use Rattle.marked_index.specs.Contents.{contents}
use Rattle.core_parts.specs.declared.parts.Detached.{Detached}

-- the entries that it had, with their marks
abbrev pub entries_of : {A : Type 0} → Detached A → Index
entries_of dropped = contents dropped.entries
