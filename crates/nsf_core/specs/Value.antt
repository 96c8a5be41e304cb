-- What contracts see of a core.
use Rattle.core_parts.specs.View.{CoreValue}
use Rattle.core_parts.specs.Parts.{parts_of}
use Rattle.nsf_core.specs.declared.store.Core.{Core}

-- what contracts see of it
abbrev pub value_of : {A : Type 0} → Core A → CoreValue
value_of c = parts_of c.parts
