-- What is restored of a store.
use Rattle.model.specs.Given.{Given}
use Rattle.store_reader.specs.declared.restored.Restored.{Restored}

-- as what a store gives
abbrev pub given_in : {A : Type 0} → Restored A → Given
given_in found = record { table = found.rows; entries = found.entries; life = found.life; last = found.last }
