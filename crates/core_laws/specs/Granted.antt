-- Replies of events that were neither refused nor skipped.
use Rattle.core_model.specs.Events.{Refused, Reply, Skipped}

-- the event got what it asked for
abbrev pub IsGranted : Reply → Type 0
IsGranted (Refused error) = ⊥
IsGranted Skipped = ⊥
IsGranted _ = Unit {0}
