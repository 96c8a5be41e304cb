-- What is to become of an entry, and of entries after a plan.
use Rattle.std.specs.Prelude.{None, Option, Some, ◌≡◌}
use Rattle.record_values.specs.Entries.{Index}
use Rattle.record_values.specs.Maps.{set_at}
use Rattle.record_values.specs.declared.pair.Mark.{Mark as EntryMark}
use Rattle.record_values.specs.declared.pair.Mark.TheVariants.{Live, Marked}
use Rattle.record_values.specs.declared.pair.Pair.{Pair}
use Rattle.online_model.specs.World.{Change, Clean, IsPassed, Mark, Put, Step}
use Rattle.online_model.specs.declared.life.Life.{Life}
use Rattle.online_model.specs.declared.note.Note.{Note}
use Rattle.online_model.specs.declared.note.Note.TheVariants.{EntryIs, LifeIs}

-- what is set as the builder attempts a pair: a visible entry where there is none
abbrev pub attempt_plan : Pair → Option EntryMark → Option Note
attempt_plan p None = Some (EntryIs p (Some Live))
attempt_plan p (Some mark) = None

-- the cleaner may take the entry out
pub record IsCleaned (p : Pair) (present : Option EntryMark) (life : Life) : Type 0 where
  pub marked : present ≡ Some Marked
  pub passed : IsPassed life p

-- if anything is set, it is that the pair has no entry
abbrev pub clean_plan : Pair → Option Note → Option Note
clean_plan p None = None
clean_plan p (Some note) = Some (EntryIs p None)

-- the entries once a note was set, if there is one
abbrev pub set_in : Index → Option Note → Index
set_in m None = m
set_in m (Some (EntryIs p mark)) = set_at m p mark
set_in m (Some (LifeIs life)) = m

-- a step of the host, in which the builder has no part: a mark, a change of a row, a put, a cleaning
abbrev pub IsOfHost : Step → Type 0
IsOfHost (Mark p) = Unit {0}
IsOfHost (Change r key) = Unit {0}
IsOfHost (Put p) = Unit {0}
IsOfHost (Clean p) = Unit {0}
IsOfHost e = ⊥
