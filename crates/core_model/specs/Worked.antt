-- A script with its replies: a row is inserted while the index is built, its page is taken, and the insertion is
-- undone.
use Rattle.std.specs.Prelude.{List, [], ◌∷◌}
use Rattle.core_model.specs.Events.{Built, Done, Empty, Ended, Event, Rejected, Reply, Scanned, Standing, Txn}
use Rattle.core_model.specs.Events.{Undone}
use Rattle.core_model.specs.Example.{pair, place, row}

-- The builder's insertion of the pair is then rejected.

-- what is asked, each with its reply
abbrev pub script : List (Event × Reply)
script =
    (Event.Create, Reply.Ticketed 1)
    ∷ (Event.Begin, Txn 1)
    ∷ (Event.Insert 1 row, Reply.Rid place)
    ∷ (Event.Build, Built (Scanned 0))
    ∷ (Event.Undo 1, Undone)
    ∷ (Event.Undo 1, Undone)
    ∷ (Event.Undo 1, Empty)
    ∷ (Event.End 1, Ended)
    ∷ (Event.Build, Built (Rejected pair))
    ∷ (Event.Build, Built (Done 6))
    ∷ []

-- six records, no transaction
abbrev pub standing : Standing
standing = record { made = 6; begun = 1; active = 0; commits = 0; attempts = 1; all_attempts = 1; scanned = 0 }
