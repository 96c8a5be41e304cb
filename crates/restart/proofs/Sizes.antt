-- No step changes how large the store is.
use Rattle.std.proofs.Common.{◌≡◌, ℕ, Bool, true, false, Option, None, Some, refl}
use Rattle.records.specs.ChangeValue.{ChangeValue}
use Rattle.record_values.specs.declared.pair.Pair.{Pair}
use Rattle.core_model.specs.Changes.{Changes, Unchanged, new_pair, old_pair, ◌▹◌}
use Rattle.core_model.specs.States.{Active, Made, NewMarked, OldMarked, OldSet, Phase, RowSet, State}
use Rattle.core_model.specs.Steps.{Attempt, Begin, Checkpoint, Clean, Commit, Create, Drop, End, Finish, Keep, MachineStep, Next, Start, Take, Undo, Wrap}
use Rattle.core_model.specs.Steps.{after, carried_on, is_indexed, started, txn_at, undone, undone_first}
use Rattle.core_model.specs.Replies.{after_any}

-- of the same pages, with as many places for entries
pub record AreOfOneSize (s new : State) : Type 0 where
  pub pages : new.pages ≡ s.pages
  pub places : new.places ≡ s.places

by_start : (s : State) (t : ℕ) (x : Active) (c : ChangeValue) (o : Option Pair) → AreOfOneSize s (started s t x c o)
by_start s t x c None = record { pages = refl; places = refl }
by_start s t x c (Some p) = record { pages = refl; places = refl }

by_next : (s : State) (t : ℕ) (x : Active) (changes : Changes) (phase : Phase) → AreOfOneSize s (carried_on s t x changes phase)
by_next s t x Unchanged phase = record { pages = refl; places = refl }
by_next s t x (older ▹ c) OldMarked = record { pages = refl; places = refl }
by_next s t x (older ▹ c) RowSet = record { pages = refl; places = refl }
by_next s t x (older ▹ c) Made = record { pages = refl; places = refl }
by_next s t x (older ▹ c) (NewMarked applied) = record { pages = refl; places = refl }
by_next s t x (older ▹ c) OldSet = record { pages = refl; places = refl }

by_first : (s : State) (t : ℕ) (x : Active) (c : ChangeValue) (older : Changes) (applied : Bool) (o : Option Pair)
    → AreOfOneSize s (undone_first s t x c older applied o)
by_first s t x c older applied None = record { pages = refl; places = refl }
by_first s t x c older applied (Some p) = record { pages = refl; places = refl }

by_undo : (s : State) (t : ℕ) (x : Active) (changes : Changes) (phase : Phase) → AreOfOneSize s (undone s t x changes phase)
by_undo s t x Unchanged phase = record { pages = refl; places = refl }
by_undo s t x (older ▹ c) OldMarked = by_first s t x c older false (new_pair (is_indexed s.life) c)
by_undo s t x (older ▹ c) RowSet = by_first s t x c older true (new_pair (is_indexed s.life) c)
by_undo s t x (older ▹ c) Made = by_first s t x c older true (new_pair (is_indexed s.life) c)
by_undo s t x (older ▹ c) (NewMarked applied) = record { pages = refl; places = refl }
by_undo s t x (older ▹ c) OldSet = record { pages = refl; places = refl }

by_step : (s : State) (e : MachineStep) → AreOfOneSize s (after s e)
by_step s (Begin t) = record { pages = refl; places = refl }
by_step s (Start t c) = let one = by_start s t (txn_at s t) c (old_pair (is_indexed s.life) c) in record { pages = one.pages; places = one.places }
by_step s (Next t) = let one = by_next s t (txn_at s t) (txn_at s t).changes (txn_at s t).phase in record { pages = one.pages; places = one.places }
by_step s (Undo t) = let one = by_undo s t (txn_at s t) (txn_at s t).changes (txn_at s t).phase in record { pages = one.pages; places = one.places }
by_step s (End t) = record { pages = refl; places = refl }
by_step s (Commit t) = record { pages = refl; places = refl }
by_step s Create = record { pages = refl; places = refl }
by_step s (Take n) = record { pages = refl; places = refl }
by_step s (Attempt p) = record { pages = refl; places = refl }
by_step s (Checkpoint p) = record { pages = refl; places = refl }
by_step s Finish = record { pages = refl; places = refl }
by_step s (Clean p) = record { pages = refl; places = refl }
by_step s (Keep p) = record { pages = refl; places = refl }
by_step s Wrap = record { pages = refl; places = refl }
by_step s Drop = record { pages = refl; places = refl }

pub of_one_size : (s : State) (step : Option MachineStep) → AreOfOneSize s (after_any s step)
of_one_size s None = record { pages = refl; places = refl }
of_one_size s (Some e) = by_step s e
