-- A run: while an index is built, a row is inserted and the insertion is rolled back; then a stop, and the end of the
-- build.
use Rattle.std.specs.FinMap.{empty}
use Rattle.std.specs.Prelude.{List, None, Option, Some, [], false, ℕ, ◌∷◌}
use Rattle.record_values.specs.Values.{Place}
use Rattle.record_values.specs.declared.pair.Pair.{Pair}
use Rattle.online_model.specs.declared.life.Life.TheVariants.{Building}
use Rattle.online_model.specs.World.{Attempt, Change, Checkpoint, Clean, Finish, Mark, Put, Reopen, Step, TakePage}
use Rattle.online_model.specs.World.{World, after, is_pair_of, pair_at, with_at}

-- the first two places of a table of one page
abbrev pub first : Place
first = record { page = 0; slot = 0 }

abbrev pub second : Place
second = record { page = 0; slot = 1 }

-- the pair of the row that stays, and that of the row whose insertion is rolled back
abbrev pub kept : Pair
kept = pair_at first (10 ∷ [])

abbrev pub rolled_back : Pair
rolled_back = pair_at second (20 ∷ [])

-- no row at all
abbrev pub no_row : Place → Option (List ℕ)
no_row r = None

-- the first place has a row
abbrev pub one_row : Place → Option (List ℕ)
one_row = with_at no_row first (Some kept.key)

-- an index of this table was just created
abbrev pub created : World
created = record {
  rows = one_row;
  busy = λ r. false;
  entries = empty;
  life = Building None;
  pages = 1;
  bound = None;
  held_once = λ p. is_pair_of (one_row p.rid) p;
  held_always = λ p. is_pair_of (one_row p.rid) p;
  read_with = λ p. false;
  read_without = λ p. false;
}

-- the steps, in order
abbrev pub steps : List Step
steps = Mark rolled_back ∷ Change second (Some rolled_back.key) ∷ Put rolled_back
    ∷ TakePage 0 (kept ∷ rolled_back ∷ [])
    ∷ Mark rolled_back ∷ Change second None
    ∷ Attempt kept ∷ Attempt rolled_back ∷ Checkpoint
    ∷ Reopen ∷ TakePage 0 (kept ∷ []) ∷ Finish
    ∷ Clean rolled_back ∷ []

-- the world after several steps
abbrev pub after_all : World → List Step → World
after_all w [] = w
after_all w (e ∷ es) = after_all (after w e) es

-- the world in the end
abbrev pub last : World
last = after_all created steps
