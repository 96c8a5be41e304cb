-- One index beside the rows of its host: what both are, the steps that each may make, and when.
use Rattle.std.specs.Cmp.Lexicographic.{slice_cmp}
use Rattle.std.specs.FinMap.{get}
use Rattle.std.specs.List.{list_any}
use Rattle.std.specs.Ordering.{eq_by_cmp, nat_cmp}
use Rattle.std.specs.Prelude.{Bool, List, None, Option, Some, [], cond, false, nat_eq, not, true, ℕ, ◌&&◌, ◌<◌, ◌||◌}
use Rattle.std.specs.Prelude.{◌∷◌, ◌≡◌, ◌⊎◌}
use Rattle.record_values.specs.Entries.{Index}
use Rattle.record_values.specs.Maps.{set_at}
use Rattle.record_values.specs.Orders.{is_above, pair_cmp, rid_cmp}
use Rattle.record_values.specs.Values.{Place}
use Rattle.record_values.specs.declared.pair.Mark.{Mark as EntryMark}
use Rattle.record_values.specs.declared.pair.Mark.TheVariants.{Live, Marked}
use Rattle.record_values.specs.declared.pair.Pair.{Pair}
use Rattle.online_model.specs.declared.life.Life.{Life}
use Rattle.online_model.specs.declared.life.Life.TheVariants.{Building, Complete}

-- The rows are the host's, each by its key alone. A row is busy while a change of it is unfinished: from the mark of
-- the row's pair, or from the change, until a pair of the row is put or the row is gone.
pub record World : Type 0 where
  pub rows : Place → Option (List ℕ)
  pub busy : Place → Bool
  pub entries : Index
  pub life : Life
  pub pages : ℕ  -- how many pages the builder reads; rows may come to lie in later ones
  pub bound : Option Pair  -- the pair attempted last since the build began or went on, else that of the checkpoint
  pub held_once : Pair → Bool  -- a row had the pair at some moment since the build began or went on
  pub held_always : Pair → Bool  -- a row had the pair at every moment since then
  pub read_with : Pair → Bool  -- since then a page was read with the pair in it
  pub read_without : Pair → Bool  -- since then the page of the pair was read without the pair

-- the index is being built
abbrev pub IsBuilding : Life → Type 0
IsBuilding life = (highest : Option Pair) × (life ≡ Building highest)

-- the pair of the last checkpoint
abbrev pub highest_of : Life → Option Pair
highest_of (Building highest) = highest
highest_of Complete = None

-- the function with this value at this place
unfoldable pub with_at : {X : Type 0} → (Place → X) → Place → X → Place → X
with_at f r x q = cond (eq_by_cmp rid_cmp q r) x (f q)

-- whether a row with this key, or no row, has the key of the pair
abbrev pub is_pair_of : Option (List ℕ) → Pair → Bool
is_pair_of None p = false
is_pair_of (Some key) p = eq_by_cmp (slice_cmp nat_cmp) key p.key

-- the pair of a row with this key
abbrev pub pair_at : Place → List ℕ → Pair
pair_at r key = record { key = key; rid = r }

-- whether the pair is one of these
abbrev pub is_among : Pair → List Pair → Bool
is_among p pairs = list_any (eq_by_cmp pair_cmp p) pairs

-- the pair is that of a row
abbrev pub IsOfRow : World → Pair → Type 0
IsOfRow w p = w.rows p.rid ≡ Some p.key

-- Mark, Put and TakePage are the host's calls, and Change is the host's alone. The others are the index's.
pub data Step : Type 0 where
  Mark : Pair → Step
  Change : Place → Option (List ℕ) → Step  -- the row has this key now, or there is no row
  Put : Pair → Step
  TakePage : (page : ℕ) → List Pair → Step  -- the builder takes the pairs that were read of a page
  Attempt : Pair → Step
  Checkpoint : Step
  Finish : Step
  Clean : Pair → Step
  Reopen : Step  -- after a stop: the builder begins above the checkpoint

-- whether a put is due once the row has this key, or is gone
abbrev pub is_put_due : Option (List ℕ) → Bool
is_put_due None = false
is_put_due (Some key) = true

-- what the builder makes of an entry: it leaves what is there
abbrev pub built : Option EntryMark → Option EntryMark
built None = Some Live
built (Some mark) = Some mark

-- the world after a step
abbrev pub after : World → Step → World
after w (Mark p) = record w {
  entries = set_at w.entries p (Some Marked);
  busy = with_at w.busy p.rid (is_pair_of (w.rows p.rid) p || w.busy p.rid);
}
after w (Change r key) = record w {
  rows = with_at w.rows r key;
  busy = with_at w.busy r (is_put_due key);
  held_once = λ p. w.held_once p || is_pair_of (with_at w.rows r key p.rid) p;
  held_always = λ p. w.held_always p && is_pair_of (with_at w.rows r key p.rid) p;
}
after w (Put p) = record w { entries = set_at w.entries p (Some Live); busy = with_at w.busy p.rid false }
after w (TakePage page pairs) = record w {
  read_with = λ p. is_among p pairs || w.read_with p;
  read_without = λ p. (nat_eq p.rid.page page && not (is_among p pairs)) || w.read_without p;
}
after w (Attempt p) = record w { entries = set_at w.entries p (built (get w.entries p)); bound = Some p }
after w Checkpoint = record w { life = Building w.bound }
after w Finish = record w { life = Complete }
after w (Clean p) = record w { entries = set_at w.entries p None }
after w Reopen = record w {
  bound = highest_of w.life;
  held_once = λ p. is_pair_of (w.rows p.rid) p;
  held_always = λ p. is_pair_of (w.rows p.rid) p;
  read_with = λ p. false;
  read_without = λ p. false;
}

-- the build has passed the pair for good: the builder does not come to it, also not after a stop
abbrev pub IsPassed : Life → Pair → Type 0
IsPassed (Building highest) p = is_above highest p ≡ false
IsPassed Complete p = Unit {0}

-- the pair that the row has, if there is a row, is marked, or was marked and the cleaner took the entry out
abbrev pub IsMarkedAt : World → Place → Type 0
IsMarkedAt w r = (key : List ℕ) → w.rows r ≡ Some key → (get w.entries (pair_at r key) ≡ Some Marked)
    ⊎ (get w.entries (pair_at r key) ≡ None) × IsPassed w.life (pair_at r key)

-- these are the pairs of a page, each row as it was at some moment since the build began or went on
pub record IsReadOf (w : World) (page : ℕ) (pairs : List Pair) : Type 0 where
  pub each : (p : Pair) → is_among p pairs ≡ true → w.held_once p ≡ true
  pub all : (p : Pair) → p.rid.page ≡ page → w.held_always p ≡ true → is_among p pairs ≡ true

-- the builder may attempt the pair: a page was read with it, it is above the pair attempted last, and each pair of a
-- page that lies between was left out when its page was read
pub record CanAttempt (w : World) (p : Pair) : Type 0 where
  pub building : IsBuilding w.life
  pub read : w.read_with p ≡ true
  pub rising : is_above w.bound p ≡ true
  pub none_between : (q : Pair) → q.rid.page < w.pages → is_above w.bound q ≡ true → is_above (Some q) p ≡ true
      → w.read_without q ≡ true

-- the builder may finish: each pair of a page above the pair attempted last was left out when its page was read
pub record CanFinish (w : World) : Type 0 where
  pub building : IsBuilding w.life
  pub none_above : (q : Pair) → q.rid.page < w.pages → is_above w.bound q ≡ true → w.read_without q ≡ true

-- the cleaner may take the entry out, also where a change of its row is unfinished
pub record CanClean (w : World) (p : Pair) : Type 0 where
  pub marked : get w.entries p ≡ Some Marked
  pub passed : IsPassed w.life p

-- When a step may come. For Change, Put and TakePage it is what the host owes; for the others, what the index keeps.
abbrev pub IsEnabled : World → Step → Type 0
IsEnabled w (Mark p) = Unit {0}
IsEnabled w (Change r key) = IsMarkedAt w r
IsEnabled w (Put p) = IsOfRow w p
IsEnabled w (TakePage page pairs) = IsReadOf w page pairs
IsEnabled w (Attempt p) = CanAttempt w p
IsEnabled w Checkpoint = IsBuilding w.life
IsEnabled w Finish = CanFinish w
IsEnabled w (Clean p) = CanClean w p
IsEnabled w Reopen = Unit {0}

-- enabled steps, one after another
pub data Runs : World → List Step → World → Type 0 where
  no_step : {w : World} → Runs w [] w
  one_step : {w w' : World} (e : Step) (es : List Step) → IsEnabled w e → Runs (after w e) es w' → Runs w (e ∷ es) w'
