-- The story of a store from its beginning on, in words that know no allocator.
use Rattle.std.specs.List.{All}
use Rattle.std.specs.Prelude.{◌≡◌, ◌≤◌, ℕ, List, [], ◌∷◌, ◌++◌, Some}
use Rattle.record_values.specs.GeometryValue.{GeometryValue}
use Rattle.record_values.specs.declared.pair.Pair.{Pair}
use Rattle.model.specs.Given.{Given, IsBeginning, nothing}
use Rattle.model.specs.History.{Checkpointed, Committed, Completed, Created, Deed, Dropped, Item, up_to}
use Rattle.model.specs.declared.life.Life.TheVariants.{Building}
use Rattle.core_model.specs.Histories.{CanOpen}
use Rattle.sector_device.specs.Disk.{CrashState, IsCrashState}
use Rattle.sector_device.specs.DevicePast.{DevicePast}
use Rattle.store_reader.specs.Contents.{Gives}
use Rattle.restart.specs.declared.parts.EngineParts.{EngineParts}
use Rattle.restart.specs.Building.{HasCome}
use Rattle.restart.specs.Parts.{core_of}
use Rattle.restart.specs.Reopening.{opening}
use Rattle.restart.specs.Store.{IsAt, Past, items_told, last_made, over}

-- How large the store is, what it began with, the items of its history in order, and the numbers of the last record
-- that was made and of the last one that was told to be safe.
pub record Story : Type 0 where
  pub geometry : GeometryValue
  pub began : Given
  pub items : List Item
  pub made : ℕ
  pub safe : ℕ

-- of a store that begins with this
abbrev pub begun_with : GeometryValue → Given → Story
begun_with g given = record { geometry = g; began = given; items = []; made = given.last; safe = given.last }

-- of a store that was just formatted
abbrev pub untold : GeometryValue → Story
untold g = begun_with g nothing

-- This is what a prefix of the story's history makes of what it began with, one that has every item up to the last that
-- was told to be safe, and no record that wasn't made.
pub record IsLeftOf (story : Story) (given : Given) : Type 0 where
  pub beginning : IsBeginning story.began story.items story.safe given
  pub within : given.last ≤ story.made

-- Such a thing is what the content gives, and a core may begin with it.
pub record GivesStory (story : Story) (image : CrashState) : Type 0 where
  pub given : Given
  pub gives : Gives image story.geometry given
  pub left : IsLeftOf story given
  pub opens : CanOpen (over story.geometry given)

-- whatever a crash leaves of the device gives it
abbrev pub KeepsStory : {D : Type 0} → (D → DevicePast) → Story → D → Type 0
KeepsStory past_of story device = (image : CrashState) → IsCrashState (past_of device).disk image
    → GivesStory story image

-- A run begins at the engine over what was left of the story, and the core has come to where it is.
pub record BeginsOver {D M : Type 0} (past_of : D → DevicePast) (story : Story)
    (engine : EngineParts D M) : Type 0 where
  pub given : Given
  pub left : IsLeftOf story given
  pub at : IsAt past_of (opening story.geometry given) engine
  pub come : HasCome (core_of engine)

-- The story goes on with a run: behind what was left of its history comes what the run's replies tell, and records up
-- to this number were told to be safe.
abbrev pub and_run : {M : Type 0} → Story → Past M → (safe : ℕ) → Story
and_run story past safe = record {
  geometry = story.geometry;
  began = story.began;
  items = up_to past.given.last story.items ++ items_told past;
  made = last_made past;
  safe = safe;
}

-- ---- the last checkpoint

-- the deed is a commit
abbrev pub IsCommit : Deed → Type 0
IsCommit (Committed writes) = Unit {0}
IsCommit Created = ⊥
IsCommit (Checkpointed pair) = ⊥
IsCommit Completed = ⊥
IsCommit Dropped = ⊥

-- The store began with an index built up to this pair, and each item up to record `last` is a commit.
abbrev pub IsFirstCheckpoint : Given → List Item → ℕ → Pair → Type 0
IsFirstCheckpoint began items last pair = (began.life ≡ Building (Some pair))
    × All (λ (item : Item). IsCommit item.deed) (up_to last items)

-- Of the items up to record `last` the last one that is of the index is the checkpoint of this pair.
pub record IsLastCheckpoint (items : List Item) (last : ℕ) (pair : Pair) : Type 0 where
  pub number : ℕ
  pub counts : number ≤ last
  pub before : List Item
  pub behind : List Item
  pub there : up_to last items ≡ before ++ record { number = number; deed = Checkpointed pair } ∷ behind
  pub commits : All (λ (item : Item). IsCommit item.deed) behind
