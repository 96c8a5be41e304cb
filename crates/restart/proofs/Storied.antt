-- A device keeps the story of its store.
use Rattle.std.proofs.Common.{◌≡◌, ⊎_elim, ℕ, ◌≤◌, List, [], ◌∷◌, ◌++◌, None, Some, refl, sym, ap, subst, ◌∙◌, arith}
use Rattle.std.proofs.lemmas.Bool.{le-leb, lt-leb, cases_lt}
use Rattle.std.specs.FinMap as map
use Rattle.record_values.specs.GeometryValue.{GeometryValue}
use Rattle.record_values.specs.Orders.{pair_cmp}
use Rattle.record_values.specs.declared.error.Error.{Error}
use Rattle.record_values.specs.declared.pair.Mark.TheVariants.{Live}
use Rattle.record_values.specs.declared.pair.Pair.{Pair}
use Rattle.model.specs.Given.{Given, nothing}
use Rattle.model.specs.History.{Item, life_after, table_after, up_to}
use Rattle.model.specs.Table.{Table}
use Rattle.model.specs.declared.life.Life.{Life}
use Rattle.model.proofs.HistoryLaws.{life_after-append, table_after-append, up_to-append}
use Rattle.core_model.specs.Histories.{CanOpen}
use Rattle.sector_device.specs.Disk.{CrashState, IsSynced}
use Rattle.sector_device.specs.DevicePast.{DevicePast, LeavesOnly}
use Rattle.sector_device.proofs.Moments.{at_end, weaker}
use Rattle.sector_device.proofs.Sectors.{content_is_image, crash_synced}
use Rattle.gate_log.specs.Area.{Refuses}
use Rattle.store_opener.specs.Reopening.{ReopeningLeaves, IsWrittenBack}
use Rattle.store_reader.specs.Contents.{Gives, IsUnreadable}
use Rattle.restart.specs.declared.parts.EngineParts.{EngineParts}
use Rattle.restart.specs.Building.{HasCome}
use Rattle.restart.specs.History.{core_calls}
use Rattle.restart.specs.Parts.{core_of}
use Rattle.restart.specs.Reopening.{IsNotOpened, IsOpened, IsTurned, opening}
use Rattle.restart.specs.Store.{IsAt, Past, Survives, items_told, over}
use Rattle.restart.specs.Story.{BeginsOver, GivesStory, IsLeftOf, KeepsStory, Story, and_run, begun_with, untold}

-- ---- items up to a number, and then up to a later one

both_up_to : (low high : ℕ) (items : List Item) → low ≤ high → up_to high (up_to low items) ≡ up_to low items
both_up_to low high [] le = refl
both_up_to low high (item ∷ items) le = ⊎_elim
    (λ above.
    let out : up_to low (item ∷ items) ≡ up_to low items = rw (lt-leb item.number low above) refl in
    ap (up_to high) out ∙ both_up_to low high items le ∙ sym out)
    (λ within.
    let here : up_to low (item ∷ items) ≡ item ∷ up_to low items = rw (le-leb item.number low within) refl in
    let there : up_to high (item ∷ up_to low items) ≡ item ∷ up_to high (up_to low items) = rw (le-leb item.number high (omega (arith, within, le))) refl in
    ap (up_to high) here ∙ there ∙ ap (λ (xs : List Item). item ∷ xs) (both_up_to low high items le) ∙ sym here)
    (cases_lt low item.number)

up_to_both : (low high : ℕ) (items more : List Item) → low ≤ high → up_to high (up_to low items ++ more) ≡ up_to low items ++ up_to high more
up_to_both low high items more le = up_to-append high (up_to low items) more ∙ ap (λ (xs : List Item). xs ++ up_to high more) (both_up_to low high items le)

-- ---- a device that was just formatted

pub begins_untold : (g : GeometryValue) → CanOpen (over g nothing) → (image : CrashState) → Gives image g nothing → GivesStory (untold g) image
begins_untold g can image gives = record {
  given = nothing;
  gives = gives;
  left = record {
    beginning = record { has_floor = omega arith; table = refl; life = refl; shown = λ p live. absurd (none_there p live) };
    within = omega arith;
  };
  opens = can;
}
  where
    none_there : (p : Pair) → map.get nothing.entries p ≡ Some Live → ⊥
    none_there p live = let none : map.get nothing.entries p ≡ None = map.get-empty pair_cmp p in absurd cc

-- ---- a device to which a store was moved

pub begins_so : (g : GeometryValue) (given : Given) → CanOpen (over g given) → (image : CrashState) → Gives image g given
    → GivesStory (begun_with g given) image
begins_so g given can image gives = record {
  given = given;
  gives = gives;
  left = record { beginning = record { has_floor = omega arith; table = refl; life = refl; shown = can.sound }; within = omega arith };
  opens = can;
}

-- ---- a device whose power fails

pub kept_synced : {D : Type 0} (past_of : D → DevicePast) (story : Story) (device : D) → IsSynced (past_of device).disk
    → GivesStory story (past_of device).disk.content → KeepsStory past_of story device
kept_synced past_of story device all gives image crash = subst (GivesStory story) (sym (crash_synced (past_of device).disk image all crash)) gives

-- ---- a restart

-- an image gives one thing at most
pub record OneAnswer : Type 0 where
  pub geometry : (image : CrashState) (g h : GeometryValue) (x y : Given) → Gives image g x → Gives image h y → g ≡ h
  pub given : (image : CrashState) (g h : GeometryValue) (x y : Given) → Gives image g x → Gives image h y → x ≡ y

module _ {D : Type 0} (past_of : D → DevicePast) (story : Story) (before : D) (kept : KeepsStory past_of story before) where
  -- what the device gives now
  pub now_gives : GivesStory story (past_of before).disk.content
  now_gives = kept (past_of before).disk.content (content_is_image (past_of before).disk (past_of before).whole)

  module _ (back : (old image : CrashState) → IsWrittenBack old image → (g : GeometryValue) (given : Given) → Gives old g given
      → Gives image g given) (after : D) (turned : IsTurned past_of before after) where
    each_left : (image : CrashState) → ReopeningLeaves (past_of before).disk image → GivesStory story image
    each_left image = ⊎_elim
        (λ crash. kept image crash)
        (λ written. record {
          given = now_gives.given;
          gives = back (past_of before).disk.content image written story.geometry now_gives.given now_gives.gives;
          left = now_gives.left;
          opens = now_gives.opens;
        })

    pub kept_between : LeavesOnly (past_of before) (past_of after) (GivesStory story)
    kept_between = weaker (past_of before) (past_of after) (ReopeningLeaves (past_of before).disk) (GivesStory story) each_left turned.images

    pub kept_behind : KeepsStory past_of story after
    kept_behind = at_end (past_of before) (past_of after) (GivesStory story) kept_between

  pub refused_well : (failures : D → ℕ) (after : D) (e : Error)
      → ((image : CrashState) (g : GeometryValue) (given : Given) (e : Error) → Gives image g given → ¬ IsUnreadable image e)
      → IsNotOpened past_of failures before after e → Refuses (failures before) (failures after) e
  refused_well failures after e readable not = ⊎_elim (λ refuses. refuses) (λ unreadable.
      absurd (readable (past_of before).disk.content story.geometry now_gives.given e now_gives.gives unreadable)) not.why

  pub begins_over : {M : Type 0} (engine : EngineParts D M) → OneAnswer → IsOpened past_of before engine → BeginsOver past_of story engine
  begins_over engine one is = record {
    given = now_gives.given;
    left = now_gives.left;
    at = subst (λ (x : Given). IsAt past_of (opening story.geometry x) engine) same
        (subst (λ (x : GeometryValue). IsAt past_of (opening x is.given) engine) size (is.begins can));
    come = is.come can;
  }
    where
      size : is.geometry ≡ story.geometry
      size = one.geometry (past_of before).disk.content is.geometry story.geometry is.given now_gives.given is.gives now_gives.gives

      same : is.given ≡ now_gives.given
      same = one.given (past_of before).disk.content is.geometry story.geometry is.given now_gives.given is.gives now_gives.gives

      can : CanOpen (over is.geometry is.given)
      can = subst (λ (x : GeometryValue). CanOpen (over x is.given)) (sym size)
          (subst (λ (x : Given). CanOpen (over story.geometry x)) (sym same) now_gives.opens)

-- ---- a run

module _ {M : Type 0} (story : Story) (past : Past M) (floor : ℕ) (image : CrashState) (size : past.geometry ≡ story.geometry) (is : IsLeftOf story past.given)
    (low : past.given.last ≤ floor) (left : Survives past floor image) where
  both : up_to left.given.last (up_to past.given.last story.items ++ items_told past) ≡ up_to past.given.last story.items
      ++ up_to left.given.last (items_told past)
  both = up_to_both past.given.last left.given.last story.items (items_told past) (omega (arith, low, left.beginning.has_floor))

  pub story_goes_on : GivesStory (and_run story past floor) image
  story_goes_on = record {
    given = left.given;
    gives = subst (λ (g : GeometryValue). Gives image g left.given) size left.gives;
    left = record {
      beginning = record {
        has_floor = left.beginning.has_floor;
        table =
            left.beginning.table ∙ ap (λ (t : Table). table_after t (up_to left.given.last (items_told past))) is.beginning.table
            ∙ sym (table_after-append story.began.table (up_to past.given.last story.items) (up_to left.given.last (items_told past)))
            ∙ ap (table_after story.began.table) (sym both);
        life =
            left.beginning.life ∙ ap (λ (l : Life). life_after l (up_to left.given.last (items_told past))) is.beginning.life
            ∙ sym (life_after-append story.began.life (up_to past.given.last story.items) (up_to left.given.last (items_told past)))
            ∙ ap (life_after story.began.life) (sym both);
        shown = left.beginning.shown;
      };
      within = left.within;
    };
    opens = subst (λ (g : GeometryValue). CanOpen (over g left.given)) size left.opens;
  }

-- ---- the core of an engine that a run left

pub come_by : {D M : Type 0} (past_of : D → DevicePast) (past : Past M) (engine : EngineParts D M) → IsAt past_of past engine → HasCome (core_of engine)
come_by past_of past engine is = record {
  opening = over past.geometry past.given;
  opens = is.opens;
  made = is.made;
  pairs = core_calls past.events past.replies;
  state = is.state;
  standing = is.standing;
  served = is.served;
  shown = is.stands.shown;
}
