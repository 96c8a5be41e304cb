-- What a device keeps of a store's days, as one day more goes by.
use Rattle.std.proofs.Common.{◌≡◌, ⊎_elim, inl, inr, ℕ, ◌+◌, ◌<◌, ◌≤◌, Bool, cond, List, [], ◌∷◌, ◌++◌, None, Option, Some}
use Rattle.std.proofs.Common.{Ok, Err, length, get_or, take, sym, refl, ap, subst, ◌∙◌, arith, length-append}
use Rattle.std.proofs.lemmas.Bool.{lt-ltb}
use Rattle.std.proofs.lemmas.List.{take_more}
use Rattle.std.specs.declared.vec.Vec.{Vec}
use Rattle.record_values.specs.GeometryValue.{GeometryValue}
use Rattle.record_values.specs.declared.error.Error.{Error}
use Rattle.gate_log.specs.Area.{Refuses}
use Rattle.model.specs.Given.{Given}
use Rattle.core_model.specs.Histories.{CanOpen}
use Rattle.core_copies.specs.Loaded.{holding}
use Rattle.core_parts.specs.View.{CoreValue}
use Rattle.sector_device.specs.Disk.{CrashState, IsCrashState}
use Rattle.sector_device.specs.DevicePast.{DevicePast, LeavesOnly}
use Rattle.sector_device.proofs.Moments.{weaker}
use Rattle.sector_device.proofs.Sectors.{content_is_image}
use Rattle.store_opener.specs.Reopening.{ReopeningLeaves, IsWrittenBack}
use Rattle.store_reader.specs.Contents.{Gives, IsUnreadable}
use Rattle.restart.specs.declared.event.Reply.{Reply}
use Rattle.restart.specs.declared.parts.EngineParts.{EngineParts}
use Rattle.restart.specs.Lawful.{AreLawful}
use Rattle.restart.specs.Parts.{device_of}
use Rattle.restart.specs.Reopening.{IsNotOpened, IsTurned, opening}
use Rattle.restart.specs.Store.{IsAt, Survives, and_then, over}
use Rattle.headline.specs.declared.day.Day.{Day}
use Rattle.headline.specs.Days.{Answer, AreDays, IsDay, IsUnopened}
use Rattle.headline.specs.Kept.{GivesDays, IsBegun, KeepsDays, seen}
use Rattle.headline.specs.AtRest.{AtRest, IsOpenedOver, resting}
use Rattle.headline.specs.Stops.{HasStopped}
use Rattle.headline.specs.Told.{acknowledged}
use Rattle.headline.proofs.Days.{Rise, day_last, served_day}
use Rattle.headline.proofs.Quiet.{none_waits}

-- what the laws of images say
pub record Images : Type 0 where
  pub geometry : (image : CrashState) (g h : GeometryValue) (x y : Given) → Gives image g x → Gives image h y → g ≡ h
  pub given : (image : CrashState) (g h : GeometryValue) (x y : Given) → Gives image g x → Gives image h y → x ≡ y
  pub readable : (image : CrashState) (g : GeometryValue) (given : Given) (e : Error) → Gives image g given → ¬ IsUnreadable image e

-- the core with this page to be taken next
abbrev with_wanted : CoreValue → Option ℕ → CoreValue
with_wanted v page = record v { scan = record v.scan { wanted = page } }

abbrev pub GivesBack : Type 0
GivesBack = (old image : CrashState) → IsWrittenBack old image → (g : GeometryValue) (given : Given) → Gives old g given → Gives image g given

module _ {D M : Type 0} (past_of : D → DevicePast) (failures : D → ℕ) (g : GeometryValue) (began : AtRest) (days : List (Day M))
    (answers : List (Answer M)) (before : D)
    (gives : GivesDays failures g began days answers (failures before) (past_of before).disk.content) where
  -- ---- a store that is opened over what its days have made

  refused_so : Images → (after : D) (e : Error) → IsNotOpened past_of failures before after e → Refuses (failures before) (failures after) e
  refused_so images after e not = ⊎_elim (λ refuses. refuses)
      (λ unreadable. absurd (images.readable (past_of before).disk.content g gives.given e gives.gives unreadable)) not.why

  pub why_unopened : Images → (after : D) (e : Error) → IsNotOpened past_of failures before after e → IsUnopened e (failures before) (failures after)
  why_unopened images after e not = ⊎_elim
      (λ memory. inl (memory, not.told (λ failed. let both = sym memory ∙ failed in cc)))
      (λ failed. inr failed)
      (refused_so images after e not)

  module _ (images : Images) (engine : EngineParts D M) (is : IsBegun past_of failures before engine) where
    size : is.opened.geometry ≡ g
    size = images.geometry (past_of before).disk.content is.opened.geometry g is.opened.given gives.given is.opened.gives gives.gives

    same : is.opened.given ≡ gives.given
    same = images.given (past_of before).disk.content is.opened.geometry g is.opened.given gives.given is.opened.gives gives.gives

    pub can : CanOpen (over is.opened.geometry is.opened.given)
    can = subst (λ (x : GeometryValue). CanOpen (over x is.opened.given)) (sym size) (subst (λ (x : Given). CanOpen (over g x)) (sym same) gives.opens)

    pub begins : IsAt past_of (opening g gives.given) engine
    begins = subst (λ (x : Given). IsAt past_of (opening g x) engine) same
        (subst (λ (x : GeometryValue). IsAt past_of (opening x is.opened.given) engine) size (is.opened.begins can))

    -- a store has a page at least, so the first one is wanted
    first_wanted : holding g gives.given ≡ with_wanted (holding g gives.given) (Some 0)
    first_wanted =
        ap (λ (some : Bool). with_wanted (holding g gives.given) (cond some (Some 0) None))
        (lt-ltb 0 g.pages (omega (arith, gives.gives.holds.store.limits.some_page)))

    pub opened_over : IsOpenedOver failures g (resting gives.given (failures before)) engine
    opened_over = record {
      given = gives.given;
      rests = refl;
      opens = gives.opens;
      core =
          is.opened.core ∙ ap (λ (x : GeometryValue). holding x is.opened.given) size ∙ ap (λ (x : Given). holding g x) same ∙ first_wanted;
      horizon = is.opened.horizon ∙ ap (λ (x : Given). x.last) same;
      waiting = none_waits past_of g gives.given engine begins (is.opened.horizon ∙ ap (λ (x : Given). x.last) same);
      size = begins.stands.geometry;
      halves = begins.stands.writer.geometry-is;
      log = is.emptied.1;
      image = is.emptied.2;
      copying = is.emptied.3;
      sound = is.opened.sound;
      quiet = is.quiet;
    }

module _ {D M : Type 0} (past_of : D → DevicePast) (failures : D → ℕ) (g : GeometryValue) (began : AtRest) (days : List (Day M))
    (answers : List (Answer M)) (before : D) (keeps : KeepsDays past_of failures g began days answers before) where
  -- what the device gives now
  pub now_gives : GivesDays failures g began days answers (failures before) (past_of before).disk.content
  now_gives = keeps.each (past_of before).disk.content (content_is_image (past_of before).disk (past_of before).whole)

  -- ---- while it is opened

  pub between : GivesBack → (after : D) → IsTurned past_of before after
      → LeavesOnly (past_of before) (past_of after) (GivesDays failures g began days answers (failures before))
  between back after turned = weaker (past_of before) (past_of after) (ReopeningLeaves (past_of before).disk)
      (GivesDays failures g began days answers (failures before)) each turned.images
    where
      each : (image : CrashState) → ReopeningLeaves (past_of before).disk image → GivesDays failures g began days answers (failures before) image
      each image = ⊎_elim
          (λ crash. keeps.each image crash)
          (λ written. record {
            given = now_gives.given;
            gives = back (past_of before).disk.content image written g now_gives.given now_gives.gives;
            days-are = now_gives.days-are;
            opens = now_gives.opens;
          })

  -- ---- a day more

  module _ (today : Day M) (answer : Answer M) where
    -- The device stopped. What a crash could leave since that moment gives the days with this one.
    pub stopped : (since : ℕ) (after found : D) → ((t : ℕ) (image : CrashState) → since ≤ t → t ≤ (past_of after).moment
        → IsCrashState ((past_of after).disk_at t) image
        → GivesDays failures g began (days ++ today ∷ []) (answers ++ answer ∷ []) (failures found) image)
        → HasStopped since (past_of after) (past_of found) → KeepsDays past_of failures g began (days ++ today ∷ []) (answers ++ answer ∷ []) found
    stopped since after found leaves stop = record {
      anew = stop.found-as.anew;
      each = λ image crash. leaves stop.moment image stop.from stop.until (stop.found-as.left image crash);
    }

    -- the store was opened, or wasn't, and nothing was served
    pub unserved : (after found : D) → LeavesOnly (past_of before) (past_of after) (GivesDays failures g began days answers (failures before))
        → ((given : Given) → IsDay failures g (resting given (failures before)) today answer (resting given (failures found)))
        → HasStopped (past_of before).moment (past_of after) (past_of found)
        → KeepsDays past_of failures g began (days ++ today ∷ []) (answers ++ answer ∷ []) found
    unserved after found leaves day = stopped (past_of before).moment after found (λ t image from to crash. then image (leaves.each t image from to crash))
      where
        then : (image : CrashState) → GivesDays failures g began days answers (failures before) image
            → GivesDays failures g began (days ++ today ∷ []) (answers ++ answer ∷ []) (failures found) image
        then image gives = record {
          given = gives.given;
          gives = gives.gives;
          days-are = day_last failures g began days answers (resting gives.given (failures before)) (resting gives.given (failures found)) today answer
              gives.days-are (day gives.given);
          opens = gives.opens;
        }

  -- nothing was served, for want of memory, or since the device failed
  pub passed : (today : Day M) (e : Error) (after found : D)
      → LeavesOnly (past_of before) (past_of after) (GivesDays failures g began days answers (failures before))
      → IsUnopened e (failures before) (failures found)
      → HasStopped (past_of before).moment (past_of after) (past_of found)
      → KeepsDays past_of failures g began (days ++ today ∷ []) (answers ++ Err e ∷ []) found
  passed today e after found leaves why = unserved today (Err e) after found leaves (λ given. (refl, why))

  -- the store wasn't opened, and the device stopped within that
  pub unopened : Images → GivesBack → (today : Day M) (e : Error) (after found : D) → IsNotOpened past_of failures before after e
      → failures found ≡ failures after
      → ((past_of before).moment ≤ (past_of after).moment → HasStopped (past_of before).moment (past_of after) (past_of found))
      → KeepsDays past_of failures g began (days ++ today ∷ []) (answers ++ Err e ∷ []) found
  unopened images back today e after found not count stop =
      passed today e after found (between back after not.device)
      (subst (IsUnopened e (failures before)) (sym count)
      (why_unopened past_of failures g began days answers before now_gives images after e not))
      (stop not.device.images.later)

  -- ---- a day that is served

  module _ (images : Images) (rise : Rise) (today : Day M) (engine : EngineParts D M) (is : IsBegun past_of failures before engine)
      (replies : Vec (Reply M) M) (after : EngineParts D M)
      (at : IsAt past_of (and_then (opening g now_gives.given) today.requests.items replies.items) after)
      (lawful : AreLawful failures today.requests.items replies.items engine after) where
    pub survived : (floor failed : ℕ) (image : CrashState) → acknowledged (seen today.within replies.items) ≤ floor → now_gives.given.last ≤ floor
        → failed ≡ failures (device_of after)
        → Survives (and_then (opening g now_gives.given) today.requests.items replies.items) floor image
        → GivesDays failures g began (days ++ today ∷ []) (answers ++ Ok replies ∷ []) failed image
    survived floor failed image safe later count left = record {
      given = left.given;
      gives = left.gives;
      days-are = subst (λ (n : ℕ). AreDays failures g began (days ++ today ∷ []) (answers ++ Ok replies ∷ []) (resting left.given n)) (sym count)
          (day_last failures g began days answers (resting now_gives.given (failures before)) (resting left.given (failures (device_of after))) today
          (Ok replies) now_gives.days-are
          (inl (served_day past_of failures g now_gives.given (failures before) today replies.items engine after
          (opened_over past_of failures g began days answers before now_gives images engine is) lawful rise at
          floor image left safe later)));
      opens = left.opens;
    }

-- ---- the days so far

pub one_more : {X : Type 0} (old new : List X) (x : X) (n : ℕ) → length old ≡ n → new ≡ old ++ x ∷ [] → length new ≡ n + 1
one_more old new x n even made = omega (arith, even, ap length made, length-append old (x ∷ []))

pub day_more : {D M : Type 0} (past_of : D → DevicePast) (failures : D → ℕ) (g : GeometryValue) (began : AtRest) (days : List (Day M)) (i : ℕ) (day : Day M)
    (answers new : List (Answer M)) (answer : Answer M) (found : D) → i < length days → day ≡ get_or days i day → new ≡ answers ++ answer ∷ []
    → KeepsDays past_of failures g began (take i days ++ day ∷ []) (answers ++ answer ∷ []) found
    → KeepsDays past_of failures g began (take (i + 1) days) new found
day_more past_of failures g began days i day answers new answer found below is made keeps =
    subst (λ (ds : List (Day _)). KeepsDays past_of failures g began ds new found) (sym (take_more days i day below))
    (subst (λ (d : Day _). KeepsDays past_of failures g began (take i days ++ d ∷ []) new found) is
    (subst (λ (rs : List (Answer _)). KeepsDays past_of failures g began (take i days ++ day ∷ []) rs found) (sym made) keeps))
