-- What a store holds that was opened behind its days.
use Rattle.std.proofs.Common.{IfErr, IfOk, ◌≡◌, ◌≢◌, ⊎_elim, IfSome, Option, ◌↔◌, ◌≤◌, ◌<◌, Result, Ok, Err, inl, inr, ℕ, Bool, true, false, List, []}
use Rattle.std.proofs.Common.{None, Some, refl, sym, ap, subst, ◌∙◌}
use Rattle.std.proofs.lemmas.Bool.{cases_lt}
use Rattle.std.proofs.lemmas.List.Elements.{All-weaker}
use Rattle.record_values.specs.GeometryValue.{GeometryValue}
use Rattle.record_values.specs.declared.error.Error.{Error}
use Rattle.record_values.specs.declared.error.Error.TheVariants.{DeviceTooSmall, NoMemory}
use Rattle.model.specs.Given.{Given}
use Rattle.model.specs.declared.life.Life.{Life}
use Rattle.model.specs.declared.life.Life.TheVariants.{Absent, Complete}
use Rattle.core_model.specs.Histories.{CanOpen}
use Rattle.core_parts.specs.View.{CoreValue}
use Rattle.core_parts.specs.declared.parts.Ticket.{Ticket}
use Rattle.core_parts.specs.declared.reply.BuildReply.{BuildReply}
use Rattle.core_parts.specs.declared.reply.BuildReply.TheVariants as build
use Rattle.sector_device.specs.Disk.{CrashState, IsCrashState, IsSynced}
use Rattle.sector_device.specs.DevicePast.{DevicePast}
use Rattle.sector_device.proofs.Sectors.{crash_synced}
use Rattle.store_reader.specs.Contents.{Gives}
use Rattle.restart.specs.declared.event.Reply.{Reply}
use Rattle.restart.specs.declared.event.Reply.TheVariants as reply
use Rattle.restart.specs.declared.parts.EngineParts.{EngineParts}
use Rattle.restart.specs.Building.{AreBuilt, BuildsWhole, EndsWhole, EndsWith, GoesOnBuilding, HasCome, IsUnderway}
use Rattle.restart.specs.Parts.{core_of, device_of}
use Rattle.restart.specs.Store.{over}
use Rattle.headline.specs.declared.day.Day.{Day}
use Rattle.headline.specs.Days.{Answer, IsUnopened}
use Rattle.headline.specs.Fitting.{IsIndexOf}
use Rattle.headline.specs.Held.{HasLived, IsNotBuilt, IsNotReopened, IsQuiet, IsUnbuilt}
use Rattle.headline.specs.Kept.{EndsBuild, GivesDays, IsBegun, KeepsDays}
use Rattle.headline.specs.AtRest.{AtRest, IsOpenedOver, resting}
use Rattle.headline.specs.Stops.{IsFoundAs}
use Rattle.headline.proofs.Quiet.{index_of, same_device, settled}
use Rattle.headline.proofs.Stopped.{Images, begins, can, now_gives, opened_over}

never_both : (life : Life) → life ≡ Absent → life ≡ Complete → ⊥
never_both life none complete = cc

-- a step of a build that goes on
abbrev IsStep : {M : Type 0} → Reply M → Type 0
IsStep r = (step : BuildReply) × (r ≡ reply.Built step) × (step ≢ build.Idle) × ((ticket : Ticket) → step ≢ build.Done ticket)

is_step : {M : Type 0} (r : Reply M) → IsUnderway r → IsStep r
is_step (reply.Built step) is = (step, refl, λ idle. subst GoesOnBuilding idle is, λ ticket done. subst GoesOnBuilding done is)
is_step r is = absurd is

-- ---- a store that begins with this

pub begun : {D : Type 0} (M : Type 0) (past_of : D → DevicePast) (failures : D → ℕ) (g : GeometryValue) (given : Given) (failed : ℕ) (old found : D)
    → Gives (past_of old).disk.content g given → CanOpen (over g given) → IsSynced (past_of old).disk → IsFoundAs (past_of old).disk (past_of found)
    → failures found ≡ failed → KeepsDays {M = M} past_of failures g (resting given failed) [] [] found
begun {D} M past_of failures g given failed old found gives opens synced is count = record { anew = is.anew; each = each }
  where
    each : (image : CrashState) → IsCrashState (past_of found).disk image
        → GivesDays {M = M} failures g (resting given failed) [] [] (failures found) image
    each image crash = record {
      given = given;
      gives = subst (λ (i : CrashState). Gives i g given) (sym (crash_synced (past_of old).disk image synced (is.left image crash))) gives;
      days-are = ap (resting given) count;
      opens = opens;
    }

-- ---- a store that no day was lived through with

pub at_once : {D M : Type 0} (failures : D → ℕ) (g : GeometryValue) (began : AtRest) (days : List (Day M)) (answers : List (Answer M)) (e : Error) (now : ℕ)
    → answers ≡ [] → IsUnopened e began.failed now → IsNotReopened failures g began days answers e now
at_once {D} {M} failures g began days answers e now none why =
    subst (λ (rs : List (Answer M)). IsNotReopened failures g began days rs e now) (sym none)
    (record { store = began; days-are = inl refl; why = why })

-- there was no memory for the answers
pub none_lived : {D M : Type 0} (past_of : D → DevicePast) (failures : D → ℕ) (g : GeometryValue) (began : AtRest) (device : D)
    → KeepsDays {M = M} past_of failures g began [] [] device → (days : List (Day M)) (answers : List (Answer M)) (e : Error) (found : D)
    → answers ≡ [] → e ≡ NoMemory → found ≡ device → IsNotReopened failures g began days answers e (failures found)
none_lived past_of failures g began device keeps days answers e found none memory same =
    let gives = now_gives past_of failures g began [] [] device keeps in
    at_once failures g began days answers e (failures found) none
    (inl (memory, ap failures same ∙ ap (λ (s : AtRest). s.failed) gives.days-are))

-- ---- a store that was opened

module _ {D M : Type 0} (past_of : D → DevicePast) (failures : D → ℕ) (g : GeometryValue) (began : AtRest) (days : List (Day M))
    (answers : List (Answer M)) (before : D) (gives : GivesDays failures g began days answers (failures before) (past_of before).disk.content)
    (images : Images) where
  -- it isn't
  pub not_reopened : (e : Error) (now : ℕ) → IsUnopened e (failures before) now → IsNotReopened failures g began days answers e now
  not_reopened e now why = record {
    store = resting gives.given (failures before);
    days-are = inr gives.days-are;
    why = why;
  }

  module _ (engine : EngineParts D M) (is : IsBegun past_of failures before engine) where
    over-it : IsOpenedOver failures g (resting gives.given (failures before)) engine
    over-it = opened_over past_of failures g began days answers before gives images engine is

    come : HasCome (core_of engine)
    come = is.opened.come (can past_of failures g began days answers before gives images engine is)

    none_active : (core_of engine).txns.active ≡ []
    none_active = ap (λ (v : CoreValue). v.txns.active) over-it.core

    rows : (core_of engine).heap.rows ≡ gives.given.table
    rows = ap (λ (v : CoreValue). v.heap.rows) over-it.core ∙ sym (ap (λ (s : AtRest). s.rows) over-it.rests)

    held : HasLived failures g began days answers false engine
    held = record {
      store = resting gives.given (failures before);
      days-are = gives.days-are;
      opened = engine;
      begins = over-it;
      replies = [];
      steps = refl;
      none = λ left. refl;
      holds = record {
        rows = rows;
        life = ap (λ (v : CoreValue). v.life) over-it.core ∙ sym (ap (λ (s : AtRest). s.life) over-it.rests);
        index = subst (λ (v : CoreValue). IsIndexOf v.heap.rows v.life v.index.entries) (sym over-it.core)
            (index_of g over-it.given over-it.opens);
        quiet = record {
          active = none_active;
          pages = ap (λ (v : CoreValue). v.heap.pages) over-it.core;
          places = ap (λ (v : CoreValue). v.index.capacity) over-it.core;
        };
      };
      failed = is.quiet;
    }

    -- steps of the builder were made
    module _ (after : EngineParts D M) (why : Option Error) (ends : EndsBuild past_of why engine after) where
      quiet : IsQuiet g (core_of after)
      quiet = settled past_of g gives.given after ends.replies
          (ends.at _ (begins past_of failures g began days answers before gives images engine is))

      unfailed : failures (device_of after) ≡ failures (device_of engine)
      unfailed = ap failures (same_device ends.replies engine after ends.each)

      built : EndsWhole (core_of engine) (core_of after) → HasLived failures g began days answers true after
      built whole = record {
        store = resting gives.given (failures before);
        days-are = gives.days-are;
        opened = engine;
        begins = over-it;
        replies = ends.replies;
        steps = ends.each;
        none = λ left. absurd cc;
        holds = record {
          rows = whole.rows ∙ rows;
          life = whole.complete;
          index = record {
            sound = λ pair live. (whole.whole pair).0 live;
            whole = λ pair all there. (whole.whole pair).1 there;
            gone = λ none pair. absurd (never_both (core_of after).life none whole.complete);
          };
          quiet = quiet;
        };
        failed = unfailed ∙ is.quiet;
      }

    -- it was left as it was opened, or its build was carried to its end
    pub behind : (build : Bool) (after : EngineParts D M) (why : Option Error) → (build ≡ false → after ≡ engine)
        → (build ≡ true → EndsBuild past_of why engine after)
        → (build ≡ true → BuildsWhole (core_of engine) (core_of after)) → HasLived failures g began days answers build after
    behind false after why same ends builds = subst (λ (e : EngineParts D M). HasLived failures g began days answers false e) (sym (same refl)) held
    behind true after why same ends builds = built after why (ends refl) (builds refl come none_active)

    -- its build was refused, or wasn't
    pub unbuilt : (build : Bool) (after : EngineParts D M) (why : Option Error) → (build ≡ true → EndsBuild past_of why engine after)
        → IfSome why (λ e. build ≡ true)
        → IfSome why (λ e. HasCome (core_of engine) → IsNotBuilt e (core_of engine) (core_of after))
        → IfSome why (λ e. (build ≡ true) × IsUnbuilt failures g began days answers e after)
    unbuilt build after None ends wanted refused = tt
    unbuilt build after (Some e) ends wanted refused =
        let ended : EndsBuild past_of (Some e) engine after = ends wanted in
        let last : EndsWith (reply.Refused e) ended.replies = ended.refused in (
          wanted,
          record {
            opened = engine;
            lived = held;
            before = last.before;
            underway = All-weaker IsUnderway IsStep is_step last.before last.underway;
            built = subst (λ (rs : List (Reply M)). AreBuilt rs engine after) last.all ended.each;
            refused = refused come;
            quiet = quiet after (Some e) ended;
            failed = unfailed after (Some e) ended;
          },
        )

-- ---- results

pub ok_at : {T E : Type 0} (P Q : T → Type 0) (r : Result T E) → ((x : T) → P x → Q x) → IfOk r P → IfOk r Q
ok_at P Q (Ok x) less is = less x is
ok_at P Q (Err e) less is = tt

pub err_at : {T E : Type 0} (P Q : E → Type 0) (r : Result T E) → ((e : E) → P e → Q e) → IfErr r P → IfErr r Q
err_at P Q (Ok x) less is = tt
err_at P Q (Err e) less is = less e is

-- ---- a device that was large enough

-- a want of memory or a failure isn't a want of sectors
pub unopened_small : (e : Error) (before now : ℕ) → IsUnopened e before now → e ≡ DeviceTooSmall → ⊥
unopened_small e before now (inl memory) small = let it = memory.0 in cc
unopened_small e before now (inr failed) small = let it = failed.0 in cc

pub not_small : {D M : Type 0} (failures : D → ℕ) (g : GeometryValue) (began : AtRest) (days : List (Day M)) (answers : List (Answer M)) (e : Error)
    (now : ℕ) → IsNotReopened failures g began days answers e now → e ≡ DeviceTooSmall → ⊥
not_small failures g began days answers e now is = unopened_small e is.store.failed now is.why

-- the formatting has told, and nothing else says so
module _ {U : Type 0} (sectors all : ℕ) (formatting : Result U Error) (told : (formatting ≡ Err DeviceTooSmall) ↔ (sectors < all)) (u : U)
    (well : formatting ≡ Ok u) where
  large : sectors < all → ⊥
  large less = let small = told.1 less in cc

  pub enough : all ≤ sectors
  enough = ⊎_elim (λ less. absurd (large less)) (λ le. le) (cases_lt sectors all)

  pub neither : {P : Type 0} → (P → ⊥) → P ↔ (sectors < all)
  neither never = (λ p. absurd (never p), λ less. absurd (large less))
