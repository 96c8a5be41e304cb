-- A day that is served, until the device stops.
use Rattle.std.proofs.Common.{◌≡◌, ⊎_elim, inl, inr, ℕ, Bool, true, false, ◌≤◌, List, [], ◌∷◌, ◌++◌, Ok, Err, IfOk, IfErr, OnErr}
use Rattle.std.proofs.Common.{sym, ap, subst, ◌∙◌, arith}
use Rattle.std.specs.declared.vec.Vec.{Vec}
use Rattle.record_values.specs.GeometryValue.{GeometryValue}
use Rattle.record_values.specs.declared.error.Error.{Error}
use Rattle.record_values.specs.declared.error.Error.TheVariants.{NoMemory}
use Rattle.model.specs.Given.{Given}
use Rattle.sector_device.specs.DevicePast.{DevicePast, LeavesOnly}
use Rattle.restart.specs.declared.event.Event.{Event}
use Rattle.restart.specs.declared.event.Reply.{Reply}
use Rattle.restart.specs.declared.parts.EngineParts.{EngineParts}
use Rattle.restart.specs.History as run
use Rattle.restart.specs.Lawful.{AreLawful}
use Rattle.restart.specs.Parts.{device_of, horizon_of}
use Rattle.restart.specs.Ran.{KeepsWholeRun}
use Rattle.restart.specs.Reopening.{opening}
use Rattle.restart.specs.Store.{IsAt, RunsOn, Survives, and_then}
use Rattle.headline.specs.declared.day.Day.{Day}
use Rattle.headline.specs.Days.{Answer}
use Rattle.headline.specs.Kept.{GivesDays, IsBegun, IsServedWithin, KeepsDays, ServesWithin, seen}
use Rattle.headline.specs.AtRest.{AtRest, resting}
use Rattle.headline.specs.Stops.{HasStopped, IsFoundAs}
use Rattle.headline.specs.Told.{acknowledged}
use Rattle.headline.proofs.Days.{Rise}
use Rattle.headline.proofs.Lawful.{all_but_last, lawful_more}
use Rattle.headline.proofs.Stopped.{GivesBack, Images, begins, between, now_gives, passed, stopped, survived, unserved}
use Rattle.headline.proofs.Told.{safe_both}
use Rattle.headline.proofs.Torn.{stopped_now}

seen_within : {M : Type 0} (within : Bool) (replies : List (Reply M)) → within ≡ true → seen within replies ≡ seen true replies
seen_within within replies so = ap (λ (b : Bool). seen b replies) so

seen_behind : {M : Type 0} (within : Bool) (replies : List (Reply M)) → within ≡ false → seen within replies ≡ replies
seen_behind within replies so = ap (λ (b : Bool). seen b replies) so

module _ {D M : Type 0} (past_of : D → DevicePast) (failures : D → ℕ) (g : GeometryValue) (began : AtRest) (days : List (Day M))
    (answers : List (Answer M)) (before : D) (keeps : KeepsDays past_of failures g began days answers before) (images : Images) (back : GivesBack) (rise : Rise)
    (today : Day M) (engine : EngineParts D M) (is : IsBegun past_of failures before engine) (after : EngineParts D M) (found : D)
    (count : failures found ≡ failures (device_of after)) where
  abbrev given : Given
  given = (now_gives past_of failures g began days answers before keeps).given

  at : IsAt past_of (opening g given) engine
  at = begins past_of failures g began days answers before (now_gives past_of failures g began days answers before keeps) images engine is

  -- a crash within the opening
  opening_leaves : LeavesOnly (past_of before) (past_of (device_of engine)) (GivesDays failures g began days answers (failures before))
  opening_leaves = between past_of failures g began days answers before keeps back (device_of engine) is.opened.device

  -- nothing was served, for want of memory
  none : (e : Error) → e ≡ NoMemory → after ≡ engine → HasStopped (past_of before).moment (past_of (device_of after)) (past_of found)
      → KeepsDays past_of failures g began (days ++ today ∷ []) (answers ++ Err e ∷ []) found
  none e memory same stop =
      passed past_of failures g began days answers before keeps today e (device_of engine) found opening_leaves
      (inl (memory, count ∙ ap (λ (p : EngineParts D M). failures (device_of p)) same ∙ is.quiet))
      (subst (λ (p : EngineParts D M). HasStopped (past_of before).moment (past_of (device_of p)) (past_of found)) same stop)

  -- ---- it stopped within the last request, or the opening

  module _ (marks : ℕ → ℕ → Type 0) (start mark : ℕ) (started : marks start (past_of before).moment) (so : today.within ≡ true)
      (stop : (moment : ℕ) → marks mark moment → moment ≤ (past_of (device_of after)).moment
      → HasStopped moment (past_of (device_of after)) (past_of found)) where
    -- the mark is of the opening
    from_start : mark ≡ start → after ≡ engine → HasStopped (past_of before).moment (past_of (device_of after)) (past_of found)
    from_start same still =
        stop (past_of before).moment (subst (λ (n : ℕ). marks n (past_of before).moment) (sym same) started)
        (subst (λ (p : EngineParts D M). (past_of before).moment ≤ (past_of (device_of p)).moment) (sym still) opening_leaves.later)

    module _ (replies : Vec (Reply M) M) where
      idle : (today.requests.items ≡ []) × (replies.items ≡ []) × (mark ≡ start) × (after ≡ engine)
          → KeepsDays past_of failures g began (days ++ today ∷ []) (answers ++ Ok replies ∷ []) found
      idle it =
          unserved past_of failures g began days answers before keeps today (Ok replies) (device_of engine) found opening_leaves
          (λ x. inr (so, it.0, it.1, ap (resting x) (count ∙ ap (λ (p : EngineParts D M). failures (device_of p)) it.3 ∙ is.quiet)))
          (subst (λ (p : EngineParts D M). HasStopped (past_of before).moment (past_of (device_of p)) (past_of found)) it.3 (from_start it.2 it.3))

      module _ (events : List Event) (last : Event) (all : today.requests.items ≡ events ++ last ∷ [])
          (w : ServesWithin past_of failures marks events last replies.items mark engine after) where
        moved : (P : List Event → List (Reply M) → Type 0) → P (events ++ last ∷ []) (w.first ++ w.reply ∷ []) → P today.requests.items replies.items
        moved P p = subst (λ (es : List Event). P es replies.items) (sym all)
            (subst (λ (rs : List (Reply M)). P (events ++ last ∷ []) rs) (sym w.all) p)

        mid : IsAt past_of (and_then (opening g given) events w.first) w.mid
        mid = (w.runs (opening g given) at).at

        serves : IsAt past_of (and_then (opening g given) (events ++ last ∷ []) (w.first ++ w.reply ∷ [])) after
            × LeavesOnly (past_of (device_of w.mid)) (past_of (device_of after))
            (Survives (and_then (opening g given) (events ++ last ∷ []) (w.first ++ w.reply ∷ [])) (horizon_of w.mid))
            × (horizon_of w.mid ≤ horizon_of after)
        serves = w.serves (and_then (opening g given) events w.first) mid

        safe : acknowledged (seen today.within replies.items) ≤ horizon_of w.mid
        safe =
            let first : seen today.within replies.items ≡ w.first =
            seen_within today.within replies.items so ∙ all_but_last replies.items w.first w.reply w.all in
            let told : run.acknowledged given.last w.first ≤ horizon_of w.mid = mid.safe in
            omega (arith, ap acknowledged first, (safe_both given.last w.first).1, told)

        later : given.last ≤ horizon_of w.mid
        later =
            let told : run.acknowledged given.last w.first ≤ horizon_of w.mid = mid.safe in
            omega (arith, (safe_both given.last w.first).0, told)

        last_request : KeepsDays past_of failures g began (days ++ today ∷ []) (answers ++ Ok replies ∷ []) found
        last_request =
            stopped past_of failures g began days answers before keeps today (Ok replies) (past_of (device_of w.mid)).moment (device_of after) found
            (λ t image from to crash.
            survived past_of failures g began days answers before keeps images rise today engine is replies after
            (moved (λ es rs. IsAt past_of (and_then (opening g given) es rs) after) serves.0)
            (moved (λ es rs. AreLawful failures es rs engine after)
            (lawful_more failures events w.first last w.reply engine w.mid after w.lawful w.lawful_last))
            (horizon_of w.mid) (failures found) image safe later count
            (moved (λ es rs. Survives (and_then (opening g given) es rs) (horizon_of w.mid) image) (serves.1.each t image from to crash)))
            (stop (past_of (device_of w.mid)).moment w.marked serves.1.later)

    pub ended_within : (answer : Answer M) → IsServedWithin past_of failures marks start today.requests.items answer mark engine after
        → KeepsDays past_of failures g began (days ++ today ∷ []) (answers ++ answer ∷ []) found
    ended_within (Ok replies) it = ⊎_elim (idle replies) (λ w. last_request replies w.0 w.1 w.2 w.3) it
    ended_within (Err e) it = none e it.0 it.2 (from_start it.1 it.2)

  -- ---- it stopped behind the last reply

  module _ (so : today.within ≡ false) (stop : IsFoundAs (past_of (device_of after)).disk (past_of found)) where
    behind : (replies : Vec (Reply M) M) → KeepsWholeRun past_of today.requests.items replies.items engine after
        → RunsOn past_of today.requests.items replies.items engine after → AreLawful failures today.requests.items replies.items engine after
        → KeepsDays past_of failures g began (days ++ today ∷ []) (answers ++ Ok replies ∷ []) found
    behind replies whole ran lawful =
        let new : IsAt past_of (and_then (opening g given) today.requests.items replies.items) after = (ran (opening g given) at).at in
        let told : run.acknowledged given.last replies.items ≤ horizon_of after = new.safe in
        let safe : acknowledged (seen today.within replies.items) ≤ horizon_of after =
        omega (arith, ap acknowledged (seen_behind today.within replies.items so), (safe_both given.last replies.items).1, told) in
        let later : given.last ≤ horizon_of after = omega (arith, (safe_both given.last replies.items).0, told) in
        record {
          anew = stop.anew;
          each = λ image crash.
              survived past_of failures g began days answers before keeps images rise today engine is replies after new lawful (horizon_of after)
              (failures found) image safe later count (whole (opening g given) at image (stop.left image crash));
        }

    pub ended_behind : (answer : Answer M) → IfOk answer (λ replies. KeepsWholeRun past_of today.requests.items replies.items engine after)
        → IfOk answer (λ replies. RunsOn past_of today.requests.items replies.items engine after)
        → IfOk answer (λ replies. AreLawful failures today.requests.items replies.items engine after)
        → OnErr answer (after ≡ engine) → IfErr answer (λ e. e ≡ NoMemory)
        → KeepsDays past_of failures g began (days ++ today ∷ []) (answers ++ answer ∷ []) found
    ended_behind (Ok replies) whole ran lawful unmoved memory = behind replies whole ran lawful
    ended_behind (Err e) whole ran lawful unmoved memory =
        none e memory unmoved (stopped_now (past_of before).moment (past_of (device_of after)) (past_of found)
        (subst (λ (p : EngineParts D M). (past_of before).moment ≤ (past_of (device_of p)).moment) (sym unmoved) opening_leaves.later) stop)
