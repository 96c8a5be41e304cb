-- What goes through the states of the flush loop goes on.
use Rattle.std.proofs.Common.{◌≡◌, ◌⊎◌, ◌≤◌, ◌++◌, ℕ, List, [], ◌∷◌, Result, Ok, Err, IfErr, OnOk, false, true, inl, inr, refl, sym, ap, ◌∙◌}
use Rattle.std.proofs.lemmas.Bool.{cases_lt, le-leb, lt-leb}
use Rattle.threads_flusher.specs.Images.{IsHalfFull}
use Rattle.std.proofs.Common.{Bool, nat_le, if◌then◌else◌, ◌/◌, subst, arith, append_assoc}
use Rattle.record_values.specs.declared.error.Error.{Error}
use Rattle.record_values.specs.declared.error.Error.TheVariants.{DeviceFailed}
use Rattle.core_model.specs.Histories.{Opened}
use Rattle.sector_device.specs.DevicePast.{DevicePast, LeavesOnly}
use Rattle.sector_device.proofs.Moments.{weaker}
use Rattle.board.specs.Views.{FlusherCount}
use Rattle.flip_image.specs.Layout.{HalvesValue}
use Rattle.store_writer.specs.Parts.{device_of, halves_of, has_failed, log_of, synced_of, without_image}
use Rattle.store_writer.specs.declared.copying.Copying.{Copying}
use Rattle.store_writer.specs.declared.copying.Copying.TheVariants.{GivenUp, Idle}
use Rattle.threads_flusher.specs.Going.{GoesOn, LeavesImage, TakesIn}
use Rattle.threads_flusher.specs.Part.{FlushValue, GivesBeginning, IsFlusher, popped_by}
use Rattle.threads_flusher.proofs.Going.{counted_same, counted_then, goes_by_leaving, goes_nowhere, goes_then}
use Rattle.threads_flusher.proofs.Publications.{beginning_of, same_store}
use Rattle.threads_loops.specs.Through.{Calls, DropsImage, GoesThrough, HasFlushed, RunsThrough, taken_up}
use Rattle.threads_loops.proofs.Through.{goes_by}

-- what is published is not above what is synced
abbrev IsLow : {D A : Type 0} → FlushValue D A → Type 0
IsLow f = f.published.horizon ≤ synced_of f.writer

module _ {D A : Type 0} (past_of : D → DevicePast) (failures : D → ℕ) (o : Opened) (old mid new : FlushValue D A)
    (goes : GoesOn past_of failures o old mid) where
  -- it went on, and then records were popped and handed in
  then_taking : TakesIn mid new → GoesOn past_of failures o old new
  then_taking takes =
      let geometry : (halves_of new.writer).geometry ≡ (halves_of mid.writer).geometry = ap (λ (h : HalvesValue). h.geometry) takes.got.halves in
      let counts : failures (device_of mid.writer) ≤ failures (device_of new.writer) = omega (arith, ap failures takes.got.device) in
      record {
        popped = goes.popped ++ takes.popped;
        popped-are = takes.popped-are ∙ ap (λ l. l ++ takes.popped) goes.popped-are ∙ append_assoc (popped_by old) goes.popped takes.popped;
        more = goes.more ++ takes.more;
        handed = takes.handed ∙ ap (λ l. l ++ takes.more) goes.handed ∙ append_assoc old.handed goes.more takes.more;
        since = goes.since;
        publications = takes.publications ∙ goes.publications;
        behind = goes.behind;
        geometry = geometry ∙ goes.geometry;
        rises = omega (arith, goes.rises, takes.got.synced);
        horizon = omega (arith, goes.horizon, ap (λ (c : FlusherCount). c.horizon) takes.published);
        images =
            subst (λ (d : D). LeavesOnly (past_of (device_of old.writer)) (past_of d)
            (GivesBeginning o (halves_of new.writer).geometry new.handed (synced_of old.writer))) (sym takes.got.device)
            (weaker (past_of (device_of old.writer)) (past_of (device_of mid.writer))
            (GivesBeginning o (halves_of mid.writer).geometry mid.handed (synced_of old.writer))
            (GivesBeginning o (halves_of new.writer).geometry new.handed (synced_of old.writer))
            (λ image left. beginning_of o (halves_of new.writer).geometry mid.handed takes.more new.handed (synced_of old.writer)
            (synced_of old.writer) image takes.handed (omega arith)
            (same_store o (halves_of mid.writer).geometry (halves_of new.writer).geometry mid.handed (synced_of old.writer) image geometry left))
            goes.images);
        later = omega (arith, goes.later, counts);
        counted = counted_then (has_failed old.writer) (has_failed mid.writer) (has_failed new.writer) (failures (device_of old.writer))
            (failures (device_of mid.writer)) (failures (device_of new.writer)) goes.later counts goes.counted
            (counted_same (has_failed mid.writer) (has_failed new.writer) (failures (device_of mid.writer)) (failures (device_of new.writer)) takes.got.failed);
        stays = λ now. goes.stays (sym takes.got.failed ∙ now);
        quiet = λ now. ap failures takes.got.device ∙ goes.quiet (sym takes.got.failed ∙ now);
      }

  -- or an image was given up
  then_leaving : (copying : Copying) → LeavesImage copying mid new → GoesOn past_of failures o old new
  then_leaving copying leaves = subst (GoesOn past_of failures o old) (sym leaves) (record {
    popped = goes.popped;
    popped-are = goes.popped-are;
    more = goes.more;
    handed = goes.handed;
    since = goes.since;
    publications = goes.publications;
    behind = goes.behind;
    geometry = goes.geometry;
    rises = goes.rises;
    horizon = goes.horizon;
    images = goes.images;
    later = goes.later;
    counted = goes.counted;
    stays = goes.stays;
    quiet = goes.quiet;
  })

module _ {D A : Type 0} (past_of : D → DevicePast) (marks : ℕ → ℕ → Type 0) (failures : D → ℕ) (o : Opened) where
  -- so a step of the loop goes on
  step_on : (old mid next : FlushValue D A) → GoesOn past_of failures o old mid → IsLow mid
      → TakesIn mid next ⊎ (Calls past_of marks failures o mid next ⊎ DropsImage o mid next) → GoesOn past_of failures o old next × IsLow next
  step_on old mid next goes low (inl takes) = (
    then_taking past_of failures o old mid next goes takes,
    omega (arith, low, takes.got.synced, ap (λ (c : FlusherCount). c.horizon) takes.published),
  )
  step_on old mid next goes low (inr (inl call)) = (
    goes_then past_of failures o old mid next goes (goes_by past_of failures o mid next low call),
    omega (arith, ap (λ (c : FlusherCount). c.horizon) call.publishes.published),
  )
  step_on old mid next goes low (inr (inr drops)) = (
    then_leaving past_of failures o old mid next goes GivenUp drops.2,
    subst (λ (f : FlushValue D A). IsLow f) (sym drops.2) low,
  )

  goes_through : (old mid new : FlushValue D A) (states : List (FlushValue D A)) → GoesOn past_of failures o old mid → IsLow mid
      → GoesThrough past_of marks failures o mid states new → GoesOn past_of failures o old new
  goes_through old mid new [] goes low is = subst (GoesOn past_of failures o old) (sym is) goes
  goes_through old mid new (next ∷ states) goes low is =
      let now : GoesOn past_of failures o old next × IsLow next = step_on old mid next goes low is.0 in
      goes_through old next new states now.0 now.1 is.1

-- what a loop takes up
module _ {D A : Type 0} (f : FlushValue D A) where
  abbrev up_as : Bool → FlushValue D A
  up_as b = if b then f else record f { writer = without_image Idle f.writer }

  pub up_half_full : IsHalfFull f.writer → taken_up f ≡ f
  up_half_full half = ap up_as (le-leb ((halves_of f.writer).geometry.slots / 2) (log_of f.writer).open_slots half)

  pub up_forgotten : (IsHalfFull f.writer → ⊥) → taken_up f ≡ record f { writer = without_image Idle f.writer }
  up_forgotten less = elim (cases_lt (log_of f.writer).open_slots ((halves_of f.writer).geometry.slots / 2)) [
    | inl low ↦ ap up_as (lt-leb ((halves_of f.writer).geometry.slots / 2) (log_of f.writer).open_slots low)
    | inr high ↦ absurd (less high)
  ]

module _ {D A : Type 0} {marks : ℕ → ℕ → Type 0} (past_of : D → DevicePast) (failures : D → ℕ) (o : Opened) where
  -- what a loop takes up went on
  up_by : (b : Bool) (f : FlushValue D A) → IsFlusher past_of marks o f
      → GoesOn past_of failures o f (if b then f else record f { writer = without_image Idle f.writer })
      × IsLow (if b then f else record f { writer = without_image Idle f.writer })
  up_by true f is = (goes_nowhere past_of failures o f is, is.horizon)
  up_by false f is = (goes_by_leaving past_of failures o Idle f (record f { writer = without_image Idle f.writer }) is refl, is.horizon)

  -- and so does the loop
  pub goes_by_running : (old new : FlushValue D A) → IsFlusher past_of marks o old → RunsThrough past_of marks failures o old new
      → GoesOn past_of failures o old new
  goes_by_running old new is through =
      let up = up_by (nat_le ((halves_of old.writer).geometry.slots / 2) (log_of old.writer).open_slots) old is in
      goes_through past_of marks failures o old (taken_up old) new through.states up.0 up.1 through.steps

  -- so has one whose device has not failed where it ended with `Ok`
  pub has_flushed : (P : Type 0) (old new : FlushValue D A) (ended : Result (Unit {0}) Error) → GoesOn past_of failures o old new
      → RunsThrough past_of marks failures o old new → OnOk ended (P × (has_failed new.writer ≡ false))
      → IfErr ended (λ e. (e ≡ DeviceFailed) × (has_failed new.writer ≡ true)) → HasFlushed past_of marks failures o old new ended
  has_flushed P old new (Ok x) goes through stopped failed = record { goes_on = goes; through = through; sound = stopped.1; failed = tt }
  has_flushed P old new (Err e) goes through stopped failed = record { goes_on = goes; through = through; sound = tt; failed = failed }
