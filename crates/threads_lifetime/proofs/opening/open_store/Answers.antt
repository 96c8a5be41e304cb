use Rattle.std.proofs.Common.{◌∙◌, ap, arith, inl, inr, refl, sym, subst, ℕ}
use Rattle.std.proofs.lemmas.Bool.{false≢true}
use Rattle.core_model.specs.Histories.{CanOpen, Opened}
use Rattle.core_parts.specs.View.{CoreValue}
use Rattle.restart.specs.Reopening.{IsTurned}
use Rattle.restart.specs.Store.{over}
use Rattle.sector_device.specs.Disk.{IsSynced}
use Rattle.store_writer.specs.Parts.{device_of}
use Rattle.shared.specs.Openings.{IsJustOpened, IsOpening, opened_of}
use Rattle.threads_lifetime.specs.Openings.{IsNewWriter, Opens}
use Rattle.threads_lifetime.proofs.Opened.{just_opened, given_back, new_over_core, opened_is, opens, sound_opened, unsound_opened}
use Rattle.threads_lifetime.proofs.opening.open_store.Goals as goal

pub invariant_of-result : goal.invariant_of-result
invariant_of-result g c =
    let is = c.in-Ok.ensures.opened in
    let emptied = c.in-Ok.ensures.emptied in
    let parted = c.into_parts-core.ensures in
    let made = c.in-Ok-open.ensures.made in
    let same = c.in-Ok-open.ensures.core in
    let can : CanOpen (over is.geometry is.given) = sound_opened g.D.Device.past_of c.args.device c.in-Ok.engine is _ c.core.ensures
    (c.can_open.ensures.0 c.if-not-can_open.false) in (
      subst (λ (n : ℕ). IsOpening n c.in-Ok-open.opening) (sym made.counted.0) made,
      subst IsJustOpened (sym same) (just_opened g.D.Device.past_of c.args.device c.in-Ok.engine is emptied can _ _ _ parted.parts parted.left),
      subst (λ (v : CoreValue). IsNewWriter g.D.Device.past_of (opened_of v) c.into_parts-core.result.2) (sym same)
          (new_over_core g.D.Device.past_of c.args.device c.in-Ok.engine is emptied can _ _ _ parted.parts parted.left),
    )

pub returns-in-Ok-open : goal.returns-in-Ok-open
returns-in-Ok-open g c =
    let is = c.in-Ok.ensures.opened in
    let emptied = c.in-Ok.ensures.emptied in
    let parted = c.into_parts-core.ensures in
    let can : CanOpen (over is.geometry is.given) = sound_opened g.D.Device.past_of c.args.device c.in-Ok.engine is _ c.core.ensures
    (c.can_open.ensures.0 c.if-not-can_open.false) in
    let over_engine = opened_is g.D.Device.past_of c.args.device c.in-Ok.engine is emptied can _ _ _ parted.parts parted.left in
    let now = ap opened_of c.in-Ok-open.ensures.core ∙ over_engine in
    record {
      opened = record {
        most = omega arith;
        seats = c.in-Ok-open.ensures.made.counted.0;
        opened = subst (λ (o : Opened). Opens (g.D.Device.past_of c.args.device).disk.content o) (sym now)
            (opens g.D.Device.past_of c.args.device c.in-Ok.engine is);
        sound = subst CanOpen (sym now) can;
        device = subst (λ (d : g.row.D.Denot). IsTurned g.D.Device.past_of c.args.device d) (sym (ap (λ w. device_of w) parted.parts.writer-is)) is.device;
        synced = subst (λ (d : g.row.D.Denot). IsSynced (g.D.Device.past_of d).disk) (sym (ap (λ w. device_of w) parted.parts.writer-is)) is.synced;
        quiet = ap (λ w. g.D.Device.failures (device_of w)) parted.parts.writer-is ∙ c.in-Ok.ensures.quiet;
      };
      refused = tt;
      many = λ more. absurd (omega (arith, more));
    }

pub returns-then-not-can_open : goal.returns-then-not-can_open
returns-then-not-can_open g c = record {
  opened = tt;
  refused = unsound_opened g.D.Device.past_of c.args.device c.in-Ok.engine c.in-Ok.ensures.opened _ c.core.ensures
      (λ can. false≢true (sym c.if-not-can_open.true ∙ c.can_open.ensures.1 can)) g.D.Device.failures _ c.into_device.ensures.device c.in-Ok.ensures.quiet;
  many = λ more. absurd (omega (arith, more));
}

pub returns-in-Err-open : goal.returns-in-Err-open
returns-in-Err-open g c =
    let is = c.in-Ok.ensures.opened in
    let can : CanOpen (over is.geometry is.given) = sound_opened g.D.Device.past_of c.args.device c.in-Ok.engine is _ c.core.ensures
    (c.can_open.ensures.0 c.if-not-can_open.false) in
    record {
      opened = tt;
      refused = inr (inl (
        c.in-Err-open.ensures.no_memory,
        given_back g.D.Device.past_of c.args.device c.in-Ok.engine is g.D.Device.failures _ can
            (c.into_device-in-Err-open.ensures.device ∙ ap (λ w. device_of w) c.into_parts-core.ensures.parts.writer-is) c.in-Ok.ensures.quiet,
      ));
      many = λ more. absurd (omega (arith, more));
    }

pub returns-then-seats-gt-SEATS_MAX : goal.returns-then-seats-gt-SEATS_MAX
returns-then-seats-gt-SEATS_MAX g c = record {
  opened = tt;
  refused = inr (inr (refl, omega arith, refl));
  many = λ more. refl;
}

pub returns-in-Err : goal.returns-in-Err
returns-in-Err g c = record {
  opened = tt;
  refused = inl c.in-Err.ensures.refused;
  many = λ more. absurd (omega (arith, more));
}
