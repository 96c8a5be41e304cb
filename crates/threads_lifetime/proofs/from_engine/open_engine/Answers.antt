use Rattle.std.proofs.Common.{◌∙◌, ℕ, ap, arith, inl, inr, refl, subst, sym}
use Rattle.std.proofs.lemmas.Bool.{false≢true}
use Rattle.core_model.specs.Histories.{CanOpen, Opened}
use Rattle.restart.specs.Parts.{core_of}
use Rattle.shared.specs.Openings.{IsJustOpened, IsOpening, opened_of}
use Rattle.threads_lifetime.specs.Openings.{IsNewWriter, Opens}
use Rattle.threads_lifetime.proofs.Engines.{fresh_begins, new_settled, none_active, some_active, stays_settled}
use Rattle.threads_lifetime.proofs.from_engine.open_engine.Goals as goal

pub fresh_core-requires : goal.fresh_core-requires
fresh_core-requires g c = none_active _ _ c.core.ensures _ c.active_txns.ensures.number c.if-active_txns-gt0.false

pub into_writer-requires : goal.into_writer-requires
into_writer-requires g c = none_active _ _ c.core.ensures _ c.active_txns.ensures.number c.if-active_txns-gt0.false

pub invariant_of-result : goal.invariant_of-result
invariant_of-result g c =
    let h = g.D.Device.past_of in
    let fresh = c.in-Ok.ensures.fresh in
    let made = c.in-Ok-open.ensures.made in
    let same = c.in-Ok-open.ensures.core in (
      subst (λ (n : ℕ). IsOpening n c.in-Ok-open.opening) (sym made.counted.0) made,
      subst IsJustOpened (sym same) (fresh_begins (core_of c.args.engine) _ fresh (c.can_open.ensures.0 c.if-not-can_open.false)),
      subst (λ (o : Opened). IsNewWriter h o c.in-Ok-into_writer.writer) (sym (ap opened_of same ∙ fresh.same))
          (new_settled h _ c.in-Ok-into_writer.writer c.in-Ok-into_writer.ensures.written.settled),
    )

pub returns-in-Ok-into_writer : goal.returns-in-Ok-into_writer
returns-in-Ok-into_writer g c =
    let h = g.D.Device.past_of in
    let written = c.in-Ok-into_writer.ensures.written in
    let now = ap opened_of c.in-Ok-open.ensures.core ∙ c.in-Ok.ensures.fresh.same in
    record {
      opened = record {
        most = omega arith;
        seats = c.in-Ok-open.ensures.made.counted.0;
        quiet = none_active _ _ c.core.ensures _ c.active_txns.ensures.number c.if-active_txns-gt0.false;
        opened = now;
        sound = subst CanOpen (sym now) (c.can_open.ensures.0 c.if-not-can_open.false);
        stays = λ image crash. subst (Opens image) (sym now) (stays_settled h _ c.in-Ok-into_writer.writer written.settled image crash);
        survives = written.survives;
        well = written.quiet;
        around = written.around;
      };
      refused = tt;
      many = λ more. absurd (omega (arith, more));
    }

pub returns-then-active_txns-gt0 : goal.returns-then-active_txns-gt0
returns-then-active_txns-gt0 g c = record {
  opened = tt;
  refused = inl
      (inl (refl, some_active _ _ c.core.ensures _ c.active_txns.ensures.number c.if-active_txns-gt0.true, refl));
  many = λ more. absurd (omega (arith, more));
}

pub returns-then-not-can_open : goal.returns-then-not-can_open
returns-then-not-can_open g c = record {
  opened = tt;
  refused = (
    none_active _ _ c.core.ensures _ c.active_txns.ensures.number c.if-active_txns-gt0.false,
    λ can. false≢true (sym c.if-not-can_open.true ∙ c.can_open.ensures.1 can),
    refl,
  );
  many = λ more. absurd (omega (arith, more));
}

pub returns-in-Err : goal.returns-in-Err
returns-in-Err g c = record {
  opened = tt;
  refused = inl (inr (
    none_active _ _ c.core.ensures _ c.active_txns.ensures.number c.if-active_txns-gt0.false,
    c.can_open.ensures.0 c.if-not-can_open.false,
    inl (c.in-Err.ensures.no_memory, refl),
  ));
  many = λ more. absurd (omega (arith, more));
}

pub returns-in-Err-open : goal.returns-in-Err-open
returns-in-Err-open g c = record {
  opened = tt;
  refused = inl (inr (
    none_active _ _ c.core.ensures _ c.active_txns.ensures.number c.if-active_txns-gt0.false,
    c.can_open.ensures.0 c.if-not-can_open.false,
    inl (c.in-Err-open.ensures.no_memory, refl),
  ));
  many = λ more. absurd (omega (arith, more));
}

pub returns-in-Err-into_writer : goal.returns-in-Err-into_writer
returns-in-Err-into_writer g c = record {
  opened = tt;
  refused = inl (inr (
    none_active _ _ c.core.ensures _ c.active_txns.ensures.number c.if-active_txns-gt0.false,
    c.can_open.ensures.0 c.if-not-can_open.false,
    inr c.in-Err-into_writer.ensures.refused,
  ));
  many = λ more. absurd (omega (arith, more));
}

pub returns-then-seats-gt-SEATS_MAX : goal.returns-then-seats-gt-SEATS_MAX
returns-then-seats-gt-SEATS_MAX g c = record {
  opened = tt;
  refused = inr (refl, omega arith, refl);
  many = λ more. refl;
}
