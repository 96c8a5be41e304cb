use Rattle.std.proofs.Common.{◌≡◌, ℕ, List, Err, false, inl, inr, ⊎_elim, refl, sym, ap, ◌∙◌, subst, arith}
use Rattle.std.proofs.lemmas.Result.{err_from_is_err_and, IfErr-weaker}
use Rattle.records.specs.RecordValue.{RecordValue}
use Rattle.gate_log.specs.Group.{IsGroup}
use Rattle.gate_log.specs.Area.{Log, InArea}
use Rattle.gate_log.proofs.Runs.{full_not_done, not_no_memory, refused_not}
use Rattle.gate_log.proofs.Slots.{nothing_appended}
use Rattle.gate_log.proofs.area.LogArea.append.Goals as goal

pub returns-in_err-body : goal.returns-in_err-body
returns-in_err-body g c =
    let p = err_from_is_err_and c.from_residual.result c.from_residual.ensures.1 in
    rw (← c.self.view_is, p.1 ∙ ap Err p.2) (
    let old = g.D.Device.past_of c.args.device.now in
    let log : Log = record { area = record { first = c.self.inside.first; slots = c.self.inside.slots }; open_slots = c.self.inside.open_slots } in
    let all_synced = subst (λ (l : Log). (n : ℕ) → InArea l.area n → old.disk.unsynced n ≡ false) (sym c.self.view_is) c.requires.synced in
    record {
      done = λ is. absurd (refused_not _ _ is);
      marked = λ is. absurd (refused_not _ _ is);
      synced = λ is. absurd (refused_not _ _ is);
      survives = λ is. absurd (refused_not _ _ is);
      full = (λ is. absurd (refused_not _ _ is), λ all. absurd (omega (arith, all, c.if-self.true)));
      any_moment = nothing_appended log old c.args.records.now all_synced;
      outside = record { sectors = refl; same = λ k out. refl };
      area = refl;
      err = refl;
      unchanged = λ _. (refl, refl);
      refused = inl c.in_err-body.ensures.no_memory;
      quiet = tt;
      later = omega arith;
    })

pub append_spelled-requires : goal.append_spelled-requires
append_spelled-requires g c =
    let group : IsGroup c.args.records.now c.deref.result.now = subst (IsGroup c.args.records.now) (sym c.deref.ensures.value) c.in_ok-body.ensures.ok in
    record {
      spelled = (c.args.records.now, group);
      inside = c.requires.inside;
      synced = c.requires.synced;
      stands = c.requires.stands;
    }

pub returns-in_ok-body : goal.returns-in_ok-body
returns-in_ok-body g c =
    let group : IsGroup c.args.records.now c.deref.result.now = subst (IsGroup c.args.records.now) (sym c.deref.ensures.value) c.in_ok-body.ensures.ok in
    let records : List RecordValue = c.args.records.now in
    let done = c.append_spelled.ensures in
    record {
      done = λ is groups stands. done.done is records groups group stands;
      marked = done.marked;
      synced = done.synced;
      survives = λ is groups image stands crash. done.survives is records groups image group stands crash;
      full = done.full;
      any_moment = done.any_moment records group;
      outside = done.outside;
      area = done.area;
      err = done.err;
      unchanged = ⊎_elim done.unchanged (λ is. absurd (not_no_memory _ _ _ is done.refused));
      refused = IfErr-weaker _ _ _ (λ e failed. inr failed) done.refused;
      quiet = done.quiet;
      later = done.later;
    }

pub returns-else-self : goal.returns-else-self
returns-else-self g c =
    rw (← c.self.view_is) (
    let old = g.D.Device.past_of c.args.device.now in
    let log : Log = record { area = record { first = c.self.inside.first; slots = c.self.inside.slots }; open_slots = c.self.inside.open_slots } in
    let all_synced = subst (λ (l : Log). (n : ℕ) → InArea l.area n → old.disk.unsynced n ≡ false) (sym c.self.view_is) c.requires.synced in
    record {
      done = λ is. absurd (full_not_done is);
      marked = λ is. absurd (full_not_done is);
      synced = λ is. absurd (full_not_done is);
      survives = λ is. absurd (full_not_done is);
      full = (λ _. omega (arith, c.if-self.false, c.self.invariant.1), λ _. refl);
      any_moment = nothing_appended log old c.args.records.now all_synced;
      outside = record { sectors = refl; same = λ k out. refl };
      area = refl;
      err = tt;
      unchanged = λ _. (refl, refl);
      refused = tt;
      quiet = refl;
      later = omega arith;
    })
