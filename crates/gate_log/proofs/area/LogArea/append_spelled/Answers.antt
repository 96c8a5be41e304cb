use Rattle.std.proofs.Common.{◌≡◌, ◌+◌, ◌<◌, ◌∷◌, ◌++◌, [], ℕ, List, false, inl, refl, sym, subst, ◌∙◌, arith, length-append}
use Rattle.sector_device.specs.Values.{IsMarked}
use Rattle.sector_device.specs.Disk.{CrashState}
use Rattle.sector_device.proofs.KnownSectors.{is_marked}
use Rattle.sector_device.proofs.Moments.{weaker}
use Rattle.sector_device.proofs.Sectors.{same_outside_wider, crash_synced}
use Rattle.records.specs.RecordValue.{RecordValue}
use Rattle.gate_log.specs.Group.{IsGroup}
use Rattle.gate_log.specs.Area.{Log, gate, InArea, IsAreaInside, HoldsGroups, Stands, IsAppended}
use Rattle.gate_log.specs.Steps.{MayDiffer, IsPartlyWritten}
use Rattle.gate_log.proofs.Runs.{done_not_full, from_ok, from_err, full_not_done, refused_not}
use Rattle.gate_log.proofs.Slots.{length-group, nothing_appended, appended, is_appended}
use Rattle.gate_log.proofs.area.LogArea.append_spelled.Goals as goal

pub returns-then-self : goal.returns-then-self
returns-then-self g c =
    rw (← c.self.view_is) (
    let h = g.D.Device.past_of in
    let old = h c.args.device.now in
    let log : Log = record { area = record { first = c.self.inside.first; slots = c.self.inside.slots }; open_slots = c.self.inside.open_slots } in
    let all_synced = subst (λ (l : Log). (n : ℕ) → InArea l.area n → old.disk.unsynced n ≡ false) (sym c.self.view_is) c.requires.synced in
    record {
      done = λ is. absurd (full_not_done is);
      marked = λ is. absurd (full_not_done is);
      synced = λ is. absurd (full_not_done is);
      survives = λ is. absurd (full_not_done is);
      full = (λ _. c.if-self.true, λ _. refl);
      any_moment = λ records group. nothing_appended log old records all_synced;
      outside = record { sectors = refl; same = λ k out. refl };
      area = refl;
      err = tt;
      unchanged = λ _. (refl, refl);
      refused = tt;
      quiet = refl;
      later = omega arith;
    })

pub overflow_mul-gate : goal.overflow_mul-gate
overflow_mul-gate g c = omega (arith, c.self.invariant.0, c.self.invariant.1)

pub overflow_add-gate : goal.overflow_add-gate
overflow_add-gate g c = omega (arith, c.self.invariant.0, c.self.invariant.1)

pub write_group-requires : goal.write_group-requires
write_group-requires g c =
    let h = g.D.Device.past_of in
    let old = h c.args.device.now in
    let log : Log = record { area = record { first = c.self.inside.first; slots = c.self.inside.slots }; open_slots = c.self.inside.open_slots } in
    let all_synced = subst (λ (l : Log). (n : ℕ) → InArea l.area n → old.disk.unsynced n ≡ false) (sym c.self.view_is) c.requires.synced in
    let inside = subst (λ (l : Log). IsAreaInside l.area old.disk.content) (sym c.self.view_is) c.requires.inside in
    let room : c.self.inside.open_slots < c.self.inside.slots = omega (arith, c.self.invariant.1, c.if-self.false) in
    record {
      size = length-group c.requires.spelled.0 c.args.body.now c.requires.spelled.1;
      inside = omega (arith, inside, room);
      number = omega (arith, c.self.invariant.0, room);
      synced = all_synced (gate log.area log.open_slots) (omega arith, omega (arith, room));
    }

pub returns-then-is_err : goal.returns-then-is_err
returns-then-is_err g c =
    rw (← c.self.view_is) (
    let h = g.D.Device.past_of in
    let old = h c.args.device.now in
    let log : Log = record { area = record { first = c.self.inside.first; slots = c.self.inside.slots }; open_slots = c.self.inside.open_slots } in
    let all_synced = subst (λ (l : Log). (n : ℕ) → InArea l.area n → old.disk.unsynced n ≡ false) (sym c.self.view_is) c.requires.synced in
    let new = h c.write_group.new.device in
    let room : c.self.inside.open_slots < c.self.inside.slots = omega (arith, c.self.invariant.1, c.if-self.false) in
    let done = c.write_group.ensures in
    record {
      done = λ is. absurd (refused_not _ _ is);
      marked = λ is. absurd (refused_not _ _ is);
      synced = λ is. absurd (refused_not _ _ is);
      survives = λ is. absurd (refused_not _ _ is);
      full = (λ is. absurd (refused_not _ _ is), λ all. absurd (omega (arith, room, all)));
      any_moment = λ records group. weaker old new (IsPartlyWritten old.disk (gate log.area log.open_slots) c.args.body.now) (IsAppended log old.disk records)
          (λ i partly. appended log old.disk records all_synced room c.args.body.now i group partly) done.any_moment;
      outside = done.outside;
      area = refl;
      err = refl;
      unchanged = λ is. absurd (refused_not _ _ is);
      refused = (refl, from_err _ c.write_group.result (sym c.is_err.ensures.value ∙ c.if-is_err.true) done.counts.failed);
      quiet = tt;
      later = done.counts.later;
    })

pub overflow_add-self : goal.overflow_add-self
overflow_add-self g c = omega (arith, c.self.invariant.0, c.self.invariant.1, c.if-self.false)

pub invariant_of-self : goal.invariant_of-self
invariant_of-self g c = (c.self.invariant.0, omega (arith, c.self.invariant.1, c.if-self.false))

pub returns : goal.returns
returns g c =
    rw (← c.self.view_is) (
    let h = g.D.Device.past_of in
    let old = h c.args.device.now in
    let log : Log = record { area = record { first = c.self.inside.first; slots = c.self.inside.slots }; open_slots = c.self.inside.open_slots } in
    let all_synced = subst (λ (l : Log). (n : ℕ) → InArea l.area n → old.disk.unsynced n ≡ false) (sym c.self.view_is) c.requires.synced in
    let new = h c.write_group.new.device in
    let room : c.self.inside.open_slots < c.self.inside.slots = omega (arith, c.self.invariant.1, c.if-self.false) in
    let done = c.write_group.ensures in
    let n = gate log.area log.open_slots in
    let ok = sym c.is_err.ensures.value ∙ c.if-is_err.false in
    let outside = same_outside_wider _ (MayDiffer old.disk n (n + 8)) _ _ (λ k inside. inl inside) done.outside in
    let held = λ (records : List RecordValue) (groups : List (List RecordValue)) (group : IsGroup records c.args.body.now)
    (stood : Stands log old.disk.content groups).
    is_appended log old.disk records all_synced room c.args.body.now new.disk.content groups group outside stood
    (subst IsMarked (sym (from_ok _ _ ok done.opened)) is_marked) (from_ok _ _ ok done.written) in
    record {
      done = λ _ records groups group stood. record {
        held = held records groups group stood;
        counted = omega (arith, stood.counted, length-append {A = List RecordValue} groups (records ∷ []));
      };
      marked = λ _. from_ok _ _ ok done.opened;
      synced = λ _. from_ok _ _ ok done.synced;
      survives = λ _ records groups image group stood crash. subst (λ (i : CrashState). HoldsGroups log.area i (groups ++ records ∷ []))
          (sym (crash_synced new.disk image (from_ok _ _ ok done.synced) crash)) (held records groups group stood);
      full = (λ is. absurd (done_not_full is), λ all. absurd (omega (arith, room, all)));
      any_moment = λ records group. weaker old new (IsPartlyWritten old.disk (gate log.area log.open_slots) c.args.body.now) (IsAppended log old.disk records)
          (λ i partly. appended log old.disk records all_synced room c.args.body.now i group partly) done.any_moment;
      outside = done.outside;
      area = refl;
      err = tt;
      unchanged = λ is. absurd (done_not_full is);
      refused = tt;
      quiet = from_ok _ _ ok done.counts.none;
      later = done.counts.later;
    })
