use Rattle.std.proofs.Common.{◌≡◌, ◌/◌, ◌+◌, ◌<◌, length, Option, IfSome, Ok, inl, inr, ⊎_elim, refl, sym, ap, subst, ◌∙◌, arith}
use Rattle.std.proofs.lemmas.Bool.{cases_lt}
use Rattle.std.proofs.lemmas.Option.{none-some, same_Some}
use Rattle.gate_log.specs.Area.{Area}
use Rattle.gate_log.specs.declared.area.Appended.TheVariants.{Done, Full}
use Rattle.store_writer.specs.declared.image.NewImage.{NewImage}
use Rattle.store_writer.specs.Image.{IsUnderway, IsPlan}
use Rattle.store_writer.proofs.Carrying.{appended, becomes_more, becomes_none, becomes_same, gives_up, one_more_open, room_where_done}
use Rattle.store_writer.proofs.Carrying.{room_where_failed, to_carry, untouched}
use Rattle.store_writer.proofs.Underway.{append_outside, carried_more, if_not_carried}
use Rattle.store_writer.proofs.image.carry.Goals as goal

pub returns-in-Keep : goal.returns-in-Keep
returns-in-Keep g c =
    let past_of = g.D.Device.past_of in
    let device = c.args.device.now in
    let (all, (outside, leaves, slot)) = untouched past_of c.args.image device device c.requires.synced refl in
    record {
      carried = λ slots synced group planned run half is slots_is opened made group_is.
          let keep = subst (IsPlan c.args.image slots synced group) c.in-Keep.is planned in
          if_not_carried run half (past_of device).disk.content synced (synced + length group) c.args.image (omega arith)
          (λ i it. ⊎_elim (λ above. inl (omega (arith, above, keep i it))) (λ low. inr (omega (arith, low, keep i it))) (cases_lt synced i.base)) is;
      becomes = λ slots synced group planned run half is slots_is some.
          becomes_same slots synced (length group) c.args.image some (subst (IsPlan c.args.image slots synced group) c.in-Keep.is planned);
      none = λ none. none;
      stage = λ n is. (n, is, refl);
      synced = all;
      outside = outside;
      any_moment = leaves;
      slot = slot;
      counts = record { later = omega arith; none = refl; failed = tt };
      keeps = λ none. tt;
    }

pub returns-in-GiveUp : goal.returns-in-GiveUp
returns-in-GiveUp g c =
    let device = c.args.device.now in
    let (all, (outside, leaves, slot)) = untouched g.D.Device.past_of c.args.image device device c.requires.synced refl in
    record {
      carried = λ slots synced group planned run half is slots_is opened made group_is. tt;
      becomes = λ slots synced group planned run half is slots_is some.
          let (i, there, more, late) = subst (IsPlan c.args.image slots synced group) c.in-GiveUp.is planned in
          gives_up slots synced (length group) c.args.image i there more late;
      none = λ none. refl;
      stage = λ n is. absurd (none-some n is);
      synced = all;
      outside = outside;
      any_moment = leaves;
      slot = slot;
      counts = record { later = omega arith; none = refl; failed = tt };
      keeps = λ none. tt;
    }

pub returns-in_default : goal.returns-in_default
returns-in_default g c =
    let device = c.args.device.now in
    let (all, (outside, leaves, slot)) = untouched g.D.Device.past_of c.args.image device device c.requires.synced refl in
    record {
      carried = λ slots synced group planned run half is slots_is opened made group_is. tt;
      becomes = λ slots synced group planned run half is slots_is some. becomes_none slots synced (length group) c.args.image c.in_default.is;
      none = λ none. refl;
      stage = λ n is. absurd (none-some n is);
      synced = all;
      outside = outside;
      any_moment = leaves;
      slot = slot;
      counts = record { later = omega arith; none = refl; failed = tt };
      keeps = λ none. tt;
    }

pub append_spelled-requires : goal.append_spelled-requires
append_spelled-requires g c =
    let (slots, synced, group, plan) = c.requires.planned in
    let planned = to_carry slots synced group c.args.image c.in-Some.image c.in-Some.is _ c.deref.result.now c.deref.ensures.value
    (subst (IsPlan c.args.image slots synced group) c.in-Carry.is plan) in
    record {
      spelled = (_, planned.2);
      inside = c.requires.inside c.in-Some.image c.in-Some.is;
      synced = λ n inside. c.requires.synced n;
      stands = c.requires.stands c.in-Some.image c.in-Some.is;
    }

pub returns-in-Ok-Done : goal.returns-in-Ok-Done
returns-in-Ok-Done g c =
    let past_of = g.D.Device.past_of in
    let h = past_of c.args.device.now in
    let now = (past_of c.append_spelled.new.device).disk.content in
    let new : NewImage = c.in-Some.image in
    let log = c.append_spelled.new.self in
    let taken : NewImage = record { base = new.base; number = new.number; stage = new.stage; log = log } in
    let done : c.append_spelled.result ≡ Ok Done = c.in-Ok-Done.is ∙ ap Ok c.in-Ok-Done.field-0-is in
    let room : new.log.open_slots < new.log.area.slots =
    room_where_done c.append_spelled.result _ _ (c.requires.room new c.in-Some.is) c.append_spelled.ensures.full done in
    let (any_slots, any_synced, any_group, any_plan) = c.requires.planned in
    let some_planned = to_carry any_slots any_synced any_group c.args.image new c.in-Some.is _ c.deref.result.now c.deref.ensures.value
    (subst (IsPlan c.args.image any_slots any_synced any_group) c.in-Carry.is any_plan) in
    let (outside, leaves, slot) = appended past_of c.args.image c.args.device.now c.append_spelled.new.device c.requires.synced new c.in-Some.is room _
    c.append_spelled.ensures.outside (c.append_spelled.ensures.any_moment _ some_planned.2) in
    record {
      carried = λ slots synced group plan run half is slots_is opened made group_is.
          let planned = to_carry slots synced group c.args.image new c.in-Some.is _ c.deref.result.now c.deref.ensures.value
          (subst (IsPlan c.args.image slots synced group) c.in-Carry.is plan) in
          let there : IsUnderway run half h.disk.content synced new =
          subst (λ (t : Option NewImage). IfSome t (IsUnderway run half h.disk.content synced)) c.in-Some.is is in
          carried_more run half h.disk.content now synced new there log group (length group) opened group_is made
          (omega (arith, planned.0)) (subst (λ n. new.log.open_slots < n / 2) slots_is planned.1)
          (append_outside new.log h c.requires.synced room now c.append_spelled.ensures.outside) c.append_spelled.ensures.area
          (c.append_spelled.ensures.done done _ there.groups planned.2 there.stands);
      becomes = λ slots synced group plan run half is slots_is some.
          let planned = to_carry slots synced group c.args.image new c.in-Some.is _ c.deref.result.now c.deref.ensures.value
          (subst (IsPlan c.args.image slots synced group) c.in-Carry.is plan) in
          let there : IsUnderway run half h.disk.content synced new =
          subst (λ (t : Option NewImage). IfSome t (IsUnderway run half h.disk.content synced)) c.in-Some.is is in
          becomes_more slots synced (length group) c.args.image new taken c.in-Some.is planned.0 planned.1 refl refl refl
          (one_more_open there.groups _ _ _ there.stands.counted (c.append_spelled.ensures.done done _ there.groups planned.2 there.stands).counted);
      none = λ none. absurd (none-some _ (sym none ∙ c.in-Some.is));
      stage = λ n is.
          let same : taken ≡ n = same_Some _ _ is in
          (new, c.in-Some.is, ap (λ (x : NewImage). x.stage) (sym same));
      synced = c.append_spelled.ensures.synced done;
      outside = outside;
      any_moment = leaves;
      slot = slot;
      counts = record { later = c.append_spelled.ensures.later; none = c.in-Ok-Done.ensures.quiet; failed = tt };
      keeps = λ none. tt;
    }

pub returns-in-Ok-Full : goal.returns-in-Ok-Full
returns-in-Ok-Full g c =
    let past_of = g.D.Device.past_of in
    let device = c.args.device.now in
    let new : NewImage = c.in-Some.image in
    let full : c.append_spelled.result ≡ Ok Full = c.in-Ok-Full.is ∙ ap Ok c.in-Ok-Full.field-0-is in
    let (all, (outside, leaves, slot)) =
    untouched past_of c.args.image device c.append_spelled.new.device c.requires.synced (c.append_spelled.ensures.unchanged full).1 in
    record {
      carried = λ slots synced group plan run half is slots_is opened made group_is. tt;
      becomes = λ slots synced group plan run half is slots_is some.
          let planned = to_carry slots synced group c.args.image new c.in-Some.is _ c.deref.result.now c.deref.ensures.value
          (subst (IsPlan c.args.image slots synced group) c.in-Carry.is plan) in
          let there : IsUnderway run half (past_of device).disk.content synced new =
          subst (λ (t : Option NewImage). IfSome t (IsUnderway run half (past_of device).disk.content synced)) c.in-Some.is is in
          absurd (omega (arith, planned.1, c.append_spelled.ensures.full.0 full, ap (λ (a : Area). a.slots) there.area-is, slots_is));
      none = λ none. refl;
      stage = λ n is. absurd (none-some n is);
      synced = all;
      outside = outside;
      any_moment = leaves;
      slot = slot;
      counts = record { later = c.append_spelled.ensures.later; none = c.in-Ok-Full.ensures.quiet; failed = tt };
      keeps = λ none. tt;
    }

pub returns : goal.returns
returns g c =
    let new : NewImage = c.in-Some.image in
    let room : new.log.open_slots < new.log.area.slots =
    room_where_failed c.append_spelled.result _ _ _ (c.requires.room new c.in-Some.is) c.append_spelled.ensures.full c.in-Err.is in
    let (slots, synced, group, plan) = c.requires.planned in
    let planned = to_carry slots synced group c.args.image new c.in-Some.is _ c.deref.result.now c.deref.ensures.value
    (subst (IsPlan c.args.image slots synced group) c.in-Carry.is plan) in
    let (outside, leaves, slot) = appended g.D.Device.past_of c.args.image c.args.device.now c.append_spelled.new.device c.requires.synced new c.in-Some.is
    room _ c.append_spelled.ensures.outside (c.append_spelled.ensures.any_moment _ planned.2) in
    record {
      carried = tt;
      becomes = tt;
      none = tt;
      stage = tt;
      synced = tt;
      outside = outside;
      any_moment = leaves;
      slot = slot;
      counts = record { later = c.append_spelled.ensures.later; none = tt; failed = c.in-Err.ensures.refused.1 };
      keeps = λ none. absurd (none-some _ (sym none ∙ c.in-Some.is));
    }
