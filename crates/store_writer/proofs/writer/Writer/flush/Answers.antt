use Rattle.std.proofs.Common.{◌≡◌, ◌≢◌, ◌≤◌, List, Ok, Err, sym, ap, subst, ◌∙◌, take, length, length-take, refl, arith}
use Rattle.std.proofs.lemmas.Bool.{false≢true}
use Rattle.std.proofs.lemmas.Result.{err_from_is_err_and}
use Rattle.records.specs.RecordValue.{RecordValue}
use Rattle.record_values.specs.GeometryValue.{GeometryValue}
use Rattle.gate_log.specs.Group.{FitsGroup, IsGroup}
use Rattle.gate_log.specs.declared.area.Appended.TheVariants.{Done, Full}
use Rattle.store_writer.specs.Image.{IsPlan}
use Rattle.store_writer.specs.Writer.{FillsGroup, IsLogFull}
use Rattle.store_writer.proofs.Flushing.{closed_where_done, closed_where_failed, none_fit, some_fit, positive, fills, log_full, had_failed, none_waits}
use Rattle.store_writer.proofs.Flushing.{is_full, no_memory, append_failed, has, carried}
use Rattle.store_writer.proofs.Writing.{all_synced, has_room, stood}
use Rattle.store_writer.proofs.writer.Writer.flush.Goals as goal

pub returns-then-self : goal.returns-then-self
returns-then-self g c = had_failed g.D.Device.past_of g.D.Device.failures c.args.self.now c.if-self.true

pub returns-then-count-eq0 : goal.returns-then-count-eq0
returns-then-count-eq0 g c =
    none_waits g.D.Device.past_of g.D.Device.failures c.args.self.now c.if-self.false
    (sym c.as_slice-waiting.ensures ∙ none_fit c.as_slice-waiting.result.now c.group_len-count.result c.group_len-count.ensures.fits c.if-count-eq0.true)

pub returns-then-is_full : goal.returns-then-is_full
returns-then-is_full g c =
    let old = c.args.self.now in
    let count = c.group_len-count.result in
    let within : count ≤ length old.waiting =
    subst (λ (rs : List RecordValue). count ≤ length rs) c.as_slice-waiting.ensures c.group_len-count.ensures.within in
    is_full g.D.Device.past_of g.D.Device.failures old c.if-self.false (some_fit old.waiting count c.if-count-eq0.false within)
    (c.if-is_full.ensures.0 refl ∙ ap (λ (x : GeometryValue). x.slots) c.geometry.ensures)

pub returns-in_err-body : goal.returns-in_err-body
returns-in_err-body g c =
    let old = c.args.self.now in
    let count = c.group_len-count.result in
    let within : count ≤ length old.waiting =
    subst (λ (rs : List RecordValue). count ≤ length rs) c.as_slice-waiting.ensures c.group_len-count.ensures.within in
    let room : ¬ IsLogFull old = λ full. false≢true (c.if-is_full.ensures.1 (full ∙ sym (ap (λ (x : GeometryValue). x.slots) c.geometry.ensures))) in
    let p = err_from_is_err_and c.from_residual.result c.from_residual.ensures.1 in
    no_memory g.D.Device.past_of g.D.Device.failures old c.if-self.false c.from_residual.result (p.1 ∙ ap Err (p.2 ∙ c.in_err-body.ensures.no_memory))
    (some_fit old.waiting count c.if-count-eq0.false within) room

pub returns-in_err-plan : goal.returns-in_err-plan
returns-in_err-plan g c =
    let old = c.args.self.now in
    let count = c.group_len-count.result in
    let within : count ≤ length old.waiting =
    subst (λ (rs : List RecordValue). count ≤ length rs) c.as_slice-waiting.ensures c.group_len-count.ensures.within in
    let room : ¬ IsLogFull old = λ full. false≢true (c.if-is_full.ensures.1 (full ∙ sym (ap (λ (x : GeometryValue). x.slots) c.geometry.ensures))) in
    let p = err_from_is_err_and c.from_residual-in_err-plan.result c.from_residual-in_err-plan.ensures.1 in
    no_memory g.D.Device.past_of g.D.Device.failures old c.if-self.false c.from_residual-in_err-plan.result
    (p.1 ∙ ap Err (p.2 ∙ c.in_err-plan.ensures.no_memory)) (some_fit old.waiting count c.if-count-eq0.false within) room

pub slice_bounds-group-end : goal.slice_bounds-group-end
slice_bounds-group-end g c = omega (
  arith,
  c.group_len-count.ensures.within,
  ap length c.as_slice-waiting.ensures,
  ap length c.as_slice-waiting.ensures,
  length-take c.group_len-count.result c.as_slice-waiting.result.now,
)

pub spell-requires : goal.spell-requires
spell-requires g c =
    let count = c.group_len-count.result in
    subst (λ (rs : List RecordValue). FitsGroup (take count rs)) (c.as_slice-waiting.ensures ∙ sym c.as_slice-waiting.ensures)
    (c.group_len-count.ensures.fits (omega (arith, c.if-count-eq0.false, c.group_len-count.ensures.within)))

pub plan_for-requires : goal.plan_for-requires
plan_for-requires g c =
    let count = c.group_len-count.result in
    subst (λ (rs : List RecordValue). FitsGroup (take count rs)) (c.as_slice-waiting.ensures ∙ sym c.as_slice-waiting.ensures)
    (c.group_len-count.ensures.fits (omega (arith, c.if-count-eq0.false, c.group_len-count.ensures.within)))

pub append_spelled-requires : goal.append_spelled-requires
append_spelled-requires g c =
    let past_of = g.D.Device.past_of in
    let old = c.args.self.now in
    let (run, handed, is) = c.requires in
    let stand = stood past_of run handed old is c.if-self.false in
    record {
      spelled = (_, subst (IsGroup (take c.group_len-count.result c.as_slice-waiting.result.now)) (sym c.deref.ensures.value) c.in_ok-body.ensures.ok);
      inside = has_room past_of run handed old is c.if-self.false;
      synced = all_synced past_of run handed old is c.if-self.false;
      stands = (stand.groups, stand.stands);
    }

pub carry_on-requires : goal.carry_on-requires
carry_on-requires g c =
    let old = c.args.self.now in
    let count = c.group_len-count.result in
    let within : count ≤ length old.waiting =
    subst (λ (rs : List RecordValue). count ≤ length rs) c.as_slice-waiting.ensures c.group_len-count.ensures.within in
    let room : ¬ IsLogFull old = λ full. false≢true (c.if-is_full.ensures.1 (full ∙ sym (ap (λ (x : GeometryValue). x.slots) c.geometry.ensures))) in
    let done : c.append_spelled.result ≡ Ok Done = c.in-Ok-Done.is ∙ ap Ok c.in-Ok-Done.field-0-is in
    let closed : old.log.open_slots ≢ old.log.area.slots = closed_where_done c.append_spelled.result _ _ c.append_spelled.ensures.full done in
    let spelled : IsGroup (take count old.waiting) c.deref.result.now =
    subst (λ (rs : List RecordValue). IsGroup (take count rs) c.deref.result.now) c.as_slice-waiting.ensures
    (subst (IsGroup (take count c.as_slice-waiting.result.now)) (sym c.deref.ensures.value) c.in_ok-body.ensures.ok) in
    let (run, handed, is) = c.requires in
    record {
      appended = (
        run,
        handed,
        has g.D.Device.past_of g.D.Device.failures old c.if-self.false c.requires count (positive count c.if-count-eq0.false) within room closed
            c.append_spelled.new.device c.append_spelled.new.self c.append_spelled.ensures.area c.append_spelled.ensures.outside
            (c.append_spelled.ensures.any_moment (take count old.waiting) spelled)
            (λ groups stand. c.append_spelled.ensures.done done (take count old.waiting) groups spelled stand) (c.append_spelled.ensures.synced done)
            run handed is,
      );
      planned = subst (λ (x : GeometryValue). IsPlan old.image x.slots old.synced (take count old.waiting) c.in_ok-plan.plan) c.geometry-2.ensures
          (subst (λ (rs : List RecordValue). IsPlan old.image c.geometry-2.result.slots old.synced (take count rs) c.in_ok-plan.plan) c.as_slice-waiting.ensures
          c.in_ok-plan.ensures.planned);
      sound = c.if-self.false;
    }

pub returns-in-Ok-Done : goal.returns-in-Ok-Done
returns-in-Ok-Done g c =
    let old = c.args.self.now in
    let count = c.group_len-count.result in
    let within : count ≤ length old.waiting =
    subst (λ (rs : List RecordValue). count ≤ length rs) c.as_slice-waiting.ensures c.group_len-count.ensures.within in
    let room : ¬ IsLogFull old = λ full. false≢true (c.if-is_full.ensures.1 (full ∙ sym (ap (λ (x : GeometryValue). x.slots) c.geometry.ensures))) in
    let done : c.append_spelled.result ≡ Ok Done = c.in-Ok-Done.is ∙ ap Ok c.in-Ok-Done.field-0-is in
    let closed : old.log.open_slots ≢ old.log.area.slots = closed_where_done c.append_spelled.result _ _ c.append_spelled.ensures.full done in
    let spelled : IsGroup (take count old.waiting) c.deref.result.now =
    subst (λ (rs : List RecordValue). IsGroup (take count rs) c.deref.result.now) c.as_slice-waiting.ensures
    (subst (IsGroup (take count c.as_slice-waiting.result.now)) (sym c.deref.ensures.value) c.in_ok-body.ensures.ok) in
    let planned : IsPlan old.image old.halves.geometry.slots old.synced (take count old.waiting) c.in_ok-plan.plan =
    subst (λ (x : GeometryValue). IsPlan old.image x.slots old.synced (take count old.waiting) c.in_ok-plan.plan) c.geometry-2.ensures
    (subst (λ (rs : List RecordValue). IsPlan old.image c.geometry-2.result.slots old.synced (take count rs) c.in_ok-plan.plan) c.as_slice-waiting.ensures
    c.in_ok-plan.ensures.planned) in
    let filled : FillsGroup old.waiting count = subst (λ (rs : List RecordValue). FillsGroup rs count) c.as_slice-waiting.ensures
    (fills c.as_slice-waiting.result.now count c.if-count-eq0.false c.group_len-count.ensures.within
    c.group_len-count.ensures.fits c.group_len-count.ensures.most) in
    carried g.D.Device.past_of g.D.Device.failures old c.if-self.false c.requires count (positive count c.if-count-eq0.false) within room closed
    c.append_spelled.new.device c.append_spelled.new.self c.append_spelled.ensures.area c.append_spelled.ensures.outside
    (c.append_spelled.ensures.any_moment (take count old.waiting) spelled)
    (λ groups stand. c.append_spelled.ensures.done done (take count old.waiting) groups spelled stand) (c.append_spelled.ensures.synced done)
    c.in_ok-plan.plan c.carry_on.new.self c.carry_on.result filled planned c.in-Ok-Done.ensures.quiet c.carry_on.ensures

pub returns-in-Ok-Full : goal.returns-in-Ok-Full
returns-in-Ok-Full g c =
    let old = c.args.self.now in
    let full : c.append_spelled.result ≡ Ok Full = c.in-Ok-Full.is ∙ ap Ok c.in-Ok-Full.field-0-is in
    let all = log_full g.D.Device.past_of old c.requires c.if-self.false (c.append_spelled.ensures.full.0 full) in
    absurd (false≢true (c.if-is_full.ensures.1 (all ∙ sym (ap (λ (x : GeometryValue). x.slots) c.geometry.ensures))))

pub returns : goal.returns
returns g c =
    let old = c.args.self.now in
    let count = c.group_len-count.result in
    let within : count ≤ length old.waiting =
    subst (λ (rs : List RecordValue). count ≤ length rs) c.as_slice-waiting.ensures c.group_len-count.ensures.within in
    let room : ¬ IsLogFull old = λ full. false≢true (c.if-is_full.ensures.1 (full ∙ sym (ap (λ (x : GeometryValue). x.slots) c.geometry.ensures))) in
    let closed : old.log.open_slots ≢ old.log.area.slots = closed_where_failed c.append_spelled.result _ _ _ c.append_spelled.ensures.full c.in-Err.is in
    let spelled : IsGroup (take count old.waiting) c.deref.result.now =
    subst (λ (rs : List RecordValue). IsGroup (take count rs) c.deref.result.now) c.as_slice-waiting.ensures
    (subst (IsGroup (take count c.as_slice-waiting.result.now)) (sym c.deref.ensures.value) c.in_ok-body.ensures.ok) in
    append_failed g.D.Device.past_of g.D.Device.failures old c.if-self.false c.requires count (positive count c.if-count-eq0.false) within room closed
    c.append_spelled.new.device c.append_spelled.new.self c.append_spelled.ensures.area c.append_spelled.ensures.outside
    (c.append_spelled.ensures.any_moment (take count old.waiting) spelled) c.in-Err.ensures.err c.in-Err.ensures.refused.1 c.append_spelled.ensures.later
