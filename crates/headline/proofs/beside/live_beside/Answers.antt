use Rattle.std.proofs.Common.{Err, ⊎_elim, inl, inr, ap, arith, length, sym, subst, ◌∙◌}
use Rattle.record_values.specs.GeometryValue.{sectors_of}
use Rattle.record_values.specs.declared.error.Error.TheVariants.{DeviceTooSmall, TooManyTxns}
use Rattle.model.specs.Given.{nothing}
use Rattle.sector_device.specs.DevicePast.{Rises}
use Rattle.nsf.specs.OpenErrors.TheVariants.{Refused}
use Rattle.headline.specs.AtRest.{resting}
use Rattle.headline.proofs.Apart.{formatting_or_many, is_refused, many_or_small, memory_or_many, memory_or_small, on_ok, same_error}
use Rattle.headline.proofs.Holding.{at_once, enough, err_at, neither, none_lived, ok_at, unopened_small}
use Rattle.headline.proofs.Shared.{never, not_lived, unopened_many}
use Rattle.headline.proofs.beside.live_beside.Goals as goal

pub returns-in-Err-clause-refused : goal.returns-in-Err-clause-refused
returns-in-Err-clause-refused g c =
    let failures = g.D.Device.failures in
    let size = c.args.geometry in
    let first = resting nothing (failures c.args.device) in
    let un = c.unopened-in-Err in
    let before = c.refused_before-in-Err in
    let r = before.result in
    ⊎_elim (λ small. inr (inl (before.ensures.error ∙ ap Refused (un.ensures.error ∙ small))))
    (λ failed. inr (inr (
    not_lived g.D.Device.past_of failures g.C.Client.works size first c.args.days.now r.answers.items c.args.day r.shared r.error un.result.error
    (failures r.device) before.ensures.shared before.ensures.error
    (at_once failures size first c.args.days.now r.answers.items un.result.error (failures r.device)
    (ap (λ v. v.items) before.ensures.answers ∙ un.ensures.none)
    (inr (
      un.ensures.error ∙ failed.0,
      subst (λ d. Rises (failures c.args.device) (failures d)) (sym (before.ensures.device ∙ un.ensures.device)) failed.1,
    )))
    )))
    c.in-Err.ensures.refused

pub returns-in-Err-live_each_day-clause-refused : goal.returns-in-Err-live_each_day-clause-refused
returns-in-Err-live_each_day-clause-refused g c =
    let failures = g.D.Device.failures in
    let size = c.args.geometry in
    let first = resting nothing (failures c.args.device) in
    let refusal = c.in-Err-live_each_day.refusal in
    let was = c.in-Err-live_each_day.ensures in
    let before = c.refused_before-in-Err-live_each_day in
    let r = before.result in
    inr (inr (
    not_lived g.D.Device.past_of failures g.C.Client.works size first c.args.days.now r.answers.items c.args.day r.shared r.error refusal.error
    (failures r.device) before.ensures.shared before.ensures.error
    (none_lived g.D.Device.past_of failures size first c.format_anew.new.device c.in_default.ensures.keeps c.args.days.now r.answers.items refusal.error
    r.device
    (ap (λ v. v.items) before.ensures.answers ∙ was.none) was.no_memory (before.ensures.device ∙ was.unchanged))
    ))

pub returns-in-Ok-clause-holds : goal.returns-in-Ok-clause-holds
returns-in-Ok-clause-holds g c =
    let size = c.args.geometry in
    let first = resting nothing (g.D.Device.failures c.args.device) in
    ok_at _ _ c.share_behind.result (λ lived is. is size first c.args.days.now (c.in-Ok.ensures.days size first c.in_default.ensures.keeps))
    c.share_behind.ensures.holds

pub returns-in-Ok-clause-unbuilt : goal.returns-in-Ok-clause-unbuilt
returns-in-Ok-clause-unbuilt g c =
    let size = c.args.geometry in
    let first = resting nothing (g.D.Device.failures c.args.device) in
    ok_at _ _ c.share_behind.result (λ lived is. is size first c.args.days.now (c.in-Ok.ensures.days size first c.in_default.ensures.keeps))
    c.share_behind.ensures.unbuilt

pub returns-in-Ok-clause-refused : goal.returns-in-Ok-clause-refused
returns-in-Ok-clause-refused g c =
    let size = c.args.geometry in
    let first = resting nothing (g.D.Device.failures c.args.device) in
    err_at _ _ c.share_behind.result
    (λ r is. inr (inr (is size first c.args.days.now (c.in-Ok.ensures.days size first c.in_default.ensures.keeps))))
    c.share_behind.ensures.refused

pub returns-in-Ok-clause-many : goal.returns-in-Ok-clause-many
returns-in-Ok-clause-many g c =
    let failures = g.D.Device.failures in
    let size = c.args.geometry in
    let first = resting nothing (failures c.args.device) in
    let keeps = c.in-Ok.ensures.days size first c.in_default.ensures.keeps in
    err_at _ _ c.share_behind.result
    (λ r is. (
      λ many. absurd (never g.D.Device.past_of failures g.C.Client.works size first c.args.days.now r.answers.items c.args.day TooManyTxns unopened_many
          r.shared r.error (failures r.device) (is size first c.args.days.now keeps) many),
      λ more. absurd (omega (arith, more, c.if-len-gt-TXNS_MAX.false, c.len.ensures)),
    ))
    c.share_behind.ensures.refused

pub returns-in-Ok-clause-too_small : goal.returns-in-Ok-clause-too_small
returns-in-Ok-clause-too_small g c =
    let failures = g.D.Device.failures in
    let size = c.args.geometry in
    let first = resting nothing (failures c.args.device) in
    let keeps = c.in-Ok.ensures.days size first c.in_default.ensures.keeps in
    err_at _ _ c.share_behind.result
    (λ r is.
    let not-small = never g.D.Device.past_of failures g.C.Client.works size first c.args.days.now r.answers.items c.args.day DeviceTooSmall unopened_small
    r.shared r.error (failures r.device) (is size first c.args.days.now keeps) in
    let so = neither (length (g.D.Device.past_of c.args.device).disk.content) (sectors_of size) c.format_anew.result c.format_anew.ensures.too_small
    c.in_default.field-0 c.in_default.is not-small in (
      λ small. absurd (not-small small),
      λ both. so.1 both.1,
    ))
    c.share_behind.ensures.refused

pub returns-in-Ok-clause-unchanged : goal.returns-in-Ok-clause-unchanged
returns-in-Ok-clause-unchanged g c =
    let failures = g.D.Device.failures in
    let size = c.args.geometry in
    let first = resting nothing (failures c.args.device) in
    let keeps = c.in-Ok.ensures.days size first c.in_default.ensures.keeps in
    let works = g.C.Client.works in
    err_at _ _ c.share_behind.result
    (λ r is. ⊎_elim
    (λ many. absurd (never g.D.Device.past_of failures works size first c.args.days.now r.answers.items c.args.day TooManyTxns unopened_many
    r.shared r.error (failures r.device) (is size first c.args.days.now keeps) many))
    (λ small. absurd (never g.D.Device.past_of failures works size first c.args.days.now r.answers.items c.args.day DeviceTooSmall unopened_small
    r.shared r.error (failures r.device) (is size first c.args.days.now keeps) small)))
    c.share_behind.ensures.refused

pub returns-in-Ok-clause-room : goal.returns-in-Ok-clause-room
returns-in-Ok-clause-room g c = on_ok c.share_behind.result (
  omega (arith, c.if-len-gt-TXNS_MAX.false, c.len.ensures),
  enough (length (g.D.Device.past_of c.args.device).disk.content) (sectors_of c.args.geometry) c.format_anew.result c.format_anew.ensures.too_small
      c.in_default.field-0 c.in_default.is,
)

pub returns-in-Err-live_each_day-clause-many : goal.returns-in-Err-live_each_day-clause-many
returns-in-Err-live_each_day-clause-many g c =
    let before = c.refused_before-in-Err-live_each_day in
    let memory = before.ensures.error ∙ ap Refused c.in-Err-live_each_day.ensures.no_memory in (
      λ many. absurd (memory_or_many before.result.error memory many),
      λ more. absurd (omega (arith, more, c.if-len-gt-TXNS_MAX.false, c.len.ensures)),
    )

pub returns-in-Err-live_each_day-clause-too_small : goal.returns-in-Err-live_each_day-clause-too_small
returns-in-Err-live_each_day-clause-too_small g c =
    let before = c.refused_before-in-Err-live_each_day in
    let memory = before.ensures.error ∙ ap Refused c.in-Err-live_each_day.ensures.no_memory in
    let so = neither (length (g.D.Device.past_of c.args.device).disk.content) (sectors_of c.args.geometry) c.format_anew.result
    c.format_anew.ensures.too_small c.in_default.field-0 c.in_default.is (memory_or_small before.result.error memory) in (
      λ small. absurd (memory_or_small before.result.error memory small),
      λ both. so.1 both.1,
    )

pub returns-in-Err-live_each_day-clause-unchanged : goal.returns-in-Err-live_each_day-clause-unchanged
returns-in-Err-live_each_day-clause-unchanged g c =
    let before = c.refused_before-in-Err-live_each_day in
    let memory = before.ensures.error ∙ ap Refused c.in-Err-live_each_day.ensures.no_memory in
    ⊎_elim (λ many. absurd (memory_or_many before.result.error memory many)) (λ small. absurd (memory_or_small before.result.error memory small))

pub returns-in-Err-clause-many : goal.returns-in-Err-clause-many
returns-in-Err-clause-many g c =
    let before = c.refused_before-in-Err in
    let error = before.ensures.error ∙ ap Refused c.unopened-in-Err.ensures.error in (
      λ many. absurd (formatting_or_many before.result.error c.in-Err.error error c.in-Err.ensures.refused many),
      λ more. absurd (omega (arith, more, c.if-len-gt-TXNS_MAX.false, c.len.ensures)),
    )

pub returns-in-Err-clause-too_small : goal.returns-in-Err-clause-too_small
returns-in-Err-clause-too_small g c =
    let before = c.refused_before-in-Err in
    let error = before.ensures.error ∙ ap Refused c.unopened-in-Err.ensures.error in
    let told = c.format_anew.ensures.too_small in (
      λ small. (
        omega (arith, c.if-len-gt-TXNS_MAX.false, c.len.ensures),
        told.0 (c.in-Err.is ∙ ap Err (is_refused before.result.error c.in-Err.error DeviceTooSmall error small)),
      ),
      λ both. error ∙ ap Refused (same_error c.format_anew.result c.in-Err.error DeviceTooSmall c.in-Err.is (told.1 both.1)),
    )

pub returns-in-Err-clause-unchanged : goal.returns-in-Err-clause-unchanged
returns-in-Err-clause-unchanged g c =
    let before = c.refused_before-in-Err in
    let un = c.unopened-in-Err in
    let error = before.ensures.error ∙ ap Refused un.ensures.error in
    ⊎_elim (λ many. absurd (formatting_or_many before.result.error c.in-Err.error error c.in-Err.ensures.refused many)) (λ small. (
      ap (λ v. v.items) before.ensures.answers ∙ un.ensures.none,
      before.ensures.shared,
      before.ensures.device ∙ un.ensures.device
          ∙ c.format_anew.ensures.unchanged (c.in-Err.is ∙ ap Err (is_refused before.result.error c.in-Err.error DeviceTooSmall error small)),
    ))

pub returns-then-len-gt-TXNS_MAX : goal.returns-then-len-gt-TXNS_MAX
returns-then-len-gt-TXNS_MAX g c =
    let before = c.refused_before in
    let un = c.unopened in
    let many = before.ensures.error ∙ ap Refused un.ensures.error in
    record {
      holds = tt;
      unbuilt = tt;
      refused = inl many;
      many = (λ same. omega (arith, c.if-len-gt-TXNS_MAX.true, c.len.ensures), λ more. many);
      too_small = (
        λ small. absurd (many_or_small before.result.error many small),
        λ both. absurd (omega (arith, both.0, c.if-len-gt-TXNS_MAX.true, c.len.ensures)),
      );
      unchanged = λ either. (ap (λ v. v.items) before.ensures.answers ∙ un.ensures.none, before.ensures.shared, before.ensures.device ∙ un.ensures.device);
      room = tt;
    }
