use Rattle.std.proofs.Common.{Err, ap, ⊎_elim, inl, inr, length, ◌∙◌, sym, subst}
use Rattle.record_values.specs.GeometryValue.{sectors_of}
use Rattle.record_values.specs.declared.error.Error.TheVariants.{DeviceTooSmall}
use Rattle.model.specs.Given.{nothing}
use Rattle.sector_device.specs.DevicePast.{Rises}
use Rattle.headline.specs.AtRest.{resting}
use Rattle.headline.proofs.Apart.{on_ok, same_error}
use Rattle.headline.proofs.Holding.{at_once, begun, enough, err_at, neither, not_small, ok_at}
use Rattle.headline.proofs.lives.live_through.Goals as goal

pub returns-in-Err-clause-refused : goal.returns-in-Err-clause-refused
returns-in-Err-clause-refused g c = ⊎_elim (λ small. inl (c.unopened.ensures.error ∙ small))
    (λ failed. inr (
    at_once g.D.Device.failures c.args.geometry (resting nothing (g.D.Device.failures c.args.device)) c.args.days.now c.unopened.result.answers.items
    c.unopened.result.error (g.D.Device.failures c.unopened.result.device) c.unopened.ensures.none
    (inr (
      c.unopened.ensures.error ∙ failed.0,
      subst (λ d. Rises (g.D.Device.failures c.args.device) (g.D.Device.failures d)) (sym c.unopened.ensures.device) failed.1,
    ))
    ))
    c.in-Err.ensures.refused

pub returns-clause-holds : goal.returns-clause-holds
returns-clause-holds g c =
    let size = c.args.geometry in
    let past_of = g.D.Device.past_of in
    let failures = g.D.Device.failures in
    let now = past_of c.format.new.device in
    let kept =
    begun g.row.A.Denot past_of failures size nothing (failures c.args.device) c.format.new.device c.stop_now.new.self
    (c.format_gives_nothing.ensures.gives size now.disk.content now.whole c.in_default.ensures.formatted c.in_default.ensures.closed)
    (c.nothing_opens.ensures size) c.in_default.ensures.synced c.stop_now.ensures.found (c.stop_now.ensures.failures ∙ c.in_default.ensures.quiet) in
    ok_at _ _ c.live_behind.result (λ lived is. is size (resting nothing (failures c.args.device)) kept) c.live_behind.ensures.holds

pub returns-clause-unbuilt : goal.returns-clause-unbuilt
returns-clause-unbuilt g c =
    let size = c.args.geometry in
    let past_of = g.D.Device.past_of in
    let failures = g.D.Device.failures in
    let now = past_of c.format.new.device in
    let kept =
    begun g.row.A.Denot past_of failures size nothing (failures c.args.device) c.format.new.device c.stop_now.new.self
    (c.format_gives_nothing.ensures.gives size now.disk.content now.whole c.in_default.ensures.formatted c.in_default.ensures.closed)
    (c.nothing_opens.ensures size) c.in_default.ensures.synced c.stop_now.ensures.found (c.stop_now.ensures.failures ∙ c.in_default.ensures.quiet) in
    ok_at _ _ c.live_behind.result (λ lived is. is size (resting nothing (failures c.args.device)) kept) c.live_behind.ensures.unbuilt

pub returns-clause-refused : goal.returns-clause-refused
returns-clause-refused g c =
    let size = c.args.geometry in
    let past_of = g.D.Device.past_of in
    let failures = g.D.Device.failures in
    let now = past_of c.format.new.device in
    let kept =
    begun g.row.A.Denot past_of failures size nothing (failures c.args.device) c.format.new.device c.stop_now.new.self
    (c.format_gives_nothing.ensures.gives size now.disk.content now.whole c.in_default.ensures.formatted c.in_default.ensures.closed)
    (c.nothing_opens.ensures size) c.in_default.ensures.synced c.stop_now.ensures.found (c.stop_now.ensures.failures ∙ c.in_default.ensures.quiet) in
    err_at _ _ c.live_behind.result (λ r is. inr (is size (resting nothing (failures c.args.device)) kept)) c.live_behind.ensures.refused

pub returns-clause-too_small : goal.returns-clause-too_small
returns-clause-too_small g c =
    let size = c.args.geometry in
    let past_of = g.D.Device.past_of in
    let failures = g.D.Device.failures in
    let now = past_of c.format.new.device in
    let first = resting nothing (failures c.args.device) in
    let kept =
    begun g.row.A.Denot past_of failures size nothing (failures c.args.device) c.format.new.device c.stop_now.new.self
    (c.format_gives_nothing.ensures.gives size now.disk.content now.whole c.in_default.ensures.formatted c.in_default.ensures.closed)
    (c.nothing_opens.ensures size) c.in_default.ensures.synced c.stop_now.ensures.found (c.stop_now.ensures.failures ∙ c.in_default.ensures.quiet) in
    err_at _ _ c.live_behind.result
    (λ r is. neither (length (past_of c.args.device).disk.content) (sectors_of size) c.format.result c.format.ensures.too_small c.in_default.field-0
    c.in_default.is (not_small failures size first c.args.days.now r.answers.items r.error (failures r.device) (is size first kept)))
    c.live_behind.ensures.refused

pub returns-clause-unchanged : goal.returns-clause-unchanged
returns-clause-unchanged g c =
    let size = c.args.geometry in
    let past_of = g.D.Device.past_of in
    let failures = g.D.Device.failures in
    let now = past_of c.format.new.device in
    let first = resting nothing (failures c.args.device) in
    let kept =
    begun g.row.A.Denot past_of failures size nothing (failures c.args.device) c.format.new.device c.stop_now.new.self
    (c.format_gives_nothing.ensures.gives size now.disk.content now.whole c.in_default.ensures.formatted c.in_default.ensures.closed)
    (c.nothing_opens.ensures size) c.in_default.ensures.synced c.stop_now.ensures.found (c.stop_now.ensures.failures ∙ c.in_default.ensures.quiet) in
    err_at _ _ c.live_behind.result
    (λ r is small. absurd (not_small failures size first c.args.days.now r.answers.items r.error (failures r.device) (is size first kept) small))
    c.live_behind.ensures.refused

pub returns-in-Err-clause-too_small : goal.returns-in-Err-clause-too_small
returns-in-Err-clause-too_small g c =
    let error = c.unopened.ensures.error in
    let told = c.format.ensures.too_small in (
      λ small. told.0 (c.in-Err.is ∙ ap Err (sym error ∙ small)),
      λ less. error ∙ same_error c.format.result c.in-Err.error DeviceTooSmall c.in-Err.is (told.1 less),
    )

pub returns-in-Err-clause-unchanged : goal.returns-in-Err-clause-unchanged
returns-in-Err-clause-unchanged g c = λ small. (
  c.unopened.ensures.none,
  c.unopened.ensures.device ∙ c.format.ensures.unchanged (c.in-Err.is ∙ ap Err (sym c.unopened.ensures.error ∙ small)),
)

pub returns-clause-room : goal.returns-clause-room
returns-clause-room g c = on_ok c.live_behind.result
    (enough (length (g.D.Device.past_of c.args.device).disk.content) (sectors_of c.args.geometry) c.format.result c.format.ensures.too_small
    c.in_default.field-0 c.in_default.is)
