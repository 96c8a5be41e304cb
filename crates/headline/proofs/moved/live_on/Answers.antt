use Rattle.std.proofs.Common.{[], sym, subst, ap, ◌∙◌}
use Rattle.core_model.specs.Histories.{CanOpen}
use Rattle.sector_device.specs.Disk.{IsSynced}
use Rattle.store_reader.specs.Contents.{Gives}
use Rattle.restart.specs.Migrating.{IsSmallAnswer}
use Rattle.restart.specs.Store.{over}
use Rattle.headline.specs.AtRest.{resting}
use Rattle.headline.specs.Kept.{KeepsDays}
use Rattle.headline.proofs.Holding.{begun}
use Rattle.headline.proofs.Moving.{not_opened, told_at_once}
use Rattle.headline.proofs.moved.live_on.Goals as goal

pub returns-in-Err-clause-refused : goal.returns-in-Err-clause-refused
returns-in-Err-clause-refused g c =
    told_at_once g.D.Device.past_of g.D.Device.failures (g.O.Device.past_of c.args.old.now).disk.content (g.O.Device.failures c.args.old.now)
    (g.O.Device.failures c.migrate.new.old) c.args.device c.args.days.now c.unopened.result.answers.items c.unopened.ensures.none c.in-Err.error
    c.unopened.result.error c.in-Err.device c.unopened.result.device c.unopened.ensures.error c.unopened.ensures.device c.in-Err.ensures.refused

pub returns-in-Ok-live_behind-clause-holds : goal.returns-in-Ok-live_behind-clause-holds
returns-in-Ok-live_behind-clause-holds g c =
    let past_of = g.D.Device.past_of in
    let failures = g.D.Device.failures in
    let is = c.in-Ok.ensures.migrated in
    let size = is.opened.geometry in
    let given = is.opened.given in
    let device = sym c.into_device-device.ensures.device in
    let first = resting given (failures c.args.device) in
    let kept : CanOpen (over size given) → KeepsDays {M = g.row.A.Denot} past_of failures size first [] [] c.stop_now.new.self = λ can.
    begun g.row.A.Denot past_of failures size given (failures c.args.device) c.into_device-device.result c.stop_now.new.self
    (subst (λ d. Gives (past_of d).disk.content size given) device is.opened.gives) can
    (subst (λ d. IsSynced (past_of d).disk) device is.opened.synced) c.stop_now.ensures.found
    (c.stop_now.ensures.failures ∙ ap failures c.into_device-device.ensures.device ∙ c.in-Ok.ensures.quiet.1) in
    record {
      geometry = size;
      given = given;
      gave = is.gave;
      holds = λ can none. c.in-Ok-live_behind.ensures.holds size first (kept can) none;
      refused = λ can. c.in-Ok-live_behind.ensures.unbuilt size first (kept can);
    }

pub returns-in-Err-live_behind-clause-refused : goal.returns-in-Err-live_behind-clause-refused
returns-in-Err-live_behind-clause-refused g c =
    let past_of = g.D.Device.past_of in
    let failures = g.D.Device.failures in
    let is = c.in-Ok.ensures.migrated in
    let size = is.opened.geometry in
    let given = is.opened.given in
    let device = sym c.into_device-device.ensures.device in
    let first = resting given (failures c.args.device) in
    let kept : CanOpen (over size given) → KeepsDays {M = g.row.A.Denot} past_of failures size first [] [] c.stop_now.new.self = λ can.
    begun g.row.A.Denot past_of failures size given (failures c.args.device) c.into_device-device.result c.stop_now.new.self
    (subst (λ d. Gives (past_of d).disk.content size given) device is.opened.gives) can
    (subst (λ d. IsSynced (past_of d).disk) device is.opened.synced) c.stop_now.ensures.found
    (c.stop_now.ensures.failures ∙ ap failures c.into_device-device.ensures.device ∙ c.in-Ok.ensures.quiet.1) in
    not_opened past_of failures (g.O.Device.past_of c.args.old.now).disk.content (g.O.Device.failures c.args.old.now)
    (g.O.Device.failures c.migrate.new.old) c.args.device c.args.days.now c.in-Err-live_behind.refusal.answers.items size given is.gave
    c.in-Err-live_behind.refusal.error c.later.result c.in-Err-live_behind.refusal.device c.later.ensures
    (λ can. c.in-Err-live_behind.ensures.refused size first (kept can))

pub returns-in-Err-live_behind-clause-too_small : goal.returns-in-Err-live_behind-clause-too_small
returns-in-Err-live_behind-clause-too_small g c = λ small. absurd (c.in-Ok.ensures.room small)

pub returns-in-Err-clause-too_small : goal.returns-in-Err-clause-too_small
returns-in-Err-clause-too_small g c small = subst IsSmallAnswer (sym c.unopened.ensures.error) (c.in-Err.ensures.too_small small)

pub returns-in-Err-clause-told : goal.returns-in-Err-clause-told
returns-in-Err-clause-told g c = λ other. c.in-Err.ensures.told (λ is. other (c.unopened.ensures.error ∙ is))

pub returns-in-Err-clause-kept : goal.returns-in-Err-clause-kept
returns-in-Err-clause-kept g c = c.migrate.ensures.kept

pub returns-in-Ok-live_behind-clause-kept : goal.returns-in-Ok-live_behind-clause-kept
returns-in-Ok-live_behind-clause-kept g c = c.migrate.ensures.kept

pub returns-in-Ok-live_behind-clause-room : goal.returns-in-Ok-live_behind-clause-room
returns-in-Ok-live_behind-clause-room g c = c.in-Ok.ensures.room

pub returns-in-Ok-live_behind-clause-quiet : goal.returns-in-Ok-live_behind-clause-quiet
returns-in-Ok-live_behind-clause-quiet g c = c.in-Ok.ensures.quiet.0

pub returns-in-Ok-live_behind-clause-too_small : goal.returns-in-Ok-live_behind-clause-too_small
returns-in-Ok-live_behind-clause-too_small g c = λ small. tt

pub returns-in-Err-live_behind-clause-kept : goal.returns-in-Err-live_behind-clause-kept
returns-in-Err-live_behind-clause-kept g c = c.migrate.ensures.kept

pub returns-in-Err-live_behind-clause-told : goal.returns-in-Err-live_behind-clause-told
returns-in-Err-live_behind-clause-told g c = λ other. c.in-Ok.ensures.quiet.0
