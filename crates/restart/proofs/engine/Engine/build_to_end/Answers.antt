use Rattle.std.proofs.Common.{Err, IfSome, None, refl, subst, sym, ◌∙◌, ◌≡◌, ◌≤◌}
use Rattle.std.proofs.lemmas.Result.{err_from_is_err_and}
use Rattle.record_values.specs.declared.error.Error.TheVariants.{Exhausted, IndexFull, NoIndex}
use Rattle.record_values.specs.declared.number.TheConstants.{LAST_NUMBER}
use Rattle.model.specs.declared.life.Life.TheVariants.{Absent}
use Rattle.core_model.specs.Events.{Build}
use Rattle.core_parts.specs.Builds.{built}
use Rattle.core_parts.specs.View.{Serves}
use Rattle.restart.specs.Building.{IsBuiltToEnd, IsIndexFull}
use Rattle.restart.specs.declared.parts.EngineParts.{EngineParts}
use Rattle.restart.specs.declared.event.Reply.TheVariants.{Built, Refused}
use Rattle.core_parts.specs.declared.reply.BuildReply.TheVariants.{Done}
use Rattle.restart.specs.Parts.{core_of, writer_of}
use Rattle.restart.specs.Store.{CanRun}
use Rattle.restart.proofs.BuiltOn.{can_run_built}
use Rattle.restart.proofs.Ended.{all_built, comes_to, complete_ends, complete_whole, done_ends, done_whole, is_done}
use Rattle.restart.proofs.Ended.{none_built, none_made, refused_ends, rows_stay}
use Rattle.restart.proofs.Ended.{stepped}
use Rattle.restart.proofs.Standing.{Laws}
use Rattle.restart.proofs.WhyRefused.{IsWhy, refused_full, refused_none, refused_out, refused_why}
use Rattle.restart.proofs.engine.Engine.build_to_end.Goals as goal

pub returns-in-Complete-clause-built : goal.returns-in-Complete-clause-built
returns-in-Complete-clause-built g c =
    rw (← c.self.view_is) (
    complete_ends g.D.Device.past_of g.D.Device.failures c.self.inside.parts
    (record { half = c.each_half.ensures.goes_on; lists = c.each_list.ensures.goes_on; goes = c.goes_on.ensures }) (sym c.life.ensures.life
    ∙ c.in-Complete.is) c.ticket_of.result
    (subst (λ n. IfSome c.ticket_of.result (λ ticket. (ticket.record ≡ n) × (ticket.commit ≡ None))) c.last.ensures c.ticket_of.ensures.ticket)
    (none_made g.D.Device.past_of c.self.inside.parts c.ticket_of.result c.last.result c.self.invariant c.last.ensures c.ticket_of.ensures.some))

pub returns-in-Complete-clause-whole : goal.returns-in-Complete-clause-whole
returns-in-Complete-clause-whole g c =
    rw (← c.self.view_is) (
    complete_whole g.D.Device.past_of g.D.Device.failures c.self.inside.parts
    (record { half = c.each_half.ensures.goes_on; lists = c.each_list.ensures.goes_on; goes = c.goes_on.ensures }) (sym c.life.ensures.life ∙ c.in-Complete.is))

pub steps-init : goal.steps-init
steps-init g c =
    rw (← c.self.view_is) (
    none_built c.self.inside.parts (λ complete. c.in_default.not-Complete (c.life.ensures.life ∙ complete)))

pub steps-smaller : goal.steps-smaller
steps-smaller g c =
    let old = c.args.self.now in
    let mid = c.steps.self-inside.parts in
    let new : EngineParts g.row.D.Denot g.row.A.Denot = record c.steps.self-inside.parts { core = c.build_step.new.self } in
    (stepped old mid new c.steps.scanned c.steps.invariant refl c.in_ok-reply.reply c.in_a_row-scanned.result (sym c.end_of.ensures
    ∙ c.in-None.is) c.in_a_row-scanned.ensures c.in_ok-reply.ensures).falls

pub steps-preserved : goal.steps-preserved
steps-preserved g c =
    let old = c.args.self.now in
    let mid = c.steps.self-inside.parts in
    let new : EngineParts g.row.D.Denot g.row.A.Denot = record c.steps.self-inside.parts { core = c.build_step.new.self } in
    (stepped old mid new c.steps.scanned c.steps.invariant refl c.in_ok-reply.reply c.in_a_row-scanned.result (sym c.end_of.ensures
    ∙ c.in-None.is) c.in_a_row-scanned.ensures c.in_ok-reply.ensures).goes

pub returns-in_err-reply-clause-built : goal.returns-in_err-reply-clause-built
returns-in_err-reply-clause-built g c =
    let past_of = g.D.Device.past_of in
    let failures = g.D.Device.failures in
    let old = c.args.self.now in
    let mid = c.steps.self-inside.parts in
    let new : EngineParts g.row.D.Denot g.row.A.Denot = record c.steps.self-inside.parts { core = c.build_step.new.self } in
    let laws : Laws past_of (writer_of old) = subst (λ (parts : EngineParts g.row.D.Denot g.row.A.Denot). Laws past_of (writer_of parts)) c.self.view_is
    (record { half = c.each_half.ensures.goes_on; lists = c.each_list.ensures.goes_on; goes = c.goes_on.ensures }) in
    let p = err_from_is_err_and c.from_residual.result c.from_residual.ensures.1 in
    rw p.1 (subst (λ e. IsBuiltToEnd past_of (Err e) old new) (sym p.2)
    (refused_ends old mid new c.steps.scanned c.steps.invariant refl past_of failures laws _ c.in_err-reply.ensures))

pub invariant_of-self : goal.invariant_of-self
invariant_of-self g c =
    let past_of = g.D.Device.past_of in
    let failures = g.D.Device.failures in
    let old = c.args.self.now in
    let mid = c.steps.self-inside.parts in
    let new : EngineParts g.row.D.Denot g.row.A.Denot = record c.steps.self-inside.parts { core = c.build_step.new.self } in
    let laws : Laws past_of (writer_of old) = subst (λ (parts : EngineParts g.row.D.Denot g.row.A.Denot). Laws past_of (writer_of parts)) c.self.view_is
    (record { half = c.each_half.ensures.goes_on; lists = c.each_list.ensures.goes_on; goes = c.goes_on.ensures }) in
    let can : CanRun past_of old = subst (CanRun past_of) c.self.view_is c.self.invariant in
    can_run_built past_of failures _ old new (all_built old mid new c.steps.scanned c.steps.invariant refl (Refused _) _ refl c.in_err-reply.ensures) laws can

pub returns-in-Some-clause-built : goal.returns-in-Some-clause-built
returns-in-Some-clause-built g c =
    let past_of = g.D.Device.past_of in
    let failures = g.D.Device.failures in
    let old = c.args.self.now in
    let mid = c.steps.self-inside.parts in
    let new : EngineParts g.row.D.Denot g.row.A.Denot = record c.steps.self-inside.parts { core = c.build_step.new.self } in
    let laws : Laws past_of (writer_of old) = subst (λ (parts : EngineParts g.row.D.Denot g.row.A.Denot). Laws past_of (writer_of parts)) c.self.view_is
    (record { half = c.each_half.ensures.goes_on; lists = c.each_list.ensures.goes_on; goes = c.goes_on.ensures }) in
    let done : Serves (core_of mid) Build (built (Done c.in-Some.ticket)) (core_of new) = subst (λ b. Serves (core_of mid) Build (built b) (core_of new))
    (is_done c.in_ok-reply.reply c.in-Some.ticket (sym c.end_of.ensures ∙ c.in-Some.is)) c.in_ok-reply.ensures in
    done_ends old mid new c.steps.scanned c.steps.invariant refl past_of failures laws c.in-Some.ticket done

pub returns-in-Some-clause-whole : goal.returns-in-Some-clause-whole
returns-in-Some-clause-whole g c =
    let old = c.args.self.now in
    let mid = c.steps.self-inside.parts in
    let new : EngineParts g.row.D.Denot g.row.A.Denot = record c.steps.self-inside.parts { core = c.build_step.new.self } in
    let done : Serves (core_of mid) Build (built (Done c.in-Some.ticket)) (core_of new) = subst (λ b. Serves (core_of mid) Build (built b) (core_of new))
    (is_done c.in_ok-reply.reply c.in-Some.ticket (sym c.end_of.ensures ∙ c.in-Some.is)) c.in_ok-reply.ensures in
    done_whole old mid new c.steps.scanned c.steps.invariant refl c.in-Some.ticket done

pub invariant_of-self-in-Some : goal.invariant_of-self-in-Some
invariant_of-self-in-Some g c =
    let past_of = g.D.Device.past_of in
    let failures = g.D.Device.failures in
    let old = c.args.self.now in
    let mid = c.steps.self-inside.parts in
    let new : EngineParts g.row.D.Denot g.row.A.Denot = record c.steps.self-inside.parts { core = c.build_step.new.self } in
    let laws : Laws past_of (writer_of old) = subst (λ (parts : EngineParts g.row.D.Denot g.row.A.Denot). Laws past_of (writer_of parts)) c.self.view_is
    (record { half = c.each_half.ensures.goes_on; lists = c.each_list.ensures.goes_on; goes = c.goes_on.ensures }) in
    let can : CanRun past_of old = subst (CanRun past_of) c.self.view_is c.self.invariant in
    let done : Serves (core_of mid) Build (built (Done c.in-Some.ticket)) (core_of new) = subst (λ b. Serves (core_of mid) Build (built b) (core_of new))
    (is_done c.in_ok-reply.reply c.in-Some.ticket (sym c.end_of.ensures ∙ c.in-Some.is)) c.in_ok-reply.ensures in
    can_run_built past_of failures _ old new (all_built old mid new c.steps.scanned c.steps.invariant refl (Built (Done c.in-Some.ticket)) _ refl done) laws can

pub returns-in_err-reply-clause-come : goal.returns-in_err-reply-clause-come
returns-in_err-reply-clause-come g c =
    let old = c.args.self.now in
    let mid = c.steps.self-inside.parts in
    let new : EngineParts g.row.D.Denot g.row.A.Denot = record c.steps.self-inside.parts { core = c.build_step.new.self } in
    comes_to old mid new c.steps.scanned c.steps.invariant refl (Refused _) _ refl c.in_err-reply.ensures

pub returns-in-Some-clause-come : goal.returns-in-Some-clause-come
returns-in-Some-clause-come g c =
    let old = c.args.self.now in
    let mid = c.steps.self-inside.parts in
    let new : EngineParts g.row.D.Denot g.row.A.Denot = record c.steps.self-inside.parts { core = c.build_step.new.self } in
    let done : Serves (core_of mid) Build (built (Done c.in-Some.ticket)) (core_of new) = subst (λ b. Serves (core_of mid) Build (built b) (core_of new))
    (is_done c.in_ok-reply.reply c.in-Some.ticket (sym c.end_of.ensures ∙ c.in-Some.is)) c.in_ok-reply.ensures in
    comes_to old mid new c.steps.scanned c.steps.invariant refl (Built (Done c.in-Some.ticket)) _ refl done

pub returns-in_err-reply-clause-rows : goal.returns-in_err-reply-clause-rows
returns-in_err-reply-clause-rows g c =
    let old = c.args.self.now in
    let mid = c.steps.self-inside.parts in
    let new : EngineParts g.row.D.Denot g.row.A.Denot = record c.steps.self-inside.parts { core = c.build_step.new.self } in
    rows_stay old mid new c.steps.scanned c.steps.invariant refl (Refused _) _ refl c.in_err-reply.ensures

pub returns-in-Some-clause-rows : goal.returns-in-Some-clause-rows
returns-in-Some-clause-rows g c =
    let old = c.args.self.now in
    let mid = c.steps.self-inside.parts in
    let new : EngineParts g.row.D.Denot g.row.A.Denot = record c.steps.self-inside.parts { core = c.build_step.new.self } in
    let done : Serves (core_of mid) Build (built (Done c.in-Some.ticket)) (core_of new) = subst (λ b. Serves (core_of mid) Build (built b) (core_of new))
    (is_done c.in_ok-reply.reply c.in-Some.ticket (sym c.end_of.ensures ∙ c.in-Some.is)) c.in_ok-reply.ensures in
    rows_stay old mid new c.steps.scanned c.steps.invariant refl (Built (Done c.in-Some.ticket)) _ refl done

pub returns-in_err-reply-clause-why : goal.returns-in_err-reply-clause-why
returns-in_err-reply-clause-why g c =
    let mid = c.steps.self-inside.parts in
    let p = err_from_is_err_and c.from_residual.result c.from_residual.ensures.1 in
    rw p.1 (subst IsWhy (sym p.2) (refused_why (core_of mid) _ _ mid.core.safe c.in_err-reply.ensures))

pub returns-in_err-reply-clause-no_index : goal.returns-in_err-reply-clause-no_index
returns-in_err-reply-clause-no_index g c =
    let old = c.args.self.now in
    let mid = c.steps.self-inside.parts in
    let new : EngineParts g.row.D.Denot g.row.A.Denot = record c.steps.self-inside.parts { core = c.build_step.new.self } in
    let p = err_from_is_err_and c.from_residual.result c.from_residual.ensures.1 in
    rw p.1 (subst (λ e. e ≡ NoIndex → (core_of old).life ≡ Absent) (sym p.2) (λ is.
    c.steps.invariant.none (refused_none (core_of mid) (core_of new) _ mid.core.safe c.in_err-reply.ensures is)))

pub returns-in_err-reply-clause-full : goal.returns-in_err-reply-clause-full
returns-in_err-reply-clause-full g c =
    let mid = c.steps.self-inside.parts in
    let new : EngineParts g.row.D.Denot g.row.A.Denot = record c.steps.self-inside.parts { core = c.build_step.new.self } in
    let p = err_from_is_err_and c.from_residual.result c.from_residual.ensures.1 in
    rw p.1 (subst (λ e. e ≡ IndexFull → IsIndexFull (core_of new)) (sym p.2) (refused_full (core_of mid) (core_of new) _ mid.core.safe c.in_err-reply.ensures))

pub returns-in_err-reply-clause-exhausted : goal.returns-in_err-reply-clause-exhausted
returns-in_err-reply-clause-exhausted g c =
    let mid = c.steps.self-inside.parts in
    let new : EngineParts g.row.D.Denot g.row.A.Denot = record c.steps.self-inside.parts { core = c.build_step.new.self } in
    let p = err_from_is_err_and c.from_residual.result c.from_residual.ensures.1 in
    rw p.1 (subst (λ e. e ≡ Exhausted → LAST_NUMBER ≤ (core_of new).last) (sym p.2)
    (refused_out (core_of mid) (core_of new) _ mid.core.safe c.in_err-reply.ensures))
