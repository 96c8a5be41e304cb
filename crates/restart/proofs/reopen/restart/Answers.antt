use Rattle.std.proofs.Common.{sym, ap, subst, ◌∙◌}
use Rattle.core_parts.specs.View.{CoreValue}
use Rattle.gate_log.specs.Area.{Log}
use Rattle.model.specs.Given.{opening_cells}
use Rattle.flip_image.specs.Layout.{HalvesValue, other}
use Rattle.flip_image.specs.Store.{IsStore}
use Rattle.store_writer.specs.Writer.{IsOpenedAt}
use Rattle.restart.specs.Reopening.{IsCoreOf, StaysOfAnyRun}
use Rattle.restart.proofs.Reopened.{can_run_made, opened_made, recovers_made, stays_left}
use Rattle.restart.proofs.reopen.restart.Goals as goal

pub over-parts-requires : goal.over-parts-requires
over-parts-requires g c =
    let h = g.D.Device.past_of in
    let found = c.in-Ok.ensures.found in (
      opening_cells found.given,
      subst (λ n. IsOpenedAt (h c.open_core.new.device) c.in-Ok.halves c.in-Ok.log n (opening_cells found.given)) (sym (ap (λ v. v.last) found.holds))
          found.opened-at,
    )

pub invariant_of-result : goal.invariant_of-result
invariant_of-result g c =
    let h = g.D.Device.past_of in
    let after = c.open_core.new.device in
    let parts = c.over-parts in
    let found = subst (λ (core : CoreValue). IsCoreOf (h c.args.device).disk.content (h after) c.in-Ok.halves c.in-Ok.log core) (sym parts.ensures.core)
    c.in-Ok.ensures.found in
    can_run_made h c.args.device after parts.result c.in-Ok.halves c.in-Ok.log found parts.ensures.begins c.each_half.ensures.begins
    c.each_list.ensures.begins

pub returns-in-Ok-clause-opened : goal.returns-in-Ok-clause-opened
returns-in-Ok-clause-opened g c =
    let h = g.D.Device.past_of in
    let after = c.open_core.new.device in
    let parts = c.over-parts in
    let found = subst (λ (core : CoreValue). IsCoreOf (h c.args.device).disk.content (h after) c.in-Ok.halves c.in-Ok.log core) (sym parts.ensures.core)
    c.in-Ok.ensures.found in
    opened_made h c.args.device after parts.result c.in-Ok.halves c.in-Ok.log found parts.ensures.begins c.each_half.ensures.begins
    c.each_list.ensures.begins c.open_core.ensures.turned

pub returns-in-Ok-clause-emptied : goal.returns-in-Ok-clause-emptied
returns-in-Ok-clause-emptied g c =
    let begins = c.over-parts.ensures.begins in (
      subst (λ (halves : HalvesValue). IsStore halves.geometry (other halves.current) (g.D.Device.past_of c.args.device).disk.content)
          (sym begins.halves-are) c.in-Ok.ensures.flipped,
      ap (λ (log : Log). log.open_slots) begins.log-is ∙ c.in-Ok.ensures.empty,
      begins.no-image,
      begins.idle,
    )

pub returns-in-Ok-clause-recovers : goal.returns-in-Ok-clause-recovers
returns-in-Ok-clause-recovers g c past floor left =
    let h = g.D.Device.past_of in
    let after = c.open_core.new.device in
    let parts = c.over-parts in
    let found = subst (λ (core : CoreValue). IsCoreOf (h c.args.device).disk.content (h after) c.in-Ok.halves c.in-Ok.log core) (sym parts.ensures.core)
    c.in-Ok.ensures.found in
    recovers_made h c.args.device after parts.result c.in-Ok.halves c.in-Ok.log found parts.ensures.begins c.each_half.ensures.begins
    c.each_list.ensures.begins past floor left

pub returns-in-Ok-clause-stays : goal.returns-in-Ok-clause-stays
returns-in-Ok-clause-stays g c =
    let h = g.D.Device.past_of in
    subst (λ d. StaysOfAnyRun g.row.A.Denot h c.args.device d) (sym c.over-parts.ensures.begins.device-is)
    (stays_left {M = g.row.A.Denot} h c.args.device c.open_core.new.device c.open_core.ensures.turned c.written_back.ensures.synced)

pub returns-in-Ok-clause-quiet : goal.returns-in-Ok-clause-quiet
returns-in-Ok-clause-quiet g c = ap g.D.Device.failures c.over-parts.ensures.begins.device-is ∙ c.in-Ok.ensures.quiet

pub returns-in-Err-clause-stays_refused : goal.returns-in-Err-clause-stays_refused
returns-in-Err-clause-stays_refused g c =
    stays_left {M = g.row.A.Denot} g.D.Device.past_of c.args.device c.open_core.new.device c.open_core.ensures.turned c.written_back.ensures.synced

pub returns-in-Err-clause-readable : goal.returns-in-Err-clause-readable
returns-in-Err-clause-readable g c past floor left = c.in-Err.ensures.accepted past.geometry left.given left.gives

pub returns-in-Err-clause-refused : goal.returns-in-Err-clause-refused
returns-in-Err-clause-refused g c = c.in-Err.ensures.refused

pub returns-in-Err-clause-unwritten : goal.returns-in-Err-clause-unwritten
returns-in-Err-clause-unwritten g c = c.in-Err.ensures.refused.unwritten
