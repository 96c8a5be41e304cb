use Rattle.std.proofs.Common.{sym, ap, subst, ◌∙◌}
use Rattle.core_model.specs.Events.{standing_at}
use Rattle.core_model.specs.Histories.{opened}
use Rattle.core_parts.specs.View.{CoreValue, IsState}
use Rattle.gate_log.specs.Area.{Log}
use Rattle.model.specs.Given.{opening_cells}
use Rattle.store_writer.specs.Writer.{IsOpenedAt}
use Rattle.restart.specs.Migrating.{WritesTheStoreAlone}
use Rattle.restart.specs.Parts.{core_of}
use Rattle.restart.specs.Reopening.{IsCoreOf}
use Rattle.restart.specs.Store.{over}
use Rattle.restart.proofs.Reopened.{can_run_made, migrated}
use Rattle.restart.proofs.migration.migrate.Goals as goal

pub over-parts-requires : goal.over-parts-requires
over-parts-requires g c =
    let h = g.N.Device.past_of in
    let found = c.in-Ok.ensures.moved.moved in (
      opening_cells found.given,
      subst (λ n. IsOpenedAt (h c.move_store.new.new) c.in-Ok.halves c.in-Ok.log n (opening_cells found.given)) (sym (ap (λ v. v.last) found.holds))
          found.opened-at,
    )

pub invariant_of-result : goal.invariant_of-result
invariant_of-result g c =
    let h = g.N.Device.past_of in
    let new = c.move_store.new.new in
    let parts = c.over-parts in
    let found = subst (λ (core : CoreValue). IsCoreOf (h new).disk.content (h new) c.in-Ok.halves c.in-Ok.log core) (sym parts.ensures.core)
    c.in-Ok.ensures.moved.moved in
    can_run_made h new new parts.result c.in-Ok.halves c.in-Ok.log found parts.ensures.begins c.each_half.ensures.begins c.each_list.ensures.begins

pub returns-in-Ok-clause-migrated : goal.returns-in-Ok-clause-migrated
returns-in-Ok-clause-migrated g c =
    let h = g.N.Device.past_of in
    let new = c.move_store.new.new in
    let parts = c.over-parts in
    let moved = c.in-Ok.ensures.moved.moved in
    let found : IsCoreOf (h new).disk.content (h new) c.in-Ok.halves c.in-Ok.log (core_of parts.result) = record {
      given = moved.given;
      gives = moved.gives;
      holds = parts.ensures.core ∙ moved.holds;
      shown = subst (λ (core : CoreValue). IsState core (opened (over c.in-Ok.halves.geometry moved.given)) (standing_at moved.given.last))
          (sym parts.ensures.core) moved.shown;
      opened-at = moved.opened-at;
    } in
    migrated h new parts.result c.in-Ok.halves c.in-Ok.log found parts.ensures.begins c.each_half.ensures.begins c.each_list.ensures.begins
    (g.O.Device.past_of c.args.old.now).disk.content c.in-Ok.ensures.moved.gave

pub returns-in-Ok-clause-emptied : goal.returns-in-Ok-clause-emptied
returns-in-Ok-clause-emptied g c =
    let begins = c.over-parts.ensures.begins in
    (ap (λ (log : Log). log.open_slots) begins.log-is ∙ c.in-Ok.ensures.empty, begins.no-image, begins.idle)

pub returns-in-Ok-clause-around : goal.returns-in-Ok-clause-around
returns-in-Ok-clause-around g c =
    subst (λ d. WritesTheStoreAlone (g.O.Device.past_of c.args.old.now).disk.content g.N.Device.past_of c.args.new d)
    (sym c.over-parts.ensures.begins.device-is) c.in-Ok.ensures.around

pub returns-in-Ok-clause-quiet : goal.returns-in-Ok-clause-quiet
returns-in-Ok-clause-quiet g c =
    (c.in-Ok.ensures.quiet.0, ap g.N.Device.failures c.over-parts.ensures.begins.device-is ∙ c.in-Ok.ensures.quiet.1)

pub returns-in-Ok-clause-kept : goal.returns-in-Ok-clause-kept
returns-in-Ok-clause-kept g c = c.move_store.ensures.kept

pub returns-in-Ok-clause-room : goal.returns-in-Ok-clause-room
returns-in-Ok-clause-room g c = c.in-Ok.ensures.room

pub returns-in-Err : goal.returns-in-Err
returns-in-Err g c = record {
  migrated = tt;
  emptied = tt;
  around = tt;
  kept = c.move_store.ensures.kept;
  refused = c.in-Err.ensures.refused;
  memory = c.in-Err.ensures.memory;
  room = tt;
  too_small = c.in-Err.ensures.too_small;
  told = c.in-Err.ensures.told;
  quiet = tt;
}
