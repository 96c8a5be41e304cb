use Rattle.std.proofs.Common.{◌<◌, ◌∙◌, ap, arith, inl, inr, length, sym, subst, ⊎_elim}
use Rattle.sector_device.specs.Disk.{SameOutside}
use Rattle.record_values.specs.GeometryValue.{GeometryValue, sectors_of}
use Rattle.record_values.specs.declared.version.Version.TheVariants.{One}
use Rattle.store_reader.specs.Restored.{given_in}
use Rattle.nsf_core.specs.Value.{value_of}
use Rattle.restart.specs.declared.migration.MigrateError.TheVariants as refusals
use Rattle.restart.proofs.Migrated.{has_header, if_err_weaker, if_ok_weaker, moved, on_ok_weaker, not_failed, not_filled, old_not_moved, told_small, wanted}
use Rattle.restart.proofs.migration.move_store.Goals as goal

pub fill-requires : goal.fill-requires
fill-requires g c =
    let found = c.in-Ok.found in
    c.room_for_given.ensures One (g.O.Device.past_of c.args.old.now).disk.content found.restored.geometry (given_in found.restored) c.in-Ok.ensures.found.gives

pub returns-in-Ok-clause-moved : goal.returns-in-Ok-clause-moved
returns-in-Ok-clause-moved g c =
    let restored = c.in-Ok.found.restored in
    if_ok_weaker _ _ c.fill.result
    (λ r filled. moved (g.O.Device.past_of c.args.old.now).disk.content restored.geometry (given_in restored) (g.N.Device.past_of c.fill.new.device) r.1 r.2
    (value_of r.0) c.in-Ok.ensures.found.gives filled) c.fill.ensures.filled

pub returns-in-Ok-clause-refused : goal.returns-in-Ok-clause-refused
returns-in-Ok-clause-refused g c =
    let restored = c.in-Ok.found.restored in
    let f = g.O.Device.failures in
    if_err_weaker _ _ c.fill.result
    (λ e why. not_filled (g.O.Device.past_of c.args.old.now).disk.content (f c.args.old.now)
    (f c.read_store_in.new.device) g.N.Device.past_of g.N.Device.failures c.args.new.now c.fill.new.device restored.geometry
    (given_in restored) c.in-Ok.ensures.found.gives e why)
    c.fill.ensures.refused

pub returns-in-Ok-clause-kept : goal.returns-in-Ok-clause-kept
returns-in-Ok-clause-kept g c = c.read_store_in.ensures.reads

pub returns-in-Ok-clause-room : goal.returns-in-Ok-clause-room
returns-in-Ok-clause-room g c =
    let restored = c.in-Ok.found.restored in
    let old = (g.O.Device.past_of c.args.old.now).disk.content in
    let new = (g.N.Device.past_of c.args.new.now).disk.content in
    on_ok_weaker _ _ c.fill.result
    (λ enough small. omega (
      arith,
      enough,
      subst (λ (x : GeometryValue). length new < sectors_of x)
          (c.one_old_answer.ensures.geometry old small.geometry restored.geometry small.given (given_in restored) small.gave c.in-Ok.ensures.found.gives)
          small.few,
    ))
    c.fill.ensures.room

pub returns-in-Ok-clause-too_small : goal.returns-in-Ok-clause-too_small
returns-in-Ok-clause-too_small g c small =
    let restored = c.in-Ok.found.restored in
    let f = g.O.Device.failures in
    let old = (g.O.Device.past_of c.args.old.now).disk.content in
    let new = (g.N.Device.past_of c.args.new.now).disk.content in
    if_err_weaker _ _ c.fill.result
    (λ e why. told_small old (f c.args.old.now) (f c.read_store_in.new.device) g.N.Device.past_of g.N.Device.failures c.args.new.now c.fill.new.device
    restored.geometry (given_in restored) c.in-Ok.ensures.found.gives
    (λ is. subst (λ (x : GeometryValue). length new < sectors_of x)
    (c.one_old_answer.ensures.geometry old is.geometry restored.geometry is.given (given_in restored) is.gave c.in-Ok.ensures.found.gives) is.few) e why
    small)
    c.fill.ensures.refused

pub returns-in-Err-clause-refused : goal.returns-in-Err-clause-refused
returns-in-Err-clause-refused g c =
    let f = g.O.Device.failures in
    old_not_moved (g.O.Device.past_of c.args.old.now).disk.content (f c.args.old.now)
    (f c.read_store_in.new.device) g.N.Device.past_of g.N.Device.failures c.args.new.now c.in-Err.error c.refusal_of_old.result c.refusal_of_old.ensures
    c.in-Err.ensures.refused

pub returns-in-Err-clause-too_small : goal.returns-in-Err-clause-too_small
returns-in-Err-clause-too_small g c small = ⊎_elim
    (λ none. inr (inr none.1))
    (λ other. ⊎_elim (λ none. absurd (other.0 none)) (λ failed. inr (inl (other.1 ∙ ap refusals.Old failed.0)))
    (c.in-Err.ensures.accepted small.geometry small.given small.gave))
    c.refusal_of_old.ensures

pub returns-in-Ok-clause-memory : goal.returns-in-Ok-clause-memory
returns-in-Ok-clause-memory g c =
    let restored = c.in-Ok.found.restored in
    if_err_weaker _ _ c.fill.result (λ e why none. has_header One (g.O.Device.past_of c.args.old.now).disk.content restored.geometry
    (given_in restored) c.in-Ok.ensures.found.gives) c.fill.ensures.refused

pub returns-in-Ok-clause-told : goal.returns-in-Ok-clause-told
returns-in-Ok-clause-told g c = if_err_weaker _ _ c.fill.result (λ e why other. c.in-Ok.ensures.quiet) c.fill.ensures.refused

pub returns-in-Err-clause-memory : goal.returns-in-Err-clause-memory
returns-in-Err-clause-memory g c none = c.in-Err.ensures.memory (wanted c.in-Err.error c.refusal_of_old.result c.refusal_of_old.ensures none)

pub returns-in-Err-clause-told : goal.returns-in-Err-clause-told
returns-in-Err-clause-told g c other = c.in-Err.ensures.told (not_failed c.in-Err.error c.refusal_of_old.result c.refusal_of_old.ensures other)

pub returns-in-Ok-clause-around : goal.returns-in-Ok-clause-around
returns-in-Ok-clause-around g c =
    let restored = c.in-Ok.found.restored in
    let old = (g.O.Device.past_of c.args.old.now).disk.content in
    let h = g.N.Device.past_of in
    on_ok_weaker _ _ c.fill.result
    (λ same geometry given gives. subst (λ (x : GeometryValue).
    SameOutside (λ n. n < sectors_of x) (h c.args.new.now).disk.content (h c.fill.new.device).disk.content)
    (sym (c.one_old_answer.ensures.geometry old geometry restored.geometry given (given_in restored) gives c.in-Ok.ensures.found.gives)) same)
    c.fill.ensures.around

pub returns-in-Ok-clause-empty : goal.returns-in-Ok-clause-empty
returns-in-Ok-clause-empty g c = c.fill.ensures.empty

pub returns-in-Ok-clause-quiet : goal.returns-in-Ok-clause-quiet
returns-in-Ok-clause-quiet g c = on_ok_weaker _ _ c.fill.result (λ same. (c.in-Ok.ensures.quiet, same)) c.fill.ensures.quiet

pub returns-in-Err-clause-kept : goal.returns-in-Err-clause-kept
returns-in-Err-clause-kept g c = c.read_store_in.ensures.reads
