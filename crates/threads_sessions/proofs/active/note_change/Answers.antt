use Rattle.std.proofs.Common.{List, ap, arith, ◌∙◌}
use Rattle.model.specs.declared.write.Write.{Write}
use Rattle.nsf_core.specs.Value.{value_of}
use Rattle.threads_sessions.specs.Values.{with_write}
use Rattle.threads_sessions.specs.Steps.{change_seen}
use Rattle.threads_sessions.proofs.Lists.{one_changed, place_within, room_read}
use Rattle.threads_sessions.proofs.active.note_change.Goals as goal

pub index_mut-one-requires : goal.index_mut-one-requires
index_mut-one-requires g c = omega (arith, place_within c.args.active.now.items c.args.i c.requires, c.args.active.now.ok.0)

pub set_write-requires : goal.set_write-requires
set_write-requires g c = room_read c.args.active.now.items c.args.i c.index_mut-one.result.now c.index_mut-one.ensures.value c.requires

pub returns : goal.returns
returns g c =
    let one = c.index_mut-one.result.now in
    let rows = ◌∙◌ {A = List Write} c.set_write.ensures (ap (λ (w : Write). with_write w one.rows.items) c.row_now-write.ensures) in
    one_changed c.args.active.now.items c.args.i one c.index_mut-one.ensures.value (change_seen (value_of c.args.core.now) c.args.change) _
    (λ j. record { txn = one.txn; rows = rows j; unfinished = c.unfinished-one.ensures j; rolling = one.rolling })
