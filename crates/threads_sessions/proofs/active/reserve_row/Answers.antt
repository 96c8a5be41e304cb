use Rattle.std.proofs.Common.{arith, ◌<◌, length}
use Rattle.threads_sessions.proofs.Lists.{same_grown, room_grown}
use Rattle.threads_sessions.proofs.active.reserve_row.Goals as goal

pub returns-in_err-reserve-clause-same : goal.returns-in_err-reserve-clause-same
returns-in_err-reserve-clause-same g c = same_grown c.args.active.now.items c.args.i c.index_mut.result.now _ c.index_mut.ensures.value c.reserve.ensures.items

pub returns-clause-same : goal.returns-clause-same
returns-clause-same g c = same_grown c.args.active.now.items c.args.i c.index_mut.result.now _ c.index_mut.ensures.value c.reserve.ensures.items

pub returns-clause-room : goal.returns-clause-room
returns-clause-room g c =
    let within : c.args.i < length c.args.active.now.items = omega (arith, c.requires) in
    room_grown c.args.active.now.items c.args.i c.index_mut.result.now _ c.index_mut.ensures.value within c.in_ok-reserve.ensures.ok
