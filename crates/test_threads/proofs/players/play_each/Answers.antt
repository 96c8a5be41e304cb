use denote.Param.{param}
use denote.Param.Send.{sendable}
use Rattle.std.proofs.Crossing.{crosses}
use Rattle.threads_loops.proofs.Crosses.{shared_sync}
use Rattle.test_threads.proofs.players.play_each.Goals as goal

pub for_each_mut-requires-sync-F : goal.for_each_mut-requires-sync-F
for_each_mut-requires-sync-F g c κs within =
    let r = c.type_bounds.sync-R in
    let w = c.type_bounds.sync-W in
    let s = shared_sync (param 0 g.row.B) g.B.Group in
    search (sendable, crosses) depth 20
