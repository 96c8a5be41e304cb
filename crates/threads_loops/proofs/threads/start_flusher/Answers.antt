use denote.Param.{param}
use denote.Param.Send.{sendable}
use Rattle.std.proofs.Crossing.{crosses}
use Rattle.threads_loops.proofs.Crosses.{flush_send, shared_sync}
use Rattle.threads_loops.proofs.threads.start_flusher.Goals as goal

pub spawn_with-requires-send-F : goal.spawn_with-requires-send-F
spawn_with-requires-send-F g c κs within =
    let r = c.type_bounds.sync-R in
    let q = c.type_bounds.sync-G in
    let s = shared_sync (param 0 g.row.B) g.B.Group in
    let d = c.type_bounds.send-D in
    let w = c.type_bounds.sync-W in
    search (flush_send, sendable, crosses) depth 20
