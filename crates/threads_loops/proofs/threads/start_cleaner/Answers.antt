use denote.Param.{param}
use denote.Param.Send.{sendable}
use Rattle.std.proofs.Crossing.{crosses}
use Rattle.threads_loops.proofs.Crosses.{shared_sync}
use Rattle.shared.proofs.cleaner.CleanPart.TheSendSync as clean_part
use Rattle.threads_loops.proofs.threads.start_cleaner.Goals as goal

pub spawn_with-requires-send-F : goal.spawn_with-requires-send-F
spawn_with-requires-send-F g c κs within =
    let r = c.type_bounds.sync-R in
    let q = c.type_bounds.sync-G in
    let s = shared_sync (param 0 g.row.B) g.B.Group in
    search (clean_part.the_send, sendable, crosses) depth 20
