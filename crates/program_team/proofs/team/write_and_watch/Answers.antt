use denote.Param.{param}
use denote.Param.Send.{sendable}
use Rattle.std.proofs.Crossing.{crosses}
use Rattle.shared.proofs.views.GroupView.TheSendSync as view
use Rattle.threads_leader.proofs.Crosses.{shared_sync}
use Rattle.threads_leader.proofs.BuilderEnds as builder_end
use Rattle.program_team.proofs.progress.Progress.TheSendSync as progress
use Rattle.program_team.proofs.team.write_and_watch.Goals as goal

pub join-written-requires-send-F : goal.join-written-requires-send-F
join-written-requires-send-F g c κs within =
    let r = c.type_bounds.sync-R in
    let w = c.type_bounds.sync-W in
    let l = c.type_bounds.sync-L in
    let e = c.type_bounds.send-E in
    let s = shared_sync (param 0 g.row.B) g.B.Group in
    search (progress.the_send, view.the_send, builder_end.the_sync, sendable, crosses) depth 20
