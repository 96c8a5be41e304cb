use denote.Param.{param}
use denote.Param.Send.{sendable}
use Rattle.std.proofs.Crossing.{crosses}
use Rattle.threads_leader.proofs.Crosses.{shared_sync}
use Rattle.threads_leader.proofs.BuilderEnds as builder_end
use Rattle.std.proofs.Common.{refl, rules}
use Rattle.nsf.specs.Serving.{KeepsSeat}
use Rattle.nsf.proofs.Worked.{each_lent}
use Rattle.nsf.proofs.led.work_all.Goals as goal

pub for_each_mut-requires-sync-F : goal.for_each_mut-requires-sync-F
for_each_mut-requires-sync-F g c κs within =
    let r = c.type_bounds.sync-R in
    let w = c.type_bounds.sync-W in
    let s = shared_sync (param 0 g.row.B) g.B.Group in
    search (builder_end.the_sync, sendable, crosses) depth 20

pub returns : goal.returns
returns g c =
    let old = c.deref_mut.result.now in
    let new = c.for_each_mut.new.s in
    record {
      len = refl;
      seats = each_lent (λ x y. KeepsSeat x.seat y.seat) c.args.chairs.len c.args.chairs.items old new c.deref_mut.ensures.value c.for_each_mut.auto.s
          c.args.chairs.ok.0 (λ k d within. let a = (c.for_each_mut.ensures k d within).1 in search rules);
      worked = each_lent (λ x y. g.C.LedClient.works x.client y.client x.seat y.seat) c.args.chairs.len c.args.chairs.items old new c.deref_mut.ensures.value
          c.for_each_mut.auto.s c.args.chairs.ok.0 (λ k d within. let a = (c.for_each_mut.ensures k d within).1 in search rules);
    }
