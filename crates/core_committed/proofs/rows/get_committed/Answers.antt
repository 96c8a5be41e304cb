use Rattle.std.proofs.Common.{ap, arith, length, sym, ◌∙◌, ◌≡◌}
use Rattle.std.specs.FinMap.{get}
use Rattle.nsf_core.specs.Value.{value_of}
use Rattle.core_committed.proofs.Reverted.{back_to, one_more, whole_back}
use Rattle.core_committed.proofs.rows.get_committed.Goals as goal

pub loop-index-init : goal.loop-index-init
loop-index-init g c = sym c.get-row.ensures.row

pub loop-index-preserved : goal.loop-index-preserved
loop-index-preserved g c =
    let v = value_of c.args.core.now in
    one_more v.heap.rows v.txns.active c.loop-index.index c.args.rid c.loop-index.row c.taken_back-row.result c.changes_at.result.now c.loop-index.invariant
    c.changes_at.ensures c.taken_back-row.ensures

pub returns : goal.returns
returns g c =
    let v = value_of c.args.core.now in
    let ends : c.loop-index.index ≡ length v.txns.active = omega (arith, c.active_txns-index-end.ensures.number) in
    sym c.loop-index.invariant
    ∙ ap (λ n. get (back_to v.heap.rows v.txns.active n) c.args.rid) ends
    ∙ ap (λ t. get t c.args.rid) (whole_back v v.txns.begun c.active_txns-index-end.ensures.sound.rising)
