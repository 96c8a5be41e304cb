use Rattle.std.proofs.Common.{arith, length, subst, sym, ◌∙◌, ◌≡◌}
use Rattle.nsf_core.specs.Value.{value_of}
use Rattle.core_copies.proofs.Listing.{AreListedTo, all_listed, none_listed, none_missing, one_put}
use Rattle.core_copies.proofs.parts.all_lists.Goals as goal

pub loop-index-init : goal.loop-index-init
loop-index-init g c =
    let active = (value_of c.args.core.now).txns.active in
    subst (AreListedTo active 0) (sym c.new-lists.ensures) (none_listed active)

pub unreachable-requires : goal.unreachable-requires
unreachable-requires g c =
    let active = (value_of c.args.core.now).txns.active in
    none_missing active c.loop-index.index (omega (arith, c.loop-index-test.true, c.active_txns-index-end.ensures.number)) (sym c.in_default.is
    ∙ c.txn_at.ensures)

pub loop-index-preserved : goal.loop-index-preserved
loop-index-preserved g c =
    let active = (value_of c.args.core.now).txns.active in
    one_put active c.loop-index.index c.loop-index.lists c.put_list.new.lists c.loop-index.invariant c.in-Some.txn (sym c.in-Some.is
    ∙ c.txn_at.ensures) c.in_ok-put_list.ensures.put

pub returns-clause-each : goal.returns-clause-each
returns-clause-each g c =
    let active = (value_of c.args.core.now).txns.active in
    let all : c.loop-index.index ≡ length active = omega (
      arith,
      c.loop-index-test.false,
      c.loop-index.auto.index-end,
      c.active_txns-index-end.ensures.number,
    ) in
    all_listed active c.loop-index.lists (subst (λ n. AreListedTo active n c.loop-index.lists) all c.loop-index.invariant)

pub returns-clause-few : goal.returns-clause-few
returns-clause-few g c = omega (arith, c.loop-index.invariant.few, c.loop-index.auto.index-end, c.active_txns-index-end.ensures.number)
