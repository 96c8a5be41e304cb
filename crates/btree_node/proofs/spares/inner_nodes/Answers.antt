use Rattle.std.proofs.Common.{◌≡◌, ◌+◌, sym, ap, subst, ◌∙◌, length, arith}
use Rattle.std.specs.List.{All}
use Rattle.std.proofs.lemmas.List.Elements.{All-push}
use Rattle.std.proofs.lemmas.Result.{err_from_is_err_and}
use Rattle.node_parts.specs.Tree.{an_empty_inner}
use Rattle.btree_node.proofs.spares.inner_nodes.Goals as goal

pub loop-init : goal.loop-init
loop-init g c =
    let made = c.in_ok-nodes.ensures in
    record { len = made.len; room = made.exact; empty = λ k d h. absurd (omega (arith, h, ap length made.items)) }

pub loop-preserved : goal.loop-preserved
loop-preserved g c =
    let is = c.loop.invariant in
    let put = c.push_reserved.ensures in
    record {
      len = put.len ∙ ap (λ n. n + 1) is.len;
      room = put.capacity ∙ is.room;
      empty = subst (All (λ b. b.value ≡ an_empty_inner)) (sym put.items)
          (All-push (λ b. b.value ≡ an_empty_inner) c.loop.nodes.items c.in_ok-new.field-0 is.empty (c.in_ok-new.ensures.ok ∙ c.in_ok-node.ensures.ok));
    }

pub push_reserved-requires : goal.push_reserved-requires
push_reserved-requires g c = omega (arith, c.loop.invariant.len, c.loop.invariant.room, c.loop-test.true)

pub returns : goal.returns
returns g c =
    let is = c.loop.invariant in
    record { count = omega (arith, is.len, c.loop-test.false, c.loop.auto.counter-end); empty = is.empty; no_memory = tt }

pub returns-in_err-clone : goal.returns-in_err-clone
returns-in_err-clone g c =
    let p = err_from_is_err_and c.from_residual.result c.from_residual.ensures.1 in
    rw p.1 (record { count = tt; empty = tt; no_memory = p.2 })

pub returns-in_err-nodes : goal.returns-in_err-nodes
returns-in_err-nodes g c =
    let p = err_from_is_err_and c.from_residual-in_err-nodes.result c.from_residual-in_err-nodes.ensures.1 in
    rw p.1 (record { count = tt; empty = tt; no_memory = p.2 })

pub returns-in_err-node : goal.returns-in_err-node
returns-in_err-node g c =
    let p = err_from_is_err_and c.from_residual-in_err-node.result c.from_residual-in_err-node.ensures.1 in
    rw p.1 (record { count = tt; empty = tt; no_memory = p.2 ∙ c.in_err-node.ensures.no_memory })

pub returns-in_err-new : goal.returns-in_err-new
returns-in_err-new g c =
    let p = err_from_is_err_and c.from_residual-in_err-new.result c.from_residual-in_err-new.ensures.1 in
    rw p.1 (record { count = tt; empty = tt; no_memory = p.2 })
