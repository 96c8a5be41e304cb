use Rattle.std.proofs.Common.{rules, refl, ◌∙◌}
use Rattle.std.proofs.lemmas.Result.{err_from_is_err_and}
use Rattle.btree_node.proofs.spares.Spares.new.Goals as goal

-- src/lib.rt:272:49
pub same-node : goal.same-node
same-node g c = refl

-- src/lib.rt:273:39
pub overflow_sub-count : goal.overflow_sub-count
overflow_sub-count g c = search rules

-- src/lib.rt:271:9
pub invariant_of-result-2 : goal.invariant_of-result-2
invariant_of-result-2 g c = search rules

pub returns-clause-enough : goal.returns-clause-enough
returns-clause-enough g c = search rules

pub returns-in_err-clone : goal.returns-in_err-clone
returns-in_err-clone g c =
    let p = err_from_is_err_and c.from_residual.result c.from_residual.ensures.1 in
    rw p.1 (record { enough = tt; exactly = tt; no_memory = p.2 })

pub returns-in_err-node : goal.returns-in_err-node
returns-in_err-node g c =
    let p = err_from_is_err_and c.from_residual-in_err-node.result c.from_residual-in_err-node.ensures.1 in
    rw p.1 (record { enough = tt; exactly = tt; no_memory = p.2 ∙ c.in_err-node.ensures.no_memory })

pub returns-in_err-new : goal.returns-in_err-new
returns-in_err-new g c =
    let p = err_from_is_err_and c.from_residual-in_err-new.result c.from_residual-in_err-new.ensures.1 in
    rw p.1 (record { enough = tt; exactly = tt; no_memory = p.2 })

pub returns-in_err-inner_nodes : goal.returns-in_err-inner_nodes
returns-in_err-inner_nodes g c =
    let p = err_from_is_err_and c.from_residual-in_err-inner_nodes.result c.from_residual-in_err-inner_nodes.ensures.1 in
    rw p.1 (record { enough = tt; exactly = tt; no_memory = p.2 ∙ c.in_err-inner_nodes.ensures.no_memory })
