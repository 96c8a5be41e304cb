use Rattle.std.proofs.Common.{arith, sym, subst}
use Rattle.node_parts.specs.Tree.{entries}
use Rattle.node_parts.specs.Order.{IsAscending}
use Rattle.btree_node.specs.Grown.{AreEnough}
use Rattle.btree_node.specs.Plans.{IsWayIn}
use Rattle.btree_node.proofs.Contents.{len-contents}
use Rattle.btree_node.proofs.BTree.plan.Goals as goal

pub returns-clause-plan : goal.returns-clause-plan
returns-clause-plan g c =
    let up : IsAscending (entries c.args.self.now) = subst (λ t. IsAscending (entries t)) c.self.view_is c.self.invariant.ascending in
    let way : IsWayIn c.args.self.now (record {
      pair = c.way.inside.pair;
      path = c.way.inside.path.items;
      nodes = c.way.inside.nodes;
      mark = c.way.inside.mark;
      visits = c.way.inside.visits;
    }) = subst (IsWayIn c.args.self.now) (sym c.way.view_is) c.requires.way in
    record {
      room = omega (arith, c.requires.room, len-contents c.args.self.now up);
      way = way.places;
      enough = subst (λ n. AreEnough n c.in_ok-spares.spares) way.counted c.in_ok-spares.ensures.enough;
    }
