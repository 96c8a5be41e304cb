use Rattle.marked_index.proofs.Places.{next_is_none, next_is}
use Rattle.marked_index.proofs.index.MarkedIndex.next_of.Goals as goal

pub returns-in_err-pair : goal.returns-in_err-pair
returns-in_err-pair g c = rw c.from_residual.ensures (next_is_none c.args.self.now.entries c.args.key c.args.rid c.in_err-pair.ensures)

pub returns : goal.returns
returns g c = rw c.then_some.ensures
    (next_is c.args.self.now.entries c.args.key c.args.rid c.in_ok-pair.pair c.in_ok-pair.mark c.eq.result c.in_ok-pair.ensures c.eq.ensures)
