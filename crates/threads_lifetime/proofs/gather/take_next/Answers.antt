use Rattle.std.proofs.Common.{ap, arith, ◌∙◌, sym}
use Rattle.std.specs.Prelude.{slice_get}
use Rattle.threads_lifetime.specs.Gathered.{lists_of}
use Rattle.threads_lifetime.proofs.Gathering.{takes_none, takes_some}
use Rattle.threads_lifetime.proofs.gather.take_next.Goals as goal

pub returns : goal.returns
returns g c =
    let found = c.in_ok-k.ensures.some in
    let k = c.in_ok-k.k in
    let lists = c.args.lists.now.items in
    let list = c.index_mut-list.result.now in
    let at = ap (λ l. slice_get (lists_of l) k) (sym c.deref.ensures.value) ∙ found.1 in
    let took = c.pop.ensures in
    record {
      some = takes_some c.args.number k lists list c.pop.new.self c.pop.result found.0 at found.2 c.index_mut-list.ensures.value took.items took.variant.1;
      none = takes_none c.args.number k lists list c.pop.new.self c.pop.result found.0 at found.2 c.index_mut-list.ensures.value took.items took.variant.1 _;
    }

pub returns-in_err-k : goal.returns-in_err-k
returns-in_err-k g c = rw c.from_residual.ensures (record {
  some = tt;
  none = λ k list at. c.in_err-k.ensures.none k list (ap (λ l. slice_get (lists_of l) k) c.deref.ensures.value ∙ at);
})

pub index_mut-list-requires : goal.index_mut-list-requires
index_mut-list-requires g c = omega (arith, c.in_ok-k.ensures.within, c.deref.ensures.len)
