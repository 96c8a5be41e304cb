use Rattle.std.proofs.Common.{inr, refl, subst}
use Rattle.nsf_index_c.specs.Seen.{Seen}
use Rattle.nsf_index_c.specs.Reading.{Gets}
use Rattle.nsf_index_c.proofs.reading.nsf_index_get.Goals as goal

pub returns : goal.returns
returns c = inr (
  c.in-Some.held.value,
  c.in-Some.held.value,
  c.in-Some.ensures.taken,
  c.put.ensures,
  (
    refl,
    subst (λ (v : Seen). Gets c.args.pair.now c.get-status.result c.args.state.now c.get-status.new.state v.index)
        c.deref.ensures c.get-status.ensures,
  ),
)
