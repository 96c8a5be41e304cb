use Rattle.std.proofs.Common.{inr, refl, subst}
use Rattle.nsf_index_c.specs.Seen.{Seen}
use Rattle.nsf_index_c.specs.Reading.{Finds}
use Rattle.nsf_index_c.proofs.reading.nsf_index_find.Goals as goal

pub returns : goal.returns
returns c = inr (
  c.in-Some.held.value,
  c.in-Some.held.value,
  c.in-Some.ensures.taken,
  c.put.ensures,
  (
    refl,
    subst (λ (v : Seen). Finds c.args.key.now c.find-status.result c.args.found.now c.find-status.new.found v.index)
        c.deref.ensures c.find-status.ensures,
  ),
)
