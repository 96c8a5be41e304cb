use Rattle.std.proofs.Common.{inr, subst}
use Rattle.nsf_index_c.specs.Building.{Builds}
use Rattle.nsf_index_c.specs.Seen.{Seen}
use Rattle.nsf_index_c.proofs.building.nsf_index_build.Goals as goal

pub returns : goal.returns
returns c = inr (
  c.in-Some.held.value,
  c.build-built.new.self,
  c.in-Some.ensures.taken,
  c.put.ensures,
  subst (λ (v : Seen). Builds c.args.most c.build-built.result v c.build-built.new.self) c.deref_mut.ensures.value c.build-built.ensures,
)
