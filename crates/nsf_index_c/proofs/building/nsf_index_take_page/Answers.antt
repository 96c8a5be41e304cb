use Rattle.std.proofs.Common.{inr, subst}
use Rattle.nsf_index_c.specs.Building.{TakesPage}
use Rattle.nsf_index_c.specs.Seen.{Seen}
use Rattle.nsf_index_c.proofs.building.nsf_index_take_page.Goals as goal

pub returns : goal.returns
returns c = inr (
  c.in-Some.held.value,
  c.take_page-status.new.self,
  c.in-Some.ensures.taken,
  c.put.ensures,
  subst (λ (v : Seen).
      TakesPage c.args.page c.args.pairs.now c.take_page-status.result v c.take_page-status.new.self)
      c.deref_mut.ensures.value c.take_page-status.ensures,
)
