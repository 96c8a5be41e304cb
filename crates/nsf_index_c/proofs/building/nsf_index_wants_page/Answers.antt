use Rattle.std.proofs.Common.{ap, inr, refl, subst, ◌∙◌}
use Rattle.nsf_index_c.specs.Seen.{Seen}
use Rattle.nsf_index_c.specs.Building.{TellsWanted}
use Rattle.nsf_index_c.proofs.building.nsf_index_wants_page.Goals as goal

pub returns : goal.returns
returns c = inr (
  c.in-Some.held.value,
  c.in-Some.held.value,
  c.in-Some.ensures.taken,
  c.put.ensures,
  (
    refl,
    refl,
    subst (λ wanted. TellsWanted wanted c.tell_wanted-2.new.page c.tell_wanted-2.new.is_wanted)
        (c.wants_page.ensures ∙ ap (λ (v : Seen). v.index.scan.wanted) (c.behind-held.view_is ∙ c.deref.ensures)) c.tell_wanted-2.ensures,
  ),
)
