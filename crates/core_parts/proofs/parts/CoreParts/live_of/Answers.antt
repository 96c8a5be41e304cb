use Rattle.core_parts.proofs.Finding.{sorted_ok}
use Rattle.core_parts.proofs.parts.CoreParts.live_of.Goals as goal

pub returns-clause-in_order : goal.returns-clause-in_order
returns-clause-in_order g c = sorted_ok (λ v. v.items) _ c.shown_of.ensures.ascending
