use Rattle.std.proofs.Common.{subst}
use Rattle.core_parts.specs.View.{CoreValue}
use Rattle.core_committed.specs.Committed.{ArePlacesOf}
use Rattle.shared.proofs.committed.places_of.Goals as goal

pub returns : goal.returns
returns g c =
    subst (λ (core : CoreValue). ArePlacesOf core c.args.key c.find_committed.result) c.core.ensures
    (record {
      found = c.find_committed.ensures.found;
      no_index = c.find_committed.ensures.no_index;
      not_built = c.find_committed.ensures.not_built;
      no_memory = c.find_committed.ensures.no_memory;
    })
