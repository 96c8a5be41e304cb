use Rattle.std.proofs.Math.Logic.{∥∥₁_map}
use Rattle.nsf_core.specs.Value.{value_of}
use Rattle.nsf_core.proofs.Beginning.{begin_served}
use Rattle.core_parts.proofs.Due.{stays_safe}
use Rattle.nsf_core.proofs.store.Core.begin.Goals as goal

pub returns : goal.returns
returns g c = begin_served (value_of c.args.self.now) c.begin.result c.begin.new.self c.begin.ensures.full c.begin.ensures.room c.begin.ensures.number
    c.begin.ensures.ok c.begin.ensures.err

pub invariant_of-self : goal.invariant_of-self
invariant_of-self g c = record {
  safe = ∥∥₁_map c.args.self.now.safe (stays_safe _ _ _ _ (begin_served (value_of c.args.self.now) c.begin.result c.begin.new.self c.begin.ensures.full
      c.begin.ensures.room c.begin.ensures.number c.begin.ensures.ok c.begin.ensures.err));
}
