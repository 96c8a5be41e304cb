use Rattle.std.proofs.Common.{subst, sym}
use Rattle.std.proofs.Math.Logic.{∥∥₁_map}
use Rattle.core_parts.specs.View.{CoreValue, IsSafe}
use Rattle.nsf_core.specs.Value.{value_of}
use Rattle.nsf_core.proofs.Beginning.{row_safe}
use Rattle.nsf_core.proofs.store.Core.load_row.Goals as goal

pub invariant_of-self : goal.invariant_of-self
invariant_of-self g c =
    let v : CoreValue = value_of c.args.self.now in
    record {
      safe = ∥∥₁_map c.args.self.now.safe
          (λ safe. subst (λ w. IsSafe (record v { heap = w })) (sym c.set.ensures) (row_safe v c.args.rid c.args.row c.requires.inside safe));
    }
