use Rattle.std.proofs.Math.Logic.{∥∥₁_map}
use Rattle.nsf_core.specs.Value.{value_of}
use Rattle.nsf_core.proofs.Roomy.{load_safe}
use Rattle.nsf_core.proofs.store.Core.load_entry.Goals as goal

pub invariant_of-self : goal.invariant_of-self
invariant_of-self g c =
    let e = c.load.ensures in
    record {
      safe = ∥∥₁_map c.args.self.now.safe (load_safe (value_of c.args.self.now) c.args.pair.now c.args.mark c.load.new.self c.load.result c.requires.quiet
          c.requires.inside e.ok e.full e.unchanged);
    }
