use Rattle.std.proofs.Common.{sym, ◌∙◌}
use Rattle.nsf_core.specs.Value.{value_of}
use Rattle.core_parts.proofs.Cleaning.{nothing_to_clean, wrap_serves}
use Rattle.nsf_core.proofs.Kept.{served_safe}
use Rattle.nsf_core.proofs.store.Core.clean_step.Goals as goal

pub returns-then-not-indexed : goal.returns-then-not-indexed
returns-then-not-indexed g c = nothing_to_clean (value_of c.args.self.now) (sym c.indexed.ensures ∙ c.if-not-indexed.true)

pub returns-in_default : goal.returns-in_default
returns-in_default g c = wrap_serves (value_of c.args.self.now) (sym c.indexed.ensures ∙ c.if-not-indexed.false) c.in_default.ensures

pub invariant_of-self : goal.invariant_of-self
invariant_of-self g c = record {
  safe = served_safe _ _ _ _ (wrap_serves (value_of c.args.self.now) (sym c.indexed.ensures ∙ c.if-not-indexed.false) c.in_default.ensures)
      c.args.self.now.safe;
}

pub invariant_of-self-2 : goal.invariant_of-self-2
invariant_of-self-2 g c = record { safe = served_safe _ _ _ _ c.clean_at.ensures c.args.self.now.safe }
