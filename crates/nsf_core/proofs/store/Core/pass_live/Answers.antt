use Rattle.std.proofs.Common.{sym, ◌∙◌}
use Rattle.nsf_core.specs.Value.{value_of}
use Rattle.core_parts.proofs.KeptLive.{passed_safe, passes_none}
use Rattle.nsf_core.proofs.store.Core.pass_live.Goals as goal

pub returns-then-not-indexed : goal.returns-then-not-indexed
returns-then-not-indexed g c = passes_none (value_of c.args.self.now) c.args.runs (sym c.indexed.ensures ∙ c.if-not-indexed.true)

pub invariant_of-self : goal.invariant_of-self
invariant_of-self g c = record { safe = passed_safe _ _ _ c.pass_live.ensures c.args.self.now.safe }
