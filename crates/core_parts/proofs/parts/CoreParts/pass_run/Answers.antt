use Rattle.std.proofs.Common.{Option, refl, subst}
use Rattle.record_values.specs.declared.pair.Pair.{Pair}
use Rattle.marked_index.specs.Passing.{IsBehindLive}
use Rattle.core_parts.proofs.parts.CoreParts.pass_run.Goals as goal

pub returns-clause-passed : goal.returns-clause-passed
returns-clause-passed g c = λ yes.
    let last = c.in-Some.last in
    (last, subst (λ (o : Option Pair). IsBehindLive c.args.self.now.index.entries o last) c.as_ref.ensures.value c.in-Some.ensures.passed, refl)
