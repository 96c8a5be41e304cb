use Rattle.std.proofs.Common.{ap, ◌∙◌}
use Rattle.std.specs.Prelude.{option_and_then}
use Rattle.model.specs.Pairs.{is_indexed}
use Rattle.core_steps.specs.Steps.{marks_old}
use Rattle.core_parts.specs.Private.{entry_in}
use Rattle.core_parts.proofs.Pairs.{old_none, old_some}
use Rattle.core_parts.proofs.parts.CoreParts.start.Goals as goal

pub set_first-requires : goal.set_first-requires
set_first-requires g c = record { safe = c.requires.safe; may = c.requires.may; number = c.requires.number }

pub mark_first-requires-clause-safe : goal.mark_first-requires-clause-safe
mark_first-requires-clause-safe g c = c.requires.safe

pub mark_first-requires-clause-may : goal.mark_first-requires-clause-may
mark_first-requires-clause-may g c = c.requires.may

pub mark_first-requires-clause-number : goal.mark_first-requires-clause-number
mark_first-requires-clause-number g c = c.requires.number

pub mark_first-requires-clause-action : goal.mark_first-requires-clause-action
mark_first-requires-clause-action g c = (old_some (is_indexed c.args.self.now.life) c.args.change c.in-Some.marked (c.in-Some.ensures
    ∙ ap (λ b. option_and_then entry_in (marks_old b c.args.change)) c.indexed.ensures)).1

pub returns-in-None : goal.returns-in-None
returns-in-None g c =
    let none = old_none (is_indexed c.args.self.now.life) c.args.change (c.in-None.ensures
    ∙ ap (λ b. option_and_then entry_in (marks_old b c.args.change)) c.indexed.ensures) in
    let e = c.set_first.ensures in
    rw none (record { ok = e.ok; held = e.held; unchanged = e.unchanged; no_memory = e.no_memory })

pub returns-in-Some : goal.returns-in-Some
returns-in-Some g c =
    let some = old_some (is_indexed c.args.self.now.life) c.args.change _ (c.in-Some.ensures
    ∙ ap (λ b. option_and_then entry_in (marks_old b c.args.change)) c.indexed.ensures) in
    let e = c.mark_first.ensures in
    rw some.0 (record { ok = e.ok; held = e.held; unchanged = e.unchanged; no_memory = e.no_memory })
