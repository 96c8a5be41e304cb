use Rattle.std.proofs.Common.{ap, ◌∙◌}
use Rattle.std.proofs.Math.Bridge.{le_prop}
use Rattle.std.proofs.Math.Logic.{∥∥₁_elim}
use Rattle.std.specs.Prelude.{option_and_then}
use Rattle.model.specs.Pairs.{is_indexed}
use Rattle.core_steps.specs.Steps.{marks_new}
use Rattle.core_parts.specs.Private.{entry_in}
use Rattle.core_parts.specs.Parts.{parts_of}
use Rattle.core_parts.proofs.Next.{entry_enough}
use Rattle.core_parts.proofs.Pairs.{new_marked, new_unmarked}
use Rattle.core_parts.proofs.parts.CoreParts.begin_undo.Goals as goal

pub set_entry-requires-clause-places : goal.set_entry-requires-clause-places
set_entry-requires-clause-places g c =
    let some = new_marked (is_indexed c.args.self.now.life) c.args.change _ (c.in-Some.ensures
    ∙ ap (λ b. option_and_then entry_in (marks_new b c.args.change)) c.indexed.ensures) in
    ∥∥₁_elim c.requires.safe le_prop (entry_enough (parts_of c.args.self.now) c.args.txn c.args.change c.requires.newest _ some.0)

pub set_entry-requires-clause-safe : goal.set_entry-requires-clause-safe
set_entry-requires-clause-safe g c = c.requires.safe

pub set_entry-requires-clause-number : goal.set_entry-requires-clause-number
set_entry-requires-clause-number g c = c.requires.number

pub returns-in-Some : goal.returns-in-Some
returns-in-Some g c =
    let some = new_marked (is_indexed c.args.self.now.life) c.args.change _ (c.in-Some.ensures
    ∙ ap (λ b. option_and_then entry_in (marks_new b c.args.change)) c.indexed.ensures) in
    let e = c.set_entry.ensures in
    rw (some.0, ← some.1) (record { ok = e.ok; unchanged = e.unchanged; no_memory = e.no_memory })

pub restore_row-requires : goal.restore_row-requires
restore_row-requires g c = record { safe = c.requires.safe; newest = c.requires.newest; number = c.requires.number }

pub returns-in-None : goal.returns-in-None
returns-in-None g c =
    let none = new_unmarked (is_indexed c.args.self.now.life) c.args.change (c.in-None.ensures
    ∙ ap (λ b. option_and_then entry_in (marks_new b c.args.change)) c.indexed.ensures) in
    let e = c.restore_row.ensures in
    rw none (record { ok = e.ok; unchanged = e.unchanged; no_memory = e.no_memory })
