use Rattle.std.proofs.Common.{ap, sym, ◌∙◌}
use Rattle.std.proofs.Math.Bridge.{le_prop}
use Rattle.std.proofs.Math.Logic.{∥∥₁_elim}
use Rattle.std.proofs.lemmas.Result.{err_from_is_err_and}
use Rattle.std.specs.Prelude.{option_and_then}
use Rattle.model.specs.Pairs.{is_indexed}
use Rattle.core_steps.specs.Steps.{puts_old}
use Rattle.core_parts.specs.Private.{entry_in}
use Rattle.core_parts.specs.Parts.{parts_of}
use Rattle.core_parts.proofs.Pairs.{old_put, old_unput}
use Rattle.core_parts.proofs.Stepped.{restored}
use Rattle.core_parts.proofs.Undoing.{old_enough}
use Rattle.core_parts.proofs.parts.CoreParts.restore_entry.Goals as goal

pub unreachable-requires : goal.unreachable-requires
unreachable-requires g c =
    c.requires.moved (old_unput (is_indexed c.args.self.now.life) c.args.change (sym c.in_default.is
    ∙ (c.puts_old.ensures ∙ ap (λ b. option_and_then entry_in (puts_old b c.args.change)) c.indexed.ensures)))

pub set_entry-requires-clause-safe : goal.set_entry-requires-clause-safe
set_entry-requires-clause-safe g c = c.requires.safe

pub set_entry-requires-clause-places : goal.set_entry-requires-clause-places
set_entry-requires-clause-places g c =
    let some = old_put (is_indexed c.args.self.now.life) c.args.change c.in-Some.put (sym c.in-Some.is
    ∙ (c.puts_old.ensures ∙ ap (λ b. option_and_then entry_in (puts_old b c.args.change)) c.indexed.ensures)) in
    ∥∥₁_elim c.requires.safe le_prop (old_enough (parts_of c.args.self.now) c.args.txn c.args.change c.requires.newest c.in-Some.put.0 some.0)

pub set_entry-requires-clause-number : goal.set_entry-requires-clause-number
set_entry-requires-clause-number g c = c.requires.number

pub returns-in_err-set_entry : goal.returns-in_err-set_entry
returns-in_err-set_entry g c =
    let p = err_from_is_err_and c.from_residual.result c.from_residual.ensures.1 in
    rw (p.1, p.2) (record { ok = tt; unchanged = c.in_err-set_entry.ensures.unchanged; no_memory = c.in_err-set_entry.ensures.no_memory })

pub returns : goal.returns
returns g c =
    let some = old_put (is_indexed c.args.self.now.life) c.args.change c.in-Some.put (sym c.in-Some.is
    ∙ (c.puts_old.ensures ∙ ap (λ b. option_and_then entry_in (puts_old b c.args.change)) c.indexed.ensures)) in
    record {
      ok = restored (parts_of c.args.self.now) (parts_of c.set_entry.new.self) c.args.txn c.args.change _ c.in-Some.put some.0 some.1 c.pop_undo.new.self
          c.in_ok-set_entry.ensures.ok c.pop_undo.ensures.rest;
      unchanged = tt;
      no_memory = tt;
    }
