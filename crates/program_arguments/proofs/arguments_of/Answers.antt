use Rattle.std.proofs.Common.{◌≡◌, ◌∙◌, Result, Ok, Err, IfErr, List, ap, inl, inr, refl, subst, sym, true}
use Rattle.std.specs.Result.{IsErrAnd}
use Rattle.std.specs.Borrow.{Bor}
use Rattle.clap.specs.Words.{Text, is_simple, is_simple_and_free}
use Rattle.program_values.specs.Arguments.{with_defaults}
use Rattle.program_values.specs.declared.given.Options.{Options}
use Rattle.program_arguments.specs.CommandLine.{AreInRange, command_line, options_in}
use Rattle.program_arguments.proofs.Numbers.{options_found}
use Rattle.program_arguments.proofs.arguments_of.Goals as goal

line_is_simple : (names : Bor (List (Bor Text))) → is_simple (command_line names) ≡ true
line_is_simple names = refl

line_is_free : (names : Bor (List (Bor Text))) → is_simple_and_free (command_line names) ≡ true
line_is_free names = refl

err_is : {T E : Type 0} (r : Result T E) (y : E) (Q : E → Type 0) → IsErrAnd r (λ e. e ≡ y) → Q y → IfErr r Q
err_is (Ok x) y Q h q = absurd h
err_is (Err e) y Q h q = subst Q (sym h) q

pub returns-clause-asked : goal.returns-clause-asked
returns-clause-asked g c =
    let line = c.in_ok-command.ensures in
    let m = c.in_ok-matches.matches in
    let rows = (c.in_ok-matches.ensures.matches (ap is_simple line.2 ∙ line_is_simple line.0)).0 in
    let given : Options = record {
      pages = c.get_one.result;
      entries = c.get_one-2.result;
      slots = c.get_one-3.result;
      sectors = c.get_one-4.result;
      stop = c.get_one-5.result;
      fate = c.fate_found.result;
    } in
    let found = options_found c.in_ok-command.field-0 m c.in_ok-matches.ensures.parsed line.0 line.2 given
    (c.get_one.ensures.none, c.get_one.ensures.value) (c.get_one-2.ensures.none, c.get_one-2.ensures.value)
    (c.get_one-3.ensures.none, c.get_one-3.ensures.value) (c.get_one-4.ensures.none, c.get_one-4.ensures.value)
    (c.get_one-5.ensures.none, c.get_one-5.ensures.value) c.fate_found.ensures in (
      _,
      line,
      c.in_ok-matches.ensures.kinds (ap is_simple_and_free line.2 ∙ line_is_free line.0),
      c.with_defaults.ensures ∙ ap with_defaults (found.0 ∙ ap options_in rows),
    )

pub returns-clause-in_range : goal.returns-clause-in_range
returns-clause-in_range g c =
    let line = c.in_ok-command.ensures in
    let given : Options = record {
      pages = c.get_one.result;
      entries = c.get_one-2.result;
      slots = c.get_one-3.result;
      sectors = c.get_one-4.result;
      stop = c.get_one-5.result;
      fate = c.fate_found.result;
    } in
    let found = options_found c.in_ok-command.field-0 c.in_ok-matches.matches c.in_ok-matches.ensures.parsed line.0 line.2 given
    (c.get_one.ensures.none, c.get_one.ensures.value) (c.get_one-2.ensures.none, c.get_one-2.ensures.value)
    (c.get_one-3.ensures.none, c.get_one-3.ensures.value) (c.get_one-4.ensures.none, c.get_one-4.ensures.value)
    (c.get_one-5.ensures.none, c.get_one-5.ensures.value) c.fate_found.ensures in
    subst AreInRange (sym c.with_defaults.ensures) found.1

pub returns-in_err-matches-clause-fault : goal.returns-in_err-matches-clause-fault
returns-in_err-matches-clause-fault g c =
    let line = c.in_ok-command.ensures in
    let h = c.from_residual-in_err-matches.ensures in
    let k = c.in_err-matches.ensures.kinds (ap is_simple_and_free line.2 ∙ line_is_free line.0) in
    err_is _ _ _ h.1 (elim k [ inl memory ↦ inl memory | inr among ↦ inr (_, line, among) ])
