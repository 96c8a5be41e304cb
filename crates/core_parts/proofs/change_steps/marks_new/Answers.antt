use Rattle.std.proofs.Common.{ap, ◌∙◌}
use Rattle.std.specs.Prelude.{option_and_then}
use Rattle.core_parts.specs.Private.{entry_in}
use Rattle.core_parts.proofs.Ordered.{first_back}
use Rattle.core_parts.proofs.change_steps.marks_new.Goals as goal

pub returns : goal.returns
returns c = c.entry_of.ensures ∙ ap (option_and_then entry_in) c.undo.ensures ∙ first_back c.args.indexed c.args.change.now
