use Rattle.std.proofs.Common.{ap, sym, ◌∙◌}
use Rattle.core_parts.specs.Private.{row_progress}
use Rattle.core_parts.proofs.Pairs.{new_missing, new_there}
use Rattle.core_parts.proofs.parts.progress_after_row.Goals as goal

pub returns-then-has_new_entry : goal.returns-then-has_new_entry
returns-then-has_new_entry c =
    sym (ap row_progress (new_there c.args.indexed c.args.change.now (sym c.if-has_new_entry.true ∙ c.has_new_entry.ensures.put)).1)

pub returns-else-has_new_entry : goal.returns-else-has_new_entry
returns-else-has_new_entry c =
    sym (ap row_progress (new_missing c.args.indexed c.args.change.now (sym c.if-has_new_entry.false ∙ c.has_new_entry.ensures.put)))
