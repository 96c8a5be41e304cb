use Rattle.store_image_model.proofs.Steps.{nothing_copied, page_copied, entries_copied, last_copied}
use Rattle.store_image_model.proofs.laws.copied_in_steps.Goals as goal

pub returns-clause-began : goal.returns-clause-began
returns-clause-began c = nothing_copied

pub returns-clause-page : goal.returns-clause-page
returns-clause-page c = page_copied

pub returns-clause-entries : goal.returns-clause-entries
returns-clause-entries c = entries_copied

pub returns-clause-last : goal.returns-clause-last
returns-clause-last c = last_copied
