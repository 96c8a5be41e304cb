use Rattle.store_image_half.proofs.PartByPart.{part_began, part_page, part_entries, part_whole, part_told}
use Rattle.store_image_half.proofs.laws.image_in_parts.Goals as goal

pub returns-clause-began : goal.returns-clause-began
returns-clause-began c = part_began

pub returns-clause-page : goal.returns-clause-page
returns-clause-page c = part_page

pub returns-clause-entries : goal.returns-clause-entries
returns-clause-entries c = part_entries

pub returns-clause-whole : goal.returns-clause-whole
returns-clause-whole c = part_whole

pub returns-clause-told : goal.returns-clause-told
returns-clause-told c = part_told
