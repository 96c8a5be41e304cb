use Rattle.std.proofs.Common.{◌∙◌, rules}
use Rattle.record_values.specs.declared.rid.TheConstants.{SLOTS_PER_PAGE}
use Rattle.heap_pages.proofs.SlotLists.{no_rows}
use Rattle.heap_pages.proofs.Open.{all_open}
use Rattle.heap_pages.proofs.page.HeapPage.new.Goals as goal

pub returns : goal.returns
returns c = no_rows

pub invariant_of-result : goal.invariant_of-result
invariant_of-result c = (search rules, c.all.ensures ∙ all_open SLOTS_PER_PAGE)
