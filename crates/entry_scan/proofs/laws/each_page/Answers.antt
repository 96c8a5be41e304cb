use Rattle.entry_scan.specs.Visible.{left_of}
use Rattle.entry_scan.proofs.Paged.{page_last, page_more}
use Rattle.entry_scan.proofs.laws.each_page.Goals as goal

pub returns-clause-more : goal.returns-clause-more
returns-clause-more c = page_more

pub returns-clause-last : goal.returns-clause-last
returns-clause-last c = λ index range after limit some none. page_last after limit (left_of index range after) some none
