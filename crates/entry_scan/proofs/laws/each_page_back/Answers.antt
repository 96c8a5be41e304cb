use Rattle.entry_scan.specs.Backward.{left_before}
use Rattle.entry_scan.proofs.Paged.{page_last}
use Rattle.entry_scan.proofs.PagedBack.{page_back_more}
use Rattle.entry_scan.proofs.laws.each_page_back.Goals as goal

pub returns-clause-more : goal.returns-clause-more
returns-clause-more c = page_back_more

pub returns-clause-last : goal.returns-clause-last
returns-clause-last c = λ index range before limit some none. page_last before limit (left_before index range before) some none
