use Rattle.entry_scan.proofs.PagedBack.{back_cmp}
use Rattle.entry_scan.proofs.ReadBack.{reading_falls, reading_has, reading_shows, reading_whole}
use Rattle.entry_scan.proofs.Reversed.{sorted_reverse}
use Rattle.entry_scan.proofs.laws.each_reading_back.Goals as goal

pub returns-clause-descending : goal.returns-clause-descending
returns-clause-descending c = λ range before seen pairs reading. sorted_reverse back_cmp pairs (reading_falls range before seen pairs reading).1

pub returns-clause-shown : goal.returns-clause-shown
returns-clause-shown c = reading_shows

pub returns-clause-steady : goal.returns-clause-steady
returns-clause-steady c = reading_has

pub returns-clause-unchanged : goal.returns-clause-unchanged
returns-clause-unchanged c = reading_whole
