use Rattle.entry_scan.proofs.ReadOver.{reading_has, reading_rises, reading_shows, reading_whole}
use Rattle.entry_scan.proofs.laws.each_reading.Goals as goal

pub returns-clause-ascending : goal.returns-clause-ascending
returns-clause-ascending c = λ range after seen pairs reading. (reading_rises range after seen pairs reading).1

pub returns-clause-shown : goal.returns-clause-shown
returns-clause-shown c = reading_shows

pub returns-clause-steady : goal.returns-clause-steady
returns-clause-steady c = reading_has

pub returns-clause-unchanged : goal.returns-clause-unchanged
returns-clause-unchanged c = reading_whole
