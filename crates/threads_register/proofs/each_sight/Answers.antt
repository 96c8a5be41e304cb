use Rattle.threads_register.proofs.Sights.{left_here, ready, rows_here, unfinished_here}
use Rattle.threads_register.proofs.each_sight.Goals as goal

pub returns-clause-ready : goal.returns-clause-ready
returns-clause-ready c = ready

pub returns-clause-unfinished : goal.returns-clause-unfinished
returns-clause-unfinished c = λ o can pushed core book r seat p there t a change found is.
    unfinished_here o can pushed core book r seat p there t a found change is

pub returns-clause-rows : goal.returns-clause-rows
returns-clause-rows c = λ o can pushed core book r seat p there t a rid row found is. rows_here o can pushed core book r seat p there t a found rid row is

pub returns-clause-left : goal.returns-clause-left
returns-clause-left c = left_here
