use Rattle.model.proofs.GivenLaws.{given_again, begins_itself, goes_further, lower_floor}
use Rattle.model.proofs.laws.beginnings.Goals as goal

pub returns-clause-again : goal.returns-clause-again
returns-clause-again c = given_again

pub returns-clause-itself : goal.returns-clause-itself
returns-clause-itself c = begins_itself

pub returns-clause-further : goal.returns-clause-further
returns-clause-further c = goes_further

pub returns-clause-lower : goal.returns-clause-lower
returns-clause-lower c = lower_floor
