use Rattle.core_copies.proofs.Logged.{made_shown, store_kept}
use Rattle.core_copies.proofs.laws.made_cells.Goals as goal

pub returns-clause-shown : goal.returns-clause-shown
returns-clause-shown c = λ o can made pairs v s k served sound is. made_shown o made pairs v s k served is can sound

pub returns-clause-store : goal.returns-clause-store
returns-clause-store c = store_kept
