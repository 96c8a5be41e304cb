use Rattle.core_laws.proofs.Opening.{can_open, loaded, made}
use Rattle.core_laws.proofs.each_opening.Goals as goal

pub returns-clause-loaded : goal.returns-clause-loaded
returns-clause-loaded c = loaded

pub returns-clause-made : goal.returns-clause-made
returns-clause-made c = made

pub returns-clause-opens : goal.returns-clause-opens
returns-clause-opens c = can_open
