use Rattle.std.proofs.Common.{arith}
use Rattle.std.proofs.lemmas.Grind.{common_steps}
use Rattle.records.specs.Reading.{action_at}
use Rattle.records.proofs.decode.action_of.Goals as goal

pub returns-in-Some-txn_action_of-clause-read : goal.returns-in-Some-txn_action_of-clause-read
unfolding action_at
returns-in-Some-txn_action_of-clause-read c = grind (arith, common_steps)

pub returns-in_default-txn_action_of-clause-read : goal.returns-in_default-txn_action_of-clause-read
unfolding action_at
returns-in_default-txn_action_of-clause-read c = grind (arith, common_steps)
