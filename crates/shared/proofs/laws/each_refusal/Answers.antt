use Rattle.shared.proofs.Again.{aborted_then, changed_then, nothing_changed, nothing_changed_to}
use Rattle.shared.proofs.Undone.{more_undone}
use Rattle.shared.proofs.laws.each_refusal.Goals as goal

pub returns-clause-core : goal.returns-clause-core
returns-clause-core c = nothing_changed c.refused_calls.ensures

pub returns-clause-seat : goal.returns-clause-seat
returns-clause-seat c = nothing_changed_to c.refused_calls.ensures

pub returns-clause-changed : goal.returns-clause-changed
returns-clause-changed c = changed_then

pub returns-clause-undone : goal.returns-clause-undone
returns-clause-undone c = more_undone

pub returns-clause-aborted : goal.returns-clause-aborted
returns-clause-aborted c = aborted_then
