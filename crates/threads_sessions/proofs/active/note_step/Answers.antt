use Rattle.nsf_core.specs.Value.{value_of}
use Rattle.threads_sessions.specs.Steps.{step_seen}
use Rattle.threads_sessions.proofs.Lists.{one_changed}
use Rattle.threads_sessions.proofs.active.note_step.Goals as goal

pub returns : goal.returns
returns g c =
    let one = c.index_mut-one.result.now in
    one_changed c.args.active.now.items c.args.i one c.index_mut-one.ensures.value (step_seen (value_of c.args.core.now)) _
    (λ j. record { txn = one.txn; rows = c.read_again.ensures j; unfinished = c.still_unfinished-one.ensures j; rolling = one.rolling })
