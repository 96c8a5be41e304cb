use Rattle.std.proofs.Common.{slice_get, ◌∙◌}
use Rattle.nsf_core.specs.Value.{value_of}
use Rattle.core_committed.proofs.Reverted.{changes_found, none_found, some_found}
use Rattle.core_committed.proofs.rows.changes_at.Goals as goal

pub returns-in-Some-changes : goal.returns-in-Some-changes
returns-in-Some-changes g c =
    let txns = (value_of c.args.core.now).txns in
    some_found (slice_get txns.active c.args.index) _
    (c.in-Some-changes.ensures ∙ changes_found txns.begun txns.active c.args.index c.in-Some.txn c.stands.ensures.sound.rising c.in-Some.ensures)

pub returns-in-None : goal.returns-in-None
returns-in-None g c =
    let txns = (value_of c.args.core.now).txns in
    none_found (slice_get txns.active c.args.index)
    (c.in-None.ensures ∙ changes_found txns.begun txns.active c.args.index c.in-Some.txn c.stands.ensures.sound.rising c.in-Some.ensures)
