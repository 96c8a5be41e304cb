use Rattle.std.proofs.Common.{ap, Ok}
use Rattle.test_tables.proofs.log_tests.add_groups.Goals as goal

pub append-requires-2-clause-stands : goal.append-requires-2-clause-stands
append-requires-2-clause-stands g c =
    (_, c.in_ok-append.ensures.done (ap Ok c.in-Done.is) _ c.in_ok-clear.ensures.cleared)

pub append-requires-3-clause-stands : goal.append-requires-3-clause-stands
append-requires-3-clause-stands g c =
    let first = c.in_ok-append.ensures.done (ap Ok c.in-Done.is) _ c.in_ok-clear.ensures.cleared in
    (_, c.in_ok-append-2.ensures.done (ap Ok c.in-Done-2.is) _ first)
