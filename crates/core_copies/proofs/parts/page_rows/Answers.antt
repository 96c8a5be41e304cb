use Rattle.nsf_core.specs.Value.{value_of}
use Rattle.core_copies.proofs.Paged.{none_filled, page_filled}
use Rattle.core_copies.proofs.parts.page_rows.Goals as goal

pub returns-in_ok-new-in-Some-clause-rows : goal.returns-in_ok-new-in-Some-clause-rows
returns-in_ok-new-in-Some-clause-rows g c =
    page_filled (value_of c.args.core.now) c.stands.ensures.rows_inside c.args.page c.in-Some.slots.now c.in_ok-new-in-Some.field-0 c.in-Some.ensures.slots
    c.in_ok-new-in-Some.ensures.there c.in_ok-new-in-Some.ensures.elsewhere c.in_ok-new-in-Some.ensures.slots

pub returns-in-None-clause-rows : goal.returns-in-None-clause-rows
returns-in-None-clause-rows g c = none_filled (value_of c.args.core.now) c.stands.ensures.rows_inside c.args.page c.empty.result c.empty.ensures
    (c.page_slots.ensures.none c.in-None.is)
