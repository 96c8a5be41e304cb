use Rattle.std.proofs.Common.{arith, refl, subst, ◌≡◌}
use Rattle.record_values.specs.declared.rid.TheConstants.{SLOTS_PER_PAGE}
use Rattle.nsf_core.specs.Value.{value_of}
use Rattle.model.specs.Extended.{table_of}
use Rattle.core_copies.proofs.Paged.{ArePutTo, one_put, page_put}
use Rattle.core_copies.proofs.parts.put_page.Goals as goal

pub loop-slot-preserved : goal.loop-slot-preserved
loop-slot-preserved g c =
    let all = (value_of c.args.core.now).heap.rows in
    one_put all c.args.page c.loop-slot.slot (table_of c.args.rows.now.items)
    (table_of c.loop-slot.rows.items) c.get.result c.get.ensures.row c.loop-slot.invariant (table_of c.put_row.new.rows.items) c.in_ok-put_row.ensures.put

pub returns-clause-put : goal.returns-clause-put
returns-clause-put g c =
    let v = value_of c.args.core.now in
    let all : c.loop-slot.slot ≡ SLOTS_PER_PAGE = omega (arith, c.loop-slot-test.false, c.loop-slot.auto.slot-end) in
    page_put v.heap c.requires.inside c.args.page (table_of c.args.rows.now.items) (table_of c.loop-slot.rows.items)
    (subst (λ n. ArePutTo v.heap.rows c.args.page n (table_of c.args.rows.now.items) (table_of c.loop-slot.rows.items)) all c.loop-slot.invariant)

pub put_row-requires : goal.put_row-requires
put_row-requires g c = c.loop-slot.invariant.rest (record { page = c.args.page; slot = c.loop-slot.slot }) refl (omega arith)
