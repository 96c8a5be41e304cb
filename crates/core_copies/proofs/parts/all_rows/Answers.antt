use Rattle.std.proofs.Common.{ap, arith, subst, sym, ◌∙◌, ◌≡◌}
use Rattle.model.specs.Extended.{extended, table_of}
use Rattle.model.specs.Table.{Table}
use Rattle.nsf_core.specs.Value.{value_of}
use Rattle.core_copies.proofs.Paged.{AreRowsTo, all_pages, no_rows, page_more}
use Rattle.core_copies.proofs.parts.all_rows.Goals as goal

pub loop-page-init : goal.loop-page-init
loop-page-init g c =
    let all = (value_of c.args.core.now).heap.rows in
    subst (λ (t : Table). AreRowsTo all 0 t) (sym (ap table_of c.new-listed.ensures.items)) (no_rows all)

pub put_page-requires-clause-none : goal.put_page-requires-clause-none
put_page-requires-clause-none g c = λ q same. c.loop-page.invariant.rest q (omega (arith, same))

pub loop-page-preserved : goal.loop-page-preserved
loop-page-preserved g c =
    let all = (value_of c.args.core.now).heap.rows in
    page_more all c.loop-page.page (table_of c.loop-page.listed.items) (table_of c.put_page.new.rows.items) c.loop-page.invariant c.in_ok-put_page.ensures.put

pub returns-clause-rows : goal.returns-clause-rows
returns-clause-rows g c =
    let v = value_of c.args.core.now in
    let all : c.loop-page.page ≡ v.heap.pages = omega (arith, c.loop-page-test.false, c.loop-page.auto.page-end, c.pages-page-end.ensures.number) in
    let listed = all_pages v.heap c.pages-page-end.ensures.rows_inside (table_of c.loop-page.listed.items)
    (subst (λ n. AreRowsTo v.heap.rows n (table_of c.loop-page.listed.items)) all c.loop-page.invariant) in
    c.in_ok-extend.ensures ∙ (λ i. extended (c.new-rows.ensures i) (c.deref.ensures.value i)) ∙ listed
