use Rattle.std.proofs.Common.{◌≡◌, None, length, get_or, slice_get, sym, ap, subst, ◌∙◌}
use Rattle.std.specs.Prelude.{IsSome}
use Rattle.std.proofs.lemmas.Option.{slice_get_read, slice_get_past}
use Rattle.heap_pages.proofs.Writes.{row_of_page, no_row_there, rows_inside}
use Rattle.heap_pages.proofs.heap.Heap.get.Goals as goal

pub returns-in-Some-clause-row : goal.returns-in-Some-clause-row
returns-in-Some-clause-row g c =
    let pages = c.self.inside.pages.items in
    let n = c.rid.inside.page in
    let slots = c.in-Some.page.now in
    let found = c.in-Some.ensures.lookup in
    let page = slice_get_read pages (length c.deref.result.now) n slots (ap length c.deref.ensures.value) found.3.0 (found.1
    ∙ ap (λ ps. get_or ps n slots) c.deref.ensures.value) in
    c.get-in-Some.ensures ∙ sym (row_of_page pages c.args.self.now n c.rid.inside.slot c.args.rid slots c.self.view_is c.rid.view_is page c.rid.invariant)

pub returns-in-None-clause-row : goal.returns-in-None-clause-row
returns-in-None-clause-row g c =
    let n = c.rid.inside.page in
    let past : slice_get c.self.inside.pages.items n ≡ None = ap (λ ps. slice_get ps n) (sym c.deref.ensures.value)
    ∙ slice_get_past c.deref.result.now n c.in-None.ensures.lookup.3 in
    sym (no_row_there c.self.inside.pages.items c.args.self.now n c.rid.inside.slot c.args.rid c.self.view_is c.rid.view_is past)

pub returns-in-Some-clause-inside : goal.returns-in-Some-clause-inside
returns-in-Some-clause-inside g c = λ some.
    rows_inside c.self.inside.pages.items c.args.self.now c.args.rid c.self.view_is (subst (λ row. IsSome row) (returns-in-Some-clause-row g c) some)
