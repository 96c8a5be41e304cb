use Rattle.std.proofs.Common.{◌≡◌, ◌<◌, ◌≤◌, ◌+◌, ◌-◌, ◌*◌, Some, false, length, get_or, slice_get, refl, ap, ◌∙◌, arith}
use Rattle.std.proofs.lemmas.Option.{slice_get_read, slice_get-get_or}
use Rattle.std.specs.FinMap.{empty}
use Rattle.record_values.specs.declared.rid.TheConstants.{SLOTS_PER_PAGE}
use Rattle.heap_pages.proofs.Free.{free_place, none_before, none_further, none_further_full, none_in_run, flag_at}
use Rattle.heap_pages.proofs.heap.Heap.least_free_in.Goals as goal

pub returns-then-is_empty-clause-none : goal.returns-then-is_empty-clause-none
returns-then-is_empty-clause-none g c =
    let pages = c.self.inside.pages.items in
    let sets = c.self.inside.open_pages.items in
    let run = c.index-set.result.now in
    let within : c.args.run < length sets = omega (arith, ap (λ v. v.pages) c.self.view_is, c.self.invariant.1, c.requires.inside) in
    let here = slice_get_read sets (length sets) c.args.run run refl within c.index-set.ensures in
    none_in_run pages c.args.self.now c.args.held.now sets run c.args.run c.self.view_is c.self.invariant.2 here (c.is_empty.ensures.0 c.if-is_empty.true)
    c.requires.before

pub loop-page-preserved-then-not-has : goal.loop-page-preserved-then-not-has
loop-page-preserved-then-not-has g c =
    let pages = c.self.inside.pages.items in
    let sets = c.self.inside.open_pages.items in
    let run = c.index-set.result.now in
    let k = c.args.run in
    let n = c.loop-page.page in
    let within : n < length pages = omega (arith, ap (λ v. v.pages) c.self.view_is, c.pages.ensures.number, c.min-end.ensures, c.loop-page-test.true) in
    let page = slice_get-get_or pages n empty within in
    let within_sets : k < length sets = omega (arith, ap (λ v. v.pages) c.self.view_is, c.self.invariant.1, c.requires.inside) in
    let here = slice_get_read sets (length sets) k run refl within_sets c.index-set.ensures in
    let low : k * SLOTS_PER_PAGE ≤ n = omega (arith, c.loop-page.auto.page) in
    let high : n < (k + 1) * SLOTS_PER_PAGE =
    omega (arith, c.saturating_add.ensures, c.min-end.ensures, c.loop-page-test.true) in
    let told : slice_get run (n - k * SLOTS_PER_PAGE) ≡ Some false = c.has.ensures ∙ ap Some c.if-not-has.true in
    none_further_full pages c.args.self.now c.args.held.now n (get_or pages n empty) c.self.view_is page c.loop-page.invariant
    (c.self.invariant.2 n (get_or pages n empty) page (flag_at sets run k n false here low high told))

pub returns-in-Some-clause-free : goal.returns-in-Some-clause-free
returns-in-Some-clause-free g c =
    let pages = c.self.inside.pages.items in
    let n = c.loop-page.page in
    let within : n < length pages = omega (arith, ap (λ v. v.pages) c.self.view_is, c.pages.ensures.number, c.min-end.ensures, c.loop-page-test.true) in
    let slots = c.index-slots.result.now in
    let page = slice_get_read pages (length pages) n slots refl within c.index-slots.ensures in
    free_place pages c.args.self.now c.args.held.now n slots c.self.view_is page c.in-Some.slot c.held_slots.result c.held_slots.ensures
    c.in-Some.ensures.inside c.in-Some.ensures.free

pub returns-in-Some-clause-least : goal.returns-in-Some-clause-least
returns-in-Some-clause-least g c =
    let pages = c.self.inside.pages.items in
    let n = c.loop-page.page in
    let within : n < length pages = omega (arith, ap (λ v. v.pages) c.self.view_is, c.pages.ensures.number, c.min-end.ensures, c.loop-page-test.true) in
    let slots = c.index-slots.result.now in
    let page = slice_get_read pages (length pages) n slots refl within c.index-slots.ensures in
    none_before pages c.args.self.now c.args.held.now n slots c.self.view_is page c.in-Some.slot c.held_slots.result c.held_slots.ensures c.loop-page.invariant
    c.in-Some.ensures.first

pub loop-page-preserved : goal.loop-page-preserved
loop-page-preserved g c =
    let pages = c.self.inside.pages.items in
    let n = c.loop-page.page in
    let within : n < length pages = omega (arith, ap (λ v. v.pages) c.self.view_is, c.pages.ensures.number, c.min-end.ensures, c.loop-page-test.true) in
    let slots = c.index-slots.result.now in
    let page = slice_get_read pages (length pages) n slots refl within c.index-slots.ensures in
    none_further pages c.args.self.now c.args.held.now n slots c.self.view_is page c.held_slots.result c.held_slots.ensures c.loop-page.invariant
    c.in_default.ensures
