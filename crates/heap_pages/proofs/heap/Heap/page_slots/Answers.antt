use Rattle.std.proofs.Common.{◌≡◌, Option, Some, None, length, get_or, slice_get, refl, sym, ap, ◌∙◌}
use Rattle.std.specs.Prelude.{IfSome}
use Rattle.std.proofs.lemmas.Option.{slice_get_read, slice_get_past}
use Rattle.heap_pages.proofs.Writes.{row_of_page, no_row_there}
use Rattle.heap_pages.proofs.heap.Heap.page_slots.Goals as goal

if_some_then : {X : Type 0} (P Q : X → Type 0) (o : Option X) → ((x : X) → P x → Q x) → IfSome o P → IfSome o Q
if_some_then P Q None f p = tt
if_some_then P Q (Some x) f p = f x p

pub returns-in-Some-clause-slots : goal.returns-in-Some-clause-slots
returns-in-Some-clause-slots g c =
    let pages = c.self.inside.pages.items in
    let n = c.args.page in
    let slots = c.in-Some.found.now in
    let found = c.in-Some.ensures.lookup in
    let page = slice_get_read pages (length c.deref.result.now) n slots (ap length c.deref.ensures.value) found.3.0 (found.1
    ∙ ap (λ ps. get_or ps n slots) c.deref.ensures.value) in
    if_some_then _ _ c.slots.result (λ rows is slot low. is slot low
    ∙ ap Some (sym (row_of_page pages c.args.self.now n slot (record { page = n; slot = slot }) slots c.self.view_is refl page low))) c.slots.ensures.slots

pub returns-in-Some-clause-none : goal.returns-in-Some-clause-none
returns-in-Some-clause-none g c = λ none slot low.
    let pages = c.self.inside.pages.items in
    let n = c.args.page in
    let slots = c.in-Some.found.now in
    let found = c.in-Some.ensures.lookup in
    let page = slice_get_read pages (length c.deref.result.now) n slots (ap length c.deref.ensures.value) found.3.0 (found.1
    ∙ ap (λ ps. get_or ps n slots) c.deref.ensures.value) in
    row_of_page pages c.args.self.now n slot (record { page = n; slot = slot }) slots c.self.view_is refl page low ∙ c.slots.ensures.none none slot

pub returns-in-None-clause-none : goal.returns-in-None-clause-none
returns-in-None-clause-none g c = λ none slot low.
    let n = c.args.page in
    let past : slice_get c.self.inside.pages.items n ≡ None = ap (λ ps. slice_get ps n) (sym c.deref.ensures.value)
    ∙ slice_get_past c.deref.result.now n c.in-None.ensures.lookup.3 in
    no_row_there c.self.inside.pages.items c.args.self.now n slot (record { page = n; slot = slot }) c.self.view_is refl past
