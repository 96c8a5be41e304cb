use Rattle.std.proofs.Common.{◌==◌, true, false, length, slice_get, slice_set, refl, sym, ap, ◌∙◌, arith, eq-eqb}
use Rattle.std.proofs.lemmas.Option.{slice_get_read, slice_get_within}
use Rattle.record_values.specs.Values.{Place}
use Rattle.record_values.specs.declared.rid.TheConstants.{SLOTS_PER_PAGE}
use Rattle.heap_pages.proofs.Held.{get-replicate, held_here, held_elsewhere}
use Rattle.heap_pages.proofs.page.held_slots.Goals as goal
use Rattle.heap_pages.proofs.page.held_slots.Goals.{then-rid-page, else-rid-page}

pub loop-rid-init : goal.loop-rid-init
loop-rid-init c = λ s h. ap (λ xs. slice_get xs s) c.none-slots.ensures ∙ get-replicate SLOTS_PER_PAGE s false h

pub loop-rid-preserved : goal.loop-rid-preserved
loop-rid-preserved c =
    let held = c.args.held.now in
    let i = c.loop-rid.rid-index in
    let r = c.rid-item.result in
    let here = slice_get_read held (length held) i r refl c.loop-rid-test.true c.rid-item.is in
    let page = ap (λ (q : Place). q.page) c.rid.view_is in
    let slot = ap (λ (q : Place). q.slot) c.rid.view_is in
    elim c.if-rid-page.branch [
      | then-rid-page w ↦
          λ s h. ap (λ xs. slice_get xs s) (w.slots-is ∙ w.put.ensures ∙ ap (λ k. slice_set c.loop-rid.slots k true) slot)
          ∙ held_here c.args.page c.loop-rid.slots held i r c.loop-rid.invariant here (ap (λ k. k == c.args.page) (sym page)
          ∙ eq-eqb _ _ w.if-rid-page.true) (slice_get_within c.loop-rid.slots r.slot _ (c.loop-rid.invariant r.slot (omega (arith, c.rid.invariant)))) s h
      | else-rid-page w ↦
          λ s h. ap (λ xs. slice_get xs s) w.slots-is
          ∙ held_elsewhere c.args.page c.loop-rid.slots held i r c.loop-rid.invariant here (λ e. w.if-rid-page.false (page ∙ e)) s h
    ]
