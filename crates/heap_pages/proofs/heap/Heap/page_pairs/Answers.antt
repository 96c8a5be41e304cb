use Rattle.std.proofs.Common.{◌≡◌, ◌<◌, ◌++◌, ◌∷◌, [], List, Some, Contains, length, map, slice_get, refl, sym, ap, subst, ◌∙◌, arith}
use Rattle.std.specs.List.{All}
use Rattle.std.specs.List.Sorted.{IsStrictlyIncreasing}
use Rattle.std.proofs.lemmas.Option.{slice_get_read}
use Rattle.record_values.specs.declared.pair.Pair.{Pair}
use Rattle.heap_pages.specs.Slots.{slots_of}
use Rattle.heap_pages.specs.Pages.{row_pair}
use Rattle.heap_pages.proofs.SlotLists.{get-slots_of, length-slots_of, page_slots}
use Rattle.heap_pages.proofs.Cells.{at}
use Rattle.heap_pages.proofs.Writes.{by_slots}
use Rattle.heap_pages.proofs.Pairs.{all_pairs, pairs_whole, pairs_skip, pairs_push}
use Rattle.heap_pages.proofs.PairLaws.{pair_on_page, pair_in_slots, slots_rise, own_pairs, few_pairs}
use Rattle.heap_pages.proofs.heap.Heap.page_pairs.Goals as goal
use Rattle.heap_pages.proofs.heap.Heap.page_pairs.Goals.{in-Some+in_ok-push, in_default}

pub returns-clause-pairs : goal.returns-clause-pairs
returns-clause-pairs g c =
    let pages = c.self.inside.pages.items in
    let h = c.args.self.now in
    let n = c.args.page in
    let slots = slots_of c.index-slots.result.now in
    let within : n < length pages = omega (arith, ap (λ v. v.pages) c.self.view_is) in
    let page = page_slots pages n c.index-slots.result.now (slice_get_read pages (length pages) n c.index-slots.result.now refl within c.index-slots.ensures) in
    let all = all_pairs n c.loop-slot.slot slots c.loop-slot.pairs.items (omega (arith, length-slots_of c.index-slots.result.now)) c.loop-slot.invariant in
    all ∙ pairs_whole (map slots_of pages) h n slots (by_slots pages h c.self.view_is) page

pub returns-clause-each : goal.returns-clause-each
returns-clause-each g c = λ p.
    let pages = c.self.inside.pages.items in
    let h = c.args.self.now in
    let n = c.args.page in
    let slots = slots_of c.index-slots.result.now in
    let within : n < length pages = omega (arith, ap (λ v. v.pages) c.self.view_is) in
    let page = page_slots pages n c.index-slots.result.now (slice_get_read pages (length pages) n c.index-slots.result.now refl within c.index-slots.ensures) in
    let all = all_pairs n c.loop-slot.slot slots c.loop-slot.pairs.items (omega (arith, length-slots_of c.index-slots.result.now)) c.loop-slot.invariant in (
      λ found. pair_on_page (map slots_of pages) h n slots p (by_slots pages h c.self.view_is) page (subst (λ (xs : List Pair). Contains xs p) all found),
      λ own. subst (λ (xs : List Pair). Contains xs p) (sym all) (pair_in_slots (map slots_of pages) h n slots p (by_slots pages h c.self.view_is) page own),
    )

pub returns-clause-in_slot_order : goal.returns-clause-in_slot_order
returns-clause-in_slot_order g c =
    let pages = c.self.inside.pages.items in
    let h = c.args.self.now in
    let n = c.args.page in
    let slots = slots_of c.index-slots.result.now in
    let within : n < length pages = omega (arith, ap (λ v. v.pages) c.self.view_is) in
    let page = page_slots pages n c.index-slots.result.now (slice_get_read pages (length pages) n c.index-slots.result.now refl within c.index-slots.ensures) in
    let all = all_pairs n c.loop-slot.slot slots c.loop-slot.pairs.items (omega (arith, length-slots_of c.index-slots.result.now)) c.loop-slot.invariant in
    subst (λ (xs : List Pair). IsStrictlyIncreasing (map (λ (p : Pair). p.rid.slot) xs)) (sym all) (slots_rise n slots)

pub returns-clause-own : goal.returns-clause-own
returns-clause-own g c =
    let n = c.args.page in
    let slots = slots_of c.index-slots.result.now in
    let all = all_pairs n c.loop-slot.slot slots c.loop-slot.pairs.items (omega (arith, length-slots_of c.index-slots.result.now)) c.loop-slot.invariant in
    subst (All (λ (p : Pair). p.rid.page ≡ n)) (sym all) (own_pairs n slots)

pub returns-clause-few : goal.returns-clause-few
returns-clause-few g c =
    let n = c.args.page in
    let slots = slots_of c.index-slots.result.now in
    let all = all_pairs n c.loop-slot.slot slots c.loop-slot.pairs.items (omega (arith, length-slots_of c.index-slots.result.now)) c.loop-slot.invariant in
    let few = few_pairs n slots in
    omega (arith, few, ap length all, length-slots_of c.index-slots.result.now)

pub loop-slot-preserved : goal.loop-slot-preserved
loop-slot-preserved g c =
    let n = c.args.page in
    let i = c.loop-slot.slot in
    let slots = slots_of c.index-slots.result.now in
    let here = get-slots_of c.index-slots.result.now i (omega arith) in
    elim c.match-get.branch [
      | in-Some+in_ok-push w ↦
          let row : slice_get slots i ≡ Some (Some w.in-Some.row) = here ∙ ap Some (sym w.in-Some.ensures) in
          ap (λ v. v.items) w.pairs-is
          ∙ w.in_ok-push.ensures.items
          ∙ ap (λ ps. ps ++ row_pair (at n i, w.in-Some.row) ∷ []) c.loop-slot.invariant
          ∙ sym (pairs_push n i slots w.in-Some.row row)
      | in_default w ↦ ap (λ v. v.items) w.pairs-is ∙ c.loop-slot.invariant ∙ sym (pairs_skip n i slots (here ∙ ap Some (sym w.in_default.ensures)))
    ]
