use Rattle.std.proofs.Common.{◌≡◌, ⊎_elim, List, Option, None, Some, sym, ap, ◌∙◌, arith, rules}
use Rattle.std.proofs.lemmas.Bool.{cases_eq}
use Rattle.std.proofs.lemmas.Grind.{get_or-set_at}
use Rattle.std.proofs.lemmas.List.{get_or-set_other, length-set}
use Rattle.std.proofs.lemmas.Option.{slice_get-get_or}
use Rattle.std.specs.Prelude.{slice_get}
use Rattle.record_values.specs.Maps.{pair_exact}
use Rattle.record_values.specs.declared.pair.Pair.{Pair}
use Rattle.record_values.specs.declared.pair.Mark.{Mark}
use Rattle.model.specs.Above.{entries_above}
use Rattle.store_image_half.proofs.Maps.{first_left, passed_above}
use Rattle.store_image_half.proofs.source.CellMapsCellSource.entries_behind.Goals as goal

pub loop-place-init : goal.loop-place-init
loop-place-init g c = record { count = search rules; found = λ i less. absurd (omega (arith, less)); rest = c.all_above-rest.ensures }

pub loop-place-preserved : goal.loop-place-preserved
loop-place-preserved g c =
    let all : List (Pair × Mark) = entries_above c.args.self.now.entries c.args.pair in
    let found : List (Option (Pair × Mark)) = c.loop-place.found in
    let place = c.loop-place.place in
    let new : Option (Pair × Mark) = c.copied.result in
    let step = first_left all c.loop-place.rest c.next.new.self place c.next.result c.loop-place.invariant.rest c.next.ensures.steps in
    record {
      count = length-set found place new ∙ c.loop-place.invariant.count;
      found = λ i less. ⊎_elim
          (λ (same : i ≡ place). get_or-set_at found place i new None same (omega (arith, c.loop-place-test.true, c.loop-place.invariant.count))
          ∙ c.copied.ensures ∙ step.0 ∙ ap (slice_get all) (sym same))
          (λ other. get_or-set_other found place i new None other ∙ c.loop-place.invariant.found i (omega (arith, less, other)))
          (cases_eq i place);
      rest = step.1;
    }

pub returns : goal.returns
returns g c = λ n j passed below.
    slice_get-get_or c.loop-place.found j None (omega (arith, below, c.loop-place.invariant.count))
    ∙ ap Some (c.loop-place.invariant.found j (omega (arith, below, c.loop-place-test.false))
    ∙ passed_above pair_exact.total c.args.self.now.entries c.args.pair n j passed)
