use Rattle.std.proofs.Common.{◌≡◌, ◌⊎◌, inl, inr, Err, Ok, refl, Result, ◌∙◌, ap}
use Rattle.std.specs.Prelude.{◌↔◌}
use Rattle.std.proofs.lemmas.Result.{err_from_is_err_and}
use Rattle.record_values.specs.declared.error.Error.{Error}
use Rattle.record_values.specs.declared.error.Error.TheVariants.{NoIndex, NoMemory, NotBuilt}
use Rattle.model.specs.Following.{IsBuilding}
use Rattle.model.specs.declared.life.Life.{Life}
use Rattle.model.specs.declared.life.Life.TheVariants.{Absent, Building, Complete}
use Rattle.nsf_core.specs.Value.{value_of}
use Rattle.program_rows.proofs.exporting.print_next.Goals as goal

-- an index that gives a page is complete
is_complete : {T : Type 0} (life : Life) (page : T) (r : Result T Error) → ((r ≡ Err NoIndex) ↔ (life ≡ Absent)) → ((r ≡ Err NotBuilt) ↔ IsBuilding life)
    → r ≡ Ok page → life ≡ Complete
is_complete Absent page r none building is = let no : r ≡ Err NoIndex = none.1 refl in absurd cc
is_complete (Building highest) page r none building is = let no : r ≡ Err NotBuilt = building.1 (highest, refl) in absurd cc
is_complete Complete page r none building is = refl

pub returns-clause-complete : goal.returns-clause-complete
returns-clause-complete g c =
    is_complete (value_of c.args.core.now).life c.in_ok-page.page c.scan.result c.scan.ensures.no_index c.scan.ensures.not_built c.in_ok-page.was

same_error : {T : Type 0} (e f : Error) → Path (Result T Error) (Err e) (Err f) → e ≡ f
same_error e f is = cc

-- why an index gives no page
no_page : {T : Type 0} (life : Life) (e : Error) → (Path (Result T Error) (Err e) (Err NoIndex) ↔ (life ≡ Absent))
    → (Path (Result T Error) (Err e) (Err NotBuilt) ↔ IsBuilding life) → (life ≡ Complete → e ≡ NoMemory)
    → ((e ≡ NoIndex) × (life ≡ Absent)) ⊎ (((e ≡ NotBuilt) × IsBuilding life) ⊎ ((e ≡ NoMemory) × (life ≡ Complete)))
no_page Absent e none building memory = inl (same_error e NoIndex (none.1 refl), refl)
no_page (Building highest) e none building memory = inr (inl (same_error e NotBuilt (building.1 (highest, refl)), (highest, refl)))
no_page Complete e none building memory = inr (inr (memory refl, refl))

pub returns-in_err-page : goal.returns-in_err-page
returns-in_err-page g c =
    let p = err_from_is_err_and c.from_residual.result c.from_residual.ensures.1 in
    let done = c.in_err-page.ensures in
    rw (p.1 ∙ ap Err p.2) (record {
      printed = tt;
      next = tt;
      complete = tt;
      refused = no_page (value_of c.args.core.now).life _ done.no_index done.not_built done.no_memory;
    })

pub returns-in_err-print_pairs_at_once : goal.returns-in_err-print_pairs_at_once
returns-in_err-print_pairs_at_once g c =
    let p = err_from_is_err_and c.from_residual-in_err-print_pairs_at_once.result c.from_residual-in_err-print_pairs_at_once.ensures.1 in
    rw (p.1 ∙ ap Err p.2) (record { printed = tt; next = tt; complete = tt; refused = c.in_err-print_pairs_at_once.ensures.refused })
