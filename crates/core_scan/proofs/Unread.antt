-- How far the index is, and what a reading answers.
use Rattle.std.proofs.Common.{◌≡◌, Err, IfErr, Ok, Option, Result, refl, sym, ◌∙◌}
use Rattle.std.specs.Prelude.{◌↔◌}
use Rattle.record_values.specs.declared.error.Error.{Error}
use Rattle.record_values.specs.declared.pair.Pair.{Pair}
use Rattle.model.specs.Following.{IsBuilding}
use Rattle.model.specs.declared.life.Life.{Life}
use Rattle.model.specs.declared.life.Life.TheVariants.{Absent, Building, Complete}

absent_built : (highest : Option Pair) → Absent ≡ Building highest → ⊥
absent_built highest e = absurd cc

complete_absent : Complete ≡ Absent → ⊥
complete_absent e = absurd cc

complete_building : (highest : Option Pair) → Complete ≡ Building highest → ⊥
complete_building highest e = absurd cc

module _ (life : Life) where
  pub absent_incomplete : Absent ≡ life → life ≡ Complete → ⊥
  absent_incomplete is other = complete_absent (sym (is ∙ other))

  pub building_incomplete : (highest : Option Pair) → Building highest ≡ life → life ≡ Complete → ⊥
  building_incomplete highest is other = complete_building highest (sym (is ∙ other))

no_index_not_built : {X : Type 0} → (◌≡◌ {A = Result X Error} (Err Error.NoIndex) (Err Error.NotBuilt)) → ⊥
no_index_not_built e = absurd cc

-- a result whose one error is want of memory is no other refusal
pub not_no_index : {X : Type 0} (r : Result X Error) → IfErr r (λ e. e ≡ Error.NoMemory) → r ≡ Err Error.NoIndex → ⊥
not_no_index (Ok x) why e = absurd cc
not_no_index (Err error) why e = let apart : ◌≡◌ {A = Result _ Error} (Err Error.NoMemory) (Err Error.NoIndex) = (λ i. Err (sym why i)) ∙ e in absurd cc

pub not_not_built : {X : Type 0} (r : Result X Error) → IfErr r (λ e. e ≡ Error.NoMemory) → r ≡ Err Error.NotBuilt → ⊥
not_not_built (Ok x) why e = absurd cc
not_not_built (Err error) why e = let apart : ◌≡◌ {A = Result _ Error} (Err Error.NoMemory) (Err Error.NotBuilt) = (λ i. Err (sym why i)) ∙ e in absurd cc

module _ {X : Type 0} (life : Life) where
  -- ---- without an index
  pub absent_no_index : Absent ≡ life → (◌≡◌ {A = Result X Error} (Err Error.NoIndex) (Err Error.NoIndex)) ↔ (life ≡ Absent)
  absent_no_index is = (λ e. sym is, λ e. refl)

  pub absent_not_built : Absent ≡ life → (◌≡◌ {A = Result X Error} (Err Error.NoIndex) (Err Error.NotBuilt)) ↔ IsBuilding life
  absent_not_built is = (λ e. absurd (no_index_not_built e), λ b. absurd (absent_built b.0 (is ∙ b.1)))

  -- ---- while it is built
  pub building_no_index : (highest : Option Pair) → Building highest ≡ life
      → (◌≡◌ {A = Result X Error} (Err Error.NotBuilt) (Err Error.NoIndex)) ↔ (life ≡ Absent)
  building_no_index highest is = (λ e. absurd (no_index_not_built (sym e)), λ other. absurd (absent_built highest (sym (is ∙ other))))

  pub building_not_built : (highest : Option Pair) → Building highest ≡ life
      → (◌≡◌ {A = Result X Error} (Err Error.NotBuilt) (Err Error.NotBuilt)) ↔ IsBuilding life
  building_not_built highest is = (λ e. (highest, sym is), λ e. refl)

  -- ---- once it is complete
  pub complete_no_index : Complete ≡ life → (r : Result X Error) → IfErr r (λ e. e ≡ Error.NoMemory) → (r ≡ Err Error.NoIndex) ↔ (life ≡ Absent)
  complete_no_index is r why = (λ e. absurd (not_no_index r why e), λ other. absurd (complete_absent (is ∙ other)))

  pub complete_not_built : Complete ≡ life → (r : Result X Error) → IfErr r (λ e. e ≡ Error.NoMemory) → (r ≡ Err Error.NotBuilt) ↔ IsBuilding life
  complete_not_built is r why = (λ e. absurd (not_not_built r why e), λ b. absurd (complete_building b.0 (is ∙ b.1)))
