-- The first sector of a block that is damaged.
use Rattle.std.proofs.Common.{◌≡◌, ◌≢◌, ⊎_elim, ℕ, ◌+◌, ◌/◌, ◌<◌, ◌≤◌, Option, Some, None, sym, subst, arith}
use Rattle.std.proofs.lemmas.Bool.{cases_eq}
use Rattle.std.specs.Prelude.{◌↔◌, IfNone, IfSome}
use Rattle.block_device.specs.Blocks.{CrashFile}
use Rattle.block_table.specs.Table.{IsFirstUnfit, IsFit}
use Rattle.block_file.specs.declared.plan.Plan.{Plan}
use Rattle.block_file.specs.Damage.{FitsAsBefore, IsFirstDamaged, IsSectorFit}

module _ (p : Plan) (kept : CrashFile) (from n : ℕ) (unfit : IsFirstUnfit p.blocks kept ((from + p.lead) / 8) n) where
  fits_before : (m : ℕ) → from ≤ m → (m + p.lead) / 8 < n → IsSectorFit p kept m
  fits_before m behind below = unfit.before ((m + p.lead) / 8) (omega (arith, behind)) below

  -- the one that was found
  pub first_sector : (o : Option ℕ) → IfSome o (λ s. from ≤ s) → IfSome o (λ s. s < p.sectors) → IfSome o (λ s. (s + p.lead) / 8 ≡ n)
      → IfSome o (λ s. (m : ℕ) → m < s → from ≤ m → (m + p.lead) / 8 < n) → IfSome o (IsFirstDamaged p kept from)
  first_sector (Some s) behind low here before = record {
    behind = behind;
    low = low;
    unfit = subst (λ (b : ℕ). ¬ IsFit p.blocks kept b) (sym here) unfit.unfit;
    before = λ m from_on below. fits_before m from_on (before m below from_on);
  }
  first_sector None behind low here before = tt

  -- or none, where that block has none of the device
  pub no_sector : (o : Option ℕ) → IfNone o ((m : ℕ) → m < p.sectors → (m + p.lead) / 8 < n)
      → IfNone o ((m : ℕ) → from ≤ m → m < p.sectors → IsSectorFit p kept m)
  no_sector (Some s) none = tt
  no_sector None none = λ m behind low. fits_before m behind (none m low)

-- ---- which blocks fit

-- in the same table
pub fits_same : (p : Plan) (old new : CrashFile) → new ≡ old → FitsAsBefore p old new
fits_same p old new same n low = (
  λ fits. subst (λ (l : CrashFile). IsFit p.blocks l n) same fits,
  λ fits. subst (λ (l : CrashFile). IsFit p.blocks l n) (sym same) fits,
)

-- in one where a block was put that fits, as it did before
pub fits_put : (p : Plan) (old new : CrashFile) (at : ℕ) → IsFit p.blocks old at → IsFit p.blocks new at
    → ((m : ℕ) → m < p.blocks → m ≢ at → (IsFit p.blocks new m ↔ IsFit p.blocks old m)) → FitsAsBefore p old new
fits_put p old new at was now others n low = ⊎_elim here (λ apart. others n low apart) (cases_eq n at)
  where
    here : n ≡ at → (IsFit p.blocks new n ↔ IsFit p.blocks old n)
    here same = (
      λ _. subst (λ (b : ℕ). IsFit p.blocks old b) (sym same) was,
      λ _. subst (λ (b : ℕ). IsFit p.blocks new b) (sym same) now,
    )
