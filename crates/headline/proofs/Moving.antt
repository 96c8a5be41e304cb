-- Why a store that was to be moved doesn't live on.
use Rattle.std.proofs.Common.{◌≡◌, ◌≢◌, ⊎_elim, inl, inr, ℕ, List, [], sym, subst}
use Rattle.record_values.specs.GeometryValue.{GeometryValue}
use Rattle.record_values.specs.declared.error.Error.{Error}
use Rattle.record_values.specs.declared.error.Error.TheVariants as errors
use Rattle.record_values.specs.declared.version.Version.TheVariants.{One}
use Rattle.model.specs.Given.{Given}
use Rattle.core_model.specs.Histories.{CanOpen}
use Rattle.sector_device.specs.Disk.{CrashState}
use Rattle.sector_device.specs.DevicePast.{DevicePast}
use Rattle.store_reader.specs.Contents.{GivesIn}
use Rattle.restart.specs.declared.migration.MigrateError.{MigrateError}
use Rattle.restart.specs.declared.migration.MigrateError.TheVariants.{New, NoMemory, Old}
use Rattle.restart.specs.Migrating.{IsNotMigrated}
use Rattle.restart.specs.Store.{over}
use Rattle.headline.specs.declared.day.Day.{Day}
use Rattle.headline.specs.Days.{Answer, IsUnopened}
use Rattle.headline.specs.Held.{IsNotReopened}
use Rattle.headline.specs.Moved.{IsToldLater, IsNotLived}
use Rattle.headline.specs.AtRest.{resting}
use Rattle.headline.proofs.Holding.{at_once}

-- no other refusal is of a want of memory
fails : (e : Error) (before now : ℕ) → IsUnopened e before now → e ≢ errors.NoMemory → e ≡ errors.DeviceFailed
fails e before now (inl memory) other = absurd (other memory.0)
fails e before now (inr failed) other = failed.0

module _ {D M : Type 0} (past_of : D → DevicePast) (failures : D → ℕ) (old : CrashState) (old_before old_after : ℕ) (before : D) (days : List (Day M))
    (answers : List (Answer M)) where
  abbrev IsTold : MigrateError → D → Type 0
  IsTold e after = IsNotLived failures old (past_of before).disk.content old_before old_after before days answers e after

  -- no day was lived through
  module _ (none : answers ≡ []) where
    not_moved : (e : MigrateError) (after : D) → IsNotMigrated old old_before old_after past_of failures before after e → IsTold e after
    not_moved (Old e) after why = (why.0, none, why.1)
    not_moved (New e) after why =
        record {
          geometry = why.geometry;
          given = why.given;
          gave = why.gave;
          why = ⊎_elim (λ small. inl (small.0, small.1, none, small.2)) (λ failed. inr (λ can. (
            failed.0,
            at_once failures why.geometry (resting why.given (failures before)) days answers e (failures after) none (inr (failed.0, failed.2)),
          ))) why.why;
        }
    not_moved NoMemory after why = inl (none, why)

    pub told_at_once : (e told : MigrateError) (after found : D) → told ≡ e → found ≡ after
        → IsNotMigrated old old_before old_after past_of failures before after e → IsTold told found
    told_at_once e told after found same is why =
        subst (λ (x : MigrateError). IsTold x found) (sym same) (subst (IsTold e) (sym is) (not_moved e after why))

  pub not_opened : (g : GeometryValue) (given : Given) → GivesIn One old g given → (e : Error) (refusal : MigrateError) (after : D) → IsToldLater e refusal
      → (CanOpen (over g given) → IsNotReopened failures g (resting given (failures before)) days answers e (failures after)) → IsTold refusal after
  not_opened g given gave e refusal after told why = ⊎_elim
      (λ none. subst (λ (r : MigrateError). IsTold r after) (sym none.1) (inr (
        g,
        given,
        gave,
        λ can.
            subst (λ (x : Error). IsNotReopened failures g (resting given (failures before)) days answers x (failures after)) none.0 (why can),
      )))
      (λ other. subst (λ (r : MigrateError). IsTold r after) (sym other.1) (record {
        geometry = g;
        given = given;
        gave = gave;
        why = inr (λ can.
            let is = why can in
            (fails e is.store.failed (failures after) is.why other.0, is));
      }))
      told
