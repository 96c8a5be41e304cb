-- What is moved to another device, and why nothing is.
use Rattle.std.proofs.Common.{◌≡◌, ◌⊎◌, ℕ, ◌<◌, length, Result, Ok, Err, OnOk, IfOk, IfErr, inl, inr, refl, sym, ap, subst, ◌∙◌, ⊎_elim, arith}
use Rattle.sector_device.specs.Disk.{CrashState}
use Rattle.sector_device.specs.DevicePast.{DevicePast}
use Rattle.record_values.specs.GeometryValue.{GeometryValue, sectors_of}
use Rattle.record_values.specs.declared.version.Version.{Version}
use Rattle.record_values.specs.declared.version.Version.TheVariants.{One}
use Rattle.record_values.specs.declared.error.Error.{Error}
use Rattle.record_values.specs.declared.error.Error.TheVariants.{DeviceFailed, NoMemory}
use Rattle.model.specs.Given.{Given}
use Rattle.gate_log.specs.Area.{Log, Refuses}
use Rattle.store_image_half.specs.Image.{header_of}
use Rattle.flip_image.specs.declared.half.Half.{Half}
use Rattle.flip_image.specs.declared.half.Half.TheVariants.{A, B}
use Rattle.flip_image.specs.Layout.{HalvesValue}
use Rattle.flip_image.specs.Store.{IsFormatSector}
use Rattle.store_opener.specs.Reopening.{IsSpare}
use Rattle.store_reader.specs.Contents.{GivesIn, HasHeaderIn, IsUnreadableIn}
use Rattle.core_parts.specs.View.{CoreValue}
use Rattle.restart.specs.declared.migration.MigrateError.{MigrateError}
use Rattle.restart.specs.declared.migration.MigrateError.TheVariants as refusals
use Rattle.restart.specs.Migrating.{IsOldRefused, IsNotMigrated, IsNotFilled, IsMigratedCore, IsFilled, IsSmallAnswer, IsToldOfOld, IsTooSmall}

-- what the old device gives fills the new one
pub moved : (old : CrashState) (geometry : GeometryValue) (given : Given) (after : DevicePast) (halves : HalvesValue) (log : Log) (core : CoreValue)
    → GivesIn One old geometry given → IsFilled geometry given after halves log core → IsMigratedCore old after halves log core
moved old geometry given after halves log core gave filled = record {
  moved = filled.filled;
  gave = subst (λ (g : GeometryValue). GivesIn One old g filled.filled.given) (sym filled.geometry-is)
      (subst (GivesIn One old geometry) (sym filled.given-is) gave);
}

-- the new device isn't filled with it
module _ {E : Type 0} (old : CrashState) (old_before old_after : ℕ) (past_of : E → DevicePast) (failures : E → ℕ) (before after : E)
    (geometry : GeometryValue) (given : Given) (gave : GivesIn One old geometry given) where
  pub not_filled : (e : MigrateError) → IsNotFilled geometry past_of failures before after e
      → IsNotMigrated old old_before old_after past_of failures before after e
  not_filled (refusals.Old e) why = absurd why
  not_filled (refusals.New e) why = record { geometry = geometry; given = given; gave = gave; why = why }
  not_filled refusals.NoMemory why = why.1

  -- where it has too few sectors, that is told
  pub told_small : (IsTooSmall old (past_of before).disk.content → length (past_of before).disk.content < sectors_of geometry) → (e : MigrateError)
      → IsNotFilled geometry past_of failures before after e
      → IsTooSmall old (past_of before).disk.content → IsSmallAnswer e
  told_small few (refusals.Old e) why small = absurd why
  told_small few (refusals.New e) why small = ⊎_elim (λ is. inl (ap refusals.New is.0)) (λ failed. absurd (omega (arith, failed.1, few small))) why
  told_small few refusals.NoMemory why small = absurd (omega (arith, why.0, few small))

-- the old device is refused, and memory wasn't wanting
pub old_refused : (old : CrashState) (before after : ℕ) (e : Error) → ¬ (e ≡ NoMemory) → Refuses before after e ⊎ IsUnreadableIn One old e
    → IsOldRefused old before after e
old_refused old before after e other refused = ⊎_elim (λ why. ⊎_elim (λ none. absurd (other none)) (λ failed. inl failed) why) (λ unreadable.
    inr unreadable) refused

-- so it is not moved
pub old_not_moved : {E : Type 0} (old : CrashState) (old_before old_after : ℕ) (past_of : E → DevicePast) (failures : E
    → ℕ) (new : E) (e : Error) (refusal : MigrateError) → IsToldOfOld e refusal → Refuses old_before old_after e ⊎ IsUnreadableIn One old e
    → IsNotMigrated old old_before old_after past_of failures new new refusal
old_not_moved old old_before old_after past_of failures new e refusal told refused = ⊎_elim
    (λ none. subst (IsNotMigrated old old_before old_after past_of failures new new) (sym none.1) refl)
    (λ other. subst (IsNotMigrated old old_before old_after past_of failures new new) (sym other.1) (
      old_refused old old_before old_after e other.0 refused,
      refl,
    ))
    told

-- what gives something has a header
pub has_header : (v : Version) (old : CrashState) (geometry : GeometryValue) (given : Given) → GivesIn v old geometry given → HasHeaderIn v old
has_header v old geometry given gave = (geometry, gave.half, gave.holds.store, (header_of gave.base gave.cells, gave.holds.imaged.header-is))

-- want of memory is told of want of memory alone
pub wanted : (e : Error) (refusal : MigrateError) → IsToldOfOld e refusal → refusal ≡ refusals.NoMemory → e ≡ NoMemory
wanted e refusal told none = ⊎_elim (λ is. is.0) (λ other. absurd (let bad = sym none ∙ other.1 in cc)) told

-- and a failure as one
pub not_failed : (e : Error) (refusal : MigrateError) → IsToldOfOld e refusal → ¬ (refusal ≡ refusals.Old DeviceFailed) → ¬ (e ≡ DeviceFailed)
not_failed e refusal told other failed = ⊎_elim (λ none. absurd (let bad = sym none.0 ∙ failed in cc)) (λ is. other (is.1 ∙ ap refusals.Old failed)) told

-- ---- sectors of a store

pub format_inside : (g : GeometryValue) (n : ℕ) → IsFormatSector g n → n < sectors_of g
format_inside g n sector = ⊎_elim (λ front. omega (arith, front)) (λ more.
    ⊎_elim (λ page. omega (arith, page.1)) (λ gate. omega (arith, gate.1, gate.2)) more) sector

pub spare_inside : (g : GeometryValue) (half : Half) (n : ℕ) → IsSpare g half n → n < sectors_of g
spare_inside g A n spare = ⊎_elim (λ inside. omega (arith, inside.1)) (λ flip. omega (arith, flip)) spare
spare_inside g B n spare = ⊎_elim (λ inside. omega (arith, inside.1)) (λ flip. omega (arith, flip)) spare

-- ---- results

-- what an answer says says less
pub if_ok_weaker : {T E : Type 0} (P Q : T → Type 0) (r : Result T E) → ((x : T) → P x → Q x) → IfOk r P → IfOk r Q
if_ok_weaker P Q (Ok x) less is = less x is
if_ok_weaker P Q (Err e) less is = tt

pub if_err_weaker : {T E : Type 0} (P Q : E → Type 0) (r : Result T E) → ((e : E) → P e → Q e) → IfErr r P → IfErr r Q
if_err_weaker P Q (Ok x) less is = tt
if_err_weaker P Q (Err e) less is = less e is

pub on_ok_weaker : {T E : Type 0} (P Q : Type 0) (r : Result T E) → (P → Q) → OnOk r P → OnOk r Q
on_ok_weaker P Q (Ok x) less is = less is
on_ok_weaker P Q (Err e) less is = tt

pub on_ok_always : {T E : Type 0} (P : Type 0) (r : Result T E) → P → OnOk r P
on_ok_always P (Ok x) is = is
on_ok_always P (Err e) is = tt
