-- What was opened is put under the handle, or its refusal told.
use Rattle.std.proofs.Common.{◌≡◌, ℕ, ◌≤◌, Option, Some, None, Result, Ok, Err, IfOk, IfErr, arith, inl, inr, refl, subst, sym}
use Rattle.std.specs.Global.{Box}
use Rattle.record_values.specs.declared.error.Error.{Error}
use Rattle.record_values.specs.declared.error.Error.TheVariants.{NoMemory, DeviceFailed, NotFormatted, Damaged, DeviceTooSmall, BadGeometry, TooManyTxns}
use Rattle.record_values.specs.declared.error.Error.TheVariants.{TooManyChanges, NoSuchTxn, NoSuchRow, RowBusy, HeapFull, IndexFull, KeyTooLong, BodyTooLong}
use Rattle.record_values.specs.declared.error.Error.TheVariants.{TxnsActive, IndexExists, NoIndex, NotBuilt, Stopped, Exhausted, BadScript, OldVersion}
use Rattle.record_values.specs.Refusals.{number_of}
use Rattle.record_values.specs.GeometryValue.{GeometryValue, IsGeometry}
use Rattle.sector_device.specs.Disk.{CrashState}
use Rattle.nsf_c.specs.Calls.{Is, IsDisk, IsMade, IsNotMade, IsNotOpened}
use Rattle.nsf_c.specs.Handles.{Disk, Opened}
use Rattle.nsf_c.specs.Unopened.{error_of, IsUnmade, IsUnopened, IsUnopenedOn}
use Rattle.nsf_c.specs.declared.unopened.Unopened.{Unopened}
use Rattle.nsf_c.specs.declared.unopened.Unopened.TheVariants as unopened
use Rattle.nsf_c.specs.declared.held.Held.{Held}

-- no refusal has the number 0
some_number : (e : Error) → 1 ≤ number_of e
some_number NoMemory = omega arith
some_number DeviceFailed = omega arith
some_number NotFormatted = omega arith
some_number (Damaged sector) = omega arith
some_number DeviceTooSmall = omega arith
some_number BadGeometry = omega arith
some_number TooManyTxns = omega arith
some_number TooManyChanges = omega arith
some_number NoSuchTxn = omega arith
some_number NoSuchRow = omega arith
some_number RowBusy = omega arith
some_number HeapFull = omega arith
some_number IndexFull = omega arith
some_number KeyTooLong = omega arith
some_number BodyTooLong = omega arith
some_number TxnsActive = omega arith
some_number IndexExists = omega arith
some_number NoIndex = omega arith
some_number NotBuilt = omega arith
some_number Stopped = omega arith
some_number Exhausted = omega arith
some_number (BadScript line) = omega arith
some_number OldVersion = omega arith

pub put_is : (P : Opened → Type 0) (opened : Result (Box Held) Unopened) (status : ℕ) (value : Option Held)
    → IfOk opened (λ held. (status ≡ 0) × (value ≡ Some held.value))
    → IfErr opened (λ e. (status ≡ number_of (error_of e)) × (value ≡ None))
    → IfOk opened (λ held. P held.value.store)
    → status ≡ 0 → (s : Held) × (value ≡ Some s) × P s.store
put_is P (Ok held) status value ok err has zero = (held.value, ok.1, has)
put_is P (Err e) status value ok err has zero = absurd (omega (arith, some_number (error_of e), err.0, zero))

pub ok_map : {X E : Type 0} {P Q : X → Type 0} (r : Result X E) → ((x : X) → P x → Q x) → IfOk r P → IfOk r Q
ok_map (Ok x) f p = f x p
ok_map (Err e) f p = tt

pub ok_and : {X E : Type 0} (P Q : X → Type 0) (r : Result X E) → IfOk r P → IfOk r Q → IfOk r (λ x. P x × Q x)
ok_and P Q (Ok x) p q = (p, q)
ok_and P Q (Err e) p q = tt

pub err_map : {X E : Type 0} {P Q : E → Type 0} (r : Result X E) → ((e : E) → P e → Q e) → IfErr r P → IfErr r Q
err_map (Ok x) f p = tt
err_map (Err e) f p = f e p

-- ---- why nothing was made or opened

-- on a disk of such a content
pub unopened_on : (P : CrashState → Type 0) (disk : Disk) → IsDisk P disk → (e : Unopened) → IsUnopenedOn disk e → IsUnopened P e
unopened_on P disk is unopened.NoMemory why = tt
unopened_on P disk is (unopened.Failed after) why = absurd why
unopened_on P disk is (unopened.Refused e after) why = (disk, is, why)

-- on one on which such a store was made
pub unmade_on : (g : GeometryValue) (disk : Disk) → IsDisk (IsMade g) disk → (e : Unopened) → IsUnopenedOn disk e → IsUnmade g e
unmade_on g disk is unopened.NoMemory why = tt
unmade_on g disk is (unopened.Failed after) why = absurd why
unmade_on g disk is (unopened.Refused e after) why = (disk, is, why)

-- as it is told to C
pub not_opened : (sectors : CrashState) (e : Unopened) → IsUnopened (Is sectors) e → IsNotOpened sectors (number_of (error_of e))
not_opened sectors unopened.NoMemory why = inl refl
not_opened sectors (unopened.Failed after) why = absurd why.2
not_opened sectors (unopened.Refused e after) why =
    inr (record { disk = why.0; error = e; is_disk = why.1; refused = (after, why.2); status_is = refl })

pub not_made : (g : GeometryValue) (e : Unopened) → IsGeometry g → IsUnmade g e → IsNotMade g (number_of (error_of e))
not_made g unopened.NoMemory within why = inr (within, inl refl)
not_made g (unopened.Failed after) within why = inr (within, inr (inl (after, why, refl)))
not_made g (unopened.Refused e after) within why =
    inr (within, inr (inr (record { disk = why.0; error = e; is_disk = why.1; refused = (after, why.2); status_is = refl })))

-- nothing was put under the handle
pub put_is_not : (P : Unopened → Type 0) (Q : ℕ → Type 0) (opened : Result (Box Held) Unopened) (status : ℕ) (value : Option Held)
    → IfOk opened (λ held. (status ≡ 0) × (value ≡ Some held.value))
    → IfErr opened (λ e. (status ≡ number_of (error_of e)) × (value ≡ None))
    → IfErr opened P → ((e : Unopened) → P e → Q (number_of (error_of e)))
    → (status ≡ 0 → ⊥) → (value ≡ None) × Q status
put_is_not P Q (Ok held) status value ok err why tells some = absurd (some ok.0)
put_is_not P Q (Err e) status value ok err why tells some = (err.1, subst Q (sym err.0) (tells e why))
