-- The bytes of a body, cut into sectors and joined again.
use Rattle.std.specs.Prelude.{is_err}
use Rattle.std.proofs.Common.{Result, Ok, Err, OnOk, OnErr, IfErr, ◌≡◌, ℕ, ◌+◌, ◌-◌, ◌*◌, ◌<◌, ◌≤◌, true, false, List}
use Rattle.std.proofs.Common.{[], ◌++◌, length, take, drop, slice_range, sym, ap, ◌∙◌, subst, arith}
use Rattle.std.proofs.Common.{zero, suc}
use Rattle.std.specs.List.{concat}
use Rattle.std.specs.Simd.{first_chunks}
use Rattle.std.proofs.lemmas.List.{take-append-drop, nil_from_length, length-drop}
use Rattle.sector_device.specs.Disk.{CrashState, sector}
use Rattle.sector_device.specs.DevicePast.{Rises}
use Rattle.record_values.specs.declared.error.Error.{Error}
use Rattle.record_values.specs.declared.error.Error.TheVariants.{NoMemory, DeviceFailed, Damaged}
use Rattle.gate_log.specs.declared.area.Appended.{Appended}
use Rattle.gate_log.specs.declared.area.Appended.TheVariants.{Done, Full}
use Rattle.gate_log.specs.Area.{Refuses}
use Rattle.sector_device.proofs.Sectors.{part_is}

-- sectors joined give back the bytes that were cut into them
first_chunks-all : (k : ℕ) (xs : List ℕ) → length xs ≡ 512 * k → concat (first_chunks 512 k xs) ≡ xs
first_chunks-all zero xs long = sym (nil_from_length xs (omega arith))
first_chunks-all (suc k) xs long =
    ap (λ (t : List ℕ). take 512 xs ++ t) (first_chunks-all k (drop 512 xs) (omega (arith, length-drop 512 xs))) ∙ take-append-drop 512 xs

-- no sectors
pub part_none : (image : CrashState) (low : ℕ) → concat (slice_range image low (low + 0)) ≡ []
part_none image low = ap (λ n. concat (take n (drop low image))) (let e : low + 0 - low ≡ 0 = omega arith in e)

-- seven sectors that were written hold the body
pub body_written : (image rows : CrashState) (bytes : List ℕ) (n gate : ℕ) → gate + 8 ≤ length image → length bytes ≡ 3584 → n ≡ 7
    → rows ≡ first_chunks 512 n bytes
    → length rows ≡ 7
    → ((k : ℕ) → k < 7 → sector image (gate + 1 + k) ≡ sector rows k) → concat (slice_range image (gate + 1) (gate + 8)) ≡ bytes
body_written image rows bytes n gate room long seven rows-is size each =
    ap concat (part_is image rows (gate + 1) (gate + 8) room (omega arith) (λ k lt. each k (omega arith)))
    ∙ ap concat (rows-is ∙ ap (λ (m : ℕ). first_chunks 512 m bytes) seven)
    ∙ first_chunks-all 7 bytes (omega arith)

-- ---- results

pub on_ok : {T E : Type 0} (P Q : Type 0) (r : Result T E) → (P → Q) → OnOk r P → OnOk r Q
on_ok P Q (Ok x) f h = f h
on_ok P Q (Err e) f h = tt

pub on_ok_always : {T E : Type 0} (P : Type 0) (r : Result T E) → P → OnOk r P
on_ok_always P (Ok x) h = h
on_ok_always P (Err e) h = tt

pub on_err_always : {T E : Type 0} (P : E → Type 0) (r : Result T E) → ((e : E) → P e) → IfErr r P
on_err_always P (Ok x) h = tt
on_err_always P (Err e) h = h e

pub from_ok : {T E : Type 0} (P : Type 0) (r : Result T E) → is_err r ≡ false → OnOk r P → P
from_ok P (Ok x) is h = h
from_ok P (Err e) is h = absurd cc

pub from_err : {T E : Type 0} (P : Type 0) (r : Result T E) → is_err r ≡ true → OnErr r P → P
from_err P (Ok x) is h = absurd cc
from_err P (Err e) is h = h

-- ---- how often the device failed

pub later_than : (a b c : ℕ) → b ≡ a → b ≤ c → a ≤ c
later_than a b c same later = omega (arith, same, later)

pub not_fewer : (a b : ℕ) → b ≡ a → a ≤ b
not_fewer a b same = omega (arith, same)

pub refuses_later : (a b c : ℕ) (e : Error) → b ≡ a → Refuses b c e → Refuses a c e
refuses_later a b c e same refused = subst (λ (n : ℕ). Refuses n c e) same refused

-- a failure of the device is no want of memory
pub not_no_memory : {T : Type 0} (r : Result T Error) (before now : ℕ) → r ≡ Err NoMemory
    → IfErr r (λ (e : Error). (e ≡ DeviceFailed) × Rises before now) → ⊥
not_no_memory r before now is failed =
    let no : NoMemory ≡ DeviceFailed = (subst (λ x. IfErr x (λ (e : Error). (e ≡ DeviceFailed) × Rises before now)) is failed).0 in
    (cc)

-- ---- one answer of an append is no other

pub full_not_done : ◌≡◌ {A = Result Appended Error} (Ok Full) (Ok Done) → ⊥
full_not_done is = (cc)

pub done_not_full : ◌≡◌ {A = Result Appended Error} (Ok Done) (Ok Full) → ⊥
done_not_full is = (cc)

pub refused_not : (e : Error) (x : Appended) → ◌≡◌ {A = Result Appended Error} (Err e) (Ok x) → ⊥
refused_not e x is = (cc)

-- damage is no want of memory
pub damaged_not_no_memory : (n : ℕ) → Damaged n ≡ NoMemory → ⊥
damaged_not_no_memory n is = (cc)

-- ---- numbers of slots

pub same_between : (a b n : ℕ) → n ≡ a → a ≤ b → b ≤ n → a ≡ b
same_between a b n is le ge = omega (arith, is, le, ge)
