-- Which answers are apart.
use Rattle.std.proofs.Common.{◌≡◌, Result, Ok, Err}
use Rattle.block_journal.specs.declared.refusal.OpenError.TheVariants.{FileFailed as OpenFailed, NoBatch, NoMemory}
use Rattle.block_table.specs.declared.checked.ReadError.{ReadError}
use Rattle.block_table.specs.declared.checked.ReadError.TheVariants.{Damaged, FileFailed}

-- what is answered isn't refused
pub ok_not_err : {T E : Type 0} {x : T} {e : E} → ◌≡◌ {A = Result T E} (Ok x) (Err e) → ⊥
ok_not_err is = cc

pub failed_not_damaged : {T : Type 0} → ◌≡◌ {A = Result T ReadError} (Err FileFailed) (Err Damaged) → ⊥
failed_not_damaged is = cc

pub damaged_not_failed : {T : Type 0} → ◌≡◌ {A = Result T ReadError} (Err Damaged) (Err FileFailed) → ⊥
damaged_not_failed is = cc

pub failed_not_batch : OpenFailed ≡ NoBatch → ⊥
failed_not_batch is = cc

pub memory_not_batch : NoMemory ≡ NoBatch → ⊥
memory_not_batch is = cc

pub memory_not_failed : NoMemory ≡ OpenFailed → ⊥
memory_not_failed is = cc
