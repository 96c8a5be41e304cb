-- Which errors of a file are apart.
use Rattle.std.proofs.Common.{◌≡◌, ℕ}
use Rattle.block_file.specs.declared.opening.FileError.{FileError}
use Rattle.block_file.specs.declared.opening.FileError.TheVariants.{Damaged, FileFailed, NoBatch, NoHeader, TooShort}

pub failed_not_damaged : (n : ℕ) → Path FileError FileFailed (Damaged n) → ⊥
failed_not_damaged n is = cc

pub failed_not_header : Path FileError FileFailed NoHeader → ⊥
failed_not_header is = cc

pub failed_not_short : Path FileError FileFailed TooShort → ⊥
failed_not_short is = cc

pub failed_not_batch : Path FileError FileFailed NoBatch → ⊥
failed_not_batch is = cc

pub damaged_not_header : (n : ℕ) → Path FileError (Damaged n) NoHeader → ⊥
damaged_not_header n is = cc

pub damaged_not_short : (n : ℕ) → Path FileError (Damaged n) TooShort → ⊥
damaged_not_short n is = cc

pub damaged_not_batch : (n : ℕ) → Path FileError (Damaged n) NoBatch → ⊥
damaged_not_batch n is = cc

pub damaged_not_failed : (n : ℕ) → Path FileError (Damaged n) FileFailed → ⊥
damaged_not_failed n is = cc

pub short_not_header : Path FileError TooShort NoHeader → ⊥
short_not_header is = cc

pub short_not_failed : Path FileError TooShort FileFailed → ⊥
short_not_failed is = cc

pub short_not_batch : Path FileError TooShort NoBatch → ⊥
short_not_batch is = cc

pub short_not_damaged : (n : ℕ) → Path FileError TooShort (Damaged n) → ⊥
short_not_damaged n is = cc

pub same_damaged : (m n : ℕ) → Path FileError (Damaged m) (Damaged n) → m ≡ n
same_damaged m n is = cc
