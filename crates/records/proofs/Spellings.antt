-- The laws of spellings, for proofs in the crates above.
use Rattle.std.specs.Prelude.{◌⊎◌}
use Rattle.std.proofs.Common.{◌≡◌, ◌≤◌, List, ℕ, ◌++◌, ◌∙◌, length, Option, Some, None, refl, sym, ap, inl, inr}
use Rattle.records.specs.declared.record.TheConstants.{RECORD_MAX, RECORD_MIN}
use Rattle.records.specs.RecordValue.{RecordValue}
use Rattle.records.specs.Spelling.{spelling, Fits, IsBytes}
use Rattle.records.specs.Reading.{record_at}
use Rattle.records.proofs.Records as records
use Rattle.records.proofs.Lengths as lengths

-- no spelling begins another, and a spelling is of one record
pub one_spelling : (a b : RecordValue) (x y : List ℕ) → Fits a → Fits b → spelling a ++ x ≡ spelling b ++ y → (a ≡ b) × (x ≡ y)
one_spelling = records.one_spelling

-- bytes begin with a record's spelling, or they do not
pub begins_or_not : (bytes : List ℕ) → IsBytes bytes → ((r : RecordValue) × (rest : List ℕ) × (bytes ≡ spelling r ++ rest) × Fits r)
    ⊎ ((r : RecordValue) (rest : List ℕ) → Fits r → ¬ (bytes ≡ spelling r ++ rest))
begins_or_not bytes fits = go (record_at bytes) refl
  where
    go : (read : Option (RecordValue × List ℕ)) → record_at bytes ≡ read → ((r : RecordValue) × (rest : List ℕ) × (bytes ≡ spelling r ++ rest) × Fits r)
        ⊎ ((r : RecordValue) (rest : List ℕ) → Fits r → ¬ (bytes ≡ spelling r ++ rest))
    go (Some x) e =
        let taken = records.record_takes bytes x.0 x.1 fits e in
        inl (x.0, x.1, taken.0, taken.1)
    go None e = inr (λ r rest good is. let bad : None ≡ Some (r, rest) = sym e ∙ ap record_at is ∙ records.record_again r rest good in absurd cc)

-- how long a spelling is at most
pub spelling_most : (r : RecordValue) → Fits r → length (spelling r) ≤ RECORD_MAX
spelling_most = lengths.spelling_most

-- how long a spelling is at least
pub spelling_least : (r : RecordValue) → RECORD_MIN ≤ length (spelling r)
spelling_least = lengths.spelling_least
