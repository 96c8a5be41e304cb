-- What the lines say that ask for a range of the index.
use Rattle.std.specs.Prelude.{[], Bool, codes, false, List, None, Option, Some, true, ℕ, ◌++◌, ◌∷◌, ◌≡◌}
use Rattle.std.specs.Fmt.{decimal}
use Rattle.program_script.specs.Grammar.{IsByteText, IsCount}
use Rattle.program_script.specs.declared.scan.Scan.{Scan}
use Rattle.program_script.specs.declared.scan.Span.{Span}
use Rattle.program_script.specs.declared.scan.Span.TheVariants.{Between, From, Whole}

-- the words that give the keys: none for all of them, the first key, or the first and the last
abbrev pub SpellSpan : List (List ℕ) → Span → Type 0
SpellSpan words Whole = words ≡ []
SpellSpan words (From first) = (f : List ℕ) × (words ≡ f ∷ []) × IsByteText f first
SpellSpan words (Between first last) = (f l : List ℕ) × (words ≡ f ∷ l ∷ []) × IsByteText f first × IsByteText l last

-- the word that asks for the last pair first, and none where the first one comes first
abbrev pub SpellOrder : List (List ℕ) → Bool → Type 0
SpellOrder words true = words ≡ codes "back" ∷ []
SpellOrder words false = words ≡ []

-- the words that give how many pairs are asked for: none for as many as there are
abbrev pub SpellLimit : List (List ℕ) → Option ℕ → Type 0
SpellLimit words None = words ≡ []
SpellLimit words (Some count) = (words ≡ codes "count" ∷ decimal count ∷ []) × IsCount count

-- the words spell a scan: `scan`, its keys, which pair comes first, and how many pairs
abbrev pub SpellScan : List (List ℕ) → Scan → Type 0
SpellScan words scan = (keys order count : List (List ℕ)) × (words ≡ codes "scan" ∷ keys ++ (order ++ count))
    × SpellSpan keys scan.span
    × SpellOrder order scan.is_back × SpellLimit count scan.limit
