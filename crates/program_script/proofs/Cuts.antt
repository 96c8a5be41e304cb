-- The parts of a text that was cut at its first separator.
use Rattle.std.proofs.Common.{◌≡◌, ℕ, ◌+◌, ◌-◌, ◌<◌, ◌≤◌, Bool, ltb, eqb, List, [], ◌∷◌, length, take, drop, Option, Some, None, refl, sym, ap, ◌∙◌, arith, inl}
use Rattle.std.proofs.Common.{inr, length-drop}
use Rattle.std.specs.List.{position, position_or_len}
use Rattle.std.proofs.lemmas.Bool.{ltb-true, ltb-false, cases_Bool}
use Rattle.std.proofs.lemmas.List.Sums.{fails_before_first}
use Rattle.std.proofs.lemmas.List.Splits.{slice_split_none, slice_split_first, length-slice_split}
use Rattle.std.proofs.lemmas.List.{take_all}
use Rattle.program_script.specs.declared.command.Command.{Command}
use Rattle.program_script.specs.Grammar.{parted_by}
use Rattle.program_script.specs.Reading.{only, alone_at}

abbrev is : ℕ → ℕ → Bool
is s b = eqb b s

abbrev first_place : ℕ → List ℕ → ℕ
first_place s bs = position_or_len (is s) bs

pub parts_whole : (s : ℕ) (bs : List ℕ) → None ≡ position (λ b. eqb b s) bs → parted_by s bs ≡ bs ∷ []
parts_whole s bs e =
    elim (cases_Bool (ltb (first_place s bs) (length bs))) [
      | inl h ↦ let bad = rw h at e in absurd cc
      | inr h ↦
          let far : length bs ≤ first_place s bs = ltb-false _ _ h in
          slice_split_none (is s) bs (λ k d lt. fails_before_first (is s) bs k d (omega arith))
    ]

pub parts_cut : (s : ℕ) (bs : List ℕ) (i : ℕ) → Some i ≡ position (λ b. eqb b s) bs
    → parted_by s bs ≡ take i bs ∷ parted_by s (take (length bs - (i + 1)) (drop (i + 1) bs))
parts_cut s bs i e =
    elim (cases_Bool (ltb (first_place s bs) (length bs))) [
      | inr h ↦ let bad = rw h at e in absurd cc
      | inl h ↦
          let near : first_place s bs < length bs = ltb-true _ _ h in
          let found = rw h at e in
          let at : first_place s bs ≡ i = cc in
          let whole : take (length bs - (i + 1)) (drop (i + 1) bs) ≡ drop (i + 1) bs =
          take_all (length bs - (i + 1)) (drop (i + 1) bs) (omega (arith, length-drop (i + 1) bs)) in
          slice_split_first (is s) bs 0 near ∙ ap (λ (k : ℕ). take k bs ∷ parted_by s (drop (k + 1) bs)) at
          ∙ ap (λ (t : List ℕ). take i bs ∷ parted_by s t) (sym whole)
    ]

-- ---- behind a separator there is a part

alone_with : (command : Command) (parts : List (List ℕ)) → 0 < length parts → None ≡ alone_at command parts
alone_with command [] h = absurd (omega arith)
alone_with command (part ∷ more) h = refl

pub not_alone : (command : Command) (s : ℕ) (rest : List ℕ) → None ≡ alone_at command (parted_by s rest)
not_alone command s rest = alone_with command (parted_by s rest) (omega (arith, length-slice_split (is s) rest))

only_with : (first : List ℕ) (parts : List (List ℕ)) → 0 < length parts → None ≡ only (first ∷ parts)
only_with first [] h = absurd (omega arith)
only_with first (part ∷ more) h = refl

pub not_only : (first : List ℕ) (s : ℕ) (rest : List ℕ) → None ≡ only (first ∷ parted_by s rest)
not_only first s rest = only_with first (parted_by s rest) (omega (arith, length-slice_split (is s) rest))
