-- A script that was read up to a line.
use Rattle.std.specs.Prelude.{◌⊎◌}
use Rattle.std.proofs.Common.{◌≡◌, ℕ, suc, ◌+◌, ◌<◌, ◌≤◌, not, eqb, List, [], ◌∷◌, ◌++◌, length, get_or, take, drop, refl, sym, ap, ◌∙◌, append-nil, add-one}
use Rattle.std.proofs.Common.{arith, inl, inr, length-drop, drop-cons}
use Rattle.std.specs.List.{All, AllZip}
use Rattle.std.proofs.lemmas.List.{take_more, take_all}
use Rattle.std.proofs.lemmas.List.Elements.{All-nil, All-push, filter-append}
use Rattle.program_script.specs.declared.command.Command.{Command}
use Rattle.program_script.specs.declared.lines.TheConstants.{LINES_MAX}
use Rattle.record_values.specs.declared.error.Error.{Error}
use Rattle.record_values.specs.declared.error.Error.TheVariants.{NoMemory, BadScript}
use Rattle.std.proofs.lemmas.List.Splits.{length-slice_split}
use Rattle.program_script.specs.Grammar.{parted_by, is_left_out, kept, IsLineOf, IsGood, IsScript, IsFirstFault}
use Rattle.program_script.specs.Reading.{Adds}

pub record HasRead (lines : List (List ℕ)) (done : ℕ) (left : List (List ℕ)) (commands : List Command) : Type 0 where
  pub within : done ≤ LINES_MAX
  pub left_is : drop done lines ≡ left
  pub each : AllZip IsLineOf (kept (take done lines)) commands
  pub good : All IsGood (take done lines)

pub start : (lines : List (List ℕ)) → HasRead lines 0 lines []
start lines = record { within = omega arith; left_is = refl; each = tt; good = All-nil IsGood }

-- ---- the next line

record IsNext (lines : List (List ℕ)) (done : ℕ) (line : List ℕ) (more : List (List ℕ)) : Type 0 where
  there : done < length lines
  at : get_or lines done [] ≡ line
  taken : take (done + 1) lines ≡ take done lines ++ line ∷ []
  left : drop (done + 1) lines ≡ more

next : (lines : List (List ℕ)) (done : ℕ) (line : List ℕ) (more : List (List ℕ)) → drop done lines ≡ line ∷ more → IsNext lines done line more
next lines done line more e =
    let len : length (drop done lines) ≡ suc (length more) = ap length e in
    let there : done < length lines = omega (arith, len, length-drop done lines) in
    let front : get_or lines done [] ∷ drop (suc done) lines ≡ line ∷ more = sym (drop-cons lines done [] there) ∙ e in
    let at : get_or lines done [] ≡ line = cc in
    let tail : drop (suc done) lines ≡ more = cc in
    record {
      there = there;
      at = at;
      taken = take_more lines done [] there ∙ ap (λ (l : List ℕ). take done lines ++ l ∷ []) at;
      left = rw add-one tail;
    }

AllZip-more : {A B : Type 0} (R : A → B → Type 0) (xs : List A) (ys : List B) (x : A) (y : B) → AllZip R xs ys → R x y → AllZip R (xs ++ x ∷ []) (ys ++ y ∷ [])
AllZip-more R [] [] x y h r = (r, tt)
AllZip-more R [] (b ∷ ys) x y h r = absurd h
AllZip-more R (a ∷ xs) [] x y h r = absurd h
AllZip-more R (a ∷ xs) (b ∷ ys) x y h r = (h.0, AllZip-more R xs ys x y h.1 r)

kept_more : (lines : List (List ℕ)) (line : List ℕ) → kept (lines ++ line ∷ []) ≡ kept lines ++ kept (line ∷ [])
kept_more lines line = filter-append (λ l. not (is_left_out l)) lines (line ∷ [])

pub added : (lines : List (List ℕ)) (done : ℕ) (line : List ℕ) (more : List (List ℕ)) (old new : List Command) → HasRead lines done (line ∷ more) old
    → done < LINES_MAX → Adds line old new → HasRead lines (done + 1) more new
added lines done line more old new h lt (inl skipped) =
    let n = next lines done line more h.left_is in
    let none : kept (line ∷ []) ≡ [] = rw skipped.0 refl in
    let same : kept (take (done + 1) lines) ≡ kept (take done lines) = ap kept n.taken ∙ kept_more (take done lines) line
    ∙ rw none (append-nil (kept (take done lines))) in
    record {
      within = omega arith;
      left_is = n.left;
      each = rw (same, skipped.1) h.each;
      good = rw n.taken (All-push IsGood (take done lines) line h.good (inl skipped.0));
    }
added lines done line more old new h lt (inr command) =
    let n = next lines done line more h.left_is in
    let one : kept (line ∷ []) ≡ line ∷ [] = rw command.0 refl in
    let longer : kept (take (done + 1) lines) ≡ kept (take done lines) ++ line ∷ [] = ap kept n.taken ∙ kept_more (take done lines) line ∙ rw one refl in
    record {
      within = omega arith;
      left_is = n.left;
      each = rw (longer, command.3) (AllZip-more IsLineOf (kept (take done lines)) old line command.1 h.each command.2);
      good = rw n.taken (All-push IsGood (take done lines) line h.good (inr (command.1, command.2)));
    }

-- ---- the end

pub ended : (lines : List (List ℕ)) (done : ℕ) (commands : List Command) → HasRead lines done [] commands → IsScript lines commands
ended lines done commands h =
    let len : length (drop done lines) ≡ 0 = ap length h.left_is in
    let all : length lines ≤ done = omega (arith, len, length-drop done lines) in
    let whole : take done lines ≡ lines = take_all done lines all in
    record { few = omega (arith, h.within); each = rw whole at h.each }

pub fault : (lines : List (List ℕ)) (done : ℕ) (line : List ℕ) (more : List (List ℕ)) (commands : List Command) → HasRead lines done (line ∷ more) commands
    → (IsGood line → ⊥) → IsFirstFault lines done
fault lines done line more commands h bad =
    let n = next lines done line more h.left_is in
    record { is_there = n.there; good_before = h.good; within = h.within; bad = λ _ good. bad (rw n.at at good) }

too_many : (lines : List (List ℕ)) (done : ℕ) (line : List ℕ) (more : List (List ℕ)) (commands : List Command) → HasRead lines done (line ∷ more) commands
    → LINES_MAX ≤ done → IsFirstFault lines done
too_many lines done line more commands h far =
    let n = next lines done line more h.left_is in
    record { is_there = n.there; good_before = h.good; within = h.within; bad = λ lt good. absurd (omega arith) }

too_many_in : (lines : List (List ℕ)) (done : ℕ) (left : List (List ℕ)) (commands : List Command) → 0 < length left → HasRead lines done left commands
    → LINES_MAX ≤ done → IsFirstFault lines done
too_many_in lines done [] commands some h far = absurd (omega arith)
too_many_in lines done (line ∷ more) commands some h far = too_many lines done line more commands h far

pub too_many_left : (lines : List (List ℕ)) (done : ℕ) (rest : List ℕ) (commands : List Command) → HasRead lines done (parted_by 10 rest) commands
    → LINES_MAX ≤ done → IsFirstFault lines done
too_many_left lines done rest commands h far = too_many_in lines done (parted_by 10 rest) commands
    (omega (arith, length-slice_split (λ b. eqb b 10) rest)) h far

-- what adding the next line refuses is what reading the script refuses
pub refused : (lines : List (List ℕ)) (done : ℕ) (line : List ℕ) (more : List (List ℕ)) (commands : List Command) (e : Error)
    → HasRead lines done (line ∷ more) commands
    → (e ≡ NoMemory) ⊎ ((e ≡ BadScript (done + 1)) × (IsGood line → ⊥))
    → (e ≡ NoMemory) ⊎ ((index : ℕ) × (e ≡ BadScript (index + 1)) × IsFirstFault lines index)
refused lines done line more commands e h (inl none) = inl none
refused lines done line more commands e h (inr bad) = inr (done, bad.0, fault lines done line more commands h bad.1)
