-- The lines of a text that goes on behind more lines than are looked at.
use Rattle.std.specs.Prelude.{Bool, true, false, if◌then◌else◌, ◌&&◌, nat_lt, ◌==◌, slice_index, count_by}
use Rattle.std.proofs.Common.{◌≡◌, ℕ, suc, zero, ◌+◌, ◌-◌, ◌<◌, ◌≤◌, List, [], ◌∷◌, ◌++◌, length, get_or, take, drop, refl, sym, ap, ◌∙◌, subst, cond}
use Rattle.std.proofs.Common.{arith, append-nil, append_assoc, inl, inr, length-append, length-drop}
use Rattle.std.specs.List.{slice_split, onto_first}
use Rattle.std.specs.Io.BufRead.{strip_last, ends_with_byte}
use Rattle.std.proofs.lemmas.List.{take-append-drop, get_or-take}
use Rattle.std.proofs.Math.Seq.{take-append-add}
use Rattle.std.proofs.lemmas.List.Sums.{sum_by-append, count_by-le-length}
use Rattle.std.proofs.lemmas.List.Splits.{length-slice_split}
use Rattle.std.specs.Prelude.{Option, None, Some, ◌⊎◌}
use Rattle.std.specs.List.{All}
use Rattle.record_values.specs.declared.error.Error.{Error}
use Rattle.program_script.specs.Grammar.{lines, IsFirstFault, IsGood}
use Rattle.program_script.specs.declared.lines.TheConstants.{LINES_MAX}
use Rattle.program_values.specs.declared.given.Arguments.{Arguments}
use Rattle.program_player.specs.Inputs.{feeds_in, IsEnough}
use Rattle.program_player.specs.Plays.{IsFault, Plays, PlaysInput}

-- the parts before the last one of a list are those of the longer list too
take_onto_first : {X : Type 0} (x : X) (k : ℕ) (xs ys : List (List X)) → 0 < length xs → 0 < length ys → take (suc k) xs ≡ take (suc k) ys
    → take (suc k) (onto_first x xs) ≡ take (suc k) (onto_first x ys)
take_onto_first x k [] ys some other e = absurd (omega arith)
take_onto_first x k (a ∷ xs) [] some other e = absurd (omega arith)
take_onto_first x k (a ∷ xs) (b ∷ ys) some other e = cc

some_part : {X : Type 0} (p : X → Bool) (xs : List X) → 0 < length (slice_split p xs)
some_part p xs = omega (arith, length-slice_split p xs)

-- one element more at the front
one_more : {X : Type 0} (x : X) (k : ℕ) (b : Bool) (xs ys : List (List X)) → 0 < length xs → 0 < length ys
    → (b ≡ true → take k xs ≡ take k ys) → (b ≡ false → take (suc k) xs ≡ take (suc k) ys)
    → take (suc k) (cond b ([] ∷ xs) (onto_first x xs)) ≡ take (suc k) (cond b ([] ∷ ys) (onto_first x ys))
one_more x k true xs ys some other ends stays = ap (λ l. [] ∷ l) (ends refl)
one_more x k false xs ys some other ends stays = take_onto_first x k xs ys some other (stays refl)

counted_yes : (b : Bool) (n k : ℕ) → suc k ≤ cond b 1 0 + n → b ≡ true → k ≤ n
counted_yes true n k within e = omega arith
counted_yes false n k within e = omega arith

counted_no : (b : Bool) (n k : ℕ) → suc k ≤ cond b 1 0 + n → b ≡ false → suc k ≤ n
counted_no true n k within e = cc
counted_no false n k within e = omega arith

count_cons : {X : Type 0} (p : X → Bool) (x : X) (xs : List X) → count_by p (x ∷ xs) ≡ cond (p x) 1 0 + count_by p xs
count_cons p x xs = omega (arith, sum_by-append (λ y. cond (p y) 1 0) (x ∷ []) xs)

pub same_parts : {X : Type 0} (p : X → Bool) (xs ys : List X) (k : ℕ) → k ≤ count_by p xs → take k (slice_split p (xs ++ ys)) ≡ take k (slice_split p xs)
same_parts p [] ys zero within = refl
same_parts p [] ys (suc k) within = absurd (omega arith)
same_parts p (x ∷ xs) ys zero within = refl
same_parts p (x ∷ xs) ys (suc k) within = one_more x k (p x) (slice_split p (xs ++ ys)) (slice_split p xs) (some_part p (xs ++ ys)) (some_part p xs)
    (λ e. same_parts p xs ys k (counted_yes (p x) (count_by p xs) k (omega (arith, within, count_cons p x xs)) e))
    (λ e. same_parts p xs ys (suc k) (counted_no (p x) (count_by p xs) k (omega (arith, within, count_cons p x xs)) e))

-- ---- the line feed at the end

stripped_shape : (b : Bool) (xs : List ℕ) → (tail : List ℕ) × (xs ≡ (if b then take (length xs - 1) xs else xs) ++ tail) × (length tail ≤ 1)
stripped_shape true xs = (drop (length xs - 1) xs, sym (take-append-drop (length xs - 1) xs), omega (arith, length-drop (length xs - 1) xs))
stripped_shape false xs = ([], sym (append-nil xs), omega arith)

behind : (b : Bool) (xs : List ℕ) (y : ℕ) (ys : List ℕ)
    → (more : List ℕ) × ((if b then take (length (xs ++ y ∷ ys) - 1) (xs ++ y ∷ ys) else (xs ++ y ∷ ys)) ≡ xs ++ more)
behind true xs y ys = (
  take (length ys) (y ∷ ys),
  ap (λ (n : ℕ). take n (xs ++ y ∷ ys)) (omega (arith, length-append xs (y ∷ ys))) ∙ take-append-add xs (y ∷ ys) (length ys),
)
behind false xs y ys = (y ∷ ys, refl)

-- what is kept of a text without the line feed at its end stands at the front of what is kept of a longer one
stripped_on : (xs ys : List ℕ) → (more : List ℕ) × (strip_last 10 (xs ++ ys) ≡ strip_last 10 xs ++ more)
stripped_on xs [] = ([], ap (strip_last 10) (append-nil xs) ∙ sym (append-nil (strip_last 10 xs)))
stripped_on xs (y ∷ ys) =
    let shape = stripped_shape (ends_with_byte 10 xs) xs in
    let longer = behind (ends_with_byte 10 (xs ++ y ∷ ys)) xs y ys in
    (shape.0 ++ longer.0, longer.1 ∙ ap (λ (l : List ℕ). l ++ longer.0) shape.1 ∙ append_assoc (strip_last 10 xs) shape.0 longer.0)

abbrev is_feed : ℕ → Bool
is_feed byte = byte == 10

feeds_kept : (xs : List ℕ) → count_by is_feed xs ≤ count_by is_feed (strip_last 10 xs) + 1
feeds_kept xs =
    let shape = stripped_shape (ends_with_byte 10 xs) xs in
    let sum : count_by is_feed xs ≡ count_by is_feed (strip_last 10 xs) + count_by is_feed shape.0 =
    ap (count_by is_feed) shape.1 ∙ sum_by-append (λ (b : ℕ). cond (is_feed b) 1 0) (strip_last 10 xs) shape.0 in
    omega (arith, sum, count_by-le-length is_feed shape.0, shape.2)

-- ---- lines

-- both have more than so many lines, and those first ones are the same
pub record HaveSame (count : ℕ) (some all : List (List ℕ)) : Type 0 where
  pub enough : count < length some
  pub more : count < length all
  pub same : take count all ≡ take count some

pub lines_on : (xs ys : List ℕ) (count : ℕ) → count < feeds_in xs → HaveSame count (lines xs) (lines (xs ++ ys))
lines_on xs ys count many =
    let on = stripped_on xs ys in
    let kept : count ≤ count_by is_feed (strip_last 10 xs) = omega (arith, many, feeds_kept xs) in
    let some : count < length (lines xs) = omega (arith, length-slice_split is_feed (strip_last 10 xs)) in
    let sum = sum_by-append (λ (b : ℕ). cond (is_feed b) 1 0) (strip_last 10 xs) on.0 in
    let all : count < length (slice_split is_feed (strip_last 10 xs ++ on.0)) =
    omega (arith, length-slice_split is_feed (strip_last 10 xs ++ on.0), sum) in
    record {
      enough = some;
      more = subst (λ (l : List ℕ). count < length (slice_split is_feed l)) (sym on.1) all;
      same = ap (λ (l : List ℕ). take count (slice_split is_feed l)) on.1 ∙ same_parts is_feed (strip_last 10 xs) on.0 count kept;
    }

take_take : {A : Type 0} (i n : ℕ) (xs : List A) → i ≤ n → take i (take n xs) ≡ take i xs
take_take zero n xs h = refl
take_take (suc i) zero xs h = absurd (omega arith)
take_take (suc i) (suc n) [] h = refl
take_take (suc i) (suc n) (x ∷ xs) h = ap (λ l. x ∷ l) (take_take i n xs (omega arith))

pub first_same : (count i : ℕ) (some all : List (List ℕ)) → HaveSame count some all → i ≤ count → take i some ≡ take i all
first_same count i some all h within = sym (take_take i count some within) ∙ ap (take i) (sym h.same) ∙ take_take i count all within

pub each_same : (count i : ℕ) (some all : List (List ℕ)) → HaveSame count some all → i < count → get_or all i [] ≡ get_or some i []
each_same count i some all h within =
    sym (get_or-take count all i [] within) ∙ ap (λ (l : List (List ℕ)). get_or l i []) h.same ∙ get_or-take count some i [] within

-- ---- a script that is too long

-- the first fault of a text with too many lines is that of the text which goes on behind it
fault_on : (some all : List (List ℕ)) (index : ℕ) → HaveSame LINES_MAX some all → IsFirstFault some index → IsFirstFault all index
fault_on some all index same fault = record {
  is_there = omega (arith, fault.within, same.more);
  good_before = subst (All IsGood) (first_same LINES_MAX index some all same fault.within) fault.good_before;
  within = fault.within;
  bad = λ lt good. fault.bad lt (subst IsGood (each_same LINES_MAX index some all same lt) good);
}

is_fault_on : (arguments : Arguments) (text rest : List ℕ) (e : Error) → LINES_MAX < feeds_in text → IsFault arguments text e
    → IsFault arguments (text ++ rest) e
is_fault_on arguments text rest e many (inl none) = inl none
is_fault_on arguments text rest e many (inr (inl first)) =
    inr (inl (first.0, first.1, fault_on (lines text) (lines (text ++ rest)) first.0 (lines_on text rest LINES_MAX many) first.2))
is_fault_on arguments text rest e many (inr (inr script)) = absurd (omega (arith, script.1.few, (lines_on text rest LINES_MAX many).enough))

module _ {W : Type 0} (contents : W → Option (List ℕ)) (arguments : Arguments) (status : ℕ) (before after : W) where
  plays_on : (text rest : List ℕ) → LINES_MAX < feeds_in text → Plays contents arguments text status before after
      → Plays contents arguments (text ++ rest) status before after
  plays_on text rest many (inl refused) = inl (refused.0, is_fault_on arguments text rest refused.0 many refused.1, refused.2)
  plays_on text rest many (inr ran) = absurd (omega (arith, ran.4.few, (lines_on text rest LINES_MAX many).enough))

  plays_known : (bytes text rest : List ℕ) → bytes ≡ text ++ rest → (rest ≡ []) ⊎ (LINES_MAX < feeds_in text)
      → Plays contents arguments text status before after → PlaysInput contents arguments (Some bytes) status before after
  plays_known bytes text rest is (inl none) plays = (text, sym (is ∙ ap (λ (l : List ℕ). text ++ l) none ∙ append-nil text), plays)
  plays_known bytes text rest is (inr many) plays = (text ++ rest, sym is, plays_on text rest many plays)

  -- what is played of so much of the input is what is played of the whole
  pub plays_input : (input : Option (List ℕ)) (text : List ℕ) → IsEnough input text → Plays contents arguments text status before after
      → PlaysInput contents arguments input status before after
  plays_input None text enough plays = (text, tt, plays)
  plays_input (Some bytes) text enough plays = plays_known bytes text enough.0 enough.1 enough.2 plays
