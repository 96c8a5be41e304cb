-- Each command that a script can give has a line.
use Rattle.std.specs.Prelude.{codes}
use Rattle.std.proofs.Common.{◌≡◌, ℕ, suc, ◌/◌, ◌%◌, ◌^◌, ◌<◌, Bool, true, false, not, eqb, List, [], ◌∷◌, get_or, refl, ap, ◌∙◌, arith, inr}
use Rattle.std.specs.Fmt.{decimal}
use Rattle.std.specs.List.{All, list_all, join_with_byte}
use Rattle.std.proofs.lemmas.Bool.{not-true, agree_below_at}
use Rattle.std.proofs.lemmas.List.Elements.{All-nil, All-cons, All-append, All-weaker}
use Rattle.std.proofs.lemmas.List.Splits.{slice_split_at, slice_split_none}
use Rattle.std.proofs.lemmas.List.Sums.{AllPass-from_list_all}
use Rattle.hex.specs.Hex.{IsBytes, lower_digits, encode_with, encode_lower}
use Rattle.record_values.specs.Values.{Place}
use Rattle.program_script.specs.declared.fate.Fate.{Fate}
use Rattle.program_script.specs.declared.fate.Fate.TheVariants.{Old, New, Zero, Gate, Junk}
use Rattle.program_script.specs.declared.command.Command.{Command}
use Rattle.program_script.specs.declared.command.Command.TheVariants.{Begin, Insert, Delete, Update, Step, Undo, End, Commit, Create, Drop, Build, Clean, Flush}
use Rattle.program_script.specs.declared.command.Command.TheVariants.{Image}
use Rattle.program_script.specs.declared.command.Command.TheVariants.{Crash, Get, Find, Dump}
use Rattle.program_script.specs.Grammar.{words, IsRid, rid_text, fate_name, IsLineOf, CanBeGiven}
use Rattle.program_script.proofs.Numbers.{no_such_byte}

-- ---- words without a space

abbrev HasNoSpace : List ℕ → Type 0
HasNoSpace word = All (λ c. eqb c 32 ≡ false) word

by_test : (word : List ℕ) → list_all (λ c. not (eqb c 32)) word ≡ true → HasNoSpace word
by_test word h = All-weaker (λ c. not (eqb c 32) ≡ true) (λ c. eqb c 32 ≡ false) (λ c. not-true (eqb c 32)) word
    (AllPass-from_list_all (λ c. not (eqb c 32)) word h)

fate_has_no_space : (fate : Fate) → HasNoSpace (fate_name fate)
fate_has_no_space Old = by_test (codes "old") refl
fate_has_no_space New = by_test (codes "new") refl
fate_has_no_space Zero = by_test (codes "zero") refl
fate_has_no_space Gate = by_test (codes "a5") refl
fate_has_no_space Junk = by_test (codes "junk") refl

number_has_no_space : (n : ℕ) → n < 2 ^ 32 → HasNoSpace (decimal n)
number_has_no_space n lt = no_such_byte 32 n (omega arith) lt

rid_has_no_space : (rid : Place) → IsRid rid → HasNoSpace (rid_text rid)
rid_has_no_space rid h =
    All-append (λ c. eqb c 32 ≡ false) (decimal rid.page) (46 ∷ decimal rid.slot) (number_has_no_space rid.page h.0)
    (All-cons (λ c. eqb c 32 ≡ false) 46 (decimal rid.slot) refl (number_has_no_space rid.slot (omega (arith, h.1))))

abbrev digit_test : ℕ → Bool
digit_test d = not (eqb (get_or lower_digits d 0) 32)

abbrev always : ℕ → Bool
always n = true

digit_is_no_space : (d : ℕ) → d < 16 → eqb (get_or lower_digits d 0) 32 ≡ false
digit_is_no_space d lt = not-true _ (agree_below_at digit_test always 16 d refl lt)

hex_has_no_space : (bytes : List ℕ) → IsBytes bytes → HasNoSpace (encode_lower bytes)
unfolding encode_with
hex_has_no_space [] fits = All-nil (λ c. eqb c 32 ≡ false)
hex_has_no_space (b ∷ rest) fits =
    let first : b < 256 = fits 0 in
    let more = All-cons (λ c. eqb c 32 ≡ false) (get_or lower_digits (b % 16) 0) (encode_lower rest) (digit_is_no_space (b % 16) (omega arith))
    (hex_has_no_space rest (λ i. fits (suc i))) in
    All-cons (λ c. eqb c 32 ≡ false) (get_or lower_digits (b / 16) 0) (get_or lower_digits (b % 16) 0 ∷ encode_lower rest)
    (digit_is_no_space (b / 16) (omega arith)) more

text_has_no_space : (bytes : List ℕ) → IsBytes bytes → HasNoSpace (58 ∷ encode_lower bytes)
text_has_no_space bytes fits = All-cons (λ c. eqb c 32 ≡ false) 58 (encode_lower bytes) refl (hex_has_no_space bytes fits)

-- ---- words with single spaces between them

abbrev HaveNoSpace : List (List ℕ) → Type 0
HaveNoSpace [] = Unit {0}
HaveNoSpace (word ∷ more) = HasNoSpace word × HaveNoSpace more

spaced : (word : List ℕ) (more : List (List ℕ)) → HaveNoSpace (word ∷ more) → words (join_with_byte 32 (word ∷ more)) ≡ word ∷ more
spaced word [] h = slice_split_none (λ b. eqb b 32) word h.0
spaced word (next ∷ more) h =
    slice_split_at (λ b. eqb b 32) word 32 (join_with_byte 32 (next ∷ more)) h.0 refl
    ∙ ap (λ (t : List (List ℕ)). word ∷ t) (spaced next more h.1)

pub line_of : (command : Command) → CanBeGiven command → (line : List ℕ) × IsLineOf line command
line_of Begin h = (codes "begin", refl)
line_of (Insert txn key body) h =
    let k = 58 ∷ encode_lower key in
    let b = 58 ∷ encode_lower body in
    let is = spaced (codes "insert") (decimal txn ∷ k ∷ b ∷ []) (
      by_test (codes "insert") refl,
      (number_has_no_space txn h.0.1, (text_has_no_space key h.1, (text_has_no_space body h.2, tt))),
    ) in
    (join_with_byte 32 (codes "insert" ∷ decimal txn ∷ k ∷ b ∷ []), (k, b, is, h.0, inr (refl, h.1), inr (refl, h.2)))
line_of (Delete txn rid) h = (
  join_with_byte 32 (codes "delete" ∷ decimal txn ∷ rid_text rid ∷ []),
  (
    spaced (codes "delete") (decimal txn ∷ rid_text rid ∷ []) (
      by_test (codes "delete") refl,
      (number_has_no_space txn h.0.1, (rid_has_no_space rid h.1, tt)),
    ),
    h.0,
    h.1,
  ),
)
line_of (Update txn rid key body) h =
    let k = 58 ∷ encode_lower key in
    let b = 58 ∷ encode_lower body in
    let is = spaced (codes "update") (decimal txn ∷ rid_text rid ∷ k ∷ b ∷ []) (
      by_test (codes "update") refl,
      (number_has_no_space txn h.0.1, (rid_has_no_space rid h.1, (text_has_no_space key h.2, (text_has_no_space body h.3, tt)))),
    ) in
    (join_with_byte 32 (codes "update" ∷ decimal txn ∷ rid_text rid ∷ k ∷ b ∷ []), (k, b, is, h.0, h.1, inr (refl, h.2), inr (refl, h.3)))
line_of (Step txn) h = (
  join_with_byte 32 (codes "step" ∷ decimal txn ∷ []),
  (spaced (codes "step") (decimal txn ∷ []) (by_test (codes "step") refl, (number_has_no_space txn h.1, tt)), h),
)
line_of (Undo txn) h = (
  join_with_byte 32 (codes "undo" ∷ decimal txn ∷ []),
  (spaced (codes "undo") (decimal txn ∷ []) (by_test (codes "undo") refl, (number_has_no_space txn h.1, tt)), h),
)
line_of (End txn) h = (
  join_with_byte 32 (codes "end" ∷ decimal txn ∷ []),
  (spaced (codes "end") (decimal txn ∷ []) (by_test (codes "end") refl, (number_has_no_space txn h.1, tt)), h),
)
line_of (Commit txn) h = (
  join_with_byte 32 (codes "commit" ∷ decimal txn ∷ []),
  (spaced (codes "commit") (decimal txn ∷ []) (by_test (codes "commit") refl, (number_has_no_space txn h.1, tt)), h),
)
line_of Create h = (codes "create", refl)
line_of Drop h = (codes "drop", refl)
line_of (Build count) h = (
  join_with_byte 32 (codes "build" ∷ decimal count ∷ []),
  inr (spaced (codes "build") (decimal count ∷ []) (by_test (codes "build") refl, (number_has_no_space count (omega (arith, h.1)), tt)), h),
)
line_of (Clean count) h = (
  join_with_byte 32 (codes "clean" ∷ decimal count ∷ []),
  inr (spaced (codes "clean") (decimal count ∷ []) (by_test (codes "clean") refl, (number_has_no_space count (omega (arith, h.1)), tt)), h),
)
line_of Flush h = (codes "flush", refl)
line_of Image h = (codes "image", refl)
line_of (Crash fate) h = (
  join_with_byte 32 (codes "crash" ∷ fate_name fate ∷ []),
  spaced (codes "crash") (fate_name fate ∷ []) (by_test (codes "crash") refl, (fate_has_no_space fate, tt)),
)
line_of (Get rid) h = (
  join_with_byte 32 (codes "get" ∷ rid_text rid ∷ []),
  (spaced (codes "get") (rid_text rid ∷ []) (by_test (codes "get") refl, (rid_has_no_space rid h, tt)), h),
)
line_of (Find key) h =
    let k = 58 ∷ encode_lower key in
    (join_with_byte 32 (codes "find" ∷ k ∷ []), (k, spaced (codes "find") (k ∷ []) (by_test (codes "find") refl, (text_has_no_space key h, tt)), inr (refl, h)))
line_of Dump h = (codes "dump", refl)
