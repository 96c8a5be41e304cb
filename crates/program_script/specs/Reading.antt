-- Reading a line from left to right.
use Rattle.std.specs.Prelude.{◌≡◌, ◌⊎◌, ◌++◌, IsTrue, ℕ, ◌^◌, ◌==◌, ◌&&◌, nat_lt, nat_le, Bool, false, List, [], ◌∷◌}
use Rattle.std.specs.Prelude.{Option, Some, None, if◌then◌else◌, codes}
use Rattle.std.specs.List.{list_all, list_any}
use Rattle.std.specs.Char.{is_ascii_graphic, is_ascii_uppercase}
use Rattle.std.specs.Fmt.{decimal}
use Rattle.std.specs.Option.{option_map}
use Rattle.std.specs.Result.{result_ok}
use Rattle.std.specs.Str.{bytes_eq}
use Rattle.std.specs.Str.Parse.{digits_value}
use Rattle.hex.specs.Hex.{decode_of}
use Rattle.record_values.specs.Values.{Place}
use Rattle.record_values.specs.declared.rid.TheConstants.{SLOTS_PER_PAGE}
use Rattle.program_script.specs.declared.word.TheConstants.{STEPS_MAX}
use Rattle.program_script.specs.declared.fate.Fate.{Fate}
use Rattle.program_script.specs.declared.fate.Fate.TheVariants.{Old, New, Zero, Gate, Junk}
use Rattle.program_script.specs.declared.command.Command.{Command}
use Rattle.program_script.specs.declared.command.Command.TheVariants.{Begin, Insert, Delete, Update, Step, Undo, End}
use Rattle.program_script.specs.declared.command.Command.TheVariants.{Commit}
use Rattle.program_script.specs.declared.command.Command.TheVariants.{Create, Drop, Build, Clean, Flush, Image, Crash}
use Rattle.program_script.specs.declared.command.Command.TheVariants.{Get}
use Rattle.program_script.specs.declared.command.Command.TheVariants.{Find, Dump}
use Rattle.program_script.specs.Grammar.{parted_by, is_left_out, IsLineOf}

infixl 10 ◌>>=◌
abbrev pub ◌>>=◌ : {A B : Type 0} → Option A → (A → Option B) → Option B
(Some x) >>= f = f x
None >>= f = None

-- the parts of what is left
abbrev pub parts_left : ℕ → Option (List ℕ) → List (List ℕ)
parts_left separator None = []
parts_left separator (Some rest) = parted_by separator rest

-- the one word that is left
abbrev pub only : List (List ℕ) → Option (List ℕ)
only [] = None
only (word ∷ []) = Some word
only (word ∷ more ∷ rest) = None

-- the two words that are left
abbrev pub first_two : List (List ℕ) → Option (List ℕ × List ℕ)
first_two [] = None
first_two (first ∷ rest) = do
  second ← only rest
  Some (first, second)

-- the three words that are left
abbrev pub first_three : List (List ℕ) → Option (List ℕ × List ℕ × List ℕ)
first_three [] = None
first_three (first ∷ rest) = do
  two ← first_two rest
  Some (first, two.0, two.1)

-- the four words that are left
abbrev pub first_four : List (List ℕ) → Option (List ℕ × List ℕ × List ℕ × List ℕ)
first_four [] = None
first_four (first ∷ rest) = do
  three ← first_three rest
  Some (first, three.0, three.1, three.2)

-- a digit, or a digit from 1 and more
abbrev pub begins_as_number : List ℕ → Bool
begins_as_number [] = false
begins_as_number (digit ∷ []) = nat_le 48 digit && nat_le digit 57
begins_as_number (first ∷ second ∷ rest) = nat_le 49 first && nat_le first 57

-- a word that is how the number of its digits is written
unfoldable pub number_at : List ℕ → Option ℕ
number_at word = if nat_lt (digits_value 10 word) (2 ^ 32) && bytes_eq word (decimal (digits_value 10 word)) then Some
    (digits_value 10 word) else None

unfoldable pub txn_at : List ℕ → Option ℕ
txn_at word = do
  n ← number_at word
  if n == 0 then None else Some n

unfoldable pub count_at : List ℕ → Option ℕ
count_at word = do
  n ← number_at word
  if nat_le 1 n && nat_le n STEPS_MAX then Some n else None

-- a place of these two parts
abbrev pub place_at : List (List ℕ) → Option Place
place_at [] = None
place_at (first ∷ rest) = do
  page ← number_at first
  second ← only rest
  slot ← number_at second
  if nat_lt slot SLOTS_PER_PAGE then Some (record { page = page; slot = slot }) else None

unfoldable pub rid_at : List ℕ → Option Place
rid_at word = place_at (parted_by 46 word)

unfoldable pub hex_at : List ℕ → Option (List ℕ)
hex_at digits = if list_any is_ascii_uppercase digits then None else result_ok (decode_of digits)

unfoldable pub text_at : List ℕ → Option (List ℕ)
text_at [] = None
text_at (first ∷ rest) =
    if first == 61 then (if list_all is_ascii_graphic rest then Some rest else None)
    else if first == 58 then hex_at rest
    else None

-- graphic bytes, one at least
abbrev pub is_name : List ℕ → Bool
is_name [] = false
is_name (first ∷ rest) = is_ascii_graphic first && list_all is_ascii_graphic rest

unfoldable pub name_at : List ℕ → Option (List ℕ)
name_at word = if is_name word then Some word else None

-- the fate that a word names
abbrev pub fate_at : List ℕ → Option Fate
fate_at word =
    if bytes_eq word (codes "old") then Some Old
    else if bytes_eq word (codes "new") then Some New
    else if bytes_eq word (codes "zero") then Some Zero
    else if bytes_eq word (codes "a5") then Some Gate
    else if bytes_eq word (codes "junk") then Some Junk
    else None

-- a command that has no words
abbrev pub alone_at : Command → List (List ℕ) → Option Command
alone_at command [] = Some command
alone_at command (word ∷ rest) = None

unfoldable pub insert_at : List (List ℕ) → Option Command
insert_at args = do
  three ← first_three args
  txn ← txn_at three.0
  key ← text_at three.1
  body ← text_at three.2
  Some (Insert txn key body)

unfoldable pub delete_at : List (List ℕ) → Option Command
delete_at args = do
  two ← first_two args
  txn ← txn_at two.0
  rid ← rid_at two.1
  Some (Delete txn rid)

unfoldable pub update_at : List (List ℕ) → Option Command
update_at args = do
  four ← first_four args
  txn ← txn_at four.0
  rid ← rid_at four.1
  key ← text_at four.2
  body ← text_at four.3
  Some (Update txn rid key body)

unfoldable pub only_txn_at : List (List ℕ) → Option ℕ
only_txn_at args = do
  word ← only args
  txn_at word

-- one step where no count is given
unfoldable pub steps_at : List (List ℕ) → Option ℕ
steps_at [] = Some 1
steps_at (first ∷ rest) = do
  word ← only (first ∷ rest)
  count_at word

unfoldable pub crash_at : List (List ℕ) → Option Command
crash_at args = do
  word ← only args
  fate ← fate_at word
  Some (Crash fate)

unfoldable pub get_at : List (List ℕ) → Option Command
get_at args = do
  word ← only args
  rid ← rid_at word
  Some (Get rid)

unfoldable pub find_at : List (List ℕ) → Option Command
find_at args = do
  word ← only args
  key ← text_at word
  Some (Find key)

-- the commands that name no transaction, but for `begin`
unfoldable pub store_command_at : List ℕ → List (List ℕ) → Option Command
store_command_at verb args =
    if bytes_eq verb (codes "create") then alone_at Create args
    else if bytes_eq verb (codes "drop") then alone_at Drop args
    else if bytes_eq verb (codes "build") then option_map Build (steps_at args)
    else if bytes_eq verb (codes "clean") then option_map Clean (steps_at args)
    else if bytes_eq verb (codes "flush") then alone_at Flush args
    else if bytes_eq verb (codes "image") then alone_at Image args
    else if bytes_eq verb (codes "crash") then crash_at args
    else if bytes_eq verb (codes "get") then get_at args
    else if bytes_eq verb (codes "find") then find_at args
    else if bytes_eq verb (codes "dump") then alone_at Dump args
    else None

unfoldable pub command_at : List (List ℕ) → Option Command
command_at [] = None
command_at (verb ∷ args) =
    if bytes_eq verb (codes "begin") then alone_at Begin args
    else if bytes_eq verb (codes "insert") then insert_at args
    else if bytes_eq verb (codes "delete") then delete_at args
    else if bytes_eq verb (codes "update") then update_at args
    else if bytes_eq verb (codes "step") then option_map Step (only_txn_at args)
    else if bytes_eq verb (codes "undo") then option_map Undo (only_txn_at args)
    else if bytes_eq verb (codes "end") then option_map End (only_txn_at args)
    else if bytes_eq verb (codes "commit") then option_map Commit (only_txn_at args)
    else store_command_at verb args

-- the commands with the one of a line that is not left out
abbrev pub Adds : List ℕ → List Command → List Command → Type 0
Adds line old new = (IsTrue (is_left_out line) × (new ≡ old))
    ⊎ ((is_left_out line ≡ false) × (command : Command) × IsLineOf line command × (new ≡ old ++ command ∷ []))
