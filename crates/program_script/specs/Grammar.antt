-- The grammar of scripts.
use Rattle.std.specs.Prelude.{◌≡◌, ℕ, ◌^◌, ◌<◌, ◌≤◌, ◌==◌, ◌⊎◌, ◌++◌, Bool, true, not, IsTrue, List, [], ◌∷◌, length}
use Rattle.std.specs.Prelude.{take, slice_index_or, codes}
use Rattle.std.specs.List.{All, AllZip, filter, slice_split}
use Rattle.std.specs.Char.{IsAsciiGraphic}
use Rattle.std.specs.Fmt.{decimal}
use Rattle.std.specs.Io.BufRead.{strip_last}
use Rattle.hex.specs.Hex.{encode_lower, IsBytes}
use Rattle.record_values.specs.Values.{Place}
use Rattle.record_values.specs.declared.rid.TheConstants.{SLOTS_PER_PAGE}
use Rattle.program_script.specs.declared.lines.TheConstants.{LINES_MAX}
use Rattle.program_script.specs.declared.word.TheConstants.{STEPS_MAX}
use Rattle.program_script.specs.declared.fate.Fate.{Fate}
use Rattle.program_script.specs.declared.fate.Fate.TheVariants.{Old, New, Zero, Gate, Junk}
use Rattle.program_script.specs.declared.command.Command.{Command}
use Rattle.program_script.specs.declared.command.Command.TheVariants.{Begin, Insert, Delete, Update, Step, Undo, End}
use Rattle.program_script.specs.declared.command.Command.TheVariants.{Commit}
use Rattle.program_script.specs.declared.command.Command.TheVariants.{Create, Drop, Build, Clean, Flush, Image, Crash}
use Rattle.program_script.specs.declared.command.Command.TheVariants.{Get}
use Rattle.program_script.specs.declared.command.Command.TheVariants.{Find, Dump}

-- the parts of a text between its separators: with none, the text itself
abbrev pub parted_by : ℕ → List ℕ → List (List ℕ)
parted_by separator text = slice_split (λ b. b == separator) text

-- the lines of a script are parted by line feeds; one at the very end begins no further line
abbrev pub lines : List ℕ → List (List ℕ)
lines text = parted_by 10 (strip_last 10 text)

-- the words of a line are parted by single spaces
abbrev pub words : List ℕ → List (List ℕ)
words line = parted_by 32 line

-- an empty line, or one that begins with `#`
abbrev pub is_left_out : List ℕ → Bool
is_left_out [] = true
is_left_out (first ∷ rest) = first == 35

-- the numbers that a transaction may have in a script
abbrev pub IsTxn : ℕ → Type 0
IsTxn txn = (1 ≤ txn) × (txn < 2 ^ 32)

-- how many steps a command may ask for
abbrev pub IsCount : ℕ → Type 0
IsCount count = (1 ≤ count) × (count ≤ STEPS_MAX)

-- the places that a row may have
abbrev pub IsRid : Place → Type 0
IsRid rid = (rid.page < 2 ^ 32) × (rid.slot < SLOTS_PER_PAGE)

-- a page and a slot in decimal, with a point between them
abbrev pub rid_text : Place → List ℕ
rid_text rid = decimal rid.page ++ 46 ∷ decimal rid.slot

-- `=` and graphic bytes as they stand, or `:` and bytes in lower-case hexadecimal digits
abbrev pub IsByteText : List ℕ → List ℕ → Type 0
IsByteText word bytes = ((word ≡ 61 ∷ bytes) × All IsAsciiGraphic bytes)
    ⊎ ((word ≡ 58 ∷ encode_lower bytes) × IsBytes bytes)

-- the words that name a file: graphic bytes, one at least
abbrev pub IsName : List ℕ → Type 0
IsName name = (0 < length name) × All IsAsciiGraphic name

-- the name of each fate
abbrev pub fate_name : Fate → List ℕ
fate_name Old = codes "old"
fate_name New = codes "new"
fate_name Zero = codes "zero"
fate_name Gate = codes "a5"
fate_name Junk = codes "junk"

-- a name and how many steps are asked for; a name alone asks for one
abbrev pub SpellSteps : List ℕ → List (List ℕ) → ℕ → Type 0
SpellSteps name words count = ((words ≡ name ∷ []) × (count ≡ 1))
    ⊎ ((words ≡ name ∷ decimal count ∷ []) × IsCount count)

-- the words of a line spell a command
abbrev pub Spell : List (List ℕ) → Command → Type 0
Spell words Begin = words ≡ codes "begin" ∷ []
Spell words (Insert txn key body) = (k b : List ℕ) × (words ≡ codes "insert" ∷ decimal txn ∷ k ∷ b ∷ []) × IsTxn txn
    × IsByteText k key × IsByteText b body
Spell words (Delete txn rid) = (words ≡ codes "delete" ∷ decimal txn ∷ rid_text rid ∷ []) × IsTxn txn × IsRid rid
Spell words (Update txn rid key body) = (k b : List ℕ)
    × (words ≡ codes "update" ∷ decimal txn ∷ rid_text rid ∷ k ∷ b ∷ []) × IsTxn txn × IsRid rid × IsByteText k key
    × IsByteText b body
Spell words (Step txn) = (words ≡ codes "step" ∷ decimal txn ∷ []) × IsTxn txn
Spell words (Undo txn) = (words ≡ codes "undo" ∷ decimal txn ∷ []) × IsTxn txn
Spell words (End txn) = (words ≡ codes "end" ∷ decimal txn ∷ []) × IsTxn txn
Spell words (Commit txn) = (words ≡ codes "commit" ∷ decimal txn ∷ []) × IsTxn txn
Spell words Create = words ≡ codes "create" ∷ []
Spell words Drop = words ≡ codes "drop" ∷ []
Spell words (Build count) = SpellSteps (codes "build") words count
Spell words (Clean count) = SpellSteps (codes "clean") words count
Spell words Flush = words ≡ codes "flush" ∷ []
Spell words Image = words ≡ codes "image" ∷ []
Spell words (Crash fate) = words ≡ codes "crash" ∷ fate_name fate ∷ []
Spell words (Get rid) = (words ≡ codes "get" ∷ rid_text rid ∷ []) × IsRid rid
Spell words (Find key) = (k : List ℕ) × (words ≡ codes "find" ∷ k ∷ []) × IsByteText k key
Spell words Dump = words ≡ codes "dump" ∷ []

-- a line is this command: its words, parted by single spaces, spell it
abbrev pub IsLineOf : List ℕ → Command → Type 0
IsLineOf line command = Spell (words line) command

-- the lines that are not left out
abbrev pub kept : List (List ℕ) → List (List ℕ)
kept lines = filter (λ line. not (is_left_out line)) lines

-- a line that is left out or a command
abbrev pub IsGood : List ℕ → Type 0
IsGood line = IsTrue (is_left_out line) ⊎ ((command : Command) × IsLineOf line command)

-- a script of these commands: as many lines as may be, and each that is not left out is its command, in order
pub record IsScript (lines : List (List ℕ)) (commands : List Command) : Type 0 where
  pub few : length lines ≤ LINES_MAX
  pub each : AllZip IsLineOf (kept lines) commands

-- the line of this index, from 0, is the first fault: all before it are good, and it is not, or it is one too many
pub record IsFirstFault (lines : List (List ℕ)) (index : ℕ) : Type 0 where
  pub is_there : index < length lines
  pub good_before : All IsGood (take index lines)
  pub within : index ≤ LINES_MAX
  pub bad : index < LINES_MAX → IsGood (slice_index_or lines index []) → ⊥

-- the commands that a script can give: their numbers are within the limits, and their bytes are bytes
abbrev pub CanBeGiven : Command → Type 0
CanBeGiven Begin = Unit {0}
CanBeGiven (Insert txn key body) = IsTxn txn × IsBytes key × IsBytes body
CanBeGiven (Delete txn rid) = IsTxn txn × IsRid rid
CanBeGiven (Update txn rid key body) = IsTxn txn × IsRid rid × IsBytes key × IsBytes body
CanBeGiven (Step txn) = IsTxn txn
CanBeGiven (Undo txn) = IsTxn txn
CanBeGiven (End txn) = IsTxn txn
CanBeGiven (Commit txn) = IsTxn txn
CanBeGiven Create = Unit {0}
CanBeGiven Drop = Unit {0}
CanBeGiven (Build count) = IsCount count
CanBeGiven (Clean count) = IsCount count
CanBeGiven Flush = Unit {0}
CanBeGiven Image = Unit {0}
CanBeGiven (Crash _) = Unit {0}
CanBeGiven (Get rid) = IsRid rid
CanBeGiven (Find key) = IsBytes key
CanBeGiven Dump = Unit {0}
