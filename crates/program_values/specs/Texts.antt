-- The lines that are printed. Places and bytes are spelled as words of scripts.
use Rattle.std.specs.Prelude.{ℕ, List, [], ◌∷◌, ◌++◌, Some, None, codes}
use Rattle.std.specs.Fmt.{decimal}
use Rattle.std.specs.List.{flat_map}
use Rattle.hex.specs.Hex.{encode_lower}
use Rattle.record_values.specs.Refusals.{number_of, name_of}
use Rattle.record_values.specs.declared.error.Error.{Error}
use Rattle.record_values.specs.declared.error.Error.TheVariants.{Damaged, BadScript}
use Rattle.record_values.specs.declared.row.Row.{Row}
use Rattle.record_values.specs.Values.{Place}
use Rattle.record_values.specs.declared.pair.Pair.{Pair}
use Rattle.record_values.specs.declared.pair.Mark.{Mark}
use Rattle.record_values.specs.declared.pair.Mark.TheVariants.{Live, Marked}
use Rattle.model.specs.declared.life.Life.{Life}
use Rattle.model.specs.declared.life.Life.TheVariants.{Absent, Building, Complete}
use Rattle.program_script.specs.Grammar.{rid_text}
use Rattle.program_values.specs.declared.step.Step.{Step}
use Rattle.program_values.specs.declared.step.Step.TheVariants as step
use Rattle.program_values.specs.declared.answer.Answer.{Answer}
use Rattle.program_values.specs.declared.answer.Answer.TheVariants as answer

-- `:` and two lower-case hexadecimal digits for each byte
abbrev pub bytes_text : List ℕ → List ℕ
bytes_text bytes = 58 ∷ encode_lower bytes

-- key and body
abbrev pub row_text : Row → List ℕ
row_text row = bytes_text row.key ++ codes " " ++ bytes_text row.body

-- key and place
abbrev pub pair_text : Pair → List ℕ
pair_text pair = bytes_text pair.key ++ codes " " ++ rid_text pair.rid

-- each place with a space before it
abbrev pub further_text : List Place → List ℕ
further_text rids = flat_map (λ rid. codes " " ++ rid_text rid) rids

-- the places, parted by spaces, or `-` where there is none
abbrev pub places_text : List Place → List ℕ
places_text [] = codes "-"
places_text (rid ∷ rids) = rid_text rid ++ further_text rids

-- an entry: its mark, and its pair
abbrev pub entry_text : Pair → Mark → List ℕ
entry_text pair Live = codes "live " ++ pair_text pair
entry_text pair Marked = codes "marked " ++ pair_text pair

-- the index's life
abbrev pub life_text : Life → List ℕ
life_text Absent = codes "none"
life_text (Building None) = codes "building -"
life_text (Building (Some pair)) = codes "building " ++ pair_text pair
life_text Complete = codes "complete"

-- the sector or the line that a refusal names
abbrev pub named_by : Error → List ℕ
named_by (Damaged sector) = codes " " ++ decimal sector
named_by (BadScript line) = codes " " ++ decimal line
named_by _ = []

-- its number and its name, and what it names
abbrev pub refusal_text : Error → List ℕ
refusal_text error = decimal (number_of error) ++ codes " " ++ name_of error ++ named_by error

-- what a step of the builder or of the cleaner did
abbrev pub step_text : Step → List ℕ
step_text (step.Scanned page) = codes "scanned " ++ decimal page
step_text (step.Placed pair) = codes "placed " ++ pair_text pair
step_text (step.Rejected pair) = codes "rejected " ++ pair_text pair
step_text (step.Marked pair number) = codes "marked " ++ pair_text pair ++ codes " ticket " ++ decimal number
step_text (step.Completed number) = codes "done ticket " ++ decimal number
step_text step.Idle = codes "idle"
step_text (step.Cleaned pair) = codes "cleaned " ++ pair_text pair
step_text (step.Kept pair) = codes "kept " ++ pair_text pair
step_text step.Wrapped = codes "wrapped"

-- the text of an answer
abbrev pub answer_text : Answer → List ℕ
answer_text (answer.Txn txn) = codes "txn " ++ decimal txn
answer_text (answer.Rid rid) = codes "rid " ++ rid_text rid
answer_text answer.Done = codes "ok"
answer_text answer.Undone = codes "undone"
answer_text answer.Empty = codes "empty"
answer_text (answer.Ticket number) = codes "ticket " ++ decimal number
answer_text (answer.Made step) = step_text step
answer_text (answer.Horizon number) = codes "horizon " ++ decimal number
answer_text answer.Flipped = codes "flipped"
answer_text (answer.Row row) = codes "row " ++ row_text row
answer_text answer.NoRow = codes "none"
answer_text (answer.Found rids) = places_text rids.items
answer_text (answer.Several rids) = codes "refused several " ++ places_text rids.items
answer_text (answer.Life life) = codes "life " ++ life_text life
answer_text (answer.RowAt rid row) = codes "row " ++ rid_text rid ++ codes " " ++ row_text row
answer_text (answer.Entry pair mark) = entry_text pair mark
answer_text (answer.Restart life) = codes "restart " ++ life_text life
answer_text answer.Stopped = codes "stopped"
answer_text answer.Skipped = codes "skipped"
answer_text (answer.Refused error) = codes "refused " ++ refusal_text error

-- the answer, as a line of the output
abbrev pub line_of : Answer → List ℕ
line_of answer = answer_text answer ++ 10 ∷ []
