-- What a scan asks for, and what is printed for it.
use Rattle.std.specs.Prelude.{[], Bool, codes, Err, false, if◌then◌else◌, length, List, nat_le, None, Ok, Option}
use Rattle.std.specs.Prelude.{Result, Some, true, ℕ, ◌++◌, ◌-◌, ◌&&◌, ◌^◌, ◌∷◌, ◌≡◌}
use Rattle.std.specs.Fmt.{decimal}
use Rattle.std.specs.Io.KnownBytes.{Appends}
use Rattle.std.specs.List.{flat_map}
use Rattle.std.specs.Option.{unwrap_or}
use Rattle.std.specs.declared.alloc.Global.{Global}
use Rattle.std.specs.declared.ops.Bound.{Bound}
use Rattle.std.specs.declared.ops.Bound.TheVariants.{Included, Unbounded}
use Rattle.record_values.specs.declared.error.Error.{Error}
use Rattle.record_values.specs.declared.error.Error.TheVariants.{KeyTooLong}
use Rattle.record_values.specs.declared.key.TheConstants.{KEY_MAX}
use Rattle.record_values.specs.declared.pair.Pair.{Pair}
use Rattle.record_values.specs.Entries.{Index}
use Rattle.model.specs.declared.life.Life.{Life}
use Rattle.core_scan.specs.Answered.{IsCountOf, IsPageOf}
use Rattle.core_scan.specs.Backward.{IsPageBackOf}
use Rattle.core_scan.specs.declared.range.KeyRange.{KeyRange}
use Rattle.core_scan.specs.declared.reading.Page.{Page}
use Rattle.program_script.specs.declared.scan.Scan.{Scan}
use Rattle.program_script.specs.declared.scan.Span.{Span}
use Rattle.program_script.specs.declared.scan.Span.TheVariants.{Between, From, Whole}
use Rattle.program_values.specs.Texts.{line_of, pair_text}
use Rattle.program_values.specs.declared.answer.Answer.TheVariants as answer
use Rattle.program_commands.specs.Store.{entries_of, life_of}
use Rattle.program_commands.specs.declared.outcome.Outcome.{Outcome}
use Rattle.program_commands.specs.declared.outcome.Outcome.TheVariants.{Other, Refused}
use Rattle.program_commands.specs.declared.pages.PageRequest.{PageRequest}
use Rattle.program_commands.specs.declared.store.Store.{Store}

-- whether a key has no more bytes than it may
abbrev pub fits : List ℕ → Bool
fits key = nat_le (length key) KEY_MAX

-- whether the keys that a scan gives do
abbrev pub keys_fit : Span → Bool
keys_fit Whole = true
keys_fit (From first) = fits first
keys_fit (Between first last) = fits first && fits last

-- the range of keys, which has both ends
abbrev pub range_of : Span → KeyRange
range_of Whole = record { from = Unbounded; to = Unbounded }
range_of (From first) = record { from = Included first; to = Unbounded }
range_of (Between first last) = record { from = Included first; to = Included last }

-- the bound that has this key, and the range; a key that is too long is refused
abbrev pub bound_asked : List ℕ → Result (Bound (List ℕ)) Error
bound_asked key = if fits key then Ok (Included key) else Err KeyTooLong

abbrev pub range_asked : Span → Result KeyRange Error
range_asked span = if keys_fit span then Ok (range_of span) else Err KeyTooLong

-- the page that a scan asks for, likewise; where no count is given it has as many pairs as it may
abbrev pub page_asked : Scan → Result PageRequest Error
page_asked scan =
    if keys_fit scan.span
    then Ok (record { range = range_of scan.span; is_back = scan.is_back; limit = unwrap_or scan.limit (2 ^ 64 - 1) })
    else Err KeyTooLong

-- an index answers this where the first page of a range is asked for, or where it is the last one, from its end
abbrev pub IsPageIn : {A : Type 0} → Bool → Index → Life → KeyRange → ℕ → Result (Page A) Error → Type 0
IsPageIn true entries life range limit answer = IsPageBackOf entries life range None limit answer
IsPageIn false entries life range limit answer = IsPageOf entries life range None limit answer

abbrev pub IsPageAsked : {A : Type 0} → Index → Life → PageRequest → Result (Page A) Error → Type 0
IsPageAsked entries life asked answer = IsPageIn asked.is_back entries life asked.range asked.limit answer

-- the line of a pair: its key and its place
abbrev pub pair_line : Pair → List ℕ
pair_line pair = pair_text pair ++ 10 ∷ []

-- the lines of pairs
abbrev pub pair_lines : List Pair → List ℕ
pair_lines pairs = flat_map pair_line pairs

-- the last line: whether more is left of the range, and behind which pair
abbrev pub end_line : Option Pair → List ℕ
end_line None = codes "end" ++ 10 ∷ []
end_line (Some next) = codes "more " ++ pair_text next ++ 10 ∷ []

-- a page
abbrev pub page_text : Page Global → List ℕ
page_text page = pair_lines page.pairs.items ++ end_line page.next

-- a number
abbrev pub number_line : ℕ → List ℕ
number_line n = decimal n ++ 10 ∷ []

-- what was asked for, printed so, or why there is none; and what came of that
abbrev pub printed : {A : Type 0} → (A → List ℕ) → Result A Error → List ℕ
printed text (Ok found) = text found
printed text (Err error) = line_of (answer.Refused error)

abbrev pub came_of : {A : Type 0} → Result A Error → Outcome
came_of (Ok found) = Other
came_of (Err error) = Refused error

module _ {D W : Type 0} (contents : W → Option (List ℕ)) (store : Store D) where
  -- The page of a range of the store's index that is asked for was printed, with as many pairs at most as are asked
  -- for, or why there is none.
  pub record PrintsPage (asked : PageRequest) (outcome : Outcome) (before after : W) : Type 0 where
    pub page : Result (Page Global) Error
    pub is_page : IsPageAsked (entries_of store) (life_of store) asked page
    pub prints : Appends (contents before) (contents after) (printed page_text page)
    pub came : outcome ≡ came_of page

  -- It was printed how many visible pairs the range has, or why that isn't known.
  pub record PrintsCount (range : KeyRange) (outcome : Outcome) (before after : W) : Type 0 where
    pub count : Result ℕ Error
    pub is_count : IsCountOf (entries_of store) (life_of store) range count
    pub prints : Appends (contents before) (contents after) (printed number_line count)
    pub came : outcome ≡ came_of count
