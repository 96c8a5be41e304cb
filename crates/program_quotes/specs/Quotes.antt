-- Where in a text of comma-separated fields a byte stands, and whether the text ends inside a quote.
use Rattle.std.specs.Prelude.{Bool, false, fold, if◌then◌else◌, List, min, nat_lt, not, true, ℕ}
use Rattle.std.specs.Prelude.{◌&&◌, ◌+◌, ◌-◌, ◌==◌, ◌^◌, ◌||◌}
use Rattle.program_quotes.specs.declared.source.TheConstants.{RECORD_MAX}
use Rattle.program_quotes.specs.declared.source.Place.{Place}
use Rattle.program_quotes.specs.declared.source.Place.TheVariants as at
use Rattle.program_quotes.specs.declared.source.Watched.{Watched}

-- outside of quotes a field ends with a comma, a carriage return or a line feed
abbrev pub ends_field : ℕ → Bool
ends_field byte = ((byte == 44) || (byte == 13)) || (byte == 10)

abbrev pub place_outside : ℕ → Place
place_outside byte = if ends_field byte then at.FieldStart else at.InField

-- a quote opens only as the first byte of a field
abbrev pub place_of_first : ℕ → Place
place_of_first byte = if byte == 34 then at.InQuote else place_outside byte

abbrev pub place_in_mark : ℕ → ℕ → Place → Place
place_in_mark byte wanted next = if byte == wanted then next else place_outside byte

-- Where the byte behind this one stands. A byte order mark at the start of the text is passed over; two quotes within
-- quotes stand for one.
abbrev pub place_then : Place → ℕ → Place
place_then at.TextStart byte = if byte == 239 then at.MarkSecond else place_of_first byte
place_then at.MarkSecond byte = place_in_mark byte 187 at.MarkThird
place_then at.MarkThird byte = place_in_mark byte 191 at.FieldStart
place_then at.FieldStart byte = place_of_first byte
place_then at.InField byte = place_outside byte
place_then at.InQuote byte = if byte == 34 then at.BehindQuote else at.InQuote
place_then at.BehindQuote byte = place_in_mark byte 34 at.InQuote

-- the same behind these bytes
abbrev pub place_after : Place → List ℕ → Place
place_after place bytes = fold place_then place bytes

abbrev pub is_in_quote : Place → Bool
is_in_quote at.InQuote = true
is_in_quote other = false

-- outside of quotes a record ends with a carriage return or a line feed
abbrev pub ends_record : Place → ℕ → Bool
ends_record place byte = not (is_in_quote place) && ((byte == 13) || (byte == 10))

-- where the byte behind this one stands, and how many bytes a record has by then, if it has more than none
abbrev pub counted_then : Place × ℕ → ℕ → Place × ℕ
counted_then so_far byte = (
  place_then so_far.0 byte,
  if ends_record so_far.0 byte then 0 else min (so_far.1 + 1) (2 ^ 64 - 1),
)

-- how many bytes a record has behind these, of which it had so many before
abbrev pub record_after : Place → ℕ → List ℕ → ℕ
record_after place before bytes = (fold counted_then (place, before) bytes).1

module _ {R : Type 0} where
  -- the source that is watched, where its next byte stands, and whether its last read gave none
  abbrev pub source_under : Watched R → R
  source_under w = w.source

  abbrev pub place_in : Watched R → Place
  place_in w = w.place

  abbrev pub has_ended : Watched R → Bool
  has_ended w = w.has_ended

  -- how many bytes its reads gave
  abbrev pub passed_in : Watched R → ℕ
  passed_in w = w.passed

  -- how many bytes the record has that is being read
  abbrev pub record_in : Watched R → ℕ
  record_in w = w.record

  -- they are too many
  abbrev pub is_too_long : Watched R → Bool
  is_too_long w = nat_lt RECORD_MAX (record_in w)

  -- the text ended inside a quote
  abbrev pub is_cut_off : Watched R → Bool
  is_cut_off w = has_ended w && is_in_quote (place_in w)
