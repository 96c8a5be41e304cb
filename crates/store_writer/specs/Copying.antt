-- Where the copying of an image is.
use Rattle.std.specs.Prelude.{◌≡◌, ◌⊎◌, ◌+◌, ◌-◌, ◌/◌, ℕ, nat_lt, if◌then◌else◌, List, slice_get, Option, Some, None}
use Rattle.std.specs.Option.{option_map}
use Rattle.record_values.specs.GeometryValue.{GeometryValue}
use Rattle.record_values.specs.declared.pair.Mark.{Mark}
use Rattle.record_values.specs.declared.pair.Pair.{Pair}
use Rattle.store_image_model.specs.declared.chunk.TheConstants.{CHUNK_ENTRIES}
use Rattle.store_image_model.specs.declared.chunk.CopyPlace.{CopyPlace}
use Rattle.store_image_model.specs.declared.chunk.CopyPlace.TheVariants as at
use Rattle.store_writer.specs.Places.{IsAtPlace}
use Rattle.store_writer.specs.declared.copying.Copying.{Copying}
use Rattle.store_writer.specs.declared.copying.Copying.TheVariants.{Idle, Steps, GivenUp}
use Rattle.store_writer.specs.declared.image.NewImage.{NewImage}

-- An image is under way only while one is copied in steps. It is at its place then, unless a flush gave it up.
abbrev pub IsCopying : (pages : ℕ) → Copying → Option NewImage → Type 0
IsCopying pages Idle image = image ≡ None
IsCopying pages (Steps place) image = (image ≡ None) ⊎ IsAtPlace pages place image
IsCopying pages GivenUp image = image ≡ None

-- The place of the piece that comes next. There is none where the image is whole, and where it was given up.
abbrev pub next_place : Copying → Option CopyPlace
next_place Idle = Some at.Start
next_place (Steps place) = place
next_place GivenUp = None

-- what `place_behind` tells of a page and of entries (no public clause cites these)
abbrev pub page_behind : (pages page : ℕ) → Option CopyPlace
page_behind pages page = Some (if nat_lt (page + 1) pages then at.Page (page + 1) else at.Entries None)

abbrev pub entries_behind : List (Pair × Mark) → Option CopyPlace
entries_behind entries = option_map (λ last. at.Entries (Some last.0)) (slice_get entries (CHUNK_ENTRIES - 1))

-- the most steps that an image takes: its start, its pages, its entries by chunks of which the last one isn't full, and
-- the flip
abbrev pub steps_of_image : GeometryValue → ℕ
steps_of_image g = g.pages + g.entries / CHUNK_ENTRIES + 3
