-- Where the copying of an image goes on behind a chunk.
use Rattle.std.specs.Prelude.{ℕ, ◌+◌, ◌-◌, nat_lt, if◌then◌else◌, Option, Some, None}
use Rattle.std.specs.Option.{option_map}
use Rattle.std.specs.List.{slice_get}
use Rattle.store_image_model.specs.declared.chunk.TheConstants.{CHUNK_ENTRIES}
use Rattle.store_image_model.specs.declared.chunk.CopyPlace.{CopyPlace}
use Rattle.store_image_model.specs.declared.chunk.CopyPlace.TheVariants as at
use Rattle.store_image_model.specs.declared.chunk.Piece.{Piece}
use Rattle.store_image_model.specs.declared.chunk.Piece.TheVariants.{Whole, Start, Page, Entries}

-- Behind the start comes the first page, behind a page the next one, behind the last page the first entries, and behind
-- a full chunk of entries those above its last.
abbrev pub place_behind : {A : Type 0} → ℕ → Piece A → Option CopyPlace
place_behind pages (Whole cells) = None
place_behind pages (Start life lists) = Some (at.Page 0)
place_behind pages (Page page rows) = Some (if nat_lt (page + 1) pages then at.Page (page + 1) else at.Entries None)
place_behind pages (Entries entries) = option_map (λ last. at.Entries (Some last.0))
    (slice_get entries.items (CHUNK_ENTRIES - 1))
