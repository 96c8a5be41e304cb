-- How many copies are left.
use Rattle.std.proofs.Common.{◌≡◌, inl, inr, ⊎_elim, ℕ, ◌+◌, ◌-◌, ◌/◌, ◌≤◌, ◌<◌, Bool, true, false, nat_lt, if◌then◌else◌, List, length, Option, None, Some}
use Rattle.std.proofs.Common.{slice_get, refl, sym, ◌∙◌, ap, subst, arith, ltb-true, ltb-false, le-ltb}
use Rattle.std.specs.Option.{option_map, option_map_or}
use Rattle.std.proofs.lemmas.Option.{slice_get_within}
use Rattle.record_values.specs.GeometryValue.{GeometryValue}
use Rattle.record_values.specs.declared.pair.Mark.{Mark}
use Rattle.record_values.specs.declared.pair.Pair.{Pair}
use Rattle.model.specs.Cells.{Cells}
use Rattle.model.specs.declared.life.Life.{Life}
use Rattle.core_copies.specs.Pieces.{IsPieceOf}
use Rattle.store_image_model.specs.declared.chunk.TheConstants.{CHUNK_ENTRIES}
use Rattle.store_image_model.specs.declared.chunk.CopyPlace.{CopyPlace}
use Rattle.store_image_model.specs.declared.chunk.CopyPlace.TheVariants as at
use Rattle.store_image_model.specs.declared.chunk.Piece.{Piece}
use Rattle.store_image_model.specs.declared.chunk.Piece.TheVariants.{Entries, Page, Start, Whole}
use Rattle.store_image_model.specs.Places.{place_behind}
use Rattle.core_parts.specs.View.{CoreValue}
use Rattle.store_writer.specs.Copying.{IsCopying, next_place}
use Rattle.store_writer.specs.Writer.{HasPiece, MustStartAgain}
use Rattle.store_writer.specs.declared.copying.Copying.{Copying}
use Rattle.store_writer.specs.declared.copying.Copying.TheVariants.{GivenUp, Idle, Steps}
use Rattle.store_writer.specs.declared.image.NewImage.{NewImage}
use Rattle.store_writer.specs.declared.image.Stage.TheVariants as stage
use Rattle.store_writer.specs.declared.writer.Writer.{Writer}
use Rattle.restart.specs.Copies.{copies_to_flip, entries_at, entries_copied, left_at, most_copies}

-- the piece of this place is due: the start always, and another as an image that is copied in steps is there
abbrev pub IsPieceDue : (pages : ℕ) → CopyPlace → Option NewImage → Type 0
IsPieceDue pages at.Start image = Unit {0}
IsPieceDue pages (at.Page page) image = IsCopying pages (Steps (Some (at.Page page))) image
IsPieceDue pages (at.Entries above) image = IsCopying pages (Steps (Some (at.Entries above))) image

-- where the copying goes on its piece is due
pub due_there : (pages : ℕ) (copying : Copying) (place : CopyPlace) (image : Option NewImage) → IsCopying pages copying image
    → next_place copying ≡ Some place → IsPieceDue pages place image
due_there pages copying at.Start image is next = tt
due_there pages Idle (at.Page page) image is next = absurd cc
due_there pages Idle (at.Entries above) image is next = absurd cc
due_there pages (Steps p) (at.Page page) image is next = subst (λ q. IsCopying pages (Steps q) image) next is
due_there pages (Steps p) (at.Entries above) image is next = subst (λ q. IsCopying pages (Steps q) image) next is
due_there pages GivenUp (at.Page page) image is next = absurd cc
due_there pages GivenUp (at.Entries above) image is next = absurd cc

-- ---- from a whole image on

module _ (last : ℕ) where
  pub flip_one : (image : NewImage) → last ≤ image.base → copies_to_flip last (Some image) ≡ 1
  flip_one image le = ap (λ b. if b then 2 else 1) (le-ltb image.base last le)

  flip_by : (b : Bool) → ((if b then 2 else 1) ≤ 2) × (1 ≤ (if b then 2 else 1))
  flip_by true = (omega arith, omega arith)
  flip_by false = (omega arith, omega arith)

  pub flip_bounds : (image : Option NewImage) → (copies_to_flip last image ≤ 2) × (1 ≤ copies_to_flip last image)
  flip_bounds None = (omega arith, omega arith)
  flip_bounds (Some image) = flip_by (nat_lt image.base last)

  -- where an image is whole, and still can't be made current
  pub two_left : (image : Option NewImage) → ((i : NewImage) → image ≡ Some i → last ≤ i.base → ⊥) → 2 ≤ copies_to_flip last image
  two_left None none = omega arith
  two_left (Some image) none = by (nat_lt image.base last) refl
    where
      by : (b : Bool) → nat_lt image.base last ≡ b → 2 ≤ (if b then 2 else 1)
      by true less = omega arith
      by false not = absurd (none image refl (ltb-false image.base last not))

module _ (g : GeometryValue) (last : ℕ) (image : Option NewImage) where
  pub at_next : (copying : Copying) (place : CopyPlace) → next_place copying ≡ Some place
      → left_at g last image copying ≡ left_at g last image (Steps (Some place))
  at_next Idle place same = ap (λ p. left_at g last image (Steps p)) same
  at_next (Steps p) place same = ap (λ p. left_at g last image (Steps p)) same
  at_next GivenUp place same = absurd cc

  -- there is one at least, and never more than a whole image takes
  pub left_bounds : (copying : Copying) → (1 ≤ left_at g last image copying) × (left_at g last image copying ≤ most_copies g)
  left_bounds Idle = (omega arith, omega arith)
  left_bounds (Steps None) = let f = flip_bounds last image in (f.1, omega (arith, f.0))
  left_bounds (Steps (Some at.Start)) = (omega arith, omega arith)
  left_bounds (Steps (Some (at.Page page))) = let f = flip_bounds last image in (omega (arith, f.1), omega (arith, f.0))
  left_bounds (Steps (Some (at.Entries above))) = let f = flip_bounds last image in (omega (arith, f.1), by_entries f.0)
    where
      by_entries : copies_to_flip last image ≤ 2
          → ((g.entries - entries_copied image) / CHUNK_ENTRIES + 1) + copies_to_flip last image ≤ g.pages + g.entries / CHUNK_ENTRIES + 3
      by_entries few = omega (arith, few)
  left_bounds GivenUp = (omega arith, omega arith)

  -- giving up leaves fewer, where a piece is due
  pub fewer_given_up : (copying : Copying) (place : CopyPlace) → next_place copying ≡ Some place → 1 < left_at g last image copying
  fewer_given_up copying place next = subst (λ n. 1 < n) (sym (at_next copying place next)) (at_place place)
    where
      at_place : (place : CopyPlace) → 1 < left_at g last image (Steps (Some place))
      at_place at.Start = omega arith
      at_place (at.Page page) = let f = flip_bounds last image in omega (arith, f.1)
      at_place (at.Entries above) = let f = flip_bounds last image in omega (arith, f.1)

-- ---- a piece was taken

-- a full chunk is a part of what the geometry has left
chunk_less : (room taken : ℕ) → CHUNK_ENTRIES ≤ taken → taken ≤ room → (room - taken) / CHUNK_ENTRIES < room / CHUNK_ENTRIES
chunk_less room taken full within = omega arith

module _ (g : GeometryValue) (last number : ℕ) (image : NewImage) where
  -- behind a page
  behind_page : (was : NewImage) (page : ℕ) → page < g.pages → entries_at was.stage ≡ 0 → image.base ≡ was.base → entries_at image.stage ≡ 0
      → (b : Bool) → nat_lt (page + 1) g.pages ≡ b
      → left_at g last (Some image) (Steps (Some (if b then at.Page (page + 1) else at.Entries None))) < left_at g last (Some was)
      (Steps (Some (at.Page page)))
  behind_page was page below none base still true more =
      let same : copies_to_flip last (Some image) ≡ copies_to_flip last (Some was) = ap (λ n. if nat_lt n last then 2 else 1) base in
      omega (arith, same, below)
  behind_page was page below none base still false all =
      let same : copies_to_flip last (Some image) ≡ copies_to_flip last (Some was) = ap (λ n. if nat_lt n last then 2 else 1) base in
      let rest : (g.entries - entries_at image.stage) / CHUNK_ENTRIES ≡ g.entries / CHUNK_ENTRIES = ap (λ n. n / CHUNK_ENTRIES) (omega (arith, still)) in
      omega (arith, same, below, rest)

  -- behind some entries
  behind_entries : (was : NewImage) (above : Option Pair) (pages count : ℕ) (life : Life) (entries : List (Pair × Mark)) → entries_at was.stage ≡ count
      → image.base ≡ was.base
      → (o : Option (Pair × Mark)) → slice_get entries (CHUNK_ENTRIES - 1) ≡ o
      → image.stage ≡ option_map_or (λ e. stage.Partly pages (count + length entries) (Some e.0) life) o stage.Whole
      → (CHUNK_ENTRIES ≤ length entries → count + length entries ≤ g.entries)
      → left_at g last (Some image) (Steps (option_map (λ e. at.Entries (Some e.0)) o)) < left_at g last (Some was) (Steps (Some (at.Entries above)))
  behind_entries was above pages count life entries counted base None some stage_is room =
      let same : copies_to_flip last (Some image) ≡ copies_to_flip last (Some was) = ap (λ n. if nat_lt n last then 2 else 1) base in
      omega (arith, same)
  behind_entries was above pages count life entries counted base (Some e) some stage_is room =
      let same : copies_to_flip last (Some image) ≡ copies_to_flip last (Some was) = ap (λ n. if nat_lt n last then 2 else 1) base in
      let full : CHUNK_ENTRIES ≤ length entries = omega (arith, slice_get_within entries (CHUNK_ENTRIES - 1) e some) in
      let now : entries_at image.stage ≡ count + length entries = ap entries_at stage_is in
      let less : (g.entries - count - length entries) / CHUNK_ENTRIES < (g.entries - count) / CHUNK_ENTRIES =
      chunk_less (g.entries - count) (length entries) full (omega (arith, room full)) in
      let here : (g.entries - entries_at image.stage) / CHUNK_ENTRIES ≡ (g.entries - count - length entries) / CHUNK_ENTRIES =
      ap (λ n. n / CHUNK_ENTRIES) (omega (arith, now)) in
      let before : (g.entries - entries_at was.stage) / CHUNK_ENTRIES ≡ (g.entries - count) / CHUNK_ENTRIES =
      ap (λ n. (g.entries - n) / CHUNK_ENTRIES) counted in
      omega (arith, same, less, here, before)

  module _ {A D M : Type 0} (w : Writer D M) (size : w.halves.geometry ≡ g) (v : CoreValue) (cells : Cells) where
    pub fewer_at : (place : CopyPlace) (piece : Piece A) → IsPieceOf v cells place piece → number ≡ last → IsPieceDue g.pages place w.image
        → ¬ MustStartAgain piece w → HasPiece number piece w image
        → left_at g last (Some image) (Steps (place_behind g.pages piece)) < left_at g last w.image (Steps (Some place))
    fewer_at at.Start (Start life lists) of told due may has =
        let one : copies_to_flip last (Some image) ≡ 1 = flip_one last image (omega (arith, has.0, told)) in
        omega (arith, one)
    fewer_at (at.Page page) (Page copied rows) of told due may (was, count, highest, life, was_is, at_stage, is) =
        ⊎_elim
        (λ none. absurd (may (inl none)))
        (λ there.
        let from : NewImage = there.1.0 in
        let same : was ≡ from = cc (was_is, there.1.2) in
        let count_is : count ≡ 0 = ap entries_at (sym at_stage ∙ ap (λ (i : NewImage). i.stage) same ∙ there.1.3) in
        subst (λ i. left_at g last (Some image) (Steps (place_behind {A = A} g.pages (Page copied rows))) < left_at g last i (Steps (Some (at.Page page))))
        (sym was_is)
        (subst (λ p. left_at g last (Some image) (Steps (Some (if nat_lt (p + 1) g.pages then at.Page (p + 1) else at.Entries None))) < left_at g last
        (Some was) (Steps (Some (at.Page page)))) (sym of.0)
        (behind_page was page there.0 (ap entries_at at_stage ∙ count_is) (ap (λ (i : NewImage). i.base) is) (ap (λ (i : NewImage). entries_at i.stage) is
        ∙ count_is) (nat_lt (page + 1) g.pages) refl)))
        due
    fewer_at (at.Entries above) (Entries entries) of told due may (was, pages, count, over, life, was_is, at_stage, is) =
        subst (λ i. left_at g last (Some image) (Steps (place_behind {A = A} g.pages (Entries entries))) < left_at g last i (Steps (Some (at.Entries above))))
        (sym was_is)
        (behind_entries was above pages count life entries.items (ap entries_at at_stage) (ap (λ (i : NewImage). i.base) is)
        (slice_get entries.items (CHUNK_ENTRIES - 1)) refl (ap (λ (i : NewImage). i.stage) is) (λ _. room))
      where
        room : count + length entries.items ≤ g.entries
        room = by (nat_lt g.entries (count + length entries.items)) refl
          where
            by : (b : Bool) → nat_lt g.entries (count + length entries.items) ≡ b → count + length entries.items ≤ g.entries
            by true less = absurd (may (inr (inr (
              was,
              pages,
              count,
              over,
              life,
              was_is,
              at_stage,
              subst (λ (x : GeometryValue). x.entries < count + length entries.items) (sym size) (ltb-true g.entries (count + length entries.items) less),
            ))))
            by false not = ltb-false g.entries (count + length entries.items) not
    fewer_at at.Start (Whole copied) of told due may has = absurd of
    fewer_at at.Start (Page page rows) of told due may has = absurd of
    fewer_at at.Start (Entries entries) of told due may has = absurd of
    fewer_at (at.Page page) (Whole copied) of told due may has = absurd of
    fewer_at (at.Page page) (Start life lists) of told due may has = absurd of
    fewer_at (at.Page page) (Entries entries) of told due may has = absurd of
    fewer_at (at.Entries above) (Whole copied) of told due may has = absurd of
    fewer_at (at.Entries above) (Start life lists) of told due may has = absurd of
    fewer_at (at.Entries above) (Page page rows) of told due may has = absurd of

    pub fewer_taken : (copying : Copying) (place : CopyPlace) (piece : Piece A) → next_place copying ≡ Some place → IsPieceOf v cells place piece
        → number ≡ last → IsPieceDue g.pages place w.image → ¬ MustStartAgain piece w → HasPiece number piece w image
        → left_at g last (Some image) (Steps (place_behind g.pages piece)) < left_at g last w.image copying
    fewer_taken copying place piece next of told due may has =
        subst (λ n. left_at g last (Some image) (Steps (place_behind g.pages piece)) < n) (sym (at_next g last w.image copying place next))
        (fewer_at place piece of told due may has)
