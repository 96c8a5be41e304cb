-- What a copy of the core is to the writer, and what is answered to it.
use Rattle.std.proofs.Common.{[], ◌≡◌, ◌≢◌, ◌⊎◌, false, ℕ, ◌-◌, ◌/◌, ◌≤◌, ◌<◌, List, ◌++◌, Option, None, Some, IfSome, length, take, sym, ◌∙◌, ap}
use Rattle.std.proofs.Common.{subst, arith, append-nil, ⊎_elim}
use Rattle.std.proofs.lemmas.List.{take_all}
use Rattle.record_values.specs.GeometryValue.{GeometryValue}
use Rattle.records.specs.RecordValue.{RecordValue}
use Rattle.record_values.specs.declared.number.TheConstants.{LAST_NUMBER}
use Rattle.record_values.specs.declared.pair.Mark.{Mark}
use Rattle.record_values.specs.declared.pair.Pair.{Pair}
use Rattle.model.specs.Cells.{Cells, cells_after}
use Rattle.model.specs.Inside.{AreInside}
use Rattle.model.specs.Redo.{cells_of}
use Rattle.model.specs.Table.{Table}
use Rattle.core_model.specs.Records.{HasCells}
use Rattle.core_model.specs.States.{State}
use Rattle.core_model.specs.Events.{Standing}
use Rattle.core_copies.specs.Lists.{HasLists}
use Rattle.core_copies.specs.Pieces.{IsPieceOf, IsWholeOf}
use Rattle.core_copies.specs.Shown.{IsCellsOf, IsOfGeometry}
use Rattle.flip_image.specs.Layout.{other}
use Rattle.gate_log.specs.Area.{Log}
use Rattle.store_image_model.specs.Run.{Run, cells_at, end_of, records_above}
use Rattle.store_image_model.specs.declared.chunk.CopyPlace.{CopyPlace}
use Rattle.store_image_model.specs.declared.chunk.CopyPlace.TheVariants as at
use Rattle.store_image_model.specs.declared.chunk.Piece.{Piece}
use Rattle.store_image_model.specs.declared.chunk.Piece.TheVariants.{Entries, Page, Start, Whole}
use Rattle.core_parts.specs.View.{CoreValue, IsState}
use Rattle.sector_device.specs.DevicePast.{DevicePast}
use Rattle.store_writer.specs.Copying.{IsCopying, next_place}
use Rattle.store_writer.specs.Image.{IsUnderway}
use Rattle.store_writer.specs.Parts as writer
use Rattle.store_writer.specs.Places.{AreEntriesNow, AreRowsNow, IsAtPlace}
use Rattle.store_writer.specs.Writer.{CanFlip, HasBegun, HasPiece, IsChunk, IsFlipReply, IsEntriesChunk, IsPageChunk, IsStepReply, IsWholeChunk}
use Rattle.store_writer.specs.Writer.{IsWriter}
use Rattle.store_writer.specs.declared.copying.Copying.TheVariants.{GivenUp, Idle, Steps}
use Rattle.store_writer.specs.declared.image.Stage.TheVariants as stage
use Rattle.store_writer.specs.declared.writer.FlipReply.TheVariants.{Flipped}
use Rattle.store_writer.specs.declared.writer.StepReply.TheVariants.{StartAgain, Taken}
use Rattle.store_writer.specs.declared.image.NewImage.{NewImage}
use Rattle.store_writer.specs.declared.writer.Writer.{Writer}
use Rattle.txn_table.specs.Sound.{IsSoundTable}
use Rattle.restart.specs.declared.parts.EngineParts.{EngineParts}
use Rattle.restart.specs.Copies.{CannotFlip, CannotTake, IsPieceNow, MakesCurrent, TakesPiece, copies_left}
use Rattle.restart.specs.Copies.{copies_to_flip, left_at}
use Rattle.restart.specs.Groups.{GivesUp, MayFlip}
use Rattle.store_image_model.specs.Places.{place_behind}
use Rattle.restart.proofs.Grouped.{by_giving_up, has_each}
use Rattle.restart.proofs.Fewer.{IsPieceDue, due_there, fewer_taken, flip_bounds, two_left}
use Rattle.restart.proofs.Numbers.{count_to_end}
use Rattle.restart.specs.Parts.{core_of, has_failed, horizon_of, unhanded, unwritten, writer_of}
use Rattle.restart.specs.Store.{CanRun, StandsAt}

not_none : (image : Option NewImage) (i : NewImage) → image ≡ Some i → image ≢ None
not_none image i is none = cc

module _ {D M : Type 0} (past_of : D → DevicePast) (run : Run) (handed : ℕ) (s : State) (k : Standing) (engine : EngineParts D M)
    (is : StandsAt past_of run handed s k engine) (sound : has_failed engine ≡ false) (txns : IsSoundTable (core_of engine).txns)
    (shown : (v : CoreValue) (s : State) (k : Standing) (cells : Cells) → IsSoundTable v.txns → IsState v s k → HasCells s cells → HasLists s cells
    → IsCellsOf v cells)
    (one : (v : CoreValue) (a b : Cells) → IsCellsOf v a → IsCellsOf v b → a ≡ b)
    (page_next : (run : Run) (handed page : ℕ) (rows : Table) → IsWriter past_of run handed (writer_of engine) → has_failed engine ≡ false
    → end_of run ≤ LAST_NUMBER → next_place (writer.copying_of (writer_of engine)) ≡ Some (at.Page page)
    → AreRowsNow run page rows → (i : NewImage) → writer.image_of (writer_of engine) ≡ Some i → IsPageChunk run i (end_of run) page rows)
    (entries_next : (run : Run) (handed : ℕ) (above : Option Pair) (entries : List (Pair × Mark)) → IsWriter past_of run handed (writer_of engine)
    → has_failed engine ≡ false → end_of run ≤ LAST_NUMBER → next_place (writer.copying_of (writer_of engine)) ≡ Some (at.Entries above)
    → AreEntriesNow run above entries → (i : NewImage) → writer.image_of (writer_of engine) ≡ Some i → IsEntriesChunk run i (end_of run) entries) where
  abbrev v : CoreValue
  v = core_of engine

  abbrev cells : Cells
  cells = cells_at run (end_of run)

  last_is : v.last ≡ end_of run
  last_is = sym (is.made ∙ is.shown.shown.made)

  small : end_of run ≤ LAST_NUMBER
  small = omega (arith, is.made, is.shown.standing.within)

  late : horizon_of engine ≤ end_of run
  late = omega (arith, is.writer.reached, is.writer.made)

  all_cells : cells_after run.cells run.records ≡ cells
  all_cells = ap (cells_after run.cells) (sym (take_all (end_of run - run.last) run.records (omega arith)))

  pub cells_now : IsCellsOf v cells
  cells_now = subst (IsCellsOf v) all_cells (shown v s k (cells_after run.cells run.records) txns is.shown is.log.set is.lists)

  pages_are : v.heap.pages ≡ run.geometry.pages
  pages_are = sym is.shown.shown.pages ∙ sym is.pages

  of_geometry : IsOfGeometry v run.geometry
  of_geometry = record { pages = pages_are; entries = sym is.shown.shown.places ∙ sym is.places }

  -- all at once
  pub whole_chunk : {A : Type 0} (number : ℕ) (piece : Piece A) → number ≡ v.last → IsWholeOf v piece → IsChunk run (writer_of engine) number piece
  whole_chunk number (Whole copied) told of =
      subst (λ n. IsWholeChunk run (horizon_of engine) n (cells_of copied)) (sym (told ∙ last_is))
      (record {
        late = late;
        made = omega arith;
        small = small;
        cells-are = one v (cells_of copied) cells of.0 cells_now;
        fits = of.1 run.geometry of_geometry;
      })
  whole_chunk number (Start life lists) told of = absurd of
  whole_chunk number (Page page rows) told of = absurd of
  whole_chunk number (Entries entries) told of = absurd of

  -- piece by piece
  pub next_chunk : {A : Type 0} (number : ℕ) (place : CopyPlace) (piece : Piece A) → number ≡ v.last
      → next_place (writer.copying_of (writer_of engine)) ≡ Some place → IsPieceOf v cells place piece → IsChunk run (writer_of engine) number piece
  next_chunk number at.Start (Start life lists) told due of = record {
    late = omega (arith, late, told, last_is);
    made = omega (arith, told, last_is);
    small = omega (arith, small, told, last_is);
    life-is = of.life-is ∙ ap (λ n. (cells_at run n).life) (sym (told ∙ last_is));
    lists-are = of.lists-are ∙ ap (λ n. (cells_at run n).pending) (sym (told ∙ last_is));
    inside = subst (λ n. AreInside run.geometry.pages (cells_at run n)) (sym (told ∙ last_is)) (subst (λ n. AreInside n cells) pages_are of.inside);
    fits = of.fits run.geometry of_geometry;
  }
  next_chunk number (at.Page page) (Page copied rows) told due of = λ image there_is.
      subst (λ n. IsPageChunk run image n copied rows) (sym (told ∙ last_is))
      (subst (λ p. IsPageChunk run image (end_of run) p rows) (sym of.0)
      (page_next run handed page rows is.writer sound small due
      (record { rows-are = of.1.rows-are; slots = of.1.slots }) image there_is))
  next_chunk number (at.Entries above) (Entries entries) told due of = λ image there_is.
      subst (λ n. IsEntriesChunk run image n entries.items) (sym (told ∙ last_is))
      (entries_next run handed above entries.items is.writer sound small due
      (record {
        more = of.more;
        listed = of.listed;
        most = of.most;
        full = of.full;
        rest = of.rest;
        inside = λ i e found.
            subst (λ n. e.0.rid.page < n) pages_are (of.inside i e found);
      })
      image there_is)
  next_chunk number at.Start (Whole copied) told due of = absurd of
  next_chunk number at.Start (Page page rows) told due of = absurd of
  next_chunk number at.Start (Entries entries) told due of = absurd of
  next_chunk number (at.Page page) (Whole copied) told due of = absurd of
  next_chunk number (at.Page page) (Start life lists) told due of = absurd of
  next_chunk number (at.Page page) (Entries entries) told due of = absurd of
  next_chunk number (at.Entries above) (Whole copied) told due of = absurd of
  next_chunk number (at.Entries above) (Start life lists) told due of = absurd of
  next_chunk number (at.Entries above) (Page page rows) told due of = absurd of

  pub next_of : {A : Type 0} (number : ℕ) (place : CopyPlace) (piece : Piece A) → number ≡ v.last
      → next_place (writer.copying_of (writer_of engine)) ≡ Some place → ((cells : Cells) → IsCellsOf v cells → IsPieceOf v cells place piece)
      → IsChunk run (writer_of engine) number piece
  next_of number place piece told due of = next_chunk number place piece told due (of cells cells_now)

-- where the copying goes on its piece is due
due_now : {D M : Type 0} (past_of : D → DevicePast) (engine : EngineParts D M) (place : CopyPlace) → CanRun past_of engine → has_failed engine ≡ false
    → next_place engine.writer.copying ≡ Some place → IsPieceDue engine.geometry.pages place (writer.image_of (writer_of engine))
due_now past_of engine place can sound next =
    let is : StandsAt past_of can.0 can.1 can.2 can.3 engine = can.4 in
    due_there engine.geometry.pages engine.writer.copying place (writer.image_of (writer_of engine))
    (subst (λ (x : GeometryValue). IsCopying x.pages engine.writer.copying (writer.image_of (writer_of engine))) (sym is.geometry)
    (is.writer.holds sound).copying) next

-- what the layers below say of a copy of this core and of this writer
pub record CopyLaws {D M : Type 0} (past_of : D → DevicePast) (engine : EngineParts D M) : Type 0 where
  pub txns : IsSoundTable (core_of engine).txns
  pub shown : (v : CoreValue) (s : State) (k : Standing) (cells : Cells) → IsSoundTable v.txns → IsState v s k → HasCells s cells → HasLists s cells
      → IsCellsOf v cells
  pub one : (v : CoreValue) (a b : Cells) → IsCellsOf v a → IsCellsOf v b → a ≡ b
  pub page : (run : Run) (handed page : ℕ) (rows : Table) → IsWriter past_of run handed (writer_of engine) → has_failed engine ≡ false
      → end_of run ≤ LAST_NUMBER → next_place (writer.copying_of (writer_of engine)) ≡ Some (at.Page page)
      → AreRowsNow run page rows → (i : NewImage) → writer.image_of (writer_of engine) ≡ Some i → IsPageChunk run i (end_of run) page rows
  pub entries : (run : Run) (handed : ℕ) (above : Option Pair) (entries : List (Pair × Mark)) → IsWriter past_of run handed (writer_of engine)
      → has_failed engine ≡ false → end_of run ≤ LAST_NUMBER → next_place (writer.copying_of (writer_of engine)) ≡ Some (at.Entries above)
      → AreEntriesNow run above entries → (i : NewImage) → writer.image_of (writer_of engine) ≡ Some i → IsEntriesChunk run i (end_of run) entries

-- the next piece, whatever run the engine is of
module _ {A D M : Type 0} (past_of : D → DevicePast) (engine : EngineParts D M) (laws : CopyLaws past_of engine) (sound : has_failed engine ≡ false)
    (number : ℕ)
    (place : CopyPlace) (piece : Piece A) (told : number ≡ (core_of engine).last)
    (next : next_place (writer.copying_of (writer_of engine)) ≡ Some place) (of : (cells : Cells) → IsCellsOf (core_of engine) cells
    → IsPieceOf (core_of engine) cells place piece) where
  pub piece_is : (run : Run) (handed : ℕ) (s : State) (k : Standing) → StandsAt past_of run handed s k engine → IsChunk run (writer_of engine) number piece
  piece_is run handed s k is = next_of past_of run handed s k engine is sound laws.txns laws.shown laws.one laws.page laws.entries number place piece told next
      of

-- all at once, whatever run the engine is of
module _ {A D M : Type 0} (past_of : D → DevicePast) (engine : EngineParts D M) (laws : CopyLaws past_of engine) (sound : has_failed engine ≡ false)
    (number : ℕ)
    (piece : Piece A) (told : number ≡ (core_of engine).last) (of : IsWholeOf (core_of engine) piece) where
  pub whole_is : (run : Run) (handed : ℕ) (s : State) (k : Standing) → StandsAt past_of run handed s k engine → IsChunk run (writer_of engine) number piece
  whole_is run handed s k is = whole_chunk past_of run handed s k engine is sound laws.txns laws.shown laws.one laws.page laws.entries number piece told of

-- ---- what is answered where a piece was due

module _ {D M : Type 0} (old new : EngineParts D M) (number : ℕ) (place : CopyPlace) (piece : Piece M) where
  -- it was taken
  pub takes_piece : number ≡ (core_of old).last → next_place old.writer.copying ≡ Some place → IsPieceNow (core_of old) place piece
      → IsStepReply number piece Taken (writer_of old) (writer_of new) → new.writer.copying ≡ Steps (place_behind old.geometry.pages piece)
      → horizon_of new ≡ horizon_of old
      → TakesPiece old new
  takes_piece told next of is behind level = record {
    place = place;
    next = next;
    piece = piece;
    piece-is = of;
    may = is.0;
    image = is.1.0;
    image-is = is.1.1.0;
    has = subst (λ n. HasPiece n piece (writer_of old) is.1.0) told is.1.2;
    behind = behind;
    halves = is.1.1.1;
    log = is.1.1.2;
    horizon = level;
  }

  -- or it couldn't be
  pub cannot_take : next_place old.writer.copying ≡ Some place → IsPieceNow (core_of old) place piece
      → IsStepReply number piece StartAgain (writer_of old) (writer_of new) → CannotTake old new
  cannot_take next of is = record {
    place = place;
    next = next;
    piece = piece;
    piece-is = of;
    must = is.1;
    gone = ap (λ w. writer.image_of w) is.0;
    device = ap (λ w. writer.device_of w) is.0;
    halves = ap (λ w. writer.halves_of w) is.0;
    log = ap (λ w. writer.log_of w) is.0;
    horizon = ap (λ w. writer.synced_of w) is.0;
  }

-- fewer copies are left behind a piece
pub fewer_now : {D M : Type 0} (past_of : D → DevicePast) (old new : EngineParts D M) (laws : CopyLaws past_of old) (sound : has_failed old ≡ false)
    (number : ℕ)
    (place : CopyPlace) (piece : Piece M) → number ≡ (core_of old).last
    → IsPieceNow (core_of old) place piece → next_place old.writer.copying ≡ Some place → (can : CanRun past_of old)
    → IsStepReply number piece Taken (writer_of old) (writer_of new) → new.writer.copying ≡ Steps (place_behind old.geometry.pages piece)
    → new.geometry ≡ old.geometry → core_of new ≡ core_of old → copies_left new < copies_left old
fewer_now past_of old new laws sound number place piece told of next can is behind size same =
    subst (λ n. n < copies_left old) (sym now) (fewer_taken old.geometry (core_of old).last number is.1.0 (writer_of old) size_is
    (core_of old) cells old.writer.copying place piece next (of cells cells_are) told (due_now past_of old place can sound next) is.0 is.1.2)
  where
    stands : StandsAt past_of can.0 can.1 can.2 can.3 old
    stands = can.4

    cells : Cells
    cells = cells_at can.0 (end_of can.0)

    cells_are : IsCellsOf (core_of old) cells
    cells_are = cells_now past_of can.0 can.1 can.2 can.3 old stands sound laws.txns laws.shown laws.one laws.page laws.entries

    size_is : (writer.halves_of (writer_of old)).geometry ≡ old.geometry
    size_is = stands.writer.geometry-is ∙ sym stands.geometry

    now : copies_left new ≡ left_at old.geometry (core_of old).last (Some is.1.0) (Steps (place_behind old.geometry.pages piece))
    now =
        ap (λ g. left_at g (core_of new).last (writer.image_of (writer_of new)) new.writer.copying) size
        ∙ ap (λ (v : CoreValue). left_at old.geometry v.last (writer.image_of (writer_of new)) new.writer.copying) same
        ∙ ap (λ i. left_at old.geometry (core_of old).last i new.writer.copying) is.1.1.0
        ∙ ap (left_at old.geometry (core_of old).last (Some is.1.0)) behind

-- where an image was given up, one copy is left
pub one_left : {D M : Type 0} (engine : EngineParts D M) → engine.writer.copying ≡ GivenUp → copies_left engine ≡ 1
one_left engine given = ap (left_at engine.geometry (core_of engine).last (writer.image_of (writer_of engine))) given

-- where the writer has every record, they are all handed in
pub all_handed : {D M : Type 0} (past_of : D → DevicePast) (run : Run) (handed : ℕ) (s : State) (k : Standing) (engine : EngineParts D M)
    → StandsAt past_of run handed s k engine → unhanded engine ≡ [] → end_of run ≤ handed
all_handed past_of run handed s k engine is all =
    omega (arith, is.writer.made, count_to_end run handed (omega (arith, is.writer.opened, is.writer.reached)), ap length (is.rest ∙ all))

-- a whole image that was just taken may be made current
pub may_flip : {A D M : Type 0} (v : CoreValue) (handed number : ℕ) (piece : Piece A) (old mid : Writer D M) → IsWholeOf v piece
    → IsStepReply number piece Taken old mid → number ≤ handed → CanFlip handed mid
may_flip v handed number (Whole cells) old mid of is within =
    let image : NewImage = is.1.0 in
    let kept = is.1.1 in
    let begun : HasBegun number stage.Whole image = is.1.2 in
    (image, kept.0, begun.2, omega (arith, within, begun.1), omega (arith, begun.0, begun.1))
may_flip v handed number (Start life lists) old mid of is within = absurd of
may_flip v handed number (Page page rows) old mid of is within = absurd of
may_flip v handed number (Entries entries) old mid of is within = absurd of

-- and is always taken
pub is_taken : {A D M : Type 0} (v : CoreValue) (number : ℕ) (piece : Piece A) (old mid : Writer D M) → IsWholeOf v piece
    → IsStepReply number piece StartAgain old mid → ⊥
is_taken v number (Whole cells) old mid of is = is.1
is_taken v number (Start life lists) old mid of is = of
is_taken v number (Page page rows) old mid of is = of
is_taken v number (Entries entries) old mid of is = of

-- its log is empty
pub whole_empty : {A D M : Type 0} (v : CoreValue) (number : ℕ) (piece : Piece A) (old mid : Writer D M) → IsWholeOf v piece
    → (is : IsStepReply number piece Taken old mid) → is.1.0.log.open_slots ≡ 0
whole_empty v number (Whole cells) old mid of is = is.1.2.3
whole_empty v number (Start life lists) old mid of is = absurd of
whole_empty v number (Page page rows) old mid of is = absurd of
whole_empty v number (Entries entries) old mid of is = absurd of

-- and its base is the number of the last record made
pub whole_base : {A D M : Type 0} (v : CoreValue) (number : ℕ) (piece : Piece A) (old mid : Writer D M) → IsWholeOf v piece
    → (is : IsStepReply number piece Taken old mid) → is.1.0.base ≡ number
whole_base v number (Whole cells) old mid of is = is.1.2.0
whole_base v number (Start life lists) old mid of is = absurd of
whole_base v number (Page page rows) old mid of is = absurd of
whole_base v number (Entries entries) old mid of is = absurd of

-- ---- an image that can't be made current

module _ {D M : Type 0} (past_of : D → DevicePast) (run : Run) (handed : ℕ) (s : State) (k : Standing) (engine : EngineParts D M)
    (is : StandsAt past_of run handed s k engine) (sound : has_failed engine ≡ false) (all : unhanded engine ≡ [])
    (cannot : ¬ CanFlip handed (writer_of engine)) where
  -- its number is of a record that was made
  made_up_to : (i : NewImage) → writer.image_of (writer_of engine) ≡ Some i → i.number ≤ end_of run
  made_up_to i there_is =
      let under : IsUnderway run (other (writer.halves_of (writer_of engine)).current) (past_of (writer.device_of (writer_of engine))).disk.content
      (horizon_of engine) i =
      subst (λ (o : Option NewImage).
      IfSome o (IsUnderway run (other (writer.halves_of (writer_of engine)).current) (past_of (writer.device_of (writer_of engine))).disk.content
      (horizon_of engine))) there_is (is.writer.holds sound).image in
      under.made

  pub may_not_flip : ¬ MayFlip (writer_of engine)
  may_not_flip (i, there_is, whole, reached) = cannot (
    i,
    there_is,
    whole,
    omega (arith, made_up_to i there_is, all_handed past_of run handed s k engine is all),
    reached,
  )

  -- so two copies are left
  pub two_to_flip : engine.writer.copying ≡ Steps None → 2 ≤ copies_left engine
  two_to_flip whole = subst (λ n. 2 ≤ n) (sym (ap (left_at engine.geometry (core_of engine).last (writer.image_of (writer_of engine))) whole))
      (two_left (core_of engine).last (writer.image_of (writer_of engine)) none)
    where
      at_end : (writer.image_of (writer_of engine) ≡ None) ⊎ IsAtPlace run.geometry.pages None (writer.image_of (writer_of engine))
      at_end = subst (λ c. IsCopying run.geometry.pages c (writer.image_of (writer_of engine))) whole (is.writer.holds sound).copying

      none : (i : NewImage) → writer.image_of (writer_of engine) ≡ Some i → (core_of engine).last ≤ i.base → ⊥
      none i there_is late = ⊎_elim
          (λ gone. not_none (writer.image_of (writer_of engine)) i there_is gone)
          (λ at_place.
          let same : at_place.0 ≡ i = cc (there_is, at_place.1) in
          may_not_flip (
            i,
            there_is,
            ap (λ (x : NewImage). x.stage) (sym same)
                ∙ at_place.2,
            omega (arith, late, made_up_to i there_is, is.made, is.shown.shown.made),
          ))
          at_end

-- ---- an image that is current

module _ {D M : Type 0} (old new : EngineParts D M) where
  -- it was copied in steps
  pub flip_current : (handed n : ℕ) → IsFlipReply handed (Flipped n) (writer_of old) (writer_of new)
      → (writer.halves_of (writer_of old)).geometry.slots ≡ old.geometry.slots
      → ((i : NewImage) → writer.image_of (writer_of old) ≡ Some i → i.log.open_slots ≤ old.geometry.slots / 2)
      → old.writer.copying ≡ Steps None → new.writer.copying ≡ Idle → MakesCurrent old new
  flip_current handed n flipped size half_open whole idle = record {
    whole = ap next_place whole;
    turned = flipped.5.halves-are;
    none = flipped.4;
    idle = idle;
    room =
        let image = flipped.2.0 in
        let log_is : (writer.log_of (writer_of new)).open_slots ≡ image.log.open_slots = ap (λ (l : Log). l.open_slots) (flipped.5.log-is image flipped.2.1) in
        let slots_is : (writer.halves_of (writer_of new)).geometry.slots / 2 ≡ old.geometry.slots / 2 = ap (λ h. h.geometry.slots / 2) flipped.5.halves-are
        ∙ ap (λ n. n / 2) size in
        omega (arith, log_is, slots_is, half_open image flipped.2.1);
    no-group = λ _ may image there. record { log = flipped.5.log-is image there; reached = sym flipped.0 ∙ flipped.3 image there };
    emptied = λ given. absurd (stepped given);
    all = λ given. absurd (stepped given);
  }
    where
      stepped : old.writer.copying ≡ GivenUp → ⊥
      stepped given = cc (whole, given)

  -- as many copies are left at most while groups are written
  pub few_behind : old.writer.copying ≡ Steps None → new.writer.copying ≡ Steps None → 2 ≤ copies_left old → copies_left new ≤ copies_left old
  few_behind whole still two =
      let now : copies_left new ≡ copies_to_flip (core_of new).last (writer.image_of (writer_of new)) =
      ap (left_at new.geometry (core_of new).last (writer.image_of (writer_of new))) still in
      omega (arith, now, two, (flip_bounds (core_of new).last (writer.image_of (writer_of new))).0)

  -- it can't be, and no group more can be written: it is given up
  pub cannot_flip : old.writer.copying ≡ Steps None → unhanded old ≡ [] → GivesUp (writer_of old) (writer_of new) → CannotFlip old new
  cannot_flip whole all given = record {
    whole = whole;
    first = writer_of old;
    all = has_each old all;
    groups = by_giving_up (writer_of old) (writer_of new) given;
  }

  -- it was taken at once, and has every record made
  module _ {A : Type 0} (v : CoreValue) (mid : Writer D M) (handed number n : ℕ) (piece : Piece A) (of : IsWholeOf v piece)
      (taken : IsStepReply number piece Taken (writer_of old) mid) (flipped : IsFlipReply handed (Flipped n) mid (writer_of new)) where
    pub whole_current : old.writer.copying ≡ GivenUp → new.writer.copying ≡ Idle → unwritten new ≡ [] → MakesCurrent old new
    whole_current given idle all = record {
      whole = ap next_place given;
      turned = flipped.5.halves-are ∙ ap (λ h. record { geometry = h.geometry; current = other h.current }) taken.1.1.1;
      none = flipped.4;
      idle = idle;
      room = let none : (writer.log_of (writer_of new)).open_slots ≡ 0 = ap (λ (l : Log). l.open_slots) (flipped.5.log-is taken.1.0 taken.1.1.0)
          ∙ whole_empty v number piece (writer_of old) mid of taken in omega (arith, none);
      no-group = λ steps. absurd (stepped steps);
      emptied = λ _. ap (λ (l : Log). l.open_slots) (flipped.5.log-is taken.1.0 taken.1.1.0) ∙ whole_empty v number piece (writer_of old) mid of taken;
      all = λ _. all;
    }
      where
        stepped : old.writer.copying ≡ Steps None → ⊥
        stepped steps = cc (given, steps)

    pub whole_synced : number ≤ horizon_of new
    whole_synced = omega (arith, flipped.0, flipped.3 taken.1.0 taken.1.1.0, whole_base v number piece (writer_of old) mid of taken)

-- where all records are synced, none waits
pub none_unwritten : {D M : Type 0} (past_of : D → DevicePast) (run : Run) (handed : ℕ) (engine : EngineParts D M)
    → IsWriter past_of run handed (writer_of engine)
    → handed ≤ horizon_of engine → unhanded engine ≡ [] → unwritten engine ≡ []
none_unwritten past_of run handed engine is reached all =
    let none : handed - horizon_of engine ≡ 0 = omega (arith, reached) in
    ap (λ (l : List RecordValue). writer.waiting_of (writer_of engine) ++ l) all ∙ append-nil (writer.waiting_of (writer_of engine)) ∙ is.waits
    ∙ ap (λ n. take n (records_above run (horizon_of engine))) none
