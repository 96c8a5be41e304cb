-- When an image is copied, after each call of the flusher's part.
use Rattle.std.proofs.Common.{◌≡◌, ◌≢◌, ◌⊎◌, ℕ, ◌+◌, ap, arith, false, true, Option, None, Some, IfSome, Result, Ok}
use Rattle.std.proofs.Common.{Err, IfOk, IfErr, OnOk, inl, inr, sym, subst}
use Rattle.std.proofs.Common.{◌∙◌, ⊎_elim}
use Rattle.std.proofs.lemmas.Bool.{false≢true}
use Rattle.record_values.specs.declared.error.Error.{Error}
use Rattle.flip_image.specs.Layout.{HalvesValue, other}
use Rattle.store_image_model.specs.declared.chunk.CopyPlace.{CopyPlace}
use Rattle.store_image_model.specs.declared.chunk.CopyPlace.TheVariants as at
use Rattle.store_image_model.specs.Places.{place_behind}
use Rattle.store_image_model.specs.declared.chunk.Piece.{Piece}
use Rattle.store_image_model.specs.declared.chunk.Piece.TheVariants.{Whole, Start, Page, Entries}
use Rattle.model.specs.Cells.{Cells}
use Rattle.core_model.specs.Histories.{Opened}
use Rattle.core_parts.specs.View.{CoreValue}
use Rattle.sector_device.specs.DevicePast.{DevicePast}
use Rattle.locked_core.specs.Made.{IsAllOf}
use Rattle.locked_core.specs.Pieces.{IsPieceOf}
use Rattle.store_writer.specs.Copying.{IsCopying, next_place}
use Rattle.store_writer.specs.Image.{IsUnderway}
use Rattle.store_writer.specs.Parts.{copying_of, device_of, halves_of, has_failed, image_of, log_of, synced_of}
use Rattle.store_writer.specs.Places.{IsAtPlace}
use Rattle.store_writer.specs.Writer.{CanFlip, HasFailed, IsFlipReply, IsFlushReply, IsLogFull, IsNotFlushed, IsStepReply, MustStartAgain}
use Rattle.store_writer.specs.declared.copying.Copying.{Copying}
use Rattle.store_writer.specs.declared.copying.Copying.TheVariants.{Idle, Steps, GivenUp}
use Rattle.store_writer.specs.declared.image.NewImage.{NewImage}
use Rattle.store_writer.specs.declared.writer.FlipReply.TheVariants.{Behind, Flipped}
use Rattle.store_writer.specs.declared.writer.FlushReply.{FlushReply}
use Rattle.store_writer.specs.declared.writer.FlushReply.TheVariants.{Flushed, Nothing, LogFull}
use Rattle.store_writer.specs.declared.writer.StepReply.{StepReply}
use Rattle.store_writer.specs.declared.writer.StepReply.TheVariants.{StartAgain, Taken}
use Rattle.store_writer.specs.declared.writer.Writer.{Writer}
use Rattle.threads_flusher.specs.Going.{LeavesImage, TakesIn}
use Rattle.threads_flusher.specs.Images.{IsHalfFull, IsPieceDue}
use Rattle.threads_flusher.specs.Part.{FlushValue, IsFlusher, last_handed, run_of}
use Rattle.threads_loops.specs.Copying.{HasImage, IsCopied, IsDue, IsWanted, StandsBy, WritesNone}
use Rattle.threads_loops.specs.Through.{IsNextPiece}

-- half the slots of the log are open, where those of another writer are
module _ {D A : Type 0} (old new : Writer D A) (halves : halves_of new ≡ halves_of old) (half : IsHalfFull old) where
  -- and the log is the same
  half_as : log_of new ≡ log_of old → IsHalfFull new
  half_as same = omega (arith, half, ap (λ l. l.open_slots) same, ap (λ (h : HalvesValue). h.geometry.slots) halves)

  -- or has a slot more
  half_more : log_of new ≡ record (log_of old) { open_slots = (log_of old).open_slots + 1 } → IsHalfFull new
  half_more more = omega (arith, half, ap (λ l. l.open_slots) more, ap (λ (h : HalvesValue). h.geometry.slots) halves)

pub nothing_not_full : Nothing ≡ LogFull → ⊥
nothing_not_full same = cc

pub steps_on : (place : Option CopyPlace) → Steps place ≢ Idle
steps_on place same = cc

pub given_on : GivenUp ≢ Idle
given_on same = cc

-- the piece that is next is due
pub piece_due : {D A : Type 0} (place : CopyPlace) (w : Writer D A) → next_place (copying_of w) ≡ Some place → IsPieceDue place w
piece_due at.Start w next = tt
piece_due (at.Page page) w next = inr next
piece_due (at.Entries above) w next = inr next

pub stands_due : {D A : Type 0} (f : FlushValue D A) → IsDue f → StandsBy f
stands_due f due sound copied = due sound

module _ {D A : Type 0} (old new : FlushValue D A) where
  -- records were popped and handed in
  module _ (takes : TakesIn old new) where
    pub due_by_taking : IsDue old → IsDue new
    due_by_taking due sound = half_as old.writer new.writer takes.got.halves (due (sym takes.got.failed ∙ sound)) takes.got.log

    pub stands_by_taking : StandsBy old → StandsBy new
    stands_by_taking was sound copied = half_as old.writer new.writer takes.got.halves
        (was (sym takes.got.failed ∙ sound) (λ idle. copied (takes.copying ∙ idle))) takes.got.log

    pub wanted_by_taking : IsWanted old → IsWanted new
    wanted_by_taking was idle = half_as old.writer new.writer takes.got.halves (was (sym takes.copying ∙ idle)) takes.got.log

    pub copied_by_taking : (last : FlushValue D A) → IsCopied new last → IsCopied old last
    copied_by_taking last is = (is.0, is.1 ∙ takes.got.halves)

  -- nothing changed
  pub stands_still : new.writer ≡ old.writer → StandsBy old → StandsBy new
  stands_still same was = subst (λ (w : Writer D A). has_failed w ≡ false → copying_of w ≢ Idle → IsHalfFull w) (sym same) was

  pub wanted_still : new.writer ≡ old.writer → IsWanted old → IsWanted new
  wanted_still same was = subst (λ (w : Writer D A). copying_of w ≡ Idle → IsHalfFull w) (sym same) was

  -- the device failed
  pub stands_failed : has_failed new.writer ≡ true → StandsBy new
  stands_failed failed sound = absurd (false≢true (sym sound ∙ failed))

  pub due_failed : has_failed new.writer ≡ true → IsDue new
  due_failed failed sound = absurd (false≢true (sym sound ∙ failed))

  -- a group was flushed
  module _ (failures : D → ℕ) (halves : halves_of new.writer ≡ halves_of old.writer) (copying : copying_of new.writer ≡ copying_of old.writer) where
    pub stands_by_flush : (result : Result FlushReply Error) → IfOk result (λ reply. IsFlushReply reply old.writer new.writer)
        → OnOk result ((has_failed old.writer ≡ false) × (has_failed new.writer ≡ false))
        → IfErr result (λ e. IsNotFlushed failures e old.writer new.writer) → StandsBy old → StandsBy new
    stands_by_flush (Ok (Flushed n)) is sound err was = λ _ copied.
        half_more old.writer new.writer halves (was sound.0 (λ idle. copied (copying ∙ idle))) is.3.log-is
    stands_by_flush (Ok Nothing) is sound err was = stands_still is.0 was
    stands_by_flush (Ok LogFull) is sound err was = stands_still is.0 was
    stands_by_flush (Err e) is sound (inl none) was = stands_still none.4 was
    stands_by_flush (Err e) is sound (inr device) was = stands_failed device.1

    wanted_by_flush : (reply : FlushReply) → IsFlushReply reply old.writer new.writer → IsWanted old → IsWanted new
    wanted_by_flush (Flushed n) is was = λ idle. half_more old.writer new.writer halves (was (sym copying ∙ idle)) is.3.log-is
    wanted_by_flush Nothing is was = wanted_still is.0 was
    wanted_by_flush LogFull is was = wanted_still is.0 was

    pub image_by_flush : (result : Result FlushReply Error) → IfOk result (λ reply. IsFlushReply reply old.writer new.writer)
        → OnOk result (IsWanted old → IsWanted new)
    image_by_flush (Ok reply) is = wanted_by_flush reply is
    image_by_flush (Err e) is = tt

  -- none was: no record waited, or the log was full
  module _ (handed : new.handed ≡ old.handed) where
    pub none_by_flush : (all : ℕ) (result : Result FlushReply Error) → IfOk result (λ reply. IsFlushReply reply old.writer new.writer)
        → (result ≡ Ok Nothing → synced_of old.writer ≡ all)
        → IfOk result (λ reply. reply ≡ Nothing → WritesNone old new × (synced_of old.writer ≡ all))
    none_by_flush all (Ok reply) is synced = λ none.
        (((subst (λ (r : FlushReply). IsFlushReply r old.writer new.writer) none is).0, handed), synced (ap Ok none))
    none_by_flush all (Err e) is synced = tt

    pub full_by_flush : (result : Result FlushReply Error) → IfOk result (λ reply. IsFlushReply reply old.writer new.writer)
        → IfOk result (λ reply. reply ≡ LogFull → WritesNone old new × IsLogFull old.writer)
    full_by_flush (Ok reply) is = λ full.
        let told = subst (λ (r : FlushReply). IsFlushReply r old.writer new.writer) full is in
        ((told.0, handed), told.1)
    full_by_flush (Err e) is = tt

  -- a chunk was offered, which was taken or not
  module _ {M : Type 0} (failures : D → ℕ) (number : ℕ) (piece : Piece M) where
    pub due_behind : (result : Result StepReply Error) → IfOk result (λ reply. IsStepReply number piece reply old.writer new.writer)
        → IfErr result (λ e. HasFailed failures e old.writer new.writer) → IsDue old → IsDue new
    due_behind (Ok Taken) stepped err due sound = let kept = stepped.1.1 in half_as old.writer new.writer kept.1 (due (sym kept.5 ∙ sound)) kept.2
    due_behind (Ok StartAgain) stepped err due sound = subst (λ (w : Writer D A). IsHalfFull w) (sym stepped.0)
        (due (sym (ap (λ (w : Writer D A). has_failed w) stepped.0) ∙ sound))
    due_behind (Err e) stepped err due sound = absurd (false≢true (sym sound ∙ err.1))

    pub copied_behind : (reply : StepReply) → IsStepReply number piece reply old.writer new.writer → IsCopied old new
    copied_behind Taken is = ((λ idle. steps_on _ (sym is.1.3 ∙ idle)), is.1.1.1)
    copied_behind StartAgain is = (
      (λ idle. given_on (sym (ap (λ (w : Writer D A). copying_of w) is.0) ∙ idle)),
      ap (λ (w : Writer D A). halves_of w) is.0,
    )

  -- an image was made current
  module _ (handed : ℕ) where
    pub stands_flipped : (n : ℕ) → IsFlipReply handed (Flipped n) old.writer new.writer → StandsBy new
    stands_flipped n is sound copied = absurd (copied is.5.copying-is)

    pub image_flipped : (n : ℕ) → IsFlipReply handed (Flipped n) old.writer new.writer → HasImage old new
    image_flipped n is = inr (is.5.copying-is, ap (λ (h : HalvesValue). h.current) is.5.halves-are)

    -- or it couldn't be
    pub stands_behind : IsFlipReply handed Behind old.writer new.writer → IsDue old → StandsBy new
    stands_behind is due = stands_still is.0 (stands_due old due)

    pub image_behind : IsFlipReply handed Behind old.writer new.writer → copying_of old.writer ≢ Idle → HasImage old new
    image_behind is copied = inl ((λ idle. copied (sym (ap (λ (w : Writer D A). copying_of w) is.0) ∙ idle)), ap (λ (w : Writer D A). halves_of w) is.0)

  -- or was given up
  module _ (leaves : LeavesImage GivenUp old new) where
    pub stands_given : IsDue old → StandsBy new
    stands_given due = subst (λ (f : FlushValue D A). StandsBy f) (sym leaves) (λ sound copied. due sound)

    pub copied_given : IsCopied old new
    copied_given = (
      (λ idle. given_on (sym (ap (λ (f : FlushValue D A). copying_of f.writer) leaves) ∙ idle)),
      ap (λ (f : FlushValue D A). halves_of f.writer) leaves,
    )

  pub due_still : new.writer ≡ old.writer → IsDue old → IsDue new
  due_still same due = subst (λ (w : Writer D A). has_failed w ≡ false → IsHalfFull w) (sym same) due

-- where all that was handed in is synced, and a whole image can't be made current, a flush gave it up
pub gone_already : {D A : Type 0} {marks : ℕ → ℕ → Type 0} (past_of : D → DevicePast) (o : Opened) (f : FlushValue D A) → IsFlusher past_of marks o f
    → has_failed f.writer ≡ false → copying_of f.writer ≡ Steps None → synced_of f.writer ≡ last_handed o f → ¬ CanFlip (last_handed o f) f.writer
    → image_of f.writer ≡ None
gone_already past_of o f is sound whole synced cannot = ⊎_elim (λ none. none) (λ there. absurd (cannot (can there))) at_end
  where
    at_end : (image_of f.writer ≡ None) ⊎ IsAtPlace (run_of o f).geometry.pages None (image_of f.writer)
    at_end = subst (λ c. IsCopying (run_of o f).geometry.pages c (image_of f.writer)) whole (is.writer.holds sound).copying

    can : IsAtPlace (run_of o f).geometry.pages None (image_of f.writer) → CanFlip (last_handed o f) f.writer
    can there =
        let under : IsUnderway (run_of o f) (other (halves_of f.writer).current) (past_of (device_of f.writer)).disk.content (synced_of f.writer) there.0 =
        subst (λ (i : Option NewImage).
        IfSome i (IsUnderway (run_of o f) (other (halves_of f.writer).current) (past_of (device_of f.writer)).disk.content (synced_of f.writer)))
        there.1 (is.writer.holds sound).image in
        (there.0, there.1, there.2, under.made, omega (arith, under.made, synced))

-- some steps were made
module _ {D A : Type 0} (old mid new : FlushValue D A) where
  pub image_then : IsCopied old mid → HasImage mid new → HasImage old new
  image_then first (inl is) = inl (is.0, is.1 ∙ first.1)
  image_then first (inr is) = inr (is.0, is.1 ∙ ap (λ (h : HalvesValue). other h.current) first.1)

  pub image_again : copying_of mid.writer ≢ Idle → HasImage old mid → (IsWanted mid → HasImage mid new) → HasImage old new
  image_again copied (inl is) then = image_then is (then (λ idle. absurd (copied idle)))
  image_again copied (inr is) then = absurd (copied is.0)

-- before it the store was the same
pub image_from : {D A : Type 0} (old mid new : FlushValue D A) → halves_of mid.writer ≡ halves_of old.writer → HasImage mid new → HasImage old new
image_from old mid new same (inl is) = inl (is.0, is.1 ∙ same)
image_from old mid new same (inr is) = inr (is.0, is.1 ∙ ap (λ (h : HalvesValue). other h.current) same)

-- ---- a whole image

-- the piece is of all cells
abbrev IsAll : {A : Type 0} → Piece A → Type 0
IsAll (Whole cells) = Unit {0}
IsAll (Start life lists) = ⊥
IsAll (Page page rows) = ⊥
IsAll (Entries entries) = ⊥

-- so it is as a copy of all cells tells
pub all_of : {A : Type 0} (v : CoreValue) (cells : Cells) (piece : Piece A) → IsAllOf v cells piece → IsAll piece
all_of v cells (Whole copied) is = tt
all_of v cells (Start life lists) is = absurd is
all_of v cells (Page page rows) is = absurd is
all_of v cells (Entries entries) is = absurd is

-- where a piece was taken that could be, the copying goes on behind it
pub copying_behind : {D A M : Type 0} (old new : FlushValue D A) (number : ℕ) (piece : Piece M) (reply : StepReply)
    → IsStepReply number piece reply old.writer new.writer → ¬ MustStartAgain piece old.writer
    → copying_of new.writer ≡ Steps (place_behind (halves_of old.writer).geometry.pages piece)
copying_behind old new number piece Taken is may = is.1.3
copying_behind old new number piece StartAgain is may = absurd (may is.1)

-- and behind all cells there is nothing
pub whole_behind : {D A M : Type 0} (old new : Writer D A) (piece : Piece M) → IsAll piece
    → (¬ MustStartAgain piece old → copying_of new ≡ Steps (place_behind (halves_of old).geometry.pages piece)) → copying_of new ≡ Steps None
whole_behind old new (Whole cells) is behind = behind (λ must. must)
whole_behind old new (Start life lists) is behind = absurd is
whole_behind old new (Page page rows) is behind = absurd is
whole_behind old new (Entries entries) is behind = absurd is

-- ---- the piece that comes next

-- it is that of the place where the copying is
pub next_there : {A : Type 0} (v : CoreValue) (cells : Cells) (place : CopyPlace) (piece : Piece A) (copying : Copying) → IsPieceOf v cells place piece
    → next_place copying ≡ Some place → IsNextPiece piece copying
next_there v cells at.Start (Start life lists) copying is next = next
next_there v cells (at.Page page) (Page copied rows) copying is next = next ∙ ap (λ n. Some (at.Page n)) (sym is.0)
next_there v cells (at.Entries above) (Entries entries) copying is next = (above, next)
next_there v cells at.Start (Whole copied) copying is next = absurd is
next_there v cells at.Start (Page page rows) copying is next = absurd is
next_there v cells at.Start (Entries entries) copying is next = absurd is
next_there v cells (at.Page page) (Whole copied) copying is next = absurd is
next_there v cells (at.Page page) (Start life lists) copying is next = absurd is
next_there v cells (at.Page page) (Entries entries) copying is next = absurd is
next_there v cells (at.Entries above) (Whole copied) copying is next = absurd is
next_there v cells (at.Entries above) (Start life lists) copying is next = absurd is
next_there v cells (at.Entries above) (Page page rows) copying is next = absurd is

-- or all cells, where one was given up
pub next_whole : {A : Type 0} (piece : Piece A) (copying : Copying) → IsAll piece → copying ≡ GivenUp → IsNextPiece piece copying
next_whole (Whole cells) copying is given = given
next_whole (Start life lists) copying is given = absurd is
next_whole (Page page rows) copying is given = absurd is
next_whole (Entries entries) copying is given = absurd is
