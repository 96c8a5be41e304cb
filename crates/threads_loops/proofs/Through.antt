-- The states that the flush loop goes through.
use Rattle.std.proofs.Common.{◌≡◌, ◌⊎◌, ◌≤◌, ℕ, List, [], ◌∷◌, ◌++◌, ◌-◌, Ok, Result, IfErr, IfOk, OnErr, OnOk, false, true, inl, inr, refl, ap}
use Rattle.std.proofs.Common.{subst, arith}
use Rattle.record_values.specs.declared.error.Error.{Error}
use Rattle.core_model.specs.Histories.{Opened}
use Rattle.sector_device.specs.DevicePast.{DevicePast, LeavesOnly, Rises}
use Rattle.flip_image.specs.Layout.{HalvesValue}
use Rattle.store_image_model.specs.declared.chunk.Piece.{Piece}
use Rattle.store_writer.specs.Image.{BecomesImage}
use Rattle.store_writer.specs.Parts.{copying_of, device_of, halves_of, has_failed, image_of, synced_of}
use Rattle.store_writer.specs.Writer.{HasFailed, IsAsBefore, IsBeforeFlush, IsChunk, IsFlipReply, IsFlushReply, IsNotFlushed, IsStepReply}
use Rattle.store_writer.specs.declared.writer.FlipReply.{FlipReply}
use Rattle.store_writer.specs.declared.writer.FlushReply.{FlushReply}
use Rattle.store_writer.specs.declared.writer.StepReply.{StepReply}
use Rattle.threads_flusher.proofs.Going.{counted_by_call, counted_by_flush, flip_geometry, goes_by_call, quiet_by_call, quiet_by_flush, step_geometry}
use Rattle.threads_flusher.proofs.Keeping.{flip_rises, flush_rises, flush_sound, still_sound}
use Rattle.store_writer.specs.declared.writer.FlushReply.TheVariants.{Flushed}
use Rattle.threads_flusher.specs.Going.{GoesOn, TakesIn}
use Rattle.threads_flusher.specs.Images.{IsHalfFull}
use Rattle.threads_flusher.specs.Part.{FlushValue, FlushLeaves, Publishes, last_handed, run_of}
use Rattle.threads_loops.specs.Through.{Calls, DropsImage, GoesThrough, IsFlip, IsFlush, IsNextPiece, IsStep, PassesThrough, RunsThrough, taken_up}

-- from state to state, and then on
module _ {D A : Type 0} (past_of : D → DevicePast) (marks : ℕ → ℕ → Type 0) (failures : D → ℕ) (o : Opened) where
  steps_then : (old mid new : FlushValue D A) (states more : List (FlushValue D A)) → GoesThrough past_of marks failures o old states mid
      → GoesThrough past_of marks failures o mid more new → GoesThrough past_of marks failures o old (states ++ more) new
  steps_then old mid new [] more is then = subst (λ (f : FlushValue D A). GoesThrough past_of marks failures o f more new) is then
  steps_then old mid new (next ∷ states) more is then = (is.0, steps_then next mid new states more is.1 then)

module _ {D A : Type 0} {marks : ℕ → ℕ → Type 0} (past_of : D → DevicePast) (failures : D → ℕ) (o : Opened) where
  pub through_none : (f : FlushValue D A) → PassesThrough past_of marks failures o f f
  through_none f = record { states = []; steps = refl }

  pub through_taking : (old new : FlushValue D A) → TakesIn old new → PassesThrough past_of marks failures o old new
  through_taking old new takes = record { states = new ∷ []; steps = (inl takes, refl) }

  pub through_then : (old mid new : FlushValue D A) → PassesThrough past_of marks failures o old mid → PassesThrough past_of marks failures o mid new
      → PassesThrough past_of marks failures o old new
  through_then old mid new first second = record {
    states = first.states ++ second.states;
    steps = steps_then past_of marks failures o old mid new first.states second.states first.steps second.steps;
  }

  -- a whole image was given up
  pub through_giving : (old new : FlushValue D A) → DropsImage o old new → PassesThrough past_of marks failures o old new
  through_giving old new drops = record { states = new ∷ []; steps = (inr (inr drops), refl) }

  -- what an earlier loop left was taken up
  pub through_taking_up : (old new : FlushValue D A) → new ≡ taken_up old → RunsThrough past_of marks failures o old new
  through_taking_up old new up = record { states = []; steps = up }

  -- ---- calls of the writer

  module _ (old new : FlushValue D A) where
    pub through_call : Calls past_of marks failures o old new → PassesThrough past_of marks failures o old new
    through_call call = record { states = new ∷ []; steps = (inr (inl call), refl) }

    counted : Calls past_of marks failures o old new → has_failed new.writer ≡ true → has_failed old.writer ≡ false
        → Rises (failures (device_of old.writer)) (failures (device_of new.writer))
    counted call = by call.made
      where
        by : IsFlush failures old new ⊎ (IsStep failures o old new ⊎ IsFlip failures o old new) → has_failed new.writer ≡ true → has_failed old.writer ≡ false
            → Rises (failures (device_of old.writer)) (failures (device_of new.writer))
        by (inl flush) = counted_by_flush failures old.writer new.writer flush.result flush.sound flush.err
        by (inr (inl step)) = counted_by_call failures old.writer new.writer step.result step.sound step.err
        by (inr (inr flip)) = counted_by_call failures old.writer new.writer flip.result flip.sound flip.err

    stays : Calls past_of marks failures o old new → has_failed new.writer ≡ false → has_failed old.writer ≡ false
    stays call = by call.made
      where
        by : IsFlush failures old new ⊎ (IsStep failures o old new ⊎ IsFlip failures o old new) → has_failed new.writer ≡ false → has_failed old.writer ≡ false
        by (inl flush) = flush_sound failures old.writer new.writer flush.result flush.sound flush.err
        by (inr (inl step)) = still_sound failures old.writer new.writer step.result step.sound step.err
        by (inr (inr flip)) = still_sound failures old.writer new.writer flip.result flip.sound flip.err

    pub goes_by : old.published.horizon ≤ synced_of old.writer → Calls past_of marks failures o old new → GoesOn past_of failures o old new
    goes_by low call =
        goes_by_call past_of failures o old new low call.publishes call.geometry call.rises call.images call.later (counted call) (stays call) call.quiet

    module _ (publishes : Publishes past_of marks old new)
        (images : LeavesOnly (past_of (device_of old.writer)) (past_of (device_of new.writer)) (FlushLeaves o old))
        (later : failures (device_of old.writer) ≤ failures (device_of new.writer)) where
      pub by_flush : (result : Result FlushReply Error) → halves_of new.writer ≡ halves_of old.writer
          → IfOk result (λ reply. IsFlushReply reply old.writer new.writer) → OnOk result ((has_failed old.writer ≡ false) × (has_failed new.writer ≡ false))
          → IfErr result (λ e. IsNotFlushed failures e old.writer new.writer) → OnErr result (synced_of new.writer ≡ synced_of old.writer)
          → OnErr result (IsBeforeFlush old.writer new.writer) → OnOk result (failures (device_of new.writer) ≡ failures (device_of old.writer))
          → copying_of new.writer ≡ copying_of old.writer → ((n : ℕ) → result ≡ Ok (Flushed n) → BecomesImage (halves_of old.writer).geometry.slots
          (synced_of old.writer) (n - synced_of old.writer) (image_of old.writer) (image_of new.writer)) → Calls past_of marks failures o old new
      by_flush result halves flushed sound err kept left quiet copying image = record {
        made = inl (record { result = result; flushed = flushed; sound = sound; err = err; left = left; copying = copying; image = image });
        publishes = publishes;
        geometry = ap (λ (h : HalvesValue). h.geometry) halves;
        rises = flush_rises failures old.writer new.writer result flushed kept;
        images = images;
        later = later;
        quiet = quiet_by_flush failures old.writer new.writer result quiet err;
      }

      pub by_step : (number : ℕ) (piece : Piece A) (result : Result StepReply Error) → IsChunk (run_of o old) old.writer number piece
          → IsNextPiece piece (copying_of old.writer) → (has_failed old.writer ≡ false → IsHalfFull old.writer)
          → IfOk result (λ reply. IsStepReply number piece reply old.writer new.writer)
          → OnOk result ((has_failed old.writer ≡ false) × (has_failed new.writer ≡ false)) → IfErr result (λ e. HasFailed failures e old.writer new.writer)
          → synced_of new.writer ≡ synced_of old.writer → OnErr result (IsAsBefore old.writer new.writer)
          → OnOk result (failures (device_of new.writer) ≡ failures (device_of old.writer)) → Calls past_of marks failures o old new
      by_step number piece result chunk next late stepped sound err kept left quiet = record {
        made = inr (inl (record {
          number = number;
          piece = piece;
          chunk = chunk;
          next = next;
          late = late;
          result = result;
          stepped = stepped;
          sound = sound;
          err = err;
          left = left;
        }));
        publishes = publishes;
        geometry = step_geometry old.writer new.writer number piece result stepped left;
        rises = omega (arith, kept);
        images = images;
        later = later;
        quiet = quiet_by_call failures old.writer new.writer result quiet err;
      }

      pub by_flip : (result : Result FlipReply Error) → IfOk result (λ reply. IsFlipReply (last_handed o old) reply old.writer new.writer)
          → OnOk result ((has_failed old.writer ≡ false) × (has_failed new.writer ≡ false))
          → IfErr result (λ e. HasFailed failures e old.writer new.writer) → OnErr result (synced_of new.writer ≡ synced_of old.writer)
          → OnErr result (IsAsBefore old.writer new.writer) → OnOk result (failures (device_of new.writer) ≡ failures (device_of old.writer))
          → Calls past_of marks failures o old new
      by_flip result flipped sound err kept left quiet = record {
        made = inr (inr (record { result = result; flipped = flipped; sound = sound; err = err; left = left }));
        publishes = publishes;
        geometry = flip_geometry old.writer new.writer (last_handed o old) result flipped left;
        rises = flip_rises failures old.writer new.writer (last_handed o old) result flipped kept;
        images = images;
        later = later;
        quiet = quiet_by_call failures old.writer new.writer result quiet err;
      }
