-- What the answers of a writer say of it.
use Rattle.std.proofs.Common.{Result, Ok, Err, OnOk, OnErr, IfOk, ◌≡◌, ◌≢◌, Option, None, ℕ, ◌+◌, ◌-◌, ◌<◌, drop, refl, sym, ap, subst, ◌∙◌, arith}
use Rattle.record_values.specs.declared.error.Error.{Error}
use Rattle.gate_log.specs.Area.{Area, Log}
use Rattle.store_image_model.specs.Places.{place_behind}
use Rattle.store_image_model.specs.declared.chunk.CopyPlace.{CopyPlace}
use Rattle.store_image_model.specs.declared.chunk.Piece.{Piece}
use Rattle.store_writer.specs.declared.copying.Copying.TheVariants.{Steps}
use Rattle.store_writer.specs.declared.image.NewImage.{NewImage}
use Rattle.store_writer.specs.declared.writer.Writer.{Writer}
use Rattle.store_writer.specs.declared.writer.FlushReply.{FlushReply}
use Rattle.store_writer.specs.declared.writer.FlushReply.TheVariants.{Flushed}
use Rattle.store_writer.specs.Known.{KnowsBehind}
use Rattle.store_writer.specs.Writer.{FillsGroup, HasKept, HasPiece, HasTaken, IsAsBefore, IsBeforeFlush, IsFlushReply}

-- a log of the same area with one open slot more
pub log_more : (old new : Log) → new.area ≡ old.area → new.open_slots ≡ old.open_slots + 1 → new ≡ record old { open_slots = old.open_slots + 1 }
log_more old new area slots =
    let first : new ≡ record { area = old.area; open_slots = new.open_slots } =
    ap (λ (a : Area). let l : Log = record { area = a; open_slots = new.open_slots } in l) area in
    first ∙ ap (λ (n : ℕ). let l : Log = record { area = old.area; open_slots = n } in l) slots

module _ {D M : Type 0} (old mid new : Writer D M) (count : ℕ) where
  -- a group was appended, and all that is planned with the image was done
  pub flushed_more : (result : Result FlushReply Error) → mid.halves ≡ old.halves → mid.waiting ≡ old.waiting → mid.synced ≡ old.synced
      → mid.log ≡ record old.log { open_slots = old.log.open_slots + 1 }
      → 0 < count → FillsGroup old.waiting count
      → IfOk result (λ reply. (reply ≡ Flushed new.synced) × (new.synced ≡ mid.synced + count) × (new.failed ≡ mid.failed))
      → OnOk result ((new.halves ≡ mid.halves) × (new.log ≡ mid.log) × (new.waiting ≡ drop count mid.waiting))
      → IfOk result (λ reply. IsFlushReply reply old new)
  flushed_more (Err e) halves waiting synced log some fills flushed rest = tt
  flushed_more (Ok reply) halves waiting synced log some fills (is, number, _) (halves_new, log_new, waiting_new) =
      let counted : count ≡ new.synced - old.synced = omega (arith, number, synced) in
      subst (λ (r : FlushReply). IsFlushReply r old new) (sym is) (
        refl,
        omega (arith, number, synced, some),
        subst (FillsGroup old.waiting) counted fills,
        record {
          halves-are = halves_new ∙ halves;
          log-is = log_new ∙ log;
          waiting-are = waiting_new ∙ ap (drop count) waiting ∙ ap (λ (n : ℕ). drop n old.waiting) counted;
        },
      )

  -- a group was appended, and what is planned with the image failed
  pub failed_behind : (result : Result FlushReply Error) → mid ≡ record old { device = mid.device; log = mid.log }
      → OnErr result ((mid.image ≢ None) × IsAsBefore mid new) → OnErr result (IsBeforeFlush old new)
  failed_behind (Ok reply) mid_is failed = tt
  failed_behind (Err e) mid_is (some, is) = record {
    rest = is ∙ ap (λ (w : Writer D M). record w { device = new.device; failed = new.failed }) mid_is
        ∙ ap (λ (l : Log). record old { device = new.device; failed = new.failed; log = l }) (sym (ap (λ (w : Writer D M). w.log) is));
    log-is = λ none. absurd (some (ap (λ (w : Writer D M). w.image) mid_is ∙ none));
  }

-- a piece of this shape was taken
pub taken_as : {A D M T E : Type 0} (number : ℕ) (piece shape : Piece A) (behind : Option CopyPlace) (old new : Writer D M) (result : Result T E)
    → piece ≡ shape → behind ≡ place_behind old.halves.geometry.pages piece
    → OnOk result ((image : NewImage) × HasKept image old new × HasPiece number shape old image × (new.copying ≡ Steps behind))
    → OnOk result (HasTaken number piece old new)
taken_as number piece shape behind old new (Ok x) is at (image, kept, has, copying) =
    (image, kept, subst (λ (p : Piece _). HasPiece number p old image) (sym is) has, copying ∙ ap Steps at)
taken_as number piece shape behind old new (Err e) is at taken = tt

-- and what is known then
pub knows_as : {A D M T E : Type 0} (number : ℕ) (piece shape : Piece A) (old new : Writer D M) (result : Result T E) → piece ≡ shape
    → OnOk result (KnowsBehind number shape old new) → OnOk result (KnowsBehind number piece old new)
knows_as number piece shape old new result is knows = subst (λ (p : Piece _). OnOk result (KnowsBehind number p old new)) (sym is) knows
