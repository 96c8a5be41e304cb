-- One copy after another, until an image is current.
use Rattle.std.proofs.Common.{◌≡◌, ◌<◌, ℕ, true, false, [], ◌∷◌, refl}
use Rattle.std.proofs.lemmas.List.Elements.{All-nil, All-cons}
use Rattle.sector_device.specs.DevicePast.{DevicePast}
use Rattle.restart.specs.Copies.{copies_left}
use Rattle.restart.specs.declared.event.Event.TheVariants.{Copy}
use Rattle.restart.specs.declared.event.Reply.{Reply}
use Rattle.restart.specs.declared.event.Reply.TheVariants as reply
use Rattle.restart.specs.Repeated.{is_on_the_way, TakesImage, Serves}
use Rattle.restart.specs.declared.parts.EngineParts.{EngineParts}

module _ {D M : Type 0} (past_of : D → DevicePast) (failures : D → ℕ) where
  -- the final copy
  pub last_copy : (final : Reply M) (old new : EngineParts D M) → is_on_the_way final ≡ false → Serves past_of failures Copy final old new
      → TakesImage past_of failures final old new
  last_copy final old new ends wrote = record {
    mid = old;
    replies = [];
    copied = refl;
    on_the_way = All-nil (λ (r : Reply M). is_on_the_way r ≡ true);
    final_copy = wrote;
    ends = ends;
  }

  -- one copy before those that follow
  pub one_copy_more : (final told : Reply M) (old next new : EngineParts D M) → is_on_the_way told ≡ true → Serves past_of failures Copy told old next
      → TakesImage past_of failures final next new → TakesImage past_of failures final old new
  one_copy_more final told old next new on_the_way wrote on = record {
    mid = on.mid;
    replies = told ∷ on.replies;
    copied = (next, wrote, on.copied);
    on_the_way = All-cons (λ (r : Reply M). is_on_the_way r ≡ true) told on.replies on_the_way on.on_the_way;
    final_copy = on.final_copy;
    ends = on.ends;
  }

  -- fewer copies are left behind one that is on the way
  pub fewer_left : (told : Reply M) (old new : EngineParts D M) → is_on_the_way told ≡ true → Serves past_of failures Copy told old new
      → copies_left new < copies_left old
  fewer_left reply.Copied old new e wrote = wrote.lawful.2
  fewer_left reply.Again old new e wrote = wrote.lawful.3
  fewer_left (reply.Txn t) old new e wrote = cc
  fewer_left (reply.Rid r) old new e wrote = cc
  fewer_left reply.Stepped old new e wrote = cc
  fewer_left reply.Ended old new e wrote = cc
  fewer_left reply.Undone old new e wrote = cc
  fewer_left reply.Empty old new e wrote = cc
  fewer_left (reply.Ticket t) old new e wrote = cc
  fewer_left (reply.Built b) old new e wrote = cc
  fewer_left (reply.Cleaned c) old new e wrote = cc
  fewer_left (reply.Horizon n) old new e wrote = cc
  fewer_left reply.LogFull old new e wrote = cc
  fewer_left (reply.Flipped n) old new e wrote = cc
  fewer_left (reply.Row r) old new e wrote = cc
  fewer_left (reply.Found f) old new e wrote = cc
  fewer_left (reply.Life l) old new e wrote = cc
  fewer_left reply.Skipped old new e wrote = cc
  fewer_left (reply.Refused r) old new e wrote = cc
