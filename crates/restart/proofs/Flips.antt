-- Copies in a row come to a flip.
use Rattle.std.proofs.Common.{◌⊎◌, inl, inr, ⊎_elim, ℕ, ◌+◌, ◌≤◌, ◌<◌, List, [], ◌∷◌, length, refl, ap, arith}
use Rattle.store_writer.specs.Parts.{image_of}
use Rattle.restart.specs.declared.event.Reply.{Reply}
use Rattle.restart.specs.declared.event.Reply.TheVariants as reply
use Rattle.restart.specs.declared.parts.EngineParts.{EngineParts}
use Rattle.restart.specs.Copies.{HaveFlip, HaveNoRefusal, IsCopyAnswer, IsFlip, IsRefusal, copies, copies_left, most_copies}
use Rattle.restart.specs.Lawful.{AreLawful}
use Rattle.restart.specs.Parts.{core_of, writer_of}
use Rattle.restart.proofs.Fewer.{left_bounds}

module _ {D M : Type 0} (failures : D → ℕ) where
  -- a copy flips, or leaves fewer
  one_fewer : (r : Reply M) (old new : EngineParts D M) → IsCopyAnswer failures r old new → ¬ IsRefusal r → IsFlip r ⊎ (copies_left new < copies_left old)
  one_fewer (reply.Txn t) old new is granted = absurd is
  one_fewer (reply.Rid r) old new is granted = absurd is
  one_fewer reply.Stepped old new is granted = absurd is
  one_fewer reply.Undone old new is granted = absurd is
  one_fewer reply.Empty old new is granted = absurd is
  one_fewer reply.Ended old new is granted = absurd is
  one_fewer (reply.Ticket t) old new is granted = absurd is
  one_fewer (reply.Built b) old new is granted = absurd is
  one_fewer (reply.Cleaned c) old new is granted = absurd is
  one_fewer (reply.Horizon m) old new is granted = absurd is
  one_fewer reply.LogFull old new is granted = absurd is
  one_fewer reply.Copied old new is granted = inr is.2
  one_fewer (reply.Flipped n) old new is granted = inl (n, refl)
  one_fewer reply.Again old new is granted = inr is.3
  one_fewer (reply.Row row) old new is granted = absurd is
  one_fewer (reply.Found rids) old new is granted = absurd is
  one_fewer (reply.Life life) old new is granted = absurd is
  one_fewer reply.Skipped old new is granted = absurd is
  one_fewer (reply.Refused e) old new is granted = absurd (granted (e, refl))

  flips_or_fewer : (replies : List (Reply M)) (old new : EngineParts D M) → AreLawful failures (copies replies) replies old new → HaveNoRefusal replies
      → HaveFlip replies ⊎ (copies_left new + length replies ≤ copies_left old)
  flips_or_fewer [] old new same none = inr (omega (arith, ap (λ (e : EngineParts D M). copies_left e) same))
  flips_or_fewer (r ∷ replies) old new (mid, is, rest) (granted, none) = ⊎_elim
      (λ flip. inl (inl flip))
      (λ fewer. ⊎_elim (λ later. inl (inr later)) (λ few. inr (omega (arith, fewer, few))) (flips_or_fewer replies mid new rest none))
      (one_fewer r old mid is granted)

  pub flips : (replies : List (Reply M)) (old new : EngineParts D M) → AreLawful failures (copies replies) replies old new → HaveNoRefusal replies
      → most_copies old.geometry ≤ length replies → HaveFlip replies
  flips replies old new lawful none enough = ⊎_elim
      (λ flip. flip)
      (λ few.
      let least = left_bounds new.geometry (core_of new).last (image_of (writer_of new)) new.writer.copying in
      let most = left_bounds old.geometry (core_of old).last (image_of (writer_of old)) old.writer.copying in
      absurd (omega (arith, few, least.0, most.1, enough)))
      (flips_or_fewer replies old new lawful none)
