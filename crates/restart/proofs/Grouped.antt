-- What a copy leaves behind the groups that it writes.
use Rattle.std.proofs.Common.{◌≡◌, inl, inr, ℕ, true, List, [], ◌++◌, None, append-nil, refl, sym, ap, ◌∙◌}
use Rattle.records.specs.RecordValue.{RecordValue}
use Rattle.record_values.specs.declared.error.Error.{Error}
use Rattle.record_values.specs.declared.error.Error.TheVariants.{DeviceFailed, NoMemory}
use Rattle.sector_device.specs.DevicePast.{DevicePast}
use Rattle.store_writer.specs.Parts as writer
use Rattle.store_writer.specs.Writer.{IsFlipReply}
use Rattle.store_writer.specs.declared.copying.Copying.TheVariants.{Steps}
use Rattle.store_writer.specs.declared.writer.FlipReply.TheVariants.{Flipped}
use Rattle.store_writer.specs.declared.writer.Writer.{Writer}
use Rattle.restart.specs.declared.parts.EngineParts.{EngineParts}
use Rattle.restart.specs.declared.event.Reply.{Reply}
use Rattle.restart.specs.declared.event.Reply.TheVariants as reply
use Rattle.restart.specs.Groups.{CopiesByGroups, GivesUp, HasAll, WritesByGroups, WritesGroups, no_more, one_more}
use Rattle.restart.specs.Handing.{FlushesFirst, HandsOver}
use Rattle.restart.specs.Parts.{unhanded, writer_of}
use Rattle.restart.proofs.Keeping.{keeps_over}

module _ {D M : Type 0} where
  -- no group was written, and nothing else
  pub by_none : (e : Error) (old new : Writer D M) → e ≡ NoMemory → new ≡ old → WritesByGroups (reply.Refused e) old new
  by_none e old new is same = record { last = old; groups = no_more; ends = inl (is, same) }

  -- nor was one before the image was given up
  pub by_giving_up : (old new : Writer D M) → GivesUp old new → WritesByGroups reply.Again old new
  by_giving_up old new given = record { last = old; groups = no_more; ends = given }

  -- nor was one before the device failed
  pub by_failure : (e : Error) (old new : Writer D M) → e ≡ DeviceFailed → writer.has_failed new ≡ true → writer.synced_of new ≡ writer.synced_of old
      → WritesByGroups (reply.Refused e) old new
  by_failure e old new is failed level = record { last = old; groups = no_more; ends = inr (is, failed, level) }

  -- nor was one before the image was made current
  pub at_once : (handed n : ℕ) (old new : Writer D M) → IsFlipReply handed (Flipped n) old new → WritesByGroups (reply.Flipped n) old new
  at_once handed n old new flipped = record {
    last = old;
    groups = no_more;
    ends = record {
      may = (flipped.2.0, flipped.2.1, flipped.2.2, flipped.2.4);
      flipped = flipped.5;
      reached = λ image there. sym flipped.0 ∙ flipped.3 image there;
    };
  }

  -- groups behind others
  groups_both : (first mid last : Writer D M) → WritesGroups first mid → WritesGroups mid last → WritesGroups first last
  groups_both first mid last before no_more = before
  groups_both first mid last before (one_more one another number groups could_not flushed becomes) =
      one_more one last number (groups_both first mid one before groups) could_not flushed becomes

  -- behind some groups
  pub groups_then : (r : Reply M) (first mid new : Writer D M) → WritesGroups first mid → WritesByGroups r mid new → WritesByGroups r first new
  groups_then r first mid new before then = record { last = then.last; groups = groups_both first mid then.last before then.groups; ends = then.ends }

  -- one group more
  pub group_more : (failures : D → ℕ) (first : Writer D M) (mid new : EngineParts D M) → WritesGroups first (writer_of mid) → FlushesFirst failures mid new
      → WritesGroups first (writer_of new)
  group_more failures first mid new groups flushes =
      one_more (writer_of mid) (writer_of new) flushes.flushed.0 groups flushes.could-not flushes.flushed.1.0 flushes.flushed.1.1

-- nothing was done
pub kept_store : {D M : Type 0} (r : Reply M) (engine : EngineParts D M) → CopiesByGroups r engine engine
kept_store r engine whole = inl (record { device = refl; halves = refl; log = refl; image = refl; horizon = refl })

-- the writer has every record already
pub has_each : {D M : Type 0} (engine : EngineParts D M) → unhanded engine ≡ [] → HasAll engine (writer_of engine)
has_each engine all = record {
  waiting = sym (ap (λ (l : List RecordValue). writer.waiting_of (writer_of engine) ++ l) all ∙ append-nil (writer.waiting_of (writer_of engine)));
  halves = refl;
  log = refl;
  image = refl;
  synced = refl;
}

-- ---- where the writer took records first

module _ {D M : Type 0} (past_of : D → DevicePast) (old mid : EngineParts D M) (over : HandsOver past_of old mid) where
  pub not_over_kept : (r : Reply M) → CopiesByGroups r old mid
  not_over_kept r whole = inl (keeps_over past_of old mid over)

  -- a writer that has every record then
  pub all_over : (first : Writer D M) → HasAll mid first → HasAll old first
  all_over first all = record {
    waiting = all.waiting ∙ over.unwritten-are;
    halves = all.halves ∙ over.halves;
    log = all.log ∙ over.log;
    image = all.image ∙ over.image;
    synced = all.synced ∙ over.horizon;
  }

  pub groups_over : (r : Reply M) (new : EngineParts D M) → unhanded mid ≡ []
      → (mid.writer.copying ≡ Steps None → WritesByGroups r (writer_of mid) (writer_of new)) → CopiesByGroups r old new
  groups_over r new all wrote whole = inr (writer_of mid, all_over (writer_of mid) (has_each mid all), wrote (over.copying ∙ whole))
