use Rattle.std.proofs.Common.{◌≡◌, inl, inr, ℕ, false, refl, sym, ◌∙◌, ap, subst}
use Rattle.std.proofs.lemmas.Result.{IfErr-weaker}
use Rattle.block_device.specs.Blocks.{BlockFile}
use Rattle.block_device.specs.BlocksPast.{BlocksPast, RunsWithin}
use Rattle.block_device.proofs.Within.{within_same}
use Rattle.block_journal.specs.Layout.{IsHonest, IsInside, recovered}
use Rattle.block_journal.specs.Journal.{AreInAreas, InRunOrKept, IsPending, OnlyReads, WritesBackFirst, pending_in}
use Rattle.block_journal.proofs.Before.{leaves_before, not_by_replay}
use Rattle.block_journal.proofs.Keeping.{keeps_areas}
use Rattle.block_journal.specs.declared.refusal.OpenError.{OpenError}
use Rattle.block_journal.specs.declared.refusal.OpenError.TheVariants.{FileFailed, NoBatch, NoMemory}
use Rattle.block_journal.specs.declared.shape.Shape.{Shape}
use Rattle.block_journal.specs.Opening.{HasTakenBoth}
use Rattle.block_journal.specs.JournalParts.{value_of}
use Rattle.block_journal.proofs.Recovering.{stays_recovered, within_pending, writes_back_first}
use Rattle.block_journal.proofs.Results.{err_rises, on_err_always, on_ok, on_ok_always}
use Rattle.block_journal.proofs.WritingBack.{writes_back_later}
use Rattle.block_journal.proofs.parts.JournalParts.recover.Goals as goal

file_not_batch : FileFailed ≡ NoBatch → ⊥
file_not_batch is = cc

file_not_memory : FileFailed ≡ NoMemory → ⊥
file_not_memory is = cc

batch_not_memory : NoBatch ≡ NoMemory → ⊥
batch_not_memory is = cc

-- where nothing was written
read_within : (shape : Shape) (old new : BlocksPast) → ((n : ℕ) → ¬ IsPending shape old.file.content n → old.file.loose n ≡ false) → OnlyReads old new
    → RunsWithin (InRunOrKept shape 0 0 (pending_in shape old.file.content)) old.file.content old new
read_within shape old new synced reads = within_same (InRunOrKept shape 0 0 (pending_in shape old.file.content)) old.file.content old old new
    (within_pending shape old synced) reads.time reads.file

pub take_areas-requires : goal.take_areas-requires
take_areas-requires g c = record {
  inside = c.requires.inside;
  small = c.requires.small;
  last = c.requires.last.buffer;
  last_size = c.requires.last.long;
  last_none = c.requires.last.none;
  other = c.requires.next.buffer;
  other_size = c.requires.next.long;
  other_none = c.requires.next.none;
}

pub returns-in-Err : goal.returns-in-Err
returns-in-Err g c =
    let h = g.B.Blocks.past_of in
    let p = c.args.self.now in
    let reads = c.take_areas.ensures.reads in
    record {
      sound = tt;
      good = tt;
      none = tt;
      settled = tt;
      honest = tt;
      found = tt;
      shape = refl;
      refused = refl;
      stays = stays_recovered p.shape (h p.below) (h c.take_areas.new.below) c.requires.inside
          (read_within p.shape (h p.below) (h c.take_areas.new.below) c.requires.synced reads);
      before = leaves_before p.shape (InRunOrKept p.shape 0 0 (pending_in p.shape (h p.below).file.content)) (h p.below) (h c.take_areas.new.below)
          (not_by_replay p.shape (pending_in p.shape (h p.below).file.content))
          (read_within p.shape (h p.below) (h c.take_areas.new.below) c.requires.synced reads);
      batches = keeps_areas p.shape (pending_in p.shape (h p.below).file.content) (h p.below) (h c.take_areas.new.below) c.requires.inside
          (read_within p.shape (h p.below) (h c.take_areas.new.below) c.requires.synced reads);
      written_back = tt;
      back_err = inl c.in-Err.ensures.back_err;
      back_none = λ never. absurd (file_not_batch never);
      quiet = tt;
      no_memory = file_not_memory;
      no_batch = λ never. absurd (file_not_batch never);
      failed = λ _. c.in-Err.ensures.counts.failed;
    }

pub returns-in-Ok-None : goal.returns-in-Ok-None
returns-in-Ok-None g c =
    let h = g.B.Blocks.past_of in
    let p = c.args.self.now in
    let reads = c.take_areas.ensures.reads in
    record {
      sound = tt;
      good = tt;
      none = tt;
      settled = tt;
      honest = tt;
      found = tt;
      shape = refl;
      refused = refl;
      stays = stays_recovered p.shape (h p.below) (h c.take_areas.new.below) c.requires.inside
          (read_within p.shape (h p.below) (h c.take_areas.new.below) c.requires.synced reads);
      before = leaves_before p.shape (InRunOrKept p.shape 0 0 (pending_in p.shape (h p.below).file.content)) (h p.below) (h c.take_areas.new.below)
          (not_by_replay p.shape (pending_in p.shape (h p.below).file.content))
          (read_within p.shape (h p.below) (h c.take_areas.new.below) c.requires.synced reads);
      batches = keeps_areas p.shape (pending_in p.shape (h p.below).file.content) (h p.below) (h c.take_areas.new.below) c.requires.inside
          (read_within p.shape (h p.below) (h c.take_areas.new.below) c.requires.synced reads);
      written_back = tt;
      back_err = inl (record { reads = reads; back = inl (c.in-Ok-None.ensures.back_none c.in-Ok-None.field-0-is) });
      back_none = λ _. c.in-Ok-None.ensures.back_none c.in-Ok-None.field-0-is;
      quiet = tt;
      no_memory = batch_not_memory;
      no_batch = λ _. c.in-Ok-None.ensures.none c.in-Ok-None.field-0-is;
      failed = λ never. absurd (file_not_batch (sym never));
    }

pub settle-requires : goal.settle-requires
settle-requires g c =
    let h = g.B.Blocks.past_of in
    let p = c.args.self.now in
    let read = c.take_areas.ensures in
    record {
      inside = subst (λ (f : BlockFile). IsInside p.shape f.content) (sym read.reads.file) c.requires.inside;
      small = c.requires.small;
      last = read.last;
      last_size = read.last_size;
      next = read.other;
      next_size = read.other_size;
      taken = subst (λ (f : BlockFile). HasTakenBoth p.shape f.content c.in-Ok-Some.number c.in-Ok-Some.before c.take_areas.new.last c.take_areas.new.other)
          (sym read.reads.file) (rw c.in-Ok-Some.field-0-is at c.in-Ok-Some.ensures.taken);
    }

pub returns-in-Ok-Some : goal.returns-in-Ok-Some
returns-in-Ok-Some g c =
    let h = g.B.Blocks.past_of in
    let p = c.args.self.now in
    let reads = c.take_areas.ensures.reads in
    let same = reads.file in
    let r = c.settle.result in
    let done = c.settle.ensures in
    let counted = c.in-Ok-Some.ensures.counts.none in
    let S = λ (f : BlockFile). InRunOrKept p.shape 0 0 (pending_in p.shape f.content) in
    let old = (h p.below).file in
    let mid = (h c.take_areas.new.below).file in
    let read : RunsWithin (S old) old.content (h p.below) (h c.take_areas.new.below) =
    within_same (S old) old.content (h p.below) (h p.below) (h c.take_areas.new.below) (within_pending p.shape (h p.below) c.requires.synced) reads.time same in
    let within : RunsWithin (S old) old.content (h p.below) (h c.settle.new.self.below) =
    subst (λ (f : BlockFile). RunsWithin (S f) old.content (h p.below) (h c.settle.new.self.below)) same
    (done.within old.content (h p.below)
    (subst (λ (f : BlockFile). RunsWithin (S f) old.content (h p.below) (h c.take_areas.new.below)) (sym same) read)) in
    let start : RunsWithin (S mid) mid.content (h c.take_areas.new.below) (h c.take_areas.new.below) =
    within_pending p.shape (h c.take_areas.new.below)
    (subst (λ (f : BlockFile). (n : ℕ) → ¬ IsPending p.shape f.content n → f.loose n ≡ false) (sym same) c.requires.synced) in
    let since = (done.within mid.content (h c.take_areas.new.below) start).run in
    let back = g.B.Blocks.written_back in
    let first : WritesBackFirst p.shape (h p.below) (h c.take_areas.new.below) (back p.below) (back c.take_areas.new.below) =
    writes_back_first p.shape (h p.below) (h c.take_areas.new.below) c.in-Ok-Some.number c.in-Ok-Some.before c.take_areas.new.last c.take_areas.new.other
    (back p.below) (back c.take_areas.new.below) (rw c.in-Ok-Some.field-0-is at c.in-Ok-Some.ensures.taken) reads
    (rw c.in-Ok-Some.field-0-is at c.in-Ok-Some.ensures.back) in
    let wrote : WritesBackFirst p.shape (h p.below) (h c.settle.new.self.below) (back p.below) (back c.settle.new.self.below) =
    writes_back_later p.shape (h p.below) (h c.take_areas.new.below) (h c.settle.new.self.below) (back p.below) (back c.take_areas.new.below)
    (back c.settle.new.self.below) first since.later since.kept done.back in
    record {
      sound = done.sound;
      good = done.good;
      none = done.none;
      settled = on_ok _ _ r (λ ok. ok ∙ ap (λ (f : BlockFile). recovered p.shape f.content) same) done.settled;
      honest = on_ok _ _ r (λ ok. subst (λ (f : BlockFile). IsHonest (value_of c.settle.new.self).offered p.shape f.content) same ok) done.honest;
      found = on_ok _ _ r (λ ok. subst (λ (f : BlockFile). AreInAreas p.shape f.content (value_of c.settle.new.self).offered) same ok) done.found;
      shape = done.shape;
      refused = done.refused;
      before = leaves_before p.shape (S old) (h p.below) (h c.settle.new.self.below) (not_by_replay p.shape (pending_in p.shape old.content)) within;
      batches = keeps_areas p.shape (pending_in p.shape old.content) (h p.below) (h c.settle.new.self.below) c.requires.inside within;
      stays = stays_recovered p.shape (h p.below) (h c.settle.new.self.below) c.requires.inside within;
      written_back = on_ok_always _ r wrote;
      back_err = on_err_always _ r (inr wrote);
      back_none = IfErr-weaker r _ _ (λ e is never. absurd (file_not_batch (sym is ∙ never))) done.err;
      quiet = on_ok _ _ r (λ ok. ok ∙ counted) done.counts.none;
      no_memory = IfErr-weaker r _ _ (λ e is never. file_not_memory (sym is ∙ never)) done.err;
      no_batch = IfErr-weaker r _ _ (λ e is never. absurd (file_not_batch (sym is ∙ never))) done.err;
      failed = err_rises r (λ (e : OpenError). e ≡ FileFailed) _ _ _ counted done.counts.failed;
    }
