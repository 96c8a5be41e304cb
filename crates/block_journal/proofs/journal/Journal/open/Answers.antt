use Rattle.std.proofs.Common.{◌≡◌, inl, refl, ap, arith}
use Rattle.block_journal.specs.declared.refusal.OpenError.TheVariants.{FileFailed, NoBatch, NoMemory}
use Rattle.block_journal.specs.Entries.{entries_in}
use Rattle.block_journal.specs.Journal.{InRunOrKept, pending_in}
use Rattle.block_journal.proofs.Before.{leaves_before, not_by_replay}
use Rattle.block_journal.proofs.Keeping.{keeps_areas}
use Rattle.block_journal.proofs.OnlyReading.{reads_none}
use Rattle.block_journal.proofs.Recovering.{stays_recovered, within_pending}
use Rattle.block_journal.proofs.journal.Journal.open.Goals as goal

memory_not_batch : NoMemory ≡ NoBatch → ⊥
memory_not_batch is = cc

memory_not_file : NoMemory ≡ FileFailed → ⊥
memory_not_file is = cc

pub returns-in_default : goal.returns-in_default
returns-in_default g c =
    let h = g.B.Blocks.past_of c.args.below in
    let shape = c.args.shape in
    record {
      settled = tt;
      none = tt;
      shape = tt;
      sound = tt;
      honest = tt;
      found = tt;
      any_moment = tt;
      before = tt;
      batches = tt;
      written_back = tt;
      quiet = tt;
      unrefused = tt;
      refused = stays_recovered shape h h c.requires.inside (within_pending shape h c.requires.synced);
      before_refused = leaves_before shape (InRunOrKept shape 0 0 (pending_in shape h.file.content)) h h
          (not_by_replay shape (pending_in shape h.file.content)) (within_pending shape h c.requires.synced);
      batches_refused = keeps_areas shape (pending_in shape h.file.content) h h c.requires.inside (within_pending shape h c.requires.synced);
      written_back_refused = inl (record { reads = reads_none h; back = inl refl });
      back_none = λ never. absurd (memory_not_batch never);
      no_batch = λ never. absurd (memory_not_batch never);
      failed = λ never. absurd (memory_not_file never);
      no_memory = λ _. refl;
    }

pub recover-requires : goal.recover-requires
recover-requires g c = record {
  inside = c.requires.inside;
  small = omega (arith, c.requires.inside.room);
  synced = c.requires.synced;
  last = c.in-Ok.ensures.first;
  next = c.in-Ok.ensures.second;
}

pub invariant_of-result : goal.invariant_of-result
invariant_of-result g c = c.in-Ok-recover.ensures.sound

pub returns-in-Ok-recover : goal.returns-in-Ok-recover
returns-in-Ok-recover g c =
    let done = c.in-Ok-recover.ensures in
    let p = c.recover.new.self in
    record {
      settled = done.settled;
      none = ap (entries_in p.next.area.items p.next.places) done.none;
      shape = c.recover.ensures.shape;
      sound = done.good;
      honest = done.honest;
      found = done.found;
      any_moment = c.recover.ensures.stays;
      before = c.recover.ensures.before;
      batches = c.recover.ensures.batches;
      written_back = done.written_back;
      quiet = done.quiet;
      unrefused = c.recover.ensures.refused;
      refused = tt;
      before_refused = tt;
      batches_refused = tt;
      written_back_refused = tt;
      back_none = tt;
      no_batch = tt;
      failed = tt;
      no_memory = tt;
    }

pub returns-in-Err : goal.returns-in-Err
returns-in-Err g c =
    let done = c.in-Err.ensures in
    record {
      settled = tt;
      none = tt;
      shape = tt;
      sound = tt;
      honest = tt;
      found = tt;
      any_moment = tt;
      before = tt;
      batches = tt;
      written_back = tt;
      quiet = tt;
      unrefused = tt;
      refused = c.recover.ensures.stays;
      before_refused = c.recover.ensures.before;
      batches_refused = c.recover.ensures.batches;
      written_back_refused = done.back_err;
      back_none = done.back_none;
      no_batch = done.no_batch;
      failed = done.failed;
      no_memory = λ is. absurd (done.no_memory is);
    }
