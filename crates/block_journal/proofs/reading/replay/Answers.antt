use Rattle.std.proofs.Common.{◌≡◌, ℕ, Err, length, refl, sym, ◌∙◌, ap, subst}
use Rattle.std.proofs.lemmas.Result.{err_from_is_err_and}
use Rattle.sector_device.proofs.Counts.{counts_later}
use Rattle.block_device.specs.Blocks.{CrashFile, BlockFile, IsSynced, SameOutside, after_sync}
use Rattle.block_device.proofs.Within.{holds_after_sync, within_sync}
use Rattle.block_batch.specs.Batch.{IsPlace, replayed}
use Rattle.block_journal.specs.Layout.{area_of, kept_of}
use Rattle.block_journal.specs.Journal.{InRunOrKept}
use Rattle.block_journal.specs.Gathered.{entries_of}
use Rattle.block_journal.specs.Opening.{first_entries}
use Rattle.block_journal.proofs.Results.{on_ok}
use Rattle.block_journal.proofs.reading.replay.Goals as goal

pub returns-in_err-replay_before : goal.returns-in_err-replay_before
returns-in_err-replay_before g c =
    let p = err_from_is_err_and c.from_residual.result c.from_residual.ensures.1 in
    let done = c.replay_before.ensures in
    rw (p.1 ∙ ap Err p.2) (record {
      within = done.within;
      areas = done.areas;
      size = done.size;
      placed = tt;
      synced = tt;
      back = done.back;
      counts = c.in_err-replay_before.ensures.counts;
    })

pub returns : goal.returns
returns g c =
    let h = g.B.Blocks.past_of in
    let shape = c.args.shape in
    let done = c.replay_before.ensures in
    let start : CrashFile = (h c.args.below.now).file.content in
    let mid : BlockFile = (h c.replay_before.new.below).file in
    let new : BlockFile = (h c.sync.new.self).file in
    let S : ℕ → Type 0 = IsPlace (entries_of c.args.last.now) in
    let first : CrashFile = replayed (first_entries c.args.number c.args.before (entries_of c.args.other.now)) (kept_of shape start) in
    record {
      within = λ all image from places so_far. within_sync (InRunOrKept shape 0 0 all) image from (h c.replay_before.new.below) (h c.sync.new.self)
          (done.within all image from places so_far) c.sync.ensures.time c.sync.result c.sync.ensures.ok c.sync.ensures.err;
      areas = λ a low. holds_after_sync (λ f. area_of shape f.content a ≡ area_of shape start a) mid new c.sync.result c.sync.ensures.ok c.sync.ensures.err
          (done.areas a low) (done.areas a low);
      size = holds_after_sync (λ f. length f.content ≡ length start) mid new c.sync.result c.sync.ensures.ok c.sync.ensures.err done.size done.size;
      placed = on_ok (new ≡ after_sync mid) (SameOutside S first (kept_of shape new.content)) c.sync.result
          (λ ok. subst (λ (image : CrashFile). SameOutside S first (kept_of shape image)) (sym (ap (λ (f : BlockFile). f.content) ok))
          c.in_ok-replay_before.ensures.placed) c.sync.ensures.ok;
      synced = on_ok (new ≡ after_sync mid) (IsSynced new) c.sync.result (λ ok. subst IsSynced (sym ok) (λ n. refl)) c.sync.ensures.ok;
      back = c.sync.ensures.back ∙ done.back;
      counts = counts_later _ _ _ c.sync.result c.in_ok-replay_before.ensures.counts.none c.sync.ensures.counts;
    }
