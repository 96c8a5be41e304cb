use Rattle.std.proofs.Common.{◌≡◌, ℕ, ◌+◌, ◌-◌, ◌<◌, Err, [], List, Some, length, refl, sym, ◌∙◌, ap, subst, arith}
use Rattle.std.proofs.lemmas.Result.{err_from_is_err_and}
use Rattle.sector_device.proofs.Counts.{counts_later}
use Rattle.block_device.specs.Blocks.{CrashFile, BlockFile, IsSynced, after_sync, block}
use Rattle.block_device.specs.BlocksPast.{BlocksPast}
use Rattle.block_device.proofs.Within.{holds_after_sync, within_sync}
use Rattle.block_journal.specs.Layout.{IsInside, found, kept_of, kept_start}
use Rattle.block_journal.proofs.Crash.{block_of_run}
use Rattle.block_journal.proofs.Placing.{inside_same}
use Rattle.block_journal.proofs.Results.{on_ok}
use Rattle.block_table.specs.Table.{table_count}
use Rattle.block_file.specs.Making.{AreBegun, HoldsZeros, IsBehind, IsNewBlock}
use Rattle.block_file.proofs.NewFile.{both_begun, found_same, told_small, zeros_held}
use Rattle.block_file.proofs.making.write_behind.Goals as goal

pub overflow_sub-table : goal.overflow_sub-table
overflow_sub-table g c = omega (arith, (told_small c.args.plan c.requires.told).kept)

pub write_kept-requires : goal.write_kept-requires
write_kept-requires g c =
    let small = told_small c.args.plan c.requires.told in
    record {
      few = omega (arith, small.kept, small.blocks, small.sectors, small.lead);
      behind = omega (arith, small.first);
      inside = omega (arith, c.requires.room.room);
    }

pub begin_area-requires : goal.begin_area-requires
begin_area-requires g c = record {
  inside = inside_same c.args.plan.shape _ _ c.requires.room c.write_kept.ensures.size;
  behind = omega (arith, (told_small c.args.plan c.requires.told).first);
  low = omega arith;
}

pub begin_area-requires-2 : goal.begin_area-requires-2
begin_area-requires-2 g c = record {
  inside = inside_same c.args.plan.shape _ _ c.requires.room (c.begin_area.ensures.size ∙ c.write_kept.ensures.size);
  behind = omega (arith, (told_small c.args.plan c.requires.told).first);
  low = omega arith;
}

pub returns-in_err-write_kept : goal.returns-in_err-write_kept
returns-in_err-write_kept g c =
    let p = err_from_is_err_and c.from_residual.result c.from_residual.ensures.1 in
    rw (p.1 ∙ ap Err p.2) (record {
      zeros = tt;
      begun = tt;
      synced = tt;
      size = c.write_kept.ensures.size;
      within = c.write_kept.ensures.within;
      back = c.write_kept.ensures.back;
      counts = c.in_err-write_kept.ensures.counts;
    })

pub returns-in_err-begin_area : goal.returns-in_err-begin_area
returns-in_err-begin_area g c =
    let p = err_from_is_err_and c.from_residual-in_err-begin_area.result c.from_residual-in_err-begin_area.ensures.1 in
    rw (p.1 ∙ ap Err p.2) (record {
      zeros = tt;
      begun = tt;
      synced = tt;
      size = c.begin_area.ensures.size ∙ c.write_kept.ensures.size;
      within = λ image start from. c.begin_area.ensures.within image start (c.write_kept.ensures.within image start from);
      back = c.begin_area.ensures.back ∙ c.write_kept.ensures.back;
      counts = counts_later _ _ _ _ c.in_ok-write_kept.ensures.counts.none c.in_err-begin_area.ensures.counts;
    })

pub returns-in_err-begin_area-2 : goal.returns-in_err-begin_area-2
returns-in_err-begin_area-2 g c =
    let p = err_from_is_err_and c.from_residual-in_err-begin_area-2.result c.from_residual-in_err-begin_area-2.ensures.1 in
    rw (p.1 ∙ ap Err p.2) (record {
      zeros = tt;
      begun = tt;
      synced = tt;
      size = c.begin_area-2.ensures.size ∙ c.begin_area.ensures.size ∙ c.write_kept.ensures.size;
      within = λ image start from. c.begin_area-2.ensures.within image start
          (c.begin_area.ensures.within image start (c.write_kept.ensures.within image start from));
      back = c.begin_area-2.ensures.back ∙ c.begin_area.ensures.back ∙ c.write_kept.ensures.back;
      counts = counts_later _ _ _ _ (c.in_ok-begin_area.ensures.counts.none ∙ c.in_ok-write_kept.ensures.counts.none)
          c.in_err-begin_area-2.ensures.counts;
    })

pub returns : goal.returns
returns g c =
    let h = g.B.Blocks.past_of in
    let plan = c.args.plan in
    let shape = plan.shape in
    let old : BlockFile = (h c.args.below.now).file in
    let one : CrashFile = (h c.write_kept.new.below).file.content in
    let two : CrashFile = (h c.begin_area.new.below).file.content in
    let mid : BlocksPast = h c.begin_area-2.new.below in
    let new : BlocksPast = h c.sync.new.self in
    let done = c.sync.ensures in
    let size : length mid.file.content ≡ length old.content =
    c.begin_area-2.ensures.size ∙ c.begin_area.ensures.size ∙ c.write_kept.ensures.size in
    let inside : IsInside shape mid.file.content = inside_same shape old.content mid.file.content c.requires.room size in
    let kept : kept_of shape mid.file.content ≡ kept_of shape one =
    c.in_ok-begin_area-2.ensures.kept ∙ c.in_ok-begin_area.ensures.kept in
    let first : found shape mid.file.content 0 ≡ Some (record { number = 0; entries = [] }) =
    found_same shape two mid.file.content 0 (c.in_ok-begin_area-2.ensures.other 0 (omega arith) (omega arith)) ∙ c.in_ok-begin_area.ensures.begun in
    let table : shape.kept - plan.blocks ≡ table_count plan.blocks = omega (arith, (told_small plan c.requires.told).kept) in
    let each : (k : ℕ) → k < shape.kept → IsNewBlock (table_count plan.blocks) k (block mid.file.content (kept_start shape + k)) =
    λ k below. subst (λ (b : List ℕ). IsNewBlock (table_count plan.blocks) k b)
    (sym (sym (block_of_run mid.file.content (kept_start shape) shape.kept k below) ∙ ap (λ (l : CrashFile). block l k) kept
    ∙ block_of_run one (kept_start shape) shape.kept k below))
    (subst (λ (t : ℕ). IsNewBlock t k (block one (kept_start shape + k))) table (c.in_ok-write_kept.ensures.kept k below)) in
    let zeros : HoldsZeros plan mid.file.content =
    zeros_held plan mid.file.content c.requires.told inside first c.in_ok-begin_area-2.ensures.begun each in
    record {
      zeros = on_ok (new.file ≡ after_sync mid.file) (HoldsZeros plan new.file.content) c.sync.result
          (λ ok. subst (λ (f : BlockFile). HoldsZeros plan f.content) (sym ok) zeros) done.ok;
      begun = on_ok (new.file ≡ after_sync mid.file) (AreBegun shape new.file.content) c.sync.result
          (λ ok. subst (λ (f : BlockFile). AreBegun shape f.content) (sym ok)
          (both_begun shape mid.file.content first c.in_ok-begin_area-2.ensures.begun)) done.ok;
      synced = on_ok (new.file ≡ after_sync mid.file) (IsSynced new.file) c.sync.result (λ ok. subst IsSynced (sym ok) (λ n. refl)) done.ok;
      size = holds_after_sync (λ f. length f.content ≡ length old.content) mid.file new.file c.sync.result done.ok done.err size size;
      within = λ image start from. within_sync IsBehind image start mid new (c.begin_area-2.ensures.within image start
          (c.begin_area.ensures.within image start (c.write_kept.ensures.within image start from))) done.time c.sync.result done.ok done.err;
      back = done.back ∙ c.begin_area-2.ensures.back ∙ c.begin_area.ensures.back ∙ c.write_kept.ensures.back;
      counts = counts_later _ _ _ c.sync.result
          (c.in_ok-begin_area-2.ensures.counts.none ∙ c.in_ok-begin_area.ensures.counts.none ∙ c.in_ok-write_kept.ensures.counts.none) done.counts;
    }
