use Rattle.std.proofs.Common.{◌≡◌, ℕ, Err, List, [], ◌∷◌, refl, sym, ◌∙◌, ap, subst, arith}
use Rattle.std.proofs.lemmas.Result.{err_from_is_err_and}
use Rattle.sector_device.proofs.Counts.{counts_later}
use Rattle.block_device.specs.Blocks.{CrashFile, BlockFile, InRun, IsSynced, after_sync, block}
use Rattle.block_device.specs.BlocksPast.{BlocksPast}
use Rattle.block_device.proofs.CrashFiles.{with_run_inside}
use Rattle.block_device.proofs.Within.{within_start, within_sync, within_write}
use Rattle.block_journal.proofs.Placing.{synced_all}
use Rattle.block_journal.proofs.Results.{on_ok}
use Rattle.block_file.proofs.making.write_headers.Goals as goal

pub returns-in_err-write : goal.returns-in_err-write
returns-in_err-write g c =
    let p = err_from_is_err_and c.from_residual.result c.from_residual.ensures.1 in
    let h = g.B.Blocks.past_of in
    let header : List ℕ = c.args.header.now in
    let run : CrashFile = header ∷ header ∷ [] in
    let old : BlocksPast = h c.args.below.now in
    let mid : BlocksPast = h c.write.new.self in
    let wrote = c.write.ensures in
    rw (p.1 ∙ ap Err p.2) (record {
      first = tt;
      second = tt;
      synced = tt;
      within = within_write (InRun 0 2) old.file.content old old mid
          (within_start (InRun 0 2) old.file.content old (synced_all (InRun 0 2) old.file c.requires.synced)) wrote.time 0 run c.write.result
          (λ n inside. inside) wrote.ok wrote.err;
      back = wrote.back;
      counts = c.in_err-write.ensures.counts;
    })

pub returns : goal.returns
returns g c =
    let h = g.B.Blocks.past_of in
    let header : List ℕ = c.args.header.now in
    let run : CrashFile = header ∷ header ∷ [] in
    let old : BlocksPast = h c.args.below.now in
    let mid : BlocksPast = h c.write.new.self in
    let new : BlocksPast = h c.sync.new.self in
    let wrote = c.write.ensures in
    let done = c.sync.ensures in
    record {
      first = on_ok (new.file ≡ after_sync mid.file) (block new.file.content 0 ≡ header) c.sync.result
          (λ ok. ap (λ (f : BlockFile). block f.content 0) ok ∙ ap (λ (f : BlockFile). block f.content 0) c.in_ok-write.ensures.ok
          ∙ with_run_inside old.file.content 0 run 0 0 refl (omega arith) (omega (arith, c.requires.room))) done.ok;
      second = on_ok (new.file ≡ after_sync mid.file) (block new.file.content 1 ≡ header) c.sync.result
          (λ ok. ap (λ (f : BlockFile). block f.content 1) ok ∙ ap (λ (f : BlockFile). block f.content 1) c.in_ok-write.ensures.ok
          ∙ with_run_inside old.file.content 0 run 1 1 refl (omega arith) (omega (arith, c.requires.room))) done.ok;
      synced = on_ok (new.file ≡ after_sync mid.file) (IsSynced new.file) c.sync.result (λ ok. subst IsSynced (sym ok) (λ n. refl)) done.ok;
      within = within_sync (InRun 0 2) old.file.content old mid new (within_write (InRun 0 2) old.file.content old old mid
          (within_start (InRun 0 2) old.file.content old (synced_all (InRun 0 2) old.file c.requires.synced)) wrote.time 0 run c.write.result
          (λ n inside. inside) wrote.ok wrote.err) done.time c.sync.result done.ok done.err;
      back = done.back ∙ wrote.back;
      counts = counts_later _ _ _ c.sync.result c.in_ok-write.ensures.counts.none done.counts;
    }
