use Rattle.std.proofs.Common.{◌≡◌, [], ◌∷◌, length, slice_set, ap, arith}
use Rattle.block_device.specs.Blocks.{CrashFile, BlockFile, after_write}
use Rattle.block_device.specs.BlocksPast.{BlocksPast}
use Rattle.block_device.proofs.CrashFiles.{length-with_run}
use Rattle.block_device.proofs.Within.{holds_after_write, within_write}
use Rattle.block_journal.proofs.Results.{on_ok}
use Rattle.block_file.specs.Making.{IsBehind}
use Rattle.block_file.proofs.making.write_one.Goals as goal

pub returns : goal.returns
returns g c =
    let h = g.B.Blocks.past_of in
    let n = c.args.n in
    let bytes = c.args.bytes.now in
    let run : CrashFile = bytes ∷ [] in
    let old : BlocksPast = h c.args.below.now in
    let new : BlocksPast = h c.write.new.self in
    let done = c.write.ensures in
    record {
      ok = on_ok (new.file ≡ after_write old.file n run) (new.file.content ≡ slice_set old.file.content n bytes) c.write.result
          (λ is. ap (λ (f : BlockFile). f.content) is) done.ok;
      size = holds_after_write (λ f. length f.content ≡ length old.file.content) old.file n run new.file c.write.result done.ok done.err
          (λ some size. length-with_run old.file.content n some);
      within = λ image start so_far. within_write IsBehind image start old new so_far done.time n run c.write.result
          (λ m inside. omega (arith, inside.0, c.requires.behind)) done.ok done.err;
      back = done.back;
      counts = done.counts;
    }
