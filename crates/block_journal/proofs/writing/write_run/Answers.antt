use Rattle.std.proofs.Common.{◌≡◌, ℕ, ◌+◌, ◌-◌, ◌≤◌, length, take, drop, slice_index, ◌∙◌, ap, arith}
use Rattle.block_device.specs.Blocks.{CrashFile, BlockFile, after_write, run_of, with_run}
use Rattle.block_device.proofs.CrashFiles.{length-with_run}
use Rattle.block_device.proofs.Within.{holds_after_write, within_write}
use Rattle.block_journal.specs.Layout.{area_of, kept_of, kept_start}
use Rattle.block_journal.specs.Journal.{InRunOrKept}
use Rattle.block_journal.proofs.Crash.{length-run_of}
use Rattle.block_journal.proofs.Results.{on_ok}
use Rattle.block_journal.proofs.Placing.{in_places, places_areas, places_kept}
use Rattle.block_journal.proofs.writing.write_run.Goals as goal

pub returns : goal.returns
returns g c =
    let h = g.B.Blocks.past_of in
    let shape = c.args.shape in
    let old : BlockFile = (h c.args.below.now).file in
    let new : BlockFile = (h c.write.new.self).file in
    let last = c.args.last.now in
    let i = c.args.i in
    let count = c.args.count in
    let place : ℕ = slice_index last.places i in
    let at : ℕ = kept_start shape + place in
    let run : CrashFile = take (1 + i + count - (1 + i)) (drop (1 + i) c.deref.result.now) in
    let many : 1 + i + count - (1 + i) ≡ count = omega arith in
    let same : run ≡ run_of last.area.items (1 + i) count = λ j. take (many j) (drop (1 + i) (c.deref.ensures.value j)) in
    let size : length run ≡ count = ap length same ∙ length-run_of last.area.items (1 + i) count (omega (arith, c.requires.low, c.requires.last.count)) in
    let low : place + length run ≤ shape.kept = omega (arith, size, c.requires.kept) in
    record {
      within = λ first long all image start there so_far. within_write (InRunOrKept shape first long all) image start (h c.args.below.now)
          (h c.write.new.self) so_far c.write.ensures.time at run c.write.result
          (in_places shape old.content c.requires.inside place run low first long all (λ k below. there k (omega (arith, below, size))))
          c.write.ensures.ok c.write.ensures.err;
      areas = λ a below. holds_after_write (λ f. area_of shape f.content a ≡ area_of shape old.content a) old at run new c.write.result
          c.write.ensures.ok c.write.ensures.err
          (λ some long. places_areas shape old.content c.requires.inside place some (omega (arith, long, low)) a below);
      placed = on_ok (new ≡ after_write old at run) (kept_of shape new.content
          ≡ with_run (kept_of shape old.content) place (run_of last.area.items (1 + i) count)) c.write.result
          (λ ok. ap (λ (f : BlockFile). kept_of shape f.content) ok
          ∙ places_kept shape old.content c.requires.inside place run low
          ∙ ap (with_run (kept_of shape old.content) place) same)
          c.write.ensures.ok;
      size = holds_after_write (λ f. length f.content ≡ length old.content) old at run new c.write.result
          c.write.ensures.ok c.write.ensures.err (λ some long. length-with_run old.content at some);
      back = c.write.ensures.back;
      counts = c.write.ensures.counts;
    }
