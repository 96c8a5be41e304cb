use Rattle.std.proofs.Common.{◌≡◌, ◌≢◌, ◌≤◌, ◌<◌, ℕ, List, [], ◌∷◌, Some, length, slice_set, sym, ◌∙◌, ap, arith}
use Rattle.block_device.specs.Blocks.{CrashFile, block}
use Rattle.block_batch.specs.Batch.{Batch}
use Rattle.block_journal.specs.Layout.{area_of, area_start, found, kept_of}
use Rattle.block_journal.proofs.Crash.{area_before_kept}
use Rattle.block_journal.proofs.Results.{on_ok}
use Rattle.block_journal.proofs.Placing.{area_has, area_kept, area_other, inside_same, length-area, sealed_found}
use Rattle.block_file.proofs.NewFile.{no_blocks}
use Rattle.block_file.proofs.making.begin_area.Goals as goal

pub write_one-requires : goal.write_one-requires
write_one-requires g c = record {
  behind = omega (arith, c.requires.behind);
  inside = omega (arith, area_before_kept c.args.shape c.args.a c.requires.low, c.requires.inside.room, c.requires.inside.some);
}

pub returns : goal.returns
returns g c =
    let h = g.B.Blocks.past_of in
    let shape = c.args.shape in
    let a = c.args.a in
    let low = c.requires.low in
    let sealed : CrashFile = c.seal.new.area in
    let head : List ℕ = block sealed 0 in
    let old : CrashFile = (h c.args.below.now).file.content in
    let new : CrashFile = (h c.write_one.new.below).file.content in
    let all = c.write_one.ensures in
    let at = area_start shape a in
    let one : length (head ∷ []) ≤ shape.area = omega (arith, c.requires.inside.some) in
    let inside = inside_same shape old new c.requires.inside all.size in
    let batch : Batch = record { number = a; entries = [] } in
    record {
      begun = on_ok (new ≡ slice_set old at head) (found shape new a ≡ Some batch) c.write_one.result
          (λ ok. sealed_found sealed (area_of shape new a) 0 a batch
          (omega (arith, c.seal.ensures.size, length-area shape new inside a low, c.requires.inside.some))
          c.seal.ensures.batch (no_blocks sealed a c.seal.ensures.number c.seal.ensures.count) c.seal.ensures.count
          (λ n none. let zero : n ≡ 0 = omega (arith, none) in
          ap (block (area_of shape new a)) zero
          ∙ ap (λ (l : CrashFile). block (area_of shape l a) 0) ok
          ∙ area_has shape old c.requires.inside a (head ∷ []) low one 0 (omega arith)
          ∙ ap (block sealed) (sym zero))
          (omega (arith, low)))
          all.ok;
      other = on_ok (new ≡ slice_set old at head) ((b : ℕ) → b < 2 → b ≢ a → area_of shape new b ≡ area_of shape old b) c.write_one.result
          (λ ok b below apart. ap (λ (l : CrashFile). area_of shape l b) ok
          ∙ area_other shape old c.requires.inside a (head ∷ []) low one b below apart)
          all.ok;
      kept = on_ok (new ≡ slice_set old at head) (kept_of shape new ≡ kept_of shape old) c.write_one.result
          (λ ok. ap (kept_of shape) ok ∙ area_kept shape old c.requires.inside a (head ∷ []) low one)
          all.ok;
      size = all.size;
      within = all.within;
      back = all.back;
      counts = all.counts;
    }
