use Rattle.std.proofs.Common.{◌≡◌, ◌+◌, ◌-◌, ◌*◌, List, ℕ, ◌++◌, take, drop, ◌∙◌, ap, arith}
use Rattle.block_file.specs.Sectors.{part}
use Rattle.block_file.proofs.Patching.{part_here, part_other, patched}
use Rattle.block_file.proofs.eighths.put_sector.Goals as goal

pub returns : goal.returns
returns c =
    let block : List ℕ = c.args.block.now in
    let bytes : List ℕ = c.args.bytes.now in
    let new : List ℕ = c.copy_from_slice.new.self in
    let k = c.args.k in
    let same : new ≡ bytes = c.copy_from_slice.ensures.after in
    let size : 512 * k + 512 - 512 * k ≡ 512 = omega arith in
    let is : (take (512 * k) block ++ (new ++ drop (512 * k + 512 - 512 * k) (drop (512 * k) block))) ≡ patched block bytes (512 * k) =
    λ i. take (512 * k) block ++ (same i ++ drop (size i) (drop (512 * k) block)) in
    record {
      here = ap (λ (b : List ℕ). part b k) is ∙ part_here block bytes k c.told-block c.told-bytes c.requires c.fits-bytes;
      others = λ j apart. ap (λ (b : List ℕ). part b j) is ∙ part_other block bytes k c.told-block c.told-bytes c.requires j apart;
    }
