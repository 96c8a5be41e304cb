use Rattle.std.proofs.Common.{◌≡◌, ◌+◌, ◌-◌, ◌*◌, ℕ, take, drop, ◌∙◌, ap, arith}
use Rattle.block_file.proofs.Patching.{slice_is_part}
use Rattle.block_file.proofs.eighths.sector_of.Goals as goal

pub returns : goal.returns
returns c =
    let block = c.args.block.now in
    let k = c.args.k in
    let size : 512 * k + 512 - 512 * k ≡ 512 = omega arith in
    c.copy_from_slice.ensures.after
    ∙ ap (λ (n : ℕ). take n (drop (512 * k) block)) size
    ∙ slice_is_part block k c.told-block c.fits-block c.requires
