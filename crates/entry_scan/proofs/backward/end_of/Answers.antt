use Rattle.std.proofs.Common.{ap, sym, ◌&&◌, ◌∙◌}
use Rattle.entry_scan.specs.Backward.{is_before, left_before}
use Rattle.entry_scan.proofs.KeyOrder.{before_alone}
use Rattle.entry_scan.proofs.SteppedBack.{same_left}
use Rattle.entry_scan.proofs.backward.end_of.Goals as goal

pub returns : goal.returns
returns c = λ index. same_left index c.args.range.now c.earlier.result c.copied.result (λ p within.
    c.earlier.ensures p ∙ ap (λ b. is_before c.copied.result p && b) (c.pair_behind.ensures p within) ∙ sym (before_alone c.copied.result p))
    ∙ ap (left_before index c.args.range.now) c.copied.ensures
