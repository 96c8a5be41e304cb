use Rattle.std.proofs.Common.{ap, sym, ◌&&◌, ◌∙◌}
use Rattle.record_values.specs.Orders.{is_above}
use Rattle.entry_scan.proofs.KeyOrder.{above_alone}
use Rattle.entry_scan.proofs.Stepped.{same_left}
use Rattle.entry_scan.specs.Visible.{left_of}
use Rattle.entry_scan.proofs.walk.start_of.Goals as goal

pub returns : goal.returns
returns c = λ index. same_left index c.args.range.now c.later.result c.copied.result (λ p within.
    c.later.ensures p ∙ ap (λ b. is_above c.copied.result p && b) (c.pair_before.ensures p within) ∙ sym (above_alone c.copied.result p))
    ∙ ap (left_of index c.args.range.now) c.copied.ensures
