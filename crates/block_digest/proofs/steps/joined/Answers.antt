use Rattle.std.proofs.Common.{ap, ◌∙◌}
use Rattle.block_digest.specs.Digest.{joined, merged, plus}
use Rattle.block_digest.proofs.steps.joined.Goals as goal

pub returns : goal.returns
unfolding joined
returns c =
    let sum = c.merged.ensures ∙ (λ i. merged (plus (plus (plus (c.rotate_left.ensures i) (c.rotate_left-2.ensures i)) (c.rotate_left-3.ensures i))
    (c.rotate_left-4.ensures i)) c.args.a) in
    let two = c.merged-2.ensures ∙ ap (λ s. merged s c.args.b) sum in
    let three = c.merged-3.ensures ∙ ap (λ s. merged s c.args.c) two in
    c.merged-4.ensures ∙ ap (λ s. merged s c.args.d) three
