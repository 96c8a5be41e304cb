use Rattle.std.proofs.Common.{◌≡◌, suc, ◌+◌, ap, arith, refl, ◌∙◌}
use Rattle.block_digest.specs.Digest.{with_word, with_words}
use Rattle.block_digest.proofs.steps.with_words.Goals as goal

pub loop-n-init : goal.loop-n-init
unfolding with_words
loop-n-init c = refl

pub loop-n-preserved : goal.loop-n-preserved
unfolding with_words
loop-n-preserved c =
    let next : suc c.loop-n.n ≡ c.loop-n.n + 1 = omega arith in
    c.with_word-so_far.ensures ∙ (λ i. with_word (c.loop-n.invariant i) (c.word_at.ensures i))
    ∙ ap (with_words c.args.bytes.now c.args.place c.args.sum) next
