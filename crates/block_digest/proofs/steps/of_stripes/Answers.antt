use Rattle.std.proofs.Common.{◌≡◌, suc, ◌+◌, ◌*◌, ◌-◌, ◌^◌, ap, arith, refl, ◌∙◌}
use Rattle.block_digest.specs.Digest.{joined, lane, of_stripes, plus, round, word_at}
use Rattle.block_digest.specs.declared.steps.TheConstants.{PRIME_1, PRIME_2}
use Rattle.block_digest.proofs.steps.of_stripes.Goals as goal

pub loop-n-init : goal.loop-n-init
unfolding lane
loop-n-init c = record { a = refl; b = refl; c = refl; d = refl }

pub loop-n-preserved : goal.loop-n-preserved
unfolding lane
loop-n-preserved c =
    let bytes = c.args.bytes.now in
    let seed = c.args.seed in
    let n = c.loop-n.n in
    let so_far = c.loop-n.invariant in
    let next : suc n ≡ n + 1 = omega arith in
    let at : 32 * n ≡ 32 * n + 0 = omega arith in
    record {
      a = c.round-a.ensures ∙ (λ i. round (so_far.a i) ((c.word_at.ensures ∙ ap (word_at bytes) at) i))
          ∙ ap (lane bytes 0 (plus (plus seed PRIME_1) PRIME_2)) next;
      b = c.round-b.ensures ∙ (λ i. round (so_far.b i) (c.word_at-in-loop-n.ensures i)) ∙ ap (lane bytes 8 (plus seed PRIME_2)) next;
      c = c.round-c.ensures ∙ (λ i. round (so_far.c i) (c.word_at-in-loop-n-2.ensures i)) ∙ ap (lane bytes 16 seed) next;
      d = c.round-d.ensures ∙ (λ i. round (so_far.d i) (c.word_at-in-loop-n-3.ensures i))
          ∙ ap (lane bytes 24 (plus seed (2 ^ 64 - PRIME_1))) next;
    }

pub returns : goal.returns
unfolding of_stripes
returns c =
    let bytes = c.args.bytes.now in
    let seed = c.args.seed in
    let all : c.loop-n.n ≡ c.args.count = omega arith in
    let so_far = c.loop-n.invariant in
    c.joined.ensures ∙ (λ i. joined (so_far.a i) (so_far.b i) (so_far.c i) (so_far.d i))
    ∙ ap (of_stripes seed bytes) all
