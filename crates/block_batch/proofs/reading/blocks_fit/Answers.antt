use Rattle.std.proofs.Common.{◌≡◌, ◌+◌, ◌*◌, slice_index, sym, ◌∙◌, ap, arith}
use Rattle.block_device.specs.Blocks.{block}
use Rattle.block_device.specs.Words.{word}
use Rattle.block_batch.specs.Batch.{place_in, digest_in, block_digest}
use Rattle.block_batch.proofs.Sealing.{fits_more, unfit_stays}
use Rattle.block_batch.proofs.reading.blocks_fit.Goals as goal

pub returns-then-words-i : goal.returns-then-words-i
returns-then-words-i c =
    let area = c.args.area.now in
    let i = c.loop-i.i in
    let next : 3 + 2 * i + 1 ≡ 4 + 2 * i = omega arith in
    let told : slice_index c.args.words.now (3 + 2 * i + 1) ≡ digest_in area i =
    c.requires.head (3 + 2 * i + 1) (omega (arith, c.loop-i-test.true, c.requires.few)) ∙ ap (word (block area 0)) next in
    let found : c.block_digest.result ≡ block_digest (place_in area i) (block area (1 + i)) =
    c.block_digest.ensures ∙ ap (λ p. block_digest p (block area (1 + i))) (c.requires.head (3 + 2 * i) (omega (arith, c.loop-i-test.true, c.requires.few))) in
    sym (unfit_stays area i c.args.count c.loop-i-test.true (λ same. c.if-words-i.true (told ∙ same ∙ sym found)))

pub loop-i-preserved : goal.loop-i-preserved
loop-i-preserved c =
    let area = c.args.area.now in
    let i = c.loop-i.i in
    let next : 3 + 2 * i + 1 ≡ 4 + 2 * i = omega arith in
    let told : slice_index c.args.words.now (3 + 2 * i + 1) ≡ digest_in area i =
    c.requires.head (3 + 2 * i + 1) (omega (arith, c.loop-i-test.true, c.requires.few)) ∙ ap (word (block area 0)) next in
    let found : c.block_digest.result ≡ block_digest (place_in area i) (block area (1 + i)) =
    c.block_digest.ensures ∙ ap (λ p. block_digest p (block area (1 + i))) (c.requires.head (3 + 2 * i) (omega (arith, c.loop-i-test.true, c.requires.few))) in
    fits_more area i c.loop-i.invariant (sym told ∙ c.if-words-i.false ∙ found)
