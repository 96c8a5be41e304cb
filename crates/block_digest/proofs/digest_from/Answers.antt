use Rattle.std.proofs.Common.{◌*◌, ◌/◌, ◌%◌, ap, length, ◌∙◌}
use Rattle.block_digest.specs.Digest.{digest_from, mixed, plus, with_bytes, with_half, with_words}
use Rattle.block_digest.proofs.digest_from.Goals as goal

pub returns : goal.returns
unfolding digest_from
returns c =
    let bytes = c.args.bytes.now in
    let size = length bytes in
    let words = c.with_words-words.ensures ∙ ap (λ sum. with_words bytes (size / 32 * 32) (plus sum size) (size % 32 / 8)) c.begun.ensures in
    let halves = c.with_half-halves.ensures ∙ ap (with_half bytes) words in
    c.mixed.ensures ∙ ap mixed (c.with_bytes.ensures ∙ ap (λ sum. with_bytes bytes (size / 4 * 4) sum (size % 4)) halves)
