use Rattle.std.proofs.Common.{rules, ◌≡◌, ◌∙◌, length, refl, length-set}
use Rattle.block_batch.proofs.Sealing.{sealed_batch, sealed_word}
use Rattle.block_batch.proofs.head.seal.Goals as goal

pub returns-clause-batch : goal.returns-clause-batch
returns-clause-batch c =
    let head = c.head_of-words in
    let long : length head.result ≡ 512 = search rules in
    sealed_batch c.args.area.now _ head.result c.spell_words-head.result c.spell_words.result c.args.places.now c.args.digests.now c.digest.result long
    c.spell_words-head.ensures.spelled c.spell_words.ensures.spelled c.spell_words.ensures.again refl c.requires.few c.requires.room head.ensures.text
    head.ensures.count head.ensures.places head.ensures.digests c.requires.digests c.digest.ensures
    (length-set c.args.area.now 0 c.spell_words.result)

pub returns-clause-rest : goal.returns-clause-rest
returns-clause-rest c =
    let head = c.head_of-words in
    let long : length head.result ≡ 512 = search rules in
    λ i from below.
    sealed_word c.args.area.now _ head.result c.spell_words-head.result c.spell_words.result c.args.places.now c.args.digests.now c.digest.result long
    c.spell_words-head.ensures.spelled c.spell_words.ensures.spelled c.spell_words.ensures.again refl c.requires.few c.requires.room i below
    ∙ head.ensures.rest i from
