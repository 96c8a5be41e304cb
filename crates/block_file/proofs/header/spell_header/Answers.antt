use Rattle.std.proofs.Common.{◌≡◌, ◌∙◌, length, rules, arith, length-take}
use Rattle.block_file.proofs.Telling.{says, spelled_tells}
use Rattle.block_file.proofs.header.spell_header.Goals as goal

pub slice_bounds-digest-end : goal.slice_bounds-digest-end
slice_bounds-digest-end c =
    let long : length c.spell_words-spelled.result ≡ 4096 = search rules in
    omega (arith, long, length-take 4088 c.spell_words-spelled.result)

pub returns-clause-told : goal.returns-clause-told
returns-clause-told c =
    let words = c.numbers_of-words in
    let long : length words.result ≡ 512 = search rules in
    spelled_tells words.result c.spell_words-spelled.result c.spell_words.result c.digest.result long c.spell_words-spelled.ensures.spelled
    c.spell_words.ensures.spelled c.spell_words.ensures.again c.digest.ensures c.args.plan.sectors c.args.plan.lead c.args.plan.shape.area words.ensures.text
    words.ensures.version words.ensures.sectors words.ensures.lead words.ensures.area c.requires

pub returns-clause-rest : goal.returns-clause-rest
returns-clause-rest c =
    let words = c.numbers_of-words in
    let long : length words.result ≡ 512 = search rules in
    λ i more below.
    says words.result c.spell_words-spelled.result c.spell_words.result c.digest.result long c.spell_words-spelled.ensures.spelled
    c.spell_words.ensures.spelled c.spell_words.ensures.again c.digest.ensures i below
    ∙ words.ensures.rest i more
