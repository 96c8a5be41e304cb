use Rattle.std.proofs.Common.{◌∙◌, ap, List, ℕ, arith}
use Rattle.block_device.specs.Words.{word}
use Rattle.block_device.proofs.Spelled.{word_spelled}
use Rattle.block_device.proofs.words.spell_words.Goals as goal

pub returns-clause-again : goal.returns-clause-again
returns-clause-again c = λ i below.
    ap (λ (l : List ℕ). word l i) c.write_u64_into.ensures
    ∙ word_spelled c.args.words.now i (omega (arith, below, c.told-words)) (c.fits-words i)
