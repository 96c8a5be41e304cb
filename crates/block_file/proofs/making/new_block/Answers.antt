use Rattle.std.proofs.Common.{◌∙◌, arith}
use Rattle.block_file.proofs.making.new_block.Goals as goal

pub returns : goal.returns
returns c = record {
  row = λ below i low. c.spell_words.ensures.again i low ∙ c.zero_digests.ensures i low;
  zeros = λ past. absurd (omega arith);
}
