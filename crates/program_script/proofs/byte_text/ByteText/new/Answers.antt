use Rattle.std.proofs.Common.{rules}
use Rattle.program_script.proofs.byte_text.ByteText.new.Goals as goal

pub returns : goal.returns
returns c = search rules
