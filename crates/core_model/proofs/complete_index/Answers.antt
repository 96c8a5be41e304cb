use Rattle.core_model.proofs.Histories.{interleaved_whole}
use Rattle.core_model.proofs.complete_index.Goals as goal

pub returns : goal.returns
returns c = interleaved_whole
