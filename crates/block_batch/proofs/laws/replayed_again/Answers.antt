use Rattle.block_batch.proofs.Replay.{outside, cut_off, again, both}
use Rattle.block_batch.proofs.laws.replayed_again.Goals as goal

pub returns-clause-outside : goal.returns-clause-outside
returns-clause-outside c = outside

pub returns-clause-cut : goal.returns-clause-cut
returns-clause-cut c = cut_off

pub returns-clause-again : goal.returns-clause-again
returns-clause-again c = again

pub returns-clause-both : goal.returns-clause-both
returns-clause-both c = both
