use Rattle.records.proofs.Spellings as spellings
use Rattle.records.proofs.record.one_spelling.Goals as goal

pub returns : goal.returns
returns c = spellings.one_spelling
