use Rattle.block_batch.proofs.Torn.{torn_first, torn_second}
use Rattle.block_batch.proofs.laws.one_batch_more.Goals as goal

pub returns-clause-first : goal.returns-clause-first
returns-clause-first c = λ offered last next settled kept torn known committed some. torn_first offered last next settled kept known committed torn some

pub returns-clause-second : goal.returns-clause-second
returns-clause-second c = λ offered last next settled kept torn known committed some. torn_second offered last next settled kept known committed torn some
