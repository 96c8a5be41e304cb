use Rattle.store_opener.proofs.Told.{around, spared, still_gives, synced_gives}
use Rattle.store_opener.proofs.laws.written_back.Goals as goal

pub returns-clause-gives : goal.returns-clause-gives
returns-clause-gives c = still_gives

pub returns-clause-around : goal.returns-clause-around
returns-clause-around c = around

pub returns-clause-spared : goal.returns-clause-spared
returns-clause-spared c = spared

pub returns-clause-synced : goal.returns-clause-synced
returns-clause-synced c = synced_gives
