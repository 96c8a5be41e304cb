use Rattle.nsf_core.specs.Value.{value_of}
use Rattle.nsf_core.proofs.Beginning.{tells_life}
use Rattle.nsf_core.proofs.store.Core.life.Goals as goal

pub returns-clause-serves : goal.returns-clause-serves
returns-clause-serves g c = tells_life (value_of c.args.self.now)
