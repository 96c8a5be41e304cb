use Rattle.std.proofs.Common.{rules}
use Rattle.nsf_core.specs.Value.{value_of}
use Rattle.nsf_core.proofs.Beginning.{gets}
use Rattle.nsf_core.proofs.store.Core.get.Goals as goal

pub returns-clause-row : goal.returns-clause-row
returns-clause-row g c = search rules

pub returns-clause-serves : goal.returns-clause-serves
returns-clause-serves g c = gets (value_of c.args.self.now) c.args.rid c.get.result c.get.ensures.row
