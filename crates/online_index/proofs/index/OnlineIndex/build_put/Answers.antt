use Rattle.std.proofs.Common.{is_some, rules, true, ◌≡◌}
use Rattle.online_index.proofs.SetEntries.{built_there}
use Rattle.online_index.proofs.index.OnlineIndex.build_put.Goals as goal

pub returns-then-is_there-clause-ok : goal.returns-then-is_there-clause-ok
returns-then-is_there-clause-ok g c =
    let there : is_some c.get.result ≡ true = search rules in
    built_there c.args.self.now c.args.pair.now c.get.result c.get.ensures there

pub returns-clause-ok : goal.returns-clause-ok
returns-clause-ok g c = search rules

pub returns-clause-placed : goal.returns-clause-placed
returns-clause-placed g c = search rules
