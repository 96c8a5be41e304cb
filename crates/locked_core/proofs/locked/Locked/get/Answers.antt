use Rattle.std.proofs.Common.{map, rules, ◌∙◌}
use Rattle.nsf_core.specs.Value.{value_of}
use Rattle.threads_sessions.specs.Halves.{shown}
use Rattle.locked_core.proofs.ReadBack.{held_row}
use Rattle.locked_core.proofs.locked.Locked.get.Goals as goal

pub returns-clause-row : goal.returns-clause-row
returns-clause-row g c = search rules

pub returns-clause-served : goal.returns-clause-served
returns-clause-served g c = search rules

pub returns-clause-held : goal.returns-clause-held
returns-clause-held g c = λ seat session there txn row shows.
    c.get.ensures.row ∙ held_row g.B.Group.site.opened (value_of c.args.self.now.core) c.args.self.now.pusher.records
    (map shown c.args.self.now.book.items) c.args.self.now.shared seat session there txn c.args.rid row shows
