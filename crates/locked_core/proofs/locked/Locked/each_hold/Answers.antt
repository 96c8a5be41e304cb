use Rattle.std.proofs.Common.{map}
use Rattle.nsf_core.specs.Value.{value_of}
use Rattle.threads_sessions.specs.Halves.{shown}
use Rattle.locked_core.proofs.Copied.{cells_now, end_is, histories, run_kept, store_now}
use Rattle.locked_core.proofs.locked.Locked.each_hold.Goals as goal

pub returns-clause-holds : goal.returns-clause-holds
returns-clause-holds g c = histories g.B.Group.site.opened (value_of c.args.self.now.core) c.args.self.now.pusher.records
    (map shown c.args.self.now.book.items) c.args.self.now.shared

pub returns-clause-run : goal.returns-clause-run
returns-clause-run g c = run_kept g.B.Group.site.opened (value_of c.args.self.now.core) c.args.self.now.pusher.records
    (map shown c.args.self.now.book.items) c.args.self.now.shared

pub returns-clause-last : goal.returns-clause-last
returns-clause-last g c = end_is g.B.Group.site.opened (value_of c.args.self.now.core) c.args.self.now.pusher.records
    (map shown c.args.self.now.book.items) c.args.self.now.shared

pub returns-clause-cells : goal.returns-clause-cells
returns-clause-cells g c = λ geometry. cells_now g.B.Group.site.opened (value_of c.args.self.now.core) c.args.self.now.pusher.records
    (map shown c.args.self.now.book.items) c.args.self.now.shared geometry c.stands.ensures.sound

pub returns-clause-store : goal.returns-clause-store
returns-clause-store g c = store_now g.B.Group.site.opened (value_of c.args.self.now.core) c.args.self.now.pusher.records
    (map shown c.args.self.now.book.items) c.args.self.now.shared
