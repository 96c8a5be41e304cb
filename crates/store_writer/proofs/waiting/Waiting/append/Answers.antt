use Rattle.std.specs.Prelude.{is_ok}
use Rattle.store_writer.proofs.Waits.{still_within, waits_more}
use Rattle.store_writer.proofs.waiting.Waiting.append.Goals as goal

pub returns-clause-items : goal.returns-clause-items
returns-clause-items g c =
    rw (← c.self.view_is) (waits_more c.self.inside.taken c.self.inside.records.items c.args.more.now.items c.self.invariant (is_ok c.append.result)
    c.append.new.self.items c.append.ensures.items)

pub invariant_of-self : goal.invariant_of-self
invariant_of-self g c = still_within c.self.inside.taken c.self.inside.records.items c.args.more.now.items c.self.invariant (is_ok c.append.result)
    c.append.new.self.items c.append.ensures.items
