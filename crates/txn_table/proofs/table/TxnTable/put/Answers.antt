use Rattle.std.proofs.Common.{refl, ap, ◌∙◌}
use Rattle.txn_table.specs.Table.{TableValue, holder_of, put_at}
use Rattle.txn_table.proofs.Noted.{kept_after_put, after_write, unknown_put}
use Rattle.txn_table.proofs.TableLaws.{holder_of-put_at}
use Rattle.txn_table.proofs.Lookups.{found_at, written_at}
use Rattle.txn_table.proofs.table.TxnTable.put.Goals as goal

pub returns-in_default-clause-rest : goal.returns-in_default-clause-rest
returns-in_default-clause-rest g c =
    unknown_put c.args.progress c.args.reserved c.self.inside.active.entries _ c.self.inside.begun c.args.txn c.args.self.now c.self.view_is
    (found_at c.args.txn _ c.self.inside.active.entries _ c.place_of-i.ensures c.in_default.ensures.value) refl

pub invariant_of-self-2 : goal.invariant_of-self-2
invariant_of-self-2 g c =
    kept_after_put c.args.progress c.args.reserved c.self.inside.active.entries _ c.self.inside.held c.self.inside.begun c.args.txn c.in-Some.active.now
    c.put.new.self (found_at c.args.txn _ c.self.inside.active.entries _ c.place_of-i.ensures c.in-Some.ensures.value)
    (written_at c.args.txn _ c.self.inside.active.entries c.put.new.self c.place_of-i.ensures) c.put.ensures c.self.invariant

pub returns-clause-rest : goal.returns-clause-rest
returns-clause-rest g c =
    after_write (put_at c.args.progress c.args.reserved) c.self.inside.active.entries _ c.self.inside.begun c.args.txn c.in-Some.active.now c.put.new.self
    c.args.self.now c.self.view_is (found_at c.args.txn _ c.self.inside.active.entries _ c.place_of-i.ensures c.in-Some.ensures.value)
    (written_at c.args.txn _ c.self.inside.active.entries c.put.new.self c.place_of-i.ensures) c.put.ensures

pub returns-clause-holders : goal.returns-clause-holders
returns-clause-holders g c = λ r. ap (λ (v : TableValue). holder_of r v.active) (returns-clause-rest g c)
    ∙ holder_of-put_at c.args.progress c.args.reserved c.args.txn r c.args.self.now.active
