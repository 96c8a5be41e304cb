use Rattle.std.proofs.Common.{refl, sym, ap}
use Rattle.std.proofs.Common.{◌≡◌, None, option_and_then, rules}
use Rattle.txn_table.specs.Table.{last_change, state_of, without_last}
use Rattle.txn_table.proofs.Noted.{kept_after_pop, after_write, unknown_pop}
use Rattle.std.proofs.Common.{◌∙◌}
use Rattle.txn_table.specs.Table.{TableValue, holder_of}
use Rattle.txn_table.proofs.TableLaws.{holder_of-without_last}
use Rattle.txn_table.proofs.Lookups.{found_at, written_at}
use Rattle.txn_table.proofs.table.TxnTable.pop_undo.Goals as goal

pub returns-in_err-active-clause-rest : goal.returns-in_err-active-clause-rest
returns-in_err-active-clause-rest g c =
    unknown_pop c.self.inside.active.entries _ c.self.inside.begun c.args.txn c.args.self.now c.self.view_is
    (found_at c.args.txn _ c.self.inside.active.entries _ c.place_of-i.ensures c.in_err-active.ensures.value)
    refl

pub invariant_of-self-2 : goal.invariant_of-self-2
invariant_of-self-2 g c =
    kept_after_pop c.self.inside.active.entries _ c.self.inside.held c.self.inside.begun c.args.txn c.in_ok-active.active.now c.pop.new.self
    (found_at c.args.txn _ c.self.inside.active.entries _ c.place_of-i.ensures c.in_ok-active.ensures.value)
    (written_at c.args.txn _ c.self.inside.active.entries c.pop.new.self c.place_of-i.ensures) c.pop.ensures.rest c.self.invariant

pub returns-clause-rest : goal.returns-clause-rest
returns-clause-rest g c =
    after_write without_last c.self.inside.active.entries _ c.self.inside.begun c.args.txn c.in_ok-active.active.now c.pop.new.self c.args.self.now
    c.self.view_is (found_at c.args.txn _ c.self.inside.active.entries _ c.place_of-i.ensures c.in_ok-active.ensures.value)
    (written_at c.args.txn _ c.self.inside.active.entries c.pop.new.self c.place_of-i.ensures) c.pop.ensures.rest

pub returns-clause-holders : goal.returns-clause-holders
returns-clause-holders g c = λ r. ap (λ (v : TableValue). holder_of r v.active) (returns-clause-rest g c)
    ∙ holder_of-without_last c.args.txn r c.args.self.now.active

pub returns-in_err-active-clause-last : goal.returns-in_err-active-clause-last
returns-in_err-active-clause-last g c =
    let es = c.self.inside.active.entries in
    let none = found_at c.args.txn _ es _ c.place_of-i.ensures c.in_err-active.ensures.value in
    let gone : c.from_residual.result ≡ None = search rules in
    gone ∙ sym (ap (option_and_then last_change) (ap (λ (v : TableValue). state_of c.args.txn v.active) (sym c.self.view_is) ∙ none))

pub returns-clause-last : goal.returns-clause-last
returns-clause-last g c =
    let es = c.self.inside.active.entries in
    let here = found_at c.args.txn _ es _ c.place_of-i.ensures c.in_ok-active.ensures.value in
    c.pop.ensures.last ∙ sym (ap (option_and_then last_change) (ap (λ (v : TableValue). state_of c.args.txn v.active) (sym c.self.view_is) ∙ here))
