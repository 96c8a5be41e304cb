use Rattle.std.proofs.Common.{◌≡◌, ℕ, ◌+◌, ◌<◌, List, ◌++◌, ◌∷◌, [], length, subst, sym, ap, ◌∙◌, arith}
use Rattle.txn_table.specs.Table.{TableValue, TxnState, with_next}
use Rattle.record_values.specs.declared.txn.TheConstants.{TXNS_MAX}
use Rattle.txn_table.specs.Sound.{IsTableKept}
use Rattle.txn_table.proofs.Keeps.{table, insert_entry-next, IsTableKept-next}
use Rattle.txn_table.proofs.TableLaws.{holder_of-with_next}
use Rattle.txn_table.specs.Table.{holder_of}
use Rattle.txn_table.proofs.table.TxnTable.begin.Goals as goal

pub invariant_of-self-2 : goal.invariant_of-self-2
invariant_of-self-2 g c =
    let es = c.self.inside.active.entries in
    let n = c.self.inside.begun in
    let number : c.in_ok-txn.txn ≡ n + 1 = c.in_ok-txn.ensures.number ∙ sym (ap (λ (v : TableValue). v.begun + 1) c.self.view_is) in
    let counted : c.number-self-inside.result ≡ n + 1 = c.number-self-inside.ensures.value ∙ number in
    let added = c.in_ok-insert.ensures.entries
    ∙ insert_entry-next 0 n es c.in_ok-txn.txn c.fresh-fresh.result c.self.invariant.sound.rising (omega (arith, number))
    ∙ (λ i. es ++ (number i, c.fresh-fresh.ensures i) ∷ []) in
    let room : length es < TXNS_MAX = omega (arith, c.in_ok-txn.ensures.room, ap (λ (v : TableValue). length v.active) c.self.view_is) in
    subst (λ (v : List (ℕ × TxnState) × ℕ). IsTableKept (table v.0 v.1) c.self.inside.held) (sym (λ i. (added i, counted i)))
    (IsTableKept-next (table es n) c.self.inside.held room c.self.invariant)

pub returns-clause-ok : goal.returns-clause-ok
returns-clause-ok g c =
    let es = c.self.inside.active.entries in
    let n = c.self.inside.begun in
    let number : c.in_ok-txn.txn ≡ n + 1 = c.in_ok-txn.ensures.number ∙ sym (ap (λ (v : TableValue). v.begun + 1) c.self.view_is) in
    let counted : c.number-self-inside.result ≡ n + 1 = c.number-self-inside.ensures.value ∙ number in
    let added = c.in_ok-insert.ensures.entries
    ∙ insert_entry-next 0 n es c.in_ok-txn.txn c.fresh-fresh.result c.self.invariant.sound.rising (omega (arith, number))
    ∙ (λ i. es ++ (number i, c.fresh-fresh.ensures i) ∷ []) in
    (λ i. table (added i) (counted i)) ∙ ap with_next c.self.view_is

pub returns-clause-holders : goal.returns-clause-holders
returns-clause-holders g c = λ r. ap (λ (v : TableValue). holder_of r v.active) (returns-clause-ok g c) ∙ holder_of-with_next c.args.self.now r
