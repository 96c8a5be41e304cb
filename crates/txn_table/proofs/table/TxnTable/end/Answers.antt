use Rattle.std.proofs.Common.{◌≡◌, ℕ, List, true, subst, sym, ap, ◌∙◌}
use Rattle.std.proofs.lemmas.List.{nil_from_length}
use Rattle.record_values.specs.Values.{Place}
use Rattle.txn_table.specs.Table.{TxnState, state_of, without}
use Rattle.txn_table.specs.Sound.{IsTableKept}
use Rattle.txn_table.proofs.Keeps.{table, IsTableKept-ended}
use Rattle.txn_table.specs.Table.{TableValue, holder_of}
use Rattle.txn_table.specs.Sound.{IsSoundTable}
use Rattle.txn_table.proofs.TableLaws.{holder_of-without, holder_of-without_other}
use Rattle.txn_table.proofs.table.TxnTable.end.Goals as goal

pub invariant_of-self-2 : goal.invariant_of-self-2
invariant_of-self-2 g c =
    let es = c.self.inside.active.entries in
    let begun = c.self.inside.begun in
    let none = λ (last : c.is_empty.result ≡ true). nil_from_length c.shift_remove.new.self.entries (c.is_empty.ensures.0 last) in
    subst (λ (v : List (ℕ × TxnState) × List Place). IsTableKept (table v.0 begun) v.1)
    (sym (λ i. (c.in-Some.ensures.entries i, c.release.ensures i)))
    (IsTableKept-ended (table es begun) c.self.inside.held c.args.txn c.in-Some.ended c.is_empty.result (sym c.in-Some.ensures.value)
    (λ last. sym c.in-Some.ensures.entries ∙ none last) c.self.invariant)

pub returns-clause-unknown : goal.returns-clause-unknown
returns-clause-unknown g c =
    let found = c.in-Some.ensures.value ∙ ap (λ v. state_of c.args.txn v.active) c.self.view_is in
    (λ h. absurd cc, λ h. absurd cc)

pub returns-clause-released : goal.returns-clause-released
returns-clause-released g c = λ r holds.
    let after = c.in-Some.ensures.entries ∙ ap (λ (v : TableValue). without c.args.txn v.active) c.self.view_is in
    let here = ap (λ (v : TableValue). state_of c.args.txn v.active) (sym c.self.view_is) ∙ sym c.in-Some.ensures.value in
    ap (holder_of r) after
    ∙ holder_of-without c.args.self.now c.args.txn r c.in-Some.ended (subst IsSoundTable c.self.view_is c.self.invariant.sound) here holds

pub returns-clause-others : goal.returns-clause-others
returns-clause-others g c = λ r other.
    let after = c.in-Some.ensures.entries ∙ ap (λ (v : TableValue). without c.args.txn v.active) c.self.view_is in
    let here = ap (λ (v : TableValue). state_of c.args.txn v.active) (sym c.self.view_is) ∙ sym c.in-Some.ensures.value in
    ap (holder_of r) after
    ∙ holder_of-without_other c.args.self.now c.args.txn r c.in-Some.ended (subst IsSoundTable c.self.view_is c.self.invariant.sound) here other
