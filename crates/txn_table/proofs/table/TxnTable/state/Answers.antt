use Rattle.std.proofs.Common.{rules, ◌≡◌, ◌+◌, ◌≤◌, ◌==◌, cond, true, false, suc, drop, length, slice_get, Some, sym, ap, ◌∙◌, arith}
use Rattle.std.proofs.Math.ListN.{drop_of_length-le}
use Rattle.txn_table.specs.Table.{TableValue, state_of}
use Rattle.txn_table.proofs.Lookups.{state_of-drop}
use Rattle.txn_table.proofs.table.TxnTable.state.Goals as goal

pub loop-i-init : goal.loop-i-init
loop-i-init g c = search rules

pub returns-then-eq : goal.returns-then-eq
returns-then-eq g c =
    let t = c.args.txn in
    let active = c.args.self.now.active in
    let rest = state_of t (drop (suc c.loop-i.i) active) in
    let here : (t == c.in-Some.number.now) ≡ true = sym c.eq.ensures ∙ c.if-eq.true in
    let entry = ap (λ xs. slice_get xs c.loop-i.i) (ap (λ (v : TableValue). v.active) (sym c.self.view_is)) ∙ sym c.in-Some.ensures.entry in
    sym (ap (λ b. cond b (Some c.in-Some.active.now) rest) here) ∙ sym (state_of-drop t active c.loop-i.i (c.in-Some.number.now, c.in-Some.active.now) entry)
    ∙ c.loop-i.invariant

pub loop-i-preserved : goal.loop-i-preserved
loop-i-preserved g c =
    let t = c.args.txn in
    let active = c.args.self.now.active in
    let rest = state_of t (drop (suc c.loop-i.i) active) in
    let here : (t == c.in-Some.number.now) ≡ false = sym c.eq.ensures ∙ c.if-eq.false in
    let entry = ap (λ xs. slice_get xs c.loop-i.i) (ap (λ (v : TableValue). v.active) (sym c.self.view_is)) ∙ sym c.in-Some.ensures.entry in
    let next : c.loop-i.i + 1 ≡ suc c.loop-i.i = omega arith in
    ap (λ k. state_of t (drop k active)) next ∙ sym (ap (λ b. cond b (Some c.in-Some.active.now) rest) here)
    ∙ sym (state_of-drop t active c.loop-i.i (c.in-Some.number.now, c.in-Some.active.now) entry) ∙ c.loop-i.invariant

pub returns : goal.returns
returns g c =
    let len : length c.args.self.now.active ≤ c.loop-i.i = omega (arith, c.loop-i-test.false, c.len-i-end.ensures.number) in
    sym (ap (state_of c.args.txn) (drop_of_length-le c.args.self.now.active len)) ∙ c.loop-i.invariant
