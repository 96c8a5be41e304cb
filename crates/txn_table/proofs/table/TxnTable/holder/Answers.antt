use Rattle.std.proofs.Common.{rules, ◌≡◌, ◌+◌, ◌≤◌, cond, true, false, suc, drop, length, slice_get, Some, sym, ap, subst, ◌∙◌, arith}
use Rattle.std.proofs.Math.ListN.{drop_of_length-le}
use Rattle.txn_table.specs.Table.{TableValue, holder_of}
use Rattle.record_values.specs.Values.{is_among}
use Rattle.txn_table.specs.Sound.{OneHolder}
use Rattle.txn_table.proofs.Lookups.{holder_of-drop, holder_is}
use Rattle.txn_table.proofs.HeldRows.{among_from-Contains}
use Rattle.txn_table.proofs.table.TxnTable.holder.Goals as goal

pub returns-then-holds-clause-holder : goal.returns-then-holds-clause-holder
returns-then-holds-clause-holder g c =
    let r = c.args.rid in
    let active = c.args.self.now.active in
    let rest = holder_of r (drop (suc c.loop-i.i) active) in
    let here : is_among r c.in-Some.active.now.rows ≡ true = sym c.holds.ensures ∙ c.if-holds.true in
    let entry = ap (λ xs. slice_get xs c.loop-i.i) (ap (λ (v : TableValue). v.active) (sym c.self.view_is)) ∙ sym c.in-Some.ensures.entry in
    sym (ap (λ b. cond b (Some c.in-Some.txn.now) rest) here) ∙ sym (holder_of-drop r active c.loop-i.i (c.in-Some.txn.now, c.in-Some.active.now) entry)
    ∙ c.loop-i.invariant

pub returns-then-holds-clause-only : goal.returns-then-holds-clause-only
returns-then-holds-clause-only g c = λ txn s known at.
    returns-then-holds-clause-holder g c
    ∙ holder_is txn s c.args.rid c.args.self.now.active
    (subst (λ (v : TableValue). OneHolder v.active) c.self.view_is c.self.invariant.sound.one_holder) known (among_from-Contains c.args.rid s.rows at)

pub loop-i-preserved : goal.loop-i-preserved
loop-i-preserved g c =
    let r = c.args.rid in
    let active = c.args.self.now.active in
    let rest = holder_of r (drop (suc c.loop-i.i) active) in
    let here : is_among r c.in-Some.active.now.rows ≡ false = sym c.holds.ensures ∙ c.if-holds.false in
    let entry = ap (λ xs. slice_get xs c.loop-i.i) (ap (λ (v : TableValue). v.active) (sym c.self.view_is)) ∙ sym c.in-Some.ensures.entry in
    let next : c.loop-i.i + 1 ≡ suc c.loop-i.i = omega arith in
    ap (λ k. holder_of r (drop k active)) next ∙ sym (ap (λ b. cond b (Some c.in-Some.txn.now) rest) here)
    ∙ sym (holder_of-drop r active c.loop-i.i (c.in-Some.txn.now, c.in-Some.active.now) entry) ∙ c.loop-i.invariant

pub returns-clause-holder : goal.returns-clause-holder
returns-clause-holder g c =
    let len : length c.args.self.now.active ≤ c.loop-i.i = omega (arith, c.loop-i-test.false, c.len-i-end.ensures.number) in
    sym (ap (holder_of c.args.rid) (drop_of_length-le c.args.self.now.active len)) ∙ c.loop-i.invariant

pub returns-clause-only : goal.returns-clause-only
returns-clause-only g c = λ txn s known at.
    returns-clause-holder g c ∙ holder_is txn s c.args.rid c.args.self.now.active
    (subst (λ (v : TableValue). OneHolder v.active) c.self.view_is c.self.invariant.sound.one_holder) known (among_from-Contains c.args.rid s.rows at)

pub loop-i-init : goal.loop-i-init
loop-i-init g c = search rules
