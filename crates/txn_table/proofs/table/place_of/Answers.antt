use Rattle.std.proofs.Common.{◌≡◌, ◌+◌, ◌≤◌, ◌==◌, cond, true, false, suc, drop, length, sym, ap, ◌∙◌, arith}
use Rattle.std.proofs.Math.ListN.{drop_of_length-le}
use Rattle.txn_table.specs.Places.{place_of}
use Rattle.txn_table.proofs.Lookups.{place_of-drop}
use Rattle.txn_table.proofs.table.place_of.Goals as goal

pub loop-i-init : goal.loop-i-init
loop-i-init g c = omega arith

pub returns-then-eq : goal.returns-then-eq
returns-then-eq g c =
    let t = c.args.txn in
    let i = c.loop-i.i in
    let es = c.args.active.now.entries in
    let here : (t == c.in-Some.number.now) ≡ true = sym c.eq.ensures ∙ c.if-eq.true in
    let first : place_of t (drop i es) ≡ 0 = place_of-drop t es i _ (sym c.in-Some.ensures.entry)
    ∙ ap (λ b. cond b 0 (suc (place_of t (drop (suc i) es)))) here in
    omega (arith, first, c.loop-i.invariant)

pub loop-i-preserved : goal.loop-i-preserved
loop-i-preserved g c =
    let t = c.args.txn in
    let i = c.loop-i.i in
    let es = c.args.active.now.entries in
    let here : (t == c.in-Some.number.now) ≡ false = sym c.eq.ensures ∙ c.if-eq.false in
    let later : place_of t (drop i es) ≡ suc (place_of t (drop (suc i) es)) = place_of-drop t es i _ (sym c.in-Some.ensures.entry)
    ∙ ap (λ b. cond b 0 (suc (place_of t (drop (suc i) es)))) here in
    let next : i + 1 ≡ suc i = omega arith in
    let same : place_of t (drop (i + 1) es) ≡ place_of t (drop (suc i) es) = ap (λ k. place_of t (drop k es)) next in
    omega (arith, later, same, c.loop-i.invariant)

pub returns : goal.returns
returns g c =
    let es = c.args.active.now.entries in
    let i = c.loop-i.i in
    let len : length es ≤ i = omega (arith, c.loop-i-test.false, c.len-i-end.ensures.len) in
    let none : place_of c.args.txn (drop i es) ≡ 0 = ap (place_of c.args.txn) (drop_of_length-le es len) in
    omega (arith, none, c.loop-i.invariant, c.len-i-end.ensures.len, c.len.ensures.len, c.loop-i.auto.i-end, len)
