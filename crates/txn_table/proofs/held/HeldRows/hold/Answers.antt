use Rattle.std.proofs.Common.{◌≡◌, false, cond, List, ◌++◌, ◌∷◌, [], sym, ap, subst, ◌∙◌, arith}
use Rattle.std.proofs.lemmas.Result.{err_from_is_err_and}
use Rattle.record_values.specs.Values.{Place, is_among}
use Rattle.txn_table.specs.Table.{with_rid}
use Rattle.txn_table.specs.Held.{IsBoundOf}
use Rattle.txn_table.proofs.HeldRows.{bound_more}
use Rattle.txn_table.proofs.held.HeldRows.hold.Goals as goal

pub returns-then-is_held-clause-ok : goal.returns-then-is_held-clause-ok
returns-then-is_held-clause-ok g c =
    let rows = c.args.self.now in
    sym (ap (λ b. cond b rows (rows ++ c.args.rid ∷ [])) (sym c.requires ∙ c.if-is_held.true))

pub invariant_of-self : goal.invariant_of-self
invariant_of-self g c = subst (λ (l : List Place). IsBoundOf l c.self.inside.bound) (sym c.in_err-push.ensures.items) c.self.invariant

pub returns-in_err-push-clause-err : goal.returns-in_err-push-clause-err
returns-in_err-push-clause-err g c =
    let p = err_from_is_err_and c.from_residual.result c.from_residual.ensures.1 in
    rw p.1 (c.in_err-push.ensures.items ∙ c.self.view_is)

pub invariant_of-self-2 : goal.invariant_of-self-2
invariant_of-self-2 g c =
    let is = c.max-self-inside.ensures in
    let number = c.place_number.ensures.number in
    subst (λ (l : List Place). IsBoundOf l c.max-self-inside.result) (sym c.in_ok-push.ensures.items)
    (bound_more c.self.inside.rows.items c.args.rid c.self.inside.bound _ c.self.invariant
    (omega (arith, is)) (omega (arith, is, number)) (λ k had here. omega (arith, is, number, had, here)))

pub returns-clause-ok : goal.returns-clause-ok
returns-clause-ok g c =
    let rows : List Place = c.self.inside.rows.items in
    let new : is_among c.args.rid rows ≡ false = ap (is_among c.args.rid) c.self.view_is ∙ sym c.requires ∙ c.if-is_held.false in
    c.in_ok-push.ensures.items ∙ sym (ap (λ b. cond b rows (rows ++ c.args.rid ∷ [])) new) ∙ ap (with_rid c.args.rid) c.self.view_is
