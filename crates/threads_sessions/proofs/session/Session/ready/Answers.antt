use Rattle.std.proofs.Common.{rules, ◌≡◌, not, ◌&&◌, map, Some, sym, ap, subst, ◌∙◌}
use Rattle.threads_sessions.specs.Active.{active_value, IsPlace}
use Rattle.threads_sessions.specs.Values.{active_of, can_go_on}
use Rattle.threads_sessions.specs.declared.active.ActiveTxn.{ActiveTxn}
use Rattle.threads_sessions.proofs.session.Session.ready.Goals as goal

pub returns-then-is_none : goal.returns-then-is_none
returns-then-is_none g c =
    rw (← c.self.view_is) (
    let one : ActiveTxn g.row.A.Denot = c.index-one.result.now in
    let place : IsPlace c.args.txn c.self.inside.active.items c.in-Some.i =
    subst (λ xs. IsPlace c.args.txn xs c.in-Some.i) c.deref.ensures.value c.in-Some.ensures.found in
    let found : active_of c.args.txn (map active_value c.self.inside.active.items) ≡ Some (active_value one) =
    place.found one ∙ ap (λ (a : ActiveTxn g.row.A.Denot). Some (active_value a)) (sym c.index-one.ensures) in
    sym (ap can_go_on found ∙ ap (λ b. not b && not one.rolling) c.if-is_none.ensures))

pub returns-else-is_none : goal.returns-else-is_none
returns-else-is_none g c = search rules
