use Rattle.std.proofs.Common.{ap, ◌∙◌, sym, refl, not, ◌==◌, ◌+◌, Some, map, filter, rules}
use Rattle.std.proofs.lemmas.Fn.{filter_same}
use Rattle.threads_sessions.specs.declared.active.ActiveTxn.{ActiveTxn}
use Rattle.threads_sessions.specs.Active.{active_value}
use Rattle.threads_sessions.proofs.Lists.{taken_out, rows_found}
use Rattle.threads_sessions.proofs.active.take_out.Goals as goal

pub returns-clause-rows : goal.returns-clause-rows
returns-clause-rows g c =
    sym
    (rows_found c.args.txn (map active_value c.args.active.now.items) (active_value c.remove-rows.result)
    (c.requires.place.found c.remove-rows.result ∙ ap (λ (a : ActiveTxn _). Some (active_value a)) (sym c.remove-rows.ensures.value)))

pub returns-clause-left : goal.returns-clause-left
returns-clause-left g c =
    ap (map active_value) (filter_same _ (λ (a : ActiveTxn _). not (c.args.txn == a.txn)) _ (λ x b f' k. search rules) _ _ c.retain.ensures.filtered)
    ∙ ap (λ l. map active_value (filter (λ (a : ActiveTxn _). not (c.args.txn == a.txn)) l)) c.remove-rows.ensures.by_index.2
    ∙ taken_out c.args.txn c.args.i (c.args.i + 1) c.args.active.now.items refl c.requires.place.number
