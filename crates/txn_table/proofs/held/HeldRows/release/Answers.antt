use Rattle.std.proofs.Common.{cond, filter, not, [], sym, ap, ◌∙◌, rules}
use Rattle.std.proofs.lemmas.Fn.{filter_same}
use Rattle.record_values.specs.Values.{is_among}
use Rattle.txn_table.proofs.HeldRows.{bound_none}
use Rattle.txn_table.proofs.held.HeldRows.release.Goals as goal

pub returns-then-is_last : goal.returns-then-is_last
returns-then-is_last g c = c.clear.ensures.items
    ∙ sym (ap (λ b. cond b [] (filter (λ r. not (is_among r c.args.ended.now.rows)) c.args.self.now)) c.if-is_last.true)

pub invariant_of-self : goal.invariant_of-self
invariant_of-self g c = bound_none _ c.clear.ensures.items

pub returns : goal.returns
returns g c = filter_same _ (λ r. not (is_among r c.args.ended.now.rows)) _ (λ x b f' k. search rules) _ _ c.retain.ensures.filtered
    ∙ ap (filter (λ r. not (is_among r c.args.ended.now.rows))) c.self.view_is
    ∙ sym (ap (λ b. cond b [] (filter (λ r. not (is_among r c.args.ended.now.rows)) c.args.self.now)) c.if-is_last.false)
