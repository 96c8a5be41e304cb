use Rattle.std.proofs.Common.{not, rules, ap, ◌∙◌, ◌++◌, ◌∷◌, []}
use Rattle.std.proofs.lemmas.Fn.{filter_same}
use Rattle.model.specs.declared.write.Write.{Write}
use Rattle.threads_sessions.specs.Values.{is_at}
use Rattle.threads_sessions.proofs.active.set_write.Goals as goal

pub returns : goal.returns
returns g c =
    c.push_reserved.ensures.items
    ∙ ap (λ xs. xs ++ c.args.write ∷ []) (filter_same _ (λ (v : Write). not (is_at c.args.write.rid v)) _ (λ x b f' k.
    search rules) _ _ c.retain.ensures.filtered)
