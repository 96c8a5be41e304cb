use Rattle.std.proofs.Common.{◌∙◌, ap}
use Rattle.std.proofs.lemmas.Result.{IfOk-weaker}
use Rattle.clap.specs.Words.{app_of, with_rule}
use Rattle.program_arguments.proofs.with_option.Goals as goal

pub returns : goal.returns
returns c =
    IfOk-weaker c.arg.result _ _ (λ r added. added.shape c.option_named.ensures.local ∙ ap (with_rule (app_of c.args.all)) c.option_named.ensures.rule)
    c.arg.ensures
