use Rattle.std.proofs.Common.{◌∙◌, ap, true}
use Rattle.clap.specs.Simple.{Shape, app_of_fields, on_top}
use Rattle.program_arguments.proofs.args.program_named.Goals as goal

pub returns : goal.returns
returns c =
    ap app_of_fields c.about.ensures ∙ ap app_of_fields c.version.ensures
    ∙ ap (on_top (λ (s : Shape). record s { has_version = true })) c.new.ensures.app
