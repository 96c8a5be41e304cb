use Rattle.std.proofs.Common.{◌∙◌, inl, inr, map, subst}
use Rattle.clap.specs.declared.error.kind.ErrorKind.{ErrorKind}
use Rattle.program_arguments.specs.CommandLine.{FailBy}
use Rattle.program_arguments.proofs.read.Goals as goal

pub returns-clause-none : goal.returns-clause-none
returns-clause-none g c =
    let words = map g.S.AsStr.text c.args.words.now in
    elim c.in-Err.ensures.fault [
      | inl memory ↦ absurd (c.in_default.not-OutOfMemory (c.kind.ensures ∙ memory))
      | inr fails ↦ elim c.tell.ensures [
        | inl help ↦ elim help.0 [
          | inl of_help ↦ inl (inl (subst (λ (kind : ErrorKind). FailBy words kind) of_help fails), help.1)
          | inr of_version ↦ inl (inr (subst (λ (kind : ErrorKind). FailBy words kind) of_version fails), help.1)
        ]
        | inr fault ↦ inr ((_, fault.0, fault.1, fails), fault.2)
      ]
    ]
