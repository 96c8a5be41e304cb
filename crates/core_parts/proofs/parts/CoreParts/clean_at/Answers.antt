use Rattle.std.proofs.Common.{sym, true≢false, ◌∙◌}
use Rattle.std.proofs.lemmas.Result.{err_from_is_err_and}
use Rattle.core_parts.specs.Parts.{parts_of}
use Rattle.core_parts.proofs.Cleaning.{clean_serves, keep_serves, no_clean}
use Rattle.core_parts.proofs.parts.CoreParts.clean_at.Goals as goal

pub returns-in_err-take_out : goal.returns-in_err-take_out
returns-in_err-take_out g c =
    let p = err_from_is_err_and c.from_residual.result c.from_residual.ensures.1 in
    rw (p.1, p.2) (no_clean (parts_of c.args.self.now) c.requires.indexed c.args.entry.0 (c.args.entry.1, c.requires.entry)
    (c.may_clean.ensures.0 c.if-may_clean.true) _ _ c.in_err-take_out.ensures.refused c.in_err-take_out.ensures.unchanged)

pub returns-then-may_clean : goal.returns-then-may_clean
returns-then-may_clean g c =
    clean_serves (parts_of c.args.self.now) c.requires.indexed c.args.entry.0 (c.args.entry.1, c.requires.entry)
    (c.may_clean.ensures.0 c.if-may_clean.true) _ c.in_ok-take_out.ensures.left c.in_ok-take_out.ensures.ok

pub returns : goal.returns
returns g c =
    keep_serves (parts_of c.args.self.now) c.requires.indexed c.args.entry.0 (c.args.entry.1, c.requires.entry) (λ may.
    true≢false (sym (c.may_clean.ensures.1 may) ∙ c.if-may_clean.false))
