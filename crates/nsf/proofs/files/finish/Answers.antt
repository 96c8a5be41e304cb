use Rattle.std.proofs.Common.{◌∙◌, Err, ap, arith, inl, inr}
use Rattle.std.proofs.lemmas.Result.{err_from_is_err_and}
use Rattle.nsf.proofs.files.finish.Goals as goal

pub returns-in_err-format_store : goal.returns-in_err-format_store
returns-in_err-format_store g c =
    let p = err_from_is_err_and c.from_residual.result c.from_residual.ensures.1 in
    rw (p.1 ∙ ap Err p.2) (record {
      openable = tt;
      formatted = tt;
      synced = tt;
      failures = tt;
      refused = elim c.in_err-format_store.ensures.refused [
        | inl small ↦ absurd (omega (arith, c.requires.room, c.format_store.ensures.too_small.0 (c.in_err-format_store.was ∙ ap Err small)))
        | inr failed ↦ failed.0
      ];
    })

pub give_name-requires : goal.give_name-requires
give_name-requires g c =
    let made = c.in_ok-format_store.ensures in
    record { store = made.openable; safe = made.synced }

pub returns-in_err-give_name : goal.returns-in_err-give_name
returns-in_err-give_name g c =
    let p = err_from_is_err_and c.from_residual-in_err-give_name.result c.from_residual-in_err-give_name.ensures.1 in
    rw (p.1 ∙ ap Err p.2) (record { openable = tt; formatted = tt; synced = tt; failures = tt; refused = tt })

pub returns : goal.returns
returns g c =
    let made = c.in_ok-format_store.ensures in
    record { openable = made.openable; formatted = made.formatted; synced = made.synced; failures = made.quiet; refused = tt }
