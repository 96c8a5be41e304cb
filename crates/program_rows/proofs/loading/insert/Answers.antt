use Rattle.std.proofs.Common.{◌∙◌, ap, Err, inl, inr, refl}
use Rattle.std.proofs.lemmas.Result.{err_from_is_err_and}
use Rattle.program_rows.proofs.Outcomes.{if_err_map, on_ok_map}
use Rattle.program_rows.proofs.loading.insert.Goals as goal

pub returns-in_err-grant : goal.returns-in_err-grant
returns-in_err-grant g c =
    let p = err_from_is_err_and c.from_residual.result c.from_residual.ensures.1 in
    rw (p.1 ∙ ap Err p.2) (record { inserted = tt; refused = inl c.in_err-grant.ensures.refused })

pub returns-in_err-grant-2 : goal.returns-in_err-grant-2
returns-in_err-grant-2 g c =
    let p = err_from_is_err_and c.from_residual-in_err-grant-2.result c.from_residual-in_err-grant-2.ensures.1 in
    rw (p.1 ∙ ap Err p.2) (record {
      inserted = tt;
      refused = inr (c.grant.new.store, c.in_ok-grant.ensures.granted, inl c.in_err-grant-2.ensures.refused);
    })

pub returns : goal.returns
returns g c =
    let one = c.in_ok-grant.ensures.granted in
    let two = c.in_ok-grant-2.ensures.granted in
    record {
      inserted = on_ok_map c.grant-3.result _ _ c.grant-3.ensures.granted
          (λ three. (c.grant.new.store, one, (c.grant-2.new.store, two, (c.grant-3.new.store, three, refl))));
      refused = if_err_map c.grant-3.result _ _ c.grant-3.ensures.refused
          (λ e three. inr (c.grant.new.store, one, inr (c.grant-2.new.store, two, inl three)));
    }
