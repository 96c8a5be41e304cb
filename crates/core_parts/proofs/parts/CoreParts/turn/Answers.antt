use Rattle.std.proofs.Common.{ap, inl, inr, refl, ◌∙◌}
use Rattle.std.proofs.lemmas.Result.{err_from_is_err_and}
use Rattle.core_parts.specs.View.{CoreValue}
use Rattle.core_parts.proofs.parts.CoreParts.turn.Goals as goal

pub returns-in_err-number : goal.returns-in_err-number
returns-in_err-number g c =
    let p = err_from_is_err_and c.from_residual.result c.from_residual.ensures.1 in
    rw (p.1, p.2) (record { ok = tt; left = tt; ticket = tt; no_commit = tt; refused = inl c.in_err-number.ensures.exhausted; unchanged = refl })

pub record_index-requires : goal.record_index-requires
record_index-requires g c = record { number = c.in_ok-number.ensures.number; left = c.in_ok-number.ensures.left }

pub returns-in_err-record_index : goal.returns-in_err-record_index
returns-in_err-record_index g c =
    let p = err_from_is_err_and c.from_residual-in_err-record_index.result c.from_residual-in_err-record_index.ensures.1 in
    rw (p.1, p.2) (record {
      ok = tt;
      left = tt;
      ticket = tt;
      no_commit = tt;
      refused = inr (c.in_err-record_index.ensures.no_memory, c.in_ok-number.ensures.left);
      unchanged = c.in_err-record_index.ensures.unchanged;
    })

pub returns : goal.returns
returns g c = record {
  ok = ap (λ (w : CoreValue). record w { life = c.args.life }) c.in_ok-record_index.ensures.ok;
  left = c.in_ok-number.ensures.left;
  ticket = c.ticket_of.ensures.record ∙ c.in_ok-number.ensures.number;
  no_commit = c.ticket_of.ensures.no_commit;
  refused = tt;
  unchanged = tt;
}
