use Rattle.program_rows.proofs.Outcomes.{if_err_map, on_ok_map}
use Rattle.program_rows.proofs.loading.grant.Goals as goal

pub returns : goal.returns
returns g c = record {
  granted = on_ok_map c.granted.result _ _ c.granted.ensures.granted (λ no. (c.serve.result, no, c.serve.ensures));
  refused = if_err_map c.granted.result _ _ c.granted.ensures.refused (λ e is. rw is at c.serve.ensures);
}
