use Rattle.std.proofs.Common.{inl, inr, refl}
use Rattle.nsf_c.proofs.serving_calls.nsf_serve.Goals as goal

pub returns-in-Ok : goal.returns-in-Ok
returns-in-Ok c = inl (record {
  event = _;
  reply = c.serve-reply.result;
  asks = c.in-Ok.ensures.asks;
  fine = c.in-Ok.ensures.fine;
  serves = c.serve-reply.ensures;
  tells = (c.status_of.ensures, c.told_of.ensures);
  fills = c.put_found.ensures;
})

pub returns-in-Err : goal.returns-in-Err
returns-in-Err c = inr (record {
  bad = c.in-Err.ensures.bad;
  unchanged = refl;
  told_is = c.refused.ensures;
  spots_stay = refl;
})
