use Rattle.nsf.proofs.Refusals.{never_both, same_refusal}
use Rattle.nsf.proofs.clients.serve.Goals as goal

pub returns-in-Ok : goal.returns-in-Ok
returns-in-Ok g c =
    let done = c.in-Ok.ensures in
    let is = done.leaves in
    record {
      leaves = (is.0, is.1, is.2, is.3, is.4, is.5, is.6);
      why = done.why;
      quiet = done.quiet;
      later = done.later;
      clients = done.clients;
      refused = tt;
      many = λ more. absurd (never_both c.serve_and_see.result _ _ c.in-Ok.is (c.serve_and_see.ensures.many more));
    }

pub returns-in-Err : goal.returns-in-Err
returns-in-Err g c = record {
  leaves = tt;
  why = tt;
  quiet = tt;
  later = tt;
  clients = tt;
  refused = c.in-Err.ensures.refused;
  many = λ more. same_refusal c.serve_and_see.result _ _ c.in-Err.is (c.serve_and_see.ensures.many more);
}
