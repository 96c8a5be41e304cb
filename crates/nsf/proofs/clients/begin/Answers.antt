use Rattle.std.proofs.Common.{◌≡◌, ◌∙◌, IfErr, OnOk, ap, arith, inl, map, subst}
use Rattle.shared.specs.Seats.{SeatValue}
use Rattle.std.specs.Fn.{FnOnceReturnsAt}
use Rattle.threads_lifetime.specs.declared.refusal.OpenError.TheVariants.{Refused}
use Rattle.nsf.specs.Serving.{HadEnded, WhyUnwritten, LeavesWork}
use Rattle.nsf.proofs.clients.begin.Goals as goal

pub returns-in-Ok-seat_all : goal.returns-in-Ok-seat_all
returns-in-Ok-seat_all g c =
    let past_of = g.D.Device.past_of in
    let failures = g.D.Device.failures in
    let served = c.in-Ok-seat_all.served.0 in
    let seen = c.in-Ok-seat_all.served.1 in
    let device = c.in-Ok.ensures.device in
    let done = c.in-Ok-seat_all.ensures in
    record {
      leaves = subst (λ d. (work : LeavesWork past_of g.D.Device.marks g.C.Client.works g.B.Group.site.opened c.args.clients.items
          served.clients.items d served.device served.written) × (served.marks.items ≡ map (λ (seat : SeatValue). seat.sight.mark) work.seats)
          × HadEnded past_of (λ was. FnOnceReturnsAt g.F.FnOnce c.args.see was seen) g.B.Group.site.opened work.leaves.geometry work.seats
          work.leaves.popped work.floor d served.device) device done.leaves;
      told = done.told;
      why = subst (λ d. IfErr served.written (WhyUnwritten (failures d) (failures served.device))) device done.why;
      quiet = subst (λ d. OnOk served.written (failures served.device ≡ failures d)) device done.quiet;
      later = omega (arith, ap failures device, done.later);
      clients = done.clients;
      refused = tt;
    }

pub returns-in-Err-seat_all : goal.returns-in-Err-seat_all
returns-in-Err-seat_all g c = record {
  leaves = tt;
  told = tt;
  why = tt;
  quiet = tt;
  later = tt;
  clients = tt;
  refused = (c.in-Err-seat_all.ensures.refused.0, c.in-Err-seat_all.ensures.refused.1 ∙ c.in-Ok.ensures.device);
}

pub returns-in-Err : goal.returns-in-Err
returns-in-Err g c = record {
  leaves = tt;
  told = tt;
  why = tt;
  quiet = tt;
  later = tt;
  clients = tt;
  refused = (inl (ap Refused c.in-Err.ensures.no_memory), c.in-Err.ensures.back);
}
