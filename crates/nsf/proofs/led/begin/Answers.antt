use Rattle.std.proofs.Common.{◌≡◌, ◌∙◌, IfErr, OnOk, ap, arith, inl, map, subst}
use Rattle.shared.specs.Seats.{SeatValue}
use Rattle.threads_lifetime.specs.declared.refusal.OpenError.TheVariants.{Refused}
use Rattle.nsf.specs.Serving.{WhyUnwritten, LeavesWork}
use Rattle.nsf.proofs.led.begin.Goals as goal

pub returns-in-Ok-seat_all : goal.returns-in-Ok-seat_all
returns-in-Ok-seat_all g c =
    let failures = g.D.Device.failures in
    let served = c.in-Ok-seat_all.served in
    let device = c.in-Ok.ensures.device in
    let done = c.in-Ok-seat_all.ensures in
    record {
      leaves = subst (λ d. (work : LeavesWork g.D.Device.past_of g.D.Device.marks g.C.LedClient.works g.B.Group.site.opened c.args.clients.items
          served.clients.items d served.device served.written) × (served.marks.items ≡ map (λ (seat : SeatValue). seat.sight.mark) work.seats))
          device done.leaves;
      told = done.told;
      why = subst (λ d. IfErr served.written (WhyUnwritten (failures d) (failures served.device))) device done.why;
      quiet = subst (λ d. OnOk served.written (failures served.device ≡ failures d)) device done.quiet;
      later = omega (arith, ap failures device, done.later);
      clients = done.clients;
      refused = tt;
    }

pub returns-in-Err-seat_all : goal.returns-in-Err-seat_all
returns-in-Err-seat_all g c = record {
  leaves = tt;
  told = tt;
  why = tt;
  quiet = tt;
  later = tt;
  clients = tt;
  refused = (c.in-Err-seat_all.ensures.refused.0, c.in-Err-seat_all.ensures.refused.1 ∙ c.in-Ok.ensures.device);
}

pub returns-in-Err : goal.returns-in-Err
returns-in-Err g c = record {
  leaves = tt;
  told = tt;
  why = tt;
  quiet = tt;
  later = tt;
  clients = tt;
  refused = (inl (ap Refused c.in-Err.ensures.no_memory), c.in-Err.ensures.back);
}
