use Rattle.std.proofs.Common.{◌≡◌, ◌∙◌, Some, ap, arith, refl, sym, length}
use Rattle.std.proofs.lemmas.Option.{slice_get_within}
use Rattle.std.specs.Prelude.{slice_get}
use Rattle.locked_core.specs.Locked.{LockedValue, locked_of}
use Rattle.threads_lifetime.proofs.Gathering.{seats_kept, seen_more}
use Rattle.threads_lifetime.proofs.Lists.{get_read}
use Rattle.threads_lifetime.proofs.gather.compare_all.Goals as goal

pub loop-k-preserved : goal.loop-k-preserved
loop-k-preserved g c =
    let was = c.loop-k.invariant in
    let k = c.loop-k.k in
    let items = c.loop-k.seats.items in
    let seat = c.index_mut-seat.result.now in
    let at : slice_get items k ≡ Some seat = get_read items k seat (omega (arith, ap length was.seats)) c.index_mut-seat.ensures.value in
    record {
      seen = seen_more (locked_of c.args.locked.now).book c.args.seats.now.items k seat (ap (λ l. slice_get l k) (sym was.seats)
          ∙ at) was.seen (ap (λ (l : LockedValue). slice_get l.book seat.number) (sym was.same) ∙ c.compare.ensures.before);
      seats = seats_kept items k seat c.compare.new.self at c.compare.ensures.seat ∙ was.seats;
      same = c.compare.ensures.same ∙ was.same;
    }

pub loop-k-init : goal.loop-k-init
loop-k-init g c = record { seen = λ j s lt at. absurd (omega (arith, lt)); seats = refl; same = refl }

pub returns : goal.returns
returns g c =
    let was = c.loop-k.invariant in
    record {
      seen = λ k s at. let within = slice_get_within c.args.seats.now.items k s at in was.seen k s (omega arith) at;
      seats = was.seats;
      same = was.same;
    }
