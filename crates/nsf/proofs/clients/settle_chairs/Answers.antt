use Rattle.std.proofs.Common.{◌≡◌, ◌∙◌, ◌≤◌, Some, arith, length-set, refl, subst, sym}
use Rattle.std.proofs.lemmas.Option.{slice_get_within}
use Rattle.std.specs.Prelude.{slice_get}
use Rattle.threads_flusher.specs.Part.{IsSafeSince}
use Rattle.nsf.specs.Serving.{unnamed}
use Rattle.nsf.proofs.Orders.{all_numbered, at_index, one_more, set_behind, set_map}
use Rattle.nsf.proofs.clients.settle_chairs.Goals as goal

pub loop-k-preserved : goal.loop-k-preserved
loop-k-preserved g c =
    let was = c.loop-k.invariant in
    let k = c.loop-k.k in
    let items = c.loop-k.chairs.items in
    let first = c.args.chairs.now.items in
    let chair = c.index_mut-chair.result.now in
    let new = c.settle_chair.new.chair in
    let at : slice_get items k ≡ Some chair = at_index items k chair (omega (arith, was.counted)) c.index_mut-chair.ensures.value in
    record {
      same = c.settle_chair.ensures.same ∙ was.same;
      counted = length-set items k new ∙ was.counted;
      clients = set_map (λ d. d.client) items k chair new at c.settle_chair.ensures.client ∙ was.clients;
      numbers = set_map (λ d. d.seat.number) items k chair new at c.settle_chair.ensures.number ∙ was.numbers;
      seats = set_map (λ d. unnamed d.seat) items k chair new at c.settle_chair.ensures.seat ∙ was.seats;
      rest = λ j le. set_behind items k j new (omega (arith, le)) ∙ was.rest j (omega (arith, le));
      seen = one_more (λ d. d.seat.sight.horizon ≤ c.args.flush.now.published.horizon) first k chair (sym (was.rest k (omega arith)) ∙ at) was.seen
          (subst (λ f. chair.seat.sight.horizon ≤ f.published.horizon) was.same c.settle_chair.ensures.seen);
      marked = one_more (λ d. IsSafeSince g.D.Device.marks c.args.flush.now.publications d.seat.sight.safe d.seat.sight.mark) first k chair
          (sym (was.rest k (omega arith)) ∙ at) was.marked
          (subst (λ f. IsSafeSince g.D.Device.marks f.publications chair.seat.sight.safe chair.seat.sight.mark) was.same c.settle_chair.ensures.marked);
    }

pub loop-k-init : goal.loop-k-init
loop-k-init g c = record {
  same = refl;
  counted = refl;
  clients = refl;
  numbers = refl;
  seats = refl;
  rest = λ j le. refl;
  seen = λ j d lt at. absurd (omega (arith, lt));
  marked = λ j d lt at. absurd (omega (arith, lt));
}

pub returns : goal.returns
returns g c =
    let was = c.loop-k.invariant in
    let first = c.args.chairs.now in
    record {
      same = was.same;
      len = c.loop-k.chairs.ok.0 ∙ (was.counted ∙ sym first.ok.0);
      clients = was.clients;
      seats = was.seats;
      all = λ count. all_numbered (λ d. d.seat) count first.items c.loop-k.chairs.items was.numbers;
      seen = λ k d at. let within = slice_get_within first.items k d at in was.seen k d (omega arith) at;
      marked = λ k d at. let within = slice_get_within first.items k d at in was.marked k d (omega arith) at;
    }
