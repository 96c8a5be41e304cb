use Rattle.std.proofs.Common.{◌≡◌, ◌++◌, ◌∷◌, ◌∙◌, List, [], ap, append-nil, append_assoc, arith, length, map, sym}
use Rattle.std.proofs.lemmas.List.{nil_from_length}
use Rattle.nsf.proofs.clients.parted.Goals as goal

-- none is put, of all
none_put : {X Y : Type 0} (f : X → Y) (done : List Y) (rest all : List X) → done ≡ [] → rest ≡ all → done ++ map f rest ≡ map f all
none_put f done rest all none same = ap (λ l. l ++ map f rest) none ∙ ap (map f) same

-- one more is put, of those that are left
one_put : {X Y : Type 0} (f : X → Y) (now old : List Y) (x : X) (rest left : List X) (all : List Y) → now ≡ old ++ f x ∷ [] → left ≡ x ∷ rest
    → old ++ map f left ≡ all → now ++ map f rest ≡ all
one_put f now old x rest left all put step was =
    ap (λ l. l ++ map f rest) put ∙ append_assoc old (f x ∷ []) (map f rest) ∙ ap (λ l. old ++ map f l) (sym step) ∙ was

all_put : {X Y : Type 0} (f : X → Y) (done : List Y) (left : List X) (all : List Y) → left ≡ [] → done ++ map f left ≡ all → done ≡ all
all_put f done left all none was = sym (ap (λ l. done ++ map f l) none ∙ append-nil done) ∙ was

pub loop-chair-init : goal.loop-chair-init
loop-chair-init g c =
    let all = c.into_iter-chair-iterator.ensures.into_iter_gives.0 in
    let is = c.requires in
    record {
      clients = none_put (λ d. d.client) _ _ _ is.clients.0 all;
      seats = none_put (λ d. d.seat) _ _ _ is.seats.0 all;
      marks = none_put (λ d. d.seat.sight.mark) _ _ _ is.marks.0 all;
      room = omega (arith, ap length all, ap length is.clients.0, is.clients.1, c.args.chairs.ok.0);
      places = omega (arith, ap length all, ap length is.seats.0, is.seats.1, c.args.chairs.ok.0);
      spaces = omega (arith, ap length all, ap length is.marks.0, is.marks.1, c.args.chairs.ok.0);
    }

pub push_reserved-requires : goal.push_reserved-requires
push_reserved-requires g c = omega (arith, c.loop-chair.invariant.spaces, ap length c.in-Some.ensures.steps.0, c.loop-chair.marks.ok.0)

pub push_reserved-requires-in-loop-chair : goal.push_reserved-requires-in-loop-chair
push_reserved-requires-in-loop-chair g c =
    omega (arith, c.loop-chair.invariant.room, ap length c.in-Some.ensures.steps.0, c.loop-chair.clients.ok.0)

pub push_reserved-requires-in-loop-chair-2 : goal.push_reserved-requires-in-loop-chair-2
push_reserved-requires-in-loop-chair-2 g c =
    omega (arith, c.loop-chair.invariant.places, ap length c.in-Some.ensures.steps.0, c.loop-chair.seats.ok.0)

pub loop-chair-preserved : goal.loop-chair-preserved
loop-chair-preserved g c =
    let was = c.loop-chair.invariant in
    let step = c.in-Some.ensures.steps.0 in
    let left = ap length step in
    let mark = c.push_reserved.ensures in
    let client = c.push_reserved-in-loop-chair.ensures in
    let seat = c.push_reserved-in-loop-chair-2.ensures in
    record {
      clients = one_put (λ d. d.client) _ _ c.in-Some.chair _ _ _ client.items step was.clients;
      seats = one_put (λ d. d.seat) _ _ c.in-Some.chair _ _ _ seat.items step was.seats;
      marks = one_put (λ d. d.seat.sight.mark) _ _ c.in-Some.chair _ _ _ (mark.items ∙ ap (λ m. c.loop-chair.marks.items ++ m ∷ []) c.last_mark.ensures)
          step was.marks;
      room = omega (arith, was.room, left, client.len, client.capacity, c.loop-chair.clients.ok.0, c.push_reserved-in-loop-chair.new.self.ok.0);
      places = omega (arith, was.places, left, seat.len, seat.capacity, c.loop-chair.seats.ok.0, c.push_reserved-in-loop-chair-2.new.self.ok.0);
      spaces = omega (arith, was.spaces, left, mark.len, mark.capacity, c.loop-chair.marks.ok.0, c.push_reserved.new.self.ok.0);
    }

pub returns : goal.returns
returns g c =
    let was = c.loop-chair.invariant in
    let left = c.loop-chair.chair-iterator.rest in
    let none : left.items ≡ [] = nil_from_length left.items (omega (arith, c.in-None.ensures.steps.0, left.ok.0)) in
    record {
      clients = all_put (λ d. d.client) _ _ _ none was.clients;
      seats = all_put (λ d. d.seat) _ _ _ none was.seats;
      marks = all_put (λ d. d.seat.sight.mark) _ _ _ none was.marks;
    }
