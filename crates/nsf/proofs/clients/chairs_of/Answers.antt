use Rattle.std.proofs.Common.{◌≡◌, ◌++◌, ◌∷◌, ◌∙◌, List, [], ap, append-nil, append_assoc, arith, length, map, sym}
use Rattle.std.proofs.lemmas.List.{map_push, nil_from_length}
use Rattle.std.proofs.lemmas.Result.{err_from_is_err_and}
use Rattle.nsf.proofs.clients.chairs_of.Goals as goal

-- one more is mapped, of those that are left
one_more : {X Y : Type 0} (f : X → Y) (now old : List X) (x : X) (rest left : List Y) (all : List Y) → now ≡ old ++ x ∷ [] → left ≡ f x ∷ rest
    → map f old ++ left ≡ all → map f now ++ rest ≡ all
one_more f now old x rest left all put step was =
    ap (λ l. map f l ++ rest) put ∙ ap (λ l. l ++ rest) (map_push f old x) ∙ append_assoc (map f old) (f x ∷ []) rest
    ∙ ap (λ l. map f old ++ l) (sym step) ∙ was

none_left : {Y : Type 0} (done left all : List Y) → length left ≡ 0 → done ++ left ≡ all → done ≡ all
none_left done left all none was = sym (ap (λ l. done ++ l) (nil_from_length left none) ∙ append-nil done) ∙ was

pub returns-then-len : goal.returns-then-len
returns-then-len g c = record { seats = tt; clients = tt }

pub returns-in_err-chairs : goal.returns-in_err-chairs
returns-in_err-chairs g c =
    rw (err_from_is_err_and c.from_residual.result c.from_residual.ensures.1).1 (record { seats = tt; clients = tt })

pub loop-seat-init : goal.loop-seat-init
loop-seat-init g c =
    let made = c.in_ok-chairs.ensures in
    let seats = c.into_iter-seat-iterator.ensures.into_iter_gives.0 in
    let clients = c.into_iter-waiting.ensures.rest in
    record {
      seats = ap (λ l. map (λ d. d.seat) l ++ c.into_iter-seat-iterator.result.rest.items) made.items ∙ seats;
      clients = ap (λ l. map (λ d. d.client) l ++ c.into_iter-waiting.result.rest.items) made.items ∙ clients;
      even = omega (
        arith,
        ap length clients,
        ap length seats,
        c.if-len.false,
        c.len.ensures,
        c.len-2.ensures,
        c.args.clients.ok.0,
        c.args.seats.ok.0,
      );
      room = omega (arith, ap length made.items, ap length seats, made.exact, c.len-3.ensures, c.args.seats.ok.0);
    }

pub push_reserved-requires : goal.push_reserved-requires
push_reserved-requires g c = omega (arith, c.loop-seat.invariant.room, ap length c.in-Some.ensures.steps.0, c.loop-seat.chairs.ok.0)

pub loop-seat-preserved : goal.loop-seat-preserved
loop-seat-preserved g c =
    let was = c.loop-seat.invariant in
    let put = c.push_reserved.ensures in
    let seats = c.in-Some.ensures.steps.0 in
    let clients = c.in-Some-next.ensures.items in
    record {
      seats = one_more (λ d. d.seat) _ c.loop-seat.chairs.items _ c.next.new.self.rest.items _ _ put.items seats was.seats;
      clients = one_more (λ d. d.client) _ c.loop-seat.chairs.items _ _ _ _ put.items clients was.clients;
      even = omega (arith, was.even, ap length seats, ap length clients);
      room = omega (arith, was.room, ap length seats, put.len, put.capacity, c.loop-seat.chairs.ok.0, c.push_reserved.new.self.ok.0);
    }

pub returns : goal.returns
returns g c =
    let was = c.loop-seat.invariant in
    let none : length c.loop-seat.seat-iterator.rest.items ≡ 0 = omega (arith, c.in-None.ensures.steps.0, c.loop-seat.seat-iterator.rest.ok.0) in
    record { seats = none_left _ _ _ none was.seats; clients = none_left _ _ _ (omega (arith, none, was.even)) was.clients }
