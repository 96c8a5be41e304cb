use Rattle.std.proofs.Common.{◌≡◌, ◌<◌, ℕ, zero, suc, true, false, [], Result, Ok, Err, length, refl, sym, ap, subst, ◌∙◌, arith, length-drop}
use Rattle.std.specs.Prelude.{MatchResult, IsOk, is_err}
use Rattle.std.proofs.lemmas.List.{append-nil}
use Rattle.std.proofs.Math.Logic.{∥∥₁_map}
use Rattle.nsf_core.specs.Outbox.{HandsOn}
use Rattle.nsf_core.specs.Value.{value_of}
use Rattle.nsf_core.proofs.Waiting.{handed_safe, one_more, on_success}
use Rattle.nsf_core.proofs.store.Core.take_outbox.Goals as goal

-- what holds after a call that failed
on_failure : {T E : Type 0} (P Q : Type 0) (B : E → Type 0) (r : Result T E) → is_err r ≡ true → MatchResult r (λ _. P) (λ back. B back × Q) → Q
on_failure P Q B (Ok x) is h = absurd cc
on_failure P Q B (Err e) is h = h.1

-- a sink that refused had no room
no_room : {T E : Type 0} (n : ℕ) (r : Result T E) → (0 < n → IsOk r) → is_err r ≡ true → n ≡ 0
no_room zero r sure is = refl
no_room (suc n) (Ok x) sure is = absurd cc
no_room (suc n) (Err e) sure is = absurd (let never : false ≡ true = sure (omega arith) in cc)

none_left : (n : ℕ) → (0 < n → false ≡ true) → n ≡ 0
none_left zero h = refl
none_left (suc n) h = absurd (let e = h (omega arith) in cc)

pub loop-next-init : goal.loop-next-init
loop-next-init g c = record {
  handed = record { handed = []; split = refl; taken = sym (append-nil _); others = refl };
  place = refl;
  room = omega arith;
}

pub returns : goal.returns
returns g c =
    let is = c.loop-next.invariant in
    let none = none_left _ c.in_default.ensures.variant.1 in
    record { handed = is.handed; most = omega (arith, none, c.loop-next.self.parts.outbox.ok); place = is.place }

pub returns-then-is_err : goal.returns-then-is_err
returns-then-is_err g c =
    let is = c.loop-next.invariant in
    let failed = sym c.is_err.ensures.value ∙ c.if-is_err.true in
    let same = on_failure _ _ _ c.take.result failed c.take.ensures.taken in
    let full = no_room _ c.take.result c.take.ensures.sure failed in
    record {
      handed = subst (HandsOn (value_of c.args.self.now) (value_of c.loop-next.self) (g.S.Sink.taken c.args.sink.now)) (sym same) is.handed;
      most = omega (arith, is.room, full);
      place = c.take.ensures.place ∙ is.place;
    }

pub loop-next-smaller : goal.loop-next-smaller
loop-next-smaller g c =
    let waiting = c.loop-next.self.parts.outbox.items in
    let positive = c.in-Some.ensures.variant.0 refl in
    let some : 0 < length waiting = omega (arith, positive, c.loop-next.self.parts.outbox.ok) in
    let less : length c.pop_front.new.self.items < length waiting = omega (arith, some, ap length c.pop_front.ensures.rest, length-drop 1 waiting) in
    less

pub loop-next-preserved : goal.loop-next-preserved
loop-next-preserved g c =
    let waiting = c.loop-next.self.parts.outbox.items in
    let done = sym c.is_err.ensures.value ∙ c.if-is_err.false in
    let positive = c.in-Some.ensures.variant.0 refl in
    let some : 0 < length waiting = omega (arith, positive, c.loop-next.self.parts.outbox.ok) in
    let left = on_success _ _ c.take.result done c.take.ensures.left in
    record {
      handed = one_more _ (value_of c.loop-next.self) _ _ _ _ c.in-Some.field-0.now c.loop-next.invariant.handed some c.in-Some.ensures.lookup
          c.pop_front.ensures.rest (on_success _ _ c.take.result done c.take.ensures.taken);
      place = c.take.ensures.place ∙ c.loop-next.invariant.place;
      room = omega (arith, some, left, c.loop-next.invariant.room, ap length c.pop_front.ensures.rest, length-drop 1 waiting);
    }

pub invariant_of-self : goal.invariant_of-self
invariant_of-self g c =
    let waiting = c.loop-next.self.parts.outbox.items in
    let done = sym c.is_err.ensures.value ∙ c.if-is_err.false in
    let positive = c.in-Some.ensures.variant.0 refl in
    let some : 0 < length waiting = omega (arith, positive, c.loop-next.self.parts.outbox.ok) in
    record {
      safe = ∥∥₁_map c.args.self.now.safe (handed_safe _ _ _ _ (one_more _ (value_of c.loop-next.self) _ _ _ _ c.in-Some.field-0.now
          c.loop-next.invariant.handed some c.in-Some.ensures.lookup c.pop_front.ensures.rest
          (on_success _ _ c.take.result done c.take.ensures.taken)));
    }
