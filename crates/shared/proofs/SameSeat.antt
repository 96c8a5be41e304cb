-- A seat of which a call changed the session alone, or what it has seen.
use Rattle.std.proofs.Common.{◌≡◌, Err, IfOk, Ok, OnErr, Result, refl, ◌∙◌, ap, subst, sym}
use Rattle.record_values.specs.declared.error.Error.{Error}
use Rattle.board.specs.Views.{Sighting}
use Rattle.locked_core.specs.Seats as part
use Rattle.threads_sessions.specs.Values.{SessionValue}
use Rattle.shared.specs.Seats.{SeatValue}

pub session_alone : {T : Type 0} (r : Result T Error) (old new : SeatValue) (session : T → SessionValue)
    → IfOk r (λ t. new ≡ record old { session = session t }) → OnErr r (new ≡ old) → new ≡ record old { session = new.session }
session_alone (Ok t) old new session ok refused = cc
session_alone (Err e) old new session ok refused = subst (λ (x : SeatValue). x ≡ record old { session = x.session }) (sym refused) refl

-- a seat with this part, which has seen this
abbrev pub seat_with : part.SeatValue → Sighting → SeatValue
seat_with p sight = record { number = p.number; session = p.session; sight = sight }

module _ (p new : part.SeatValue) (sight : Sighting) (old : SeatValue) (is : seat_with p sight ≡ old) (number : new.number ≡ p.number) where
  -- the part has this session now
  pub with_session : (session : SessionValue → SessionValue) → new.session ≡ session p.session
      → seat_with new sight ≡ record old { session = session old.session }
  with_session session same =
      subst (λ (s : SeatValue). seat_with new sight ≡ record s { session = session s.session }) is (λ i.
      record { number = number i; session = same i; sight = sight })

  -- the part's session alone may be another
  pub any_session : seat_with new sight ≡ record old { session = new.session }
  any_session = subst (λ (s : SeatValue). seat_with new sight ≡ record s { session = new.session }) is (λ i.
      record { number = number i; session = new.session; sight = sight })

  -- the part's session is the same
  pub same_session : new.session ≡ p.session → seat_with new sight ≡ old
  same_session same = (λ i. record { number = number i; session = same i; sight = sight }) ∙ is

  module _ {T : Type 0} (r : Result T Error) where
    pub session_on_ok : (session : SessionValue → T → SessionValue) → IfOk r (λ t. new.session ≡ session p.session t)
        → IfOk r (λ t. seat_with new sight ≡ record old { session = session old.session t })
    session_on_ok session ok = by r ok
      where
        by : (x : Result T Error) → IfOk x (λ t. new.session ≡ session p.session t)
            → IfOk x (λ t. seat_with new sight ≡ record old { session = session old.session t })
        by (Ok t) same = with_session (λ s. session s t) same
        by (Err e) same = same

    pub same_on_err : OnErr r (new.session ≡ p.session) → OnErr r (seat_with new sight ≡ old)
    same_on_err err = by r err
      where
        by : (x : Result T Error) → OnErr x (new.session ≡ p.session) → OnErr x (seat_with new sight ≡ old)
        by (Ok t) same = same
        by (Err e) same = same_session same

-- what holds, holds of an error
pub on_err : {T : Type 0} (r : Result T Error) (X : Type 0) → X → OnErr r X
on_err (Ok t) X holds = tt
on_err (Err e) X holds = holds

-- its session alone changed before, and it is the same now
pub still_alone : (first was new : SeatValue) → was ≡ record first { session = was.session } → new ≡ was → new ≡ record first { session = new.session }
still_alone first was new alone same = subst (λ (s : SeatValue). s ≡ record first { session = s.session }) (sym same) alone

-- and its session alone changes again
pub again_alone : (first was new : SeatValue) → was ≡ record first { session = was.session } → new ≡ record was { session = new.session }
    → new ≡ record first { session = new.session }
again_alone first was new alone step = step ∙ ap (λ (s : SeatValue). record s { session = new.session }) alone

-- ---- what an answer is not

pub ok_no_err : {T : Type 0} (t : T) (e : Error) → Ok t ≡ Err e → ⊥
ok_no_err t e is = absurd cc

-- an error is the same beside whatever else might have been answered
abbrev pub err_of : (T : Type 0) → Error → Result T Error
err_of T e = Err e

pub err_also : {S T : Type 0} (e f : Error) → err_of S e ≡ err_of S f → err_of T e ≡ err_of T f
err_also {S} {T} e f is = ap told is
  where
    told : Result S Error → Result T Error
    told (Ok s) = Err e
    told (Err x) = Err x
