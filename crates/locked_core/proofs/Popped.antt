-- What was popped can follow what was opened.
use Rattle.std.proofs.Common.{◌≡◌, ℕ, zero, suc, ◌+◌, ◌≤◌, List, [], ◌∷◌, ◌++◌, length, take, drop, refl, sym, ap, ◌∙◌, subst, arith, length-append}
use Rattle.std.proofs.Math.Logic.{∥∥₁_elim, ∥∥₁_map}
use Rattle.std.proofs.lemmas.List.{take-append-drop}
use Rattle.std.specs.Coded.{le_prop}
use Rattle.std.specs.FinMap.{len}
use Rattle.records.specs.RecordValue.{RecordValue}
use Rattle.model.proofs.FollowingLaws.{following-take, following_front}
use Rattle.model.specs.Following.{AreFollowing}
use Rattle.model.specs.Given.{given_after, opening_cells}
use Rattle.core_model.specs.Histories.{Opened}
use Rattle.core_model.proofs.ReplyLaws.{served_crashed}
use Rattle.core_parts.specs.View.{CoreValue}
use Rattle.threads_sessions.specs.Values.{SessionValue}
use Rattle.locked_core.proofs.Following.{following_whole}
use Rattle.locked_core.specs.Following.{FitPlaces, FollowOpening}
use Rattle.locked_core.specs.Names.{IsShared}

-- the records that were pushed, with those that wait, can follow what was opened; and so can those pushed
pushed_follow : (o : Opened) (core : CoreValue) (pushed : List RecordValue) (book : List SessionValue) → IsShared o core pushed book → FollowOpening o pushed
pushed_follow o core pushed book shared =
    let served = shared.register.kept.replied.served in
    record {
      in_order = following_front o.pages o.given.last (opening_cells o.given) pushed core.outbox served.log.in_order;
      small = omega (arith, served.number, served.standing.within, length-append pushed core.outbox);
    }

-- no beginning is longer
no_longer : (popped pushed : List RecordValue) → popped ≡ take (length popped) pushed → length popped ≤ length pushed
no_longer popped pushed is =
    let n = length popped in
    omega (arith, ap length is, length-append (take n pushed) (drop n pushed), ap length (take-append-drop n pushed))

beginning_follows : (o : Opened) (popped pushed : List RecordValue) → popped ≡ take (length popped) pushed → FollowOpening o pushed → FollowOpening o popped
beginning_follows o popped pushed is all =
    let less : length popped ≤ length pushed = no_longer popped pushed is in
    record {
      in_order = subst (AreFollowing o.pages o.given.last (opening_cells o.given)) (sym is)
          (following-take o.pages o.given.last (opening_cells o.given) pushed (length popped) all.in_order);
      small = omega (arith, less, all.small);
    }

pub popped_follow : (o : Opened) (core : CoreValue) (pushed : List RecordValue) (book : List SessionValue) (popped : List RecordValue)
    → popped ≡ take (length popped) pushed → ∥ IsShared o core pushed book ∥₁ → FollowOpening o popped
popped_follow o core pushed book popped is shared =
    let told : ∥ FollowOpening o popped ∥₁ = ∥∥₁_map shared (λ all. beginning_follows o popped pushed is (pushed_follow o core pushed book all)) in
    record {
      in_order = following_whole o.pages o.given.last (opening_cells o.given) popped (∥∥₁_map told (λ all. all.in_order));
      small = ∥∥₁_elim told le_prop (λ all. all.small);
    }

-- ---- the last record that was pushed

-- the records made are those pushed and those that wait
pub pushed_then_waiting : (from last waiting : ℕ) (pushed outbox : List RecordValue) → last ≡ from + length (pushed ++ outbox) → waiting ≡ length outbox
    → last ≡ from + length pushed + waiting
pushed_then_waiting from last waiting pushed outbox made wait = omega (arith, made, wait, length-append pushed outbox)

-- ---- places for the entries

-- a beginning of the first of some records is a beginning of all
first_of : (n : ℕ) (popped pushed : List RecordValue) → popped ≡ take (length popped) pushed → n ≤ length popped → take n popped ≡ take n pushed
first_of n popped pushed is le = ap (λ l. take n l) is ∙ shorter n (length popped) pushed le
  where
    shorter : (n m : ℕ) (l : List RecordValue) → n ≤ m → take n (take m l) ≡ take n l
    shorter zero m l le = refl
    shorter (suc n) zero l le = absurd (omega (arith, le))
    shorter (suc n) (suc m) [] le = refl
    shorter (suc n) (suc m) (x ∷ l) le = ap (λ t. x ∷ t) (shorter n m l (omega (arith, le)))

pushed_fit : (o : Opened) (core : CoreValue) (pushed : List RecordValue) (book : List SessionValue) → IsShared o core pushed book → FitPlaces o pushed
pushed_fit o core pushed book shared n le =
    let so = shared.register.kept.replied in
    (served_crashed o shared.opens (pushed ++ core.outbox) shared.register.kept.calls so.state so.standing so.served pushed core.outbox refl n le).1.fits.room

pub popped_fit : (o : Opened) (core : CoreValue) (pushed : List RecordValue) (book : List SessionValue) (popped : List RecordValue)
    → popped ≡ take (length popped) pushed → ∥ IsShared o core pushed book ∥₁ → FitPlaces o popped
popped_fit o core pushed book popped is shared n le =
    subst (λ (l : List RecordValue). len (given_after o.given l).entries ≤ o.places) (sym (first_of n popped pushed is le))
    (∥∥₁_elim shared le_prop (λ all. pushed_fit o core pushed book all n (omega (arith, le, no_longer popped pushed is))))
