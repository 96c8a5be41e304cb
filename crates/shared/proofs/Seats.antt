-- Seats as they are made, one for each half.
use Rattle.std.proofs.Common.{◌≡◌, ◌⊎◌, Bool, false, subst, ℕ, ◌+◌, List, [], ◌∷◌, ◌++◌, length, Some, zero, suc, inl, inr, ⊎_elim, refl, sym, ap, ◌∙◌, arith}
use Rattle.std.proofs.lemmas.List.{length-append}
use Rattle.std.specs.Prelude.{slice_get}
use Rattle.atomic_table.specs.Seated.{TableId}
use Rattle.threads_sessions.specs.Values.{empty_session}
use Rattle.threads_sessions.specs.Halves.{HalfValue, IsNew}
use Rattle.board.specs.Views.{Sighting}
use Rattle.shared.specs.Seats.{AreNewSeats, HasSeenNothing, IsNewSeat, SeatValue}

-- the halves of new sessions, the first of them with this number
abbrev pub AreFrom : TableId → ℕ → List HalfValue → Type 0
AreFrom z n halves = (k : ℕ) (h : HalfValue) → slice_get halves k ≡ Some h → h ≡ record { table = z; number = n + k; session = empty_session }

pub first_half : (z : TableId) (n : ℕ) (halves rest : List HalfValue) (h : HalfValue) → AreFrom z n halves → halves ≡ h ∷ rest
    → h ≡ record { table = z; number = n; session = empty_session }
first_half z n halves rest h from e = from 0 h (ap (λ l. slice_get l 0) e)
    ∙ ap (λ (m : ℕ). record { table = z; number = m; session = empty_session }) (omega arith)

pub rest_halves : (z : TableId) (n : ℕ) (halves rest : List HalfValue) (h : HalfValue) → AreFrom z n halves → halves ≡ h ∷ rest → AreFrom z (n + 1) rest
rest_halves z n halves rest h from e k x at = from (suc k) x (ap (λ l. slice_get l (suc k)) e ∙ at)
    ∙ ap (λ (m : ℕ). record { table = z; number = m; session = empty_session }) (omega arith)

get_snoc : {A : Type 0} (l : List A) (a b : A) (k : ℕ) → slice_get (l ++ a ∷ []) k ≡ Some b → (slice_get l k ≡ Some b) ⊎ ((k ≡ length l) × (a ≡ b))
get_snoc [] a b zero e = inr (refl, cc)
get_snoc [] a b (suc k) e = absurd (cc)
get_snoc (x ∷ xs) a b zero e = inl e
get_snoc (x ∷ xs) a b (suc k) e = ⊎_elim (λ (t : slice_get xs k ≡ Some b). inl t) (λ (t : (k ≡ length xs) × (a ≡ b)). inr (ap suc t.0, t.1))
    (get_snoc xs a b k e)

-- a view that is made of one that has seen nothing
pub sees_nothing : (z : TableId) (old new : Sighting) (name : List Bool) → HasSeenNothing z old → new ≡ record old { name = name; stops = false }
    → HasSeenNothing z new
sees_nothing z old new name nothing is = ap (λ (v : Sighting). record v { name = [] }) is ∙ ap (λ (v : Sighting). record v { stops = false }) nothing

-- and that one, which stays
pub stays_blind : (z : TableId) (old new : Sighting) (name : List Bool) → HasSeenNothing z old → new ≡ record old { name = name } → HasSeenNothing z new
stays_blind z old new name nothing is = ap (λ (v : Sighting). record v { name = [] }) is ∙ nothing

pub more_seats : (z : TableId) (n : ℕ) (seats items : List SeatValue) (s : SeatValue) → AreNewSeats z n seats → IsNewSeat z n s → items ≡ seats ++ s ∷ []
    → AreNewSeats z (n + 1) items
more_seats z n seats items s are new e = record {
  counted = omega (arith, ap length e, length-append seats (s ∷ []), are.counted);
  each = λ k t at. ⊎_elim (λ (x : slice_get seats k ≡ Some t). are.each k t x)
      (λ (x : (k ≡ length seats) × (s ≡ t)). subst (IsNewSeat z k) x.1 (subst (λ m. IsNewSeat z m s) (sym are.counted ∙ sym x.0) new))
      (get_snoc seats s t k (ap (λ l. slice_get l k) (sym e) ∙ at));
}

-- at first there is none
pub no_seats : (z : TableId) (items : List SeatValue) → items ≡ [] → AreNewSeats z 0 items
no_seats z items none = record { counted = ap length none; each = λ k s at. absurd (nothing_at k s (ap (λ l. slice_get l k) (sym none) ∙ at)) }
  where
    nothing_at : (k : ℕ) (s : SeatValue) → slice_get [] k ≡ Some s → ⊥
    nothing_at k s at = cc

-- and all halves are to come
pub all_halves : (z : TableId) (halves rest : List HalfValue) → IsNew z halves → rest ≡ halves → AreFrom z 0 rest
all_halves z halves rest new same k h at = new k h (ap (λ l. slice_get l k) (sym same) ∙ at)
    ∙ ap (λ (m : ℕ). record { table = z; number = m; session = empty_session }) (omega arith)
