-- The halves under the lock, and the sessions that they show.
use Rattle.std.proofs.Common.{◌≡◌, ℕ, ◌<◌, List, [], ◌∷◌, length, map, Some, zero, suc, refl, sym, ap, ◌∙◌, inl, inr, arith}
use Rattle.std.proofs.lemmas.Bool.{cases_eq}
use Rattle.std.proofs.lemmas.List.{map-set}
use Rattle.std.specs.Prelude.{slice_get, slice_set, slice_index_or}
use Rattle.atomic_table.specs.Seated.{TableId}
use Rattle.threads_register.proofs.Laws.{get_set, get_set_other, set_length, some_is}
use Rattle.threads_sessions.specs.Values.{SessionValue}
use Rattle.threads_sessions.specs.Halves.{HalfValue, IsBook, shown}

get_read : {A : Type 0} (l : List A) (n : ℕ) (a : A) → n < length l → a ≡ slice_index_or l n a → slice_get l n ≡ Some a
get_read [] n a lt e = absurd (omega arith)
get_read (x ∷ xs) zero a lt e = ap Some (sym e)
get_read (x ∷ xs) (suc n) a lt e = get_read xs n a (omega arith) e

get_map : (items : List HalfValue) (n : ℕ) (h : HalfValue) → slice_get items n ≡ Some h → slice_get (map shown items) n ≡ Some h.session
get_map [] n h e = absurd cc
get_map (x ∷ xs) zero h e = ap (λ (y : HalfValue). Some y.session) (some_is x h e)
get_map (x ∷ xs) (suc n) h e = get_map xs n h e

pub set_itself : {A : Type 0} (l : List A) (n : ℕ) (a : A) → slice_get l n ≡ Some a → slice_set l n a ≡ l
set_itself [] n a e = refl
set_itself (x ∷ xs) zero a e = ap (λ y. y ∷ xs) (sym (some_is x a e))
set_itself (x ∷ xs) (suc n) a e = ap (λ l. x ∷ l) (set_itself xs n a e)

-- a seat's half and the one under the lock, which come together
module _ (z : TableId) (seats : ℕ) (items : List HalfValue) (n : ℕ) (p : SessionValue) (old half : HalfValue) (count : length items ≡ seats)
    (within : n < seats)
    (at : old ≡ slice_index_or items n old) (own : half ≡ record { table = z; number = n; session = p }) (agree : old.session ≡ half.session) where
  inside : n < length items
  inside = omega (arith, count, within)

  read : slice_get items n ≡ Some old
  read = get_read items n old inside at

  -- the session of the seat is there
  pub there : slice_get (map shown items) n ≡ Some p
  there = get_map items n old read ∙ (ap Some agree ∙ ap (λ (h : HalfValue). Some h.session) own)

  module _ (book : IsBook z items) where
    pub half_at : (old.table ≡ z) × (old.number ≡ n)
    half_at = book n old read

    -- the one under the lock shows another session, or the same
    module _ (new : HalfValue) (q : SessionValue) (is : new ≡ record old { session = q }) where
      pub count_set : length (slice_set items n new) ≡ seats
      count_set = set_length items n new ∙ count

      pub book_set : IsBook z (slice_set items n new)
      book_set k h e = elim (cases_eq k n) [
        | inl same ↦
            let its : new ≡ h = some_is new h (sym (get_set items n new inside) ∙ (ap (slice_get (slice_set items n new)) (sym same) ∙ e)) in
            (ap (λ (x : HalfValue). x.table) (sym its ∙ is) ∙ half_at.0, ap (λ (x : HalfValue). x.number) (sym its ∙ is) ∙ (half_at.1 ∙ sym same))
        | inr apart ↦ book k h (sym (get_set_other items n k new apart) ∙ e)
      ]

      pub shown_set : map shown (slice_set items n new) ≡ slice_set (map shown items) n q
      shown_set = map-set shown items n new ∙ ap (slice_set (map shown items) n) (ap shown is)

  -- it shows what it showed
  pub same_set : (new : HalfValue) → new ≡ old → map shown (slice_set items n new) ≡ map shown items
  same_set new is = ap (λ (h : HalfValue). map shown (slice_set items n h)) is ∙ ap (map shown) (set_itself items n old read)

-- what a half shows that was looked at before it was changed
pub changed_after : (old looked new : HalfValue) (q : SessionValue) → looked ≡ old → new ≡ record looked { session = q } → new ≡ record old { session = q }
changed_after old looked new q same is = is ∙ ap (λ (h : HalfValue). record h { session = q }) same

-- ---- two halves may come together: they are of this registry, and stand at one number

abbrev pub CanMeet : TableId → HalfValue → HalfValue → Type 0
CanMeet r mine theirs = (mine.table ≡ r) × (theirs.table ≡ r) × (theirs.number ≡ mine.number)

pub meets : (z r : TableId) (seats : ℕ) (items : List HalfValue) (n : ℕ) (p : SessionValue) (old half : HalfValue) → length items ≡ seats → n < seats
    → old ≡ slice_index_or items n old → half ≡ record { table = z; number = n; session = p } → IsBook z items → r ≡ z → CanMeet r half old
meets z r seats items n p old half count within at own book is =
    let its : (old.table ≡ z) × (old.number ≡ n) = book n old (get_read items n old (omega (arith, count, within)) at) in (
      ap (λ (h : HalfValue). h.table) own ∙ sym is,
      its.0 ∙ sym is,
      its.1 ∙ sym (ap (λ (h : HalfValue). h.number) own),
    )

-- also after they were looked at
pub meets_again : (r : TableId) (half old mine theirs : HalfValue) → mine ≡ half → theirs ≡ old → CanMeet r half old → CanMeet r mine theirs
meets_again r half old mine theirs same unchanged can = (
  ap (λ (h : HalfValue). h.table) same ∙ can.0,
  ap (λ (h : HalfValue). h.table) unchanged ∙ can.1,
  ap (λ (h : HalfValue). h.number) unchanged ∙ (can.2 ∙ sym (ap (λ (h : HalfValue). h.number) same)),
)

-- the seat's own half, after it shows another session
pub half_after : (z : TableId) (n : ℕ) (p q : SessionValue) (half looked new : HalfValue) → half ≡ record { table = z; number = n; session = p }
    → looked ≡ half → new ≡ record looked { session = q } → new ≡ record { table = z; number = n; session = q }
half_after z n p q half looked new own same is = is ∙ ap (λ (h : HalfValue). record h { session = q }) (same ∙ own)
