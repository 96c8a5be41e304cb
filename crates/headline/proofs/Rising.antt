-- Items whose numbers rise.
use Rattle.std.proofs.Common.{◌≡◌, ⊎_elim, ℕ, ◌<◌, ◌≤◌, List, [], ◌∷◌, ◌++◌, refl, ap, subst, ◌∙◌, sym, arith}
use Rattle.std.specs.List.{All}
use Rattle.std.proofs.lemmas.Bool.{le-leb, lt-leb, cases_lt}
use Rattle.std.proofs.lemmas.List.Elements.{All-cons, All-nil}
use Rattle.model.specs.History.{AreRising, Item, up_to}
use Rattle.model.proofs.HistoryLaws.{up_to_none}

abbrev pub IsAbove : ℕ → Item → Type 0
IsAbove n item = n < item.number

all_above : (n m : ℕ) (items : List Item) → n ≤ m → AreRising m items → All (IsAbove n) items
all_above n m [] le rise = All-nil (IsAbove n)
all_above n m (item ∷ items) le rise = All-cons (IsAbove n) item items (omega (arith, le, rise.0))
    (all_above n item.number items (omega (arith, le, rise.0)) rise.1)

abbrev pub IsUpTo : ℕ → Item → Type 0
IsUpTo n item = item.number ≤ n

-- those up to a number
pub all_up_to : (n : ℕ) (items : List Item) → All (IsUpTo n) (up_to n items)
all_up_to n [] = All-nil (IsUpTo n)
all_up_to n (item ∷ items) = ⊎_elim
    (λ lt.
    let out : up_to n (item ∷ items) ≡ up_to n items = rw (lt-leb item.number n lt) refl in
    subst (All (IsUpTo n)) (sym out) (all_up_to n items))
    (λ le.
    let here : up_to n (item ∷ items) ≡ item ∷ up_to n items = rw (le-leb item.number n le) refl in
    subst (All (IsUpTo n)) (sym here) (All-cons (IsUpTo n) item (up_to n items) le (all_up_to n items)))
    (cases_lt n item.number)

-- those up to a number, and the others behind them
pub split_up : (n m : ℕ) (items : List Item) → AreRising m items → (lost : List Item) × (items ≡ up_to n items ++ lost) × All (IsAbove n) lost
split_up n m [] rise = ([], refl, All-nil (IsAbove n))
split_up n m (item ∷ items) rise = ⊎_elim
    (λ lt.
    let out : up_to n (item ∷ items) ≡ up_to n items = rw (lt-leb item.number n lt) refl in
    let none : up_to n (item ∷ items) ≡ [] = out ∙ up_to_none n item.number items (omega (arith, lt)) rise.1 in (
      item ∷ items,
      ap (λ (l : List Item). l ++ item ∷ items) (sym none),
      All-cons (IsAbove n) item items lt (all_above n item.number items (omega (arith, lt)) rise.1),
    ))
    (λ le.
    let here : up_to n (item ∷ items) ≡ item ∷ up_to n items = rw (le-leb item.number n le) refl in
    let rest = split_up n item.number items rise.1 in (
      rest.0,
      ap (λ (l : List Item). item ∷ l) rest.1 ∙ ap (λ (l : List Item). l ++ rest.0) (sym here),
      rest.2,
    ))
    (cases_lt n item.number)
