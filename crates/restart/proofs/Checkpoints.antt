-- The last checkpoint of a history.
use Rattle.std.proofs.Common.{◌≡◌, ◌⊎◌, ⊎_elim, inl, inr, ℕ, ◌≤◌, List, [], ◌∷◌, ◌++◌, Some, refl, sym, ap, ◌∙◌, arith}
use Rattle.std.proofs.lemmas.Bool.{le-leb, lt-leb, cases_lt}
use Rattle.std.proofs.lemmas.List.Elements.{All-cons}
use Rattle.std.specs.List.{All}
use Rattle.record_values.specs.declared.pair.Pair.{Pair}
use Rattle.model.specs.Given.{Given}
use Rattle.model.specs.History.{Checkpointed, Committed, Completed, Created, Deed, Dropped, Item, life_after, life_with, up_to}
use Rattle.model.specs.declared.life.Life.{Life}
use Rattle.model.specs.declared.life.Life.TheVariants.{Building}
use Rattle.restart.specs.Story.{IsCommit, IsFirstCheckpoint, IsLastCheckpoint, IsLeftOf, Story}

-- the last item of the index in a list is the checkpoint of this pair
record IsLast (items : List Item) (pair : Pair) : Type 0 where
  pub number : ℕ
  pub before : List Item
  pub behind : List Item
  pub there : items ≡ before ++ record { number = number; deed = Checkpointed pair } ∷ behind
  pub commits : All (λ (item : Item). IsCommit item.deed) behind

-- one item more before them
one_before : (item : Item) (items : List Item) (pair : Pair) → IsLast items pair → IsLast (item ∷ items) pair
one_before item items pair is = record {
  number = is.number;
  before = item ∷ is.before;
  behind = is.behind;
  there = ap (λ (xs : List Item). item ∷ xs) is.there;
  commits = is.commits;
}

-- one item, where all behind it are commits
first : (life : Life) (number : ℕ) (deed : Deed) (items : List Item) (pair : Pair) → life_with life deed ≡ Building (Some pair)
    → All (λ (item : Item). IsCommit item.deed) items
    → ((life ≡ Building (Some pair)) × All (λ (item : Item). IsCommit item.deed) (record { number = number; deed = deed } ∷ items))
    ⊎ IsLast (record { number = number; deed = deed } ∷ items) pair
first life number (Committed writes) items pair same all =
    inl (same, All-cons (λ (item : Item). IsCommit item.deed) (record { number = number; deed = Committed writes }) items tt all)
first life number Created items pair same all = absurd cc
first life number (Checkpointed p) items pair same all =
    inr (record {
      number = number;
      before = [];
      behind = items;
      there = ap (λ (q : Pair). record { number = number; deed = Checkpointed q } ∷ items) (let e : p ≡ pair = cc in e);
      commits = all;
    })
first life number Completed items pair same all = absurd cc
first life number Dropped items pair same all = absurd cc

-- the life is what it was, and all are commits; or there is a last one
found : (life : Life) (items : List Item) (pair : Pair) → life_after life items ≡ Building (Some pair)
    → ((life ≡ Building (Some pair)) × All (λ (item : Item). IsCommit item.deed) items) ⊎ IsLast items pair
found life [] pair same = inl (same, λ i d below. absurd (omega (arith, below)))
found life (item ∷ items) pair same = ⊎_elim
    (λ all. first life item.number item.deed items pair all.0 all.1)
    (λ last. inr (one_before item items pair last))
    (found (life_with life item.deed) items pair same)

-- each item up to a number has one that is no greater
counted : (n : ℕ) (items before behind : List Item) (item : Item) → up_to n items ≡ before ++ item ∷ behind → item.number ≤ n
counted n [] [] behind item same = absurd cc
counted n [] (x ∷ before) behind item same = absurd cc
counted n (y ∷ items) [] behind item same = ⊎_elim
    (λ above. let out : up_to n (y ∷ items) ≡ up_to n items = rw (lt-leb y.number n above) refl in counted n items [] behind item (sym out ∙ same))
    (λ within. let here : up_to n (y ∷ items) ≡ y ∷ up_to n items = rw (le-leb y.number n within) refl in let e : y ≡ item = cc (here, same) in
    omega (arith, within, ap (λ (i : Item). i.number) e))
    (cases_lt n y.number)
counted n (y ∷ items) (x ∷ before) behind item same = ⊎_elim
    (λ above. let out : up_to n (y ∷ items) ≡ up_to n items = rw (lt-leb y.number n above) refl in counted n items (x ∷ before) behind item (sym out ∙ same))
    (λ within. let here : up_to n (y ∷ items) ≡ y ∷ up_to n items = rw (le-leb y.number n within) refl in
    let e : up_to n items ≡ before ++ item ∷ behind = cc (here, same) in counted n items before behind item e)
    (cases_lt n y.number)

pub last_of_left : (story : Story) (given : Given) (pair : Pair) → IsLeftOf story given → given.life ≡ Building (Some pair)
    → IsLastCheckpoint story.items given.last pair ⊎ IsFirstCheckpoint story.began story.items given.last pair
last_of_left story given pair is building = ⊎_elim
    (λ all. inr all)
    (λ last. inl (record {
      number = last.number;
      counts = counted given.last story.items last.before last.behind (record { number = last.number; deed = Checkpointed pair }) last.there;
      before = last.before;
      behind = last.behind;
      there = last.there;
      commits = last.commits;
    }))
    (found story.began.life (up_to given.last story.items) pair (sym is.beginning.life ∙ building))
