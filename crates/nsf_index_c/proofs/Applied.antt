-- Changes one after another.
use Rattle.std.proofs.Common.{◌≡◌, inl, inr, ℕ, ◌+◌, ◌<◌, List, [], ◌∷◌, ◌++◌, length, take, sym, subst, arith}
use Rattle.nsf_index_c.specs.Applying.{Applies, AreMade, MakesOne, one_more}
use Rattle.nsf_index_c.specs.Changing.{Makes}
use Rattle.nsf_index_c.specs.Seen.{Seen}
use Rattle.nsf_index_c.specs.declared.change.Change.{Change}
use Rattle.nsf_index_c.specs.declared.pair.ChangeOfC.{ChangeOfC}

-- a change that is refused leaves the index as it was
unmade : (change : Change) (n : ℕ) (v w : Seen) → Makes change n v w → 0 < n → w ≡ v
unmade change n v w (inl made) refused = absurd (omega (arith, made.0, refused))
unmade change n v w (inr why) refused = why.1

pub unchanged : (c : ChangeOfC) (n : ℕ) (v w : Seen) → MakesOne c n v w → 0 < n → w ≡ v
unchanged c n v w (inl made) refused = unmade made.0 n v w made.2 refused
unchanged c n v w (inr none) refused = none.1

-- one change more
pub made_more : (cs : List ChangeOfC) (c : ChangeOfC) (i n : ℕ) (u v w : Seen) → take (i + 1) cs ≡ take i cs ++ c ∷ []
    → AreMade u (take i cs) v → MakesOne c n v w → n ≡ 0 → AreMade u (take (i + 1) cs) w
made_more cs c i n u v w next before one is = subst (λ (xs : List ChangeOfC). AreMade u xs w) (sym next)
    (one_more (take i cs) c before (subst (λ k. MakesOne c k v w) is one))

-- the next one was refused
pub stopped : (cs : List ChangeOfC) (c : ChangeOfC) (i made n : ℕ) (u v w : Seen) → i < length cs
    → take (i + 1) cs ≡ take i cs ++ c ∷ [] → made ≡ i → AreMade u (take i cs) v → MakesOne c n v w → 0 < n
    → Applies cs n made u w
stopped cs c i made n u v w inside next same before one refused =
    let as_it_was = unchanged c n v w one refused in
    subst (λ k. Applies cs n k u w) (sym same) (
      subst (λ (x : Seen). AreMade u (take i cs) x) (sym as_it_was) before,
      inr (inside, refused, (c, next, subst (λ (x : Seen). MakesOne c n x w) (sym as_it_was) one)),
    )
