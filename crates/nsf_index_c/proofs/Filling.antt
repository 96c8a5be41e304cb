-- Entries are put one after another, and pairs are read so.
use Rattle.std.proofs.Common.{◌≡◌, inl, inr, ℕ, ◌+◌, ◌<◌, List, [], ◌∷◌, ◌++◌, length, drop, map}
use Rattle.std.proofs.Common.{slice_set, get_or, Option, Some, refl, sym, subst, ◌∙◌, ap, arith}
use Rattle.std.proofs.lemmas.List.{append_assoc, drop_more, length_push, length-map, map_push, set_at, take-append-drop}
use Rattle.std.proofs.Common.{take}
use Rattle.btree_node.specs.Above.{IsLeastAbove}
use Rattle.record_values.specs.Entries.{Index}
use Rattle.record_values.specs.declared.pair.Mark.{Mark}
use Rattle.record_values.specs.declared.pair.Pair.{Pair}
use Rattle.record_values.specs.declared.rid.TheConstants.{SLOTS_PER_PAGE}
use Rattle.online_index.specs.Pages.{IsPage}
use Rattle.nsf_index_c.specs.Building.{ArePairs, IsNoPage}
use Rattle.nsf_index_c.specs.Pairs.{IsNoPair, IsPair, told}
use Rattle.nsf_index_c.specs.Reading.{AreNext, told_entry}
use Rattle.nsf_index_c.specs.declared.pair.PairOfC.{PairOfC}

-- so many entries stand in front
pub record HasFilled (m : Index) (start : Option Pair) (at : ℕ) (old new : List PairOfC) (end : Option Pair) : Type 0 where
  pub entries : List (Pair × Mark)
  pub next : AreNext m start entries end
  pub number : at ≡ length entries
  pub filled : new ≡ map told_entry entries ++ drop at old

pub next_more : (m : Index) (start end : Option Pair) (es : List (Pair × Mark)) (e : Pair × Mark) → AreNext m start es end
    → IsLeastAbove m end (Some e) → AreNext m start (es ++ e ∷ []) (Some e.0)
next_more m start end [] e is least = (subst (λ s. IsLeastAbove m s (Some e)) is least, refl)
next_more m start end (d ∷ ds) e is least = (is.0, next_more m (Some d.0) end ds e is.1 least)

-- one entry more
pub filled_more : (m : Index) (start end asked : Option Pair) (at : ℕ) (old new : List PairOfC) (p : Pair) (mark : Mark)
    (t : PairOfC) → at < length old → HasFilled m start at old new end → asked ≡ end → IsLeastAbove m asked (Some (p, mark))
    → t ≡ told p (Some mark) → HasFilled m start (at + 1) old (slice_set new at t) (Some p)
filled_more m start end asked at old new p mark t inside has same least is =
    let es = has.entries in let e : Pair × Mark = (p, mark) in let rest = drop (at + 1) old in
    record {
      entries = es ++ e ∷ [];
      next = next_more m start end es e has.next (subst (λ s. IsLeastAbove m s (Some e)) same least);
      number = ap (λ n. n + 1) has.number ∙ sym (length_push es e);
      filled = ap (λ xs. slice_set xs at t) (has.filled ∙ ap (λ ys. map told_entry es ++ ys) (drop_more old at t inside))
          ∙ set_at (map told_entry es) (get_or old at t) rest t at (length-map es told_entry ∙ sym has.number)
          ∙ ap (λ x. map told_entry es ++ x ∷ rest) is
          ∙ sym (ap (λ ys. ys ++ rest) (map_push told_entry es e) ∙ append_assoc (map told_entry es) (told_entry e ∷ []) rest);
    }

-- one of C's pairs more
pub pairs_more : (cs : List PairOfC) (ps : List Pair) (c : PairOfC) (p : Pair) → ArePairs cs ps → IsPair c p
    → ArePairs (cs ++ c ∷ []) (ps ++ p ∷ [])
pairs_more [] [] c p are is = (is, tt)
pairs_more [] (q ∷ qs) c p are is = absurd are
pairs_more (d ∷ ds) [] c p are is = absurd are
pairs_more (d ∷ ds) (q ∷ qs) c p are is = (are.0, pairs_more ds qs c p are.1 is)

-- one of them is none
pub no_pairs : (cs ds : List PairOfC) (c : PairOfC) (ps : List Pair) → IsNoPair c → ¬ ArePairs (cs ++ c ∷ ds) ps
no_pairs [] ds c [] none are = are
no_pairs [] ds c (p ∷ ps) (inl long) are = absurd (omega (arith, long, are.0.0))
no_pairs [] ds c (p ∷ ps) (inr far) are = absurd (omega (arith, far, are.0.1))
no_pairs (d ∷ cs) ds c [] none are = are
no_pairs (d ∷ cs) ds c (p ∷ ps) none are = no_pairs cs ds c ps none are.1

-- so at an index
pub pairs_next : (cs : List PairOfC) (ps qs : List Pair) (i : ℕ) (c : PairOfC) (p : Pair) → take (i + 1) cs ≡ take i cs ++ c ∷ []
    → ArePairs (take i cs) ps → IsPair c p → qs ≡ ps ++ p ∷ [] → ArePairs (take (i + 1) cs) qs
pairs_next cs ps qs i c p next are is pushed = subst (λ xs. ArePairs xs qs) (sym next)
    (subst (λ rs. ArePairs (take i cs ++ c ∷ []) rs) (sym pushed) (pairs_more (take i cs) ps c p are is))

pub no_pairs_at : (cs : List PairOfC) (i : ℕ) (c : PairOfC) → drop i cs ≡ c ∷ drop (i + 1) cs → IsNoPair c → (ps : List Pair)
    → ¬ ArePairs cs ps
no_pairs_at cs i c here none ps are = no_pairs (take i cs) (drop (i + 1) cs) c ps none
    (subst (λ xs. ArePairs xs ps) (sym (take-append-drop i cs) ∙ ap (λ ys. take i cs ++ ys) here) are)

-- they are as many, and C's pairs say which they are
pub as_many : (cs : List PairOfC) (ps : List Pair) → ArePairs cs ps → length cs ≡ length ps
as_many [] [] are = refl
as_many [] (p ∷ ps) are = absurd are
as_many (c ∷ cs) [] are = absurd are
as_many (c ∷ cs) (p ∷ ps) are = omega (arith, as_many cs ps are.1)

pub same_pairs : (cs : List PairOfC) (ps qs : List Pair) → ArePairs cs ps → ArePairs cs qs → ps ≡ qs
same_pairs [] [] [] are also = refl
same_pairs [] [] (q ∷ qs) are also = absurd also
same_pairs [] (p ∷ ps) qs are also = absurd are
same_pairs (c ∷ cs) [] qs are also = absurd are
same_pairs (c ∷ cs) (p ∷ ps) [] are also = absurd also
same_pairs (c ∷ cs) (p ∷ ps) (q ∷ qs) are also =
    ap (λ x. x ∷ ps) (are.0.2 ∙ sym also.0.2) ∙ ap (λ xs. q ∷ xs) (same_pairs cs ps qs are.1 also.1)

-- too many of them are no page, and nor are those that are read and are none
pub too_many : (page : ℕ) (cs : List PairOfC) → SLOTS_PER_PAGE < length cs → IsNoPage page cs
too_many page cs many ps are is = absurd (omega (arith, many, as_many cs ps are, is.few))

pub other_pairs : (page : ℕ) (cs : List PairOfC) (qs : List Pair) → ArePairs cs qs → ¬ IsPage page qs → IsNoPage page cs
other_pairs page cs qs are none ps also is = none (subst (IsPage page) (same_pairs cs ps qs also are) is)
