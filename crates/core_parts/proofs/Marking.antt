-- A step of a transaction that marks an entry: what it does to the index, and how the outbox gives its record back.
use Rattle.std.proofs.Common.{List, None, Option, Some, [], ap, arith, length, refl, sym, take, ℕ, ◌++◌, ◌+◌, ◌-◌, ◌∙◌, ◌∷◌, ◌≡◌, ◌≤◌}
use Rattle.std.proofs.lemmas.List.{length-append, take_at}
use Rattle.std.proofs.lemmas.Result.{IfErr-weaker, on_ok_weaker}
use Rattle.std.specs.FinMap.{get}
use Rattle.std.specs.Prelude.{IfErr, IfOk, OnErr, OnOk, Result, ◌↔◌}
use Rattle.record_values.specs.Maps.{set_at}
use Rattle.record_values.specs.declared.error.Error.{Error}
use Rattle.record_values.specs.declared.error.Error.TheVariants.{NoMemory}
use Rattle.record_values.specs.declared.pair.Mark.{Mark}
use Rattle.record_values.specs.declared.pair.Mark.TheVariants.{Live, Marked}
use Rattle.record_values.specs.declared.pair.Pair.{Pair}
use Rattle.records.specs.RecordValue.{RecordValue}
use Rattle.record_values.specs.KeyActions.{after_action}
use Rattle.record_values.specs.declared.key_action.KeyAction.TheVariants.{TxnMark, TxnPut}
use Rattle.marked_index.specs.Index.{IndexValue, IsAbsent, after_txn_action, pledges_used}
use Rattle.marked_index.specs.declared.index.Stepped.{Stepped}
use Rattle.marked_index.specs.declared.index.Stepped.TheVariants.{Added, Found}

put_live : (o : Option Mark) → after_action TxnPut o ≡ Some Live
put_live None = refl
put_live (Some Live) = refl
put_live (Some Marked) = refl

mark_marked : (o : Option Mark) → after_action TxnMark o ≡ Some Marked
mark_marked None = refl
mark_marked (Some Live) = refl
mark_marked (Some Marked) = refl

-- the index after the entry of this pair got this mark, in a pledged place where there was none
abbrev pub marked : IndexValue → Pair → Mark → IndexValue
marked i p mark = record i { entries = set_at i.entries p (Some mark); pledged = i.pledged - pledges_used (get i.entries p) }

as_marked : (i : IndexValue) (p : Pair) (o : Option Mark) (mark : Mark) → o ≡ Some mark
    → record i { entries = set_at i.entries p o; pledged = i.pledged - pledges_used (get i.entries p) } ≡ marked i p mark
as_marked i p o mark is =
    ap (λ (m : Option Mark). record i { entries = set_at i.entries p m; pledged = i.pledged - pledges_used (get i.entries p) }) is

by_put : (i new : IndexValue) (p : Pair) → new ≡ after_txn_action i TxnPut p → new ≡ marked i p Live
by_put i new p is = is ∙ as_marked i p _ Live (put_live (get i.entries p))

pub by_mark : (i new : IndexValue) (p : Pair) → new ≡ after_txn_action i TxnMark p → new ≡ marked i p Marked
by_mark i new p is = is ∙ as_marked i p _ Marked (mark_marked (get i.entries p))

-- what either of the two calls answers
pub record HasMarked (i new : IndexValue) (p : Pair) (mark : Mark) (r : Result Stepped Error) : Type 0 where
  pub ok : OnOk r (new ≡ marked i p mark)
  pub added : IfOk r (λ s. (s ≡ Added) ↔ IsAbsent i.entries p)
  pub no_memory : IfErr r (λ e. e ≡ NoMemory)
  pub unchanged : OnErr r (new ≡ i)

module _ (i new : IndexValue) (p : Pair) (r : Result Stepped Error) (added : IfOk r (λ s. (s ≡ Added) ↔ IsAbsent i.entries p))
    (lack : IfErr r (λ e. (e ≡ NoMemory) × IsAbsent i.entries p)) (unchanged : OnErr r (new ≡ i)) where
  pub has_put : OnOk r (new ≡ after_txn_action i TxnPut p) → HasMarked i new p Live r
  has_put ok = record {
    ok = on_ok_weaker r (by_put i new p) ok;
    added = added;
    no_memory = IfErr-weaker r (λ (e : Error). (e ≡ NoMemory) × IsAbsent i.entries p) (λ (e : Error). e ≡ NoMemory) (λ e why. why.0) lack;
    unchanged = unchanged;
  }

  pub has_marked : OnOk r (new ≡ after_txn_action i TxnMark p) → HasMarked i new p Marked r
  has_marked ok = record {
    ok = on_ok_weaker r (by_mark i new p) ok;
    added = added;
    no_memory = IfErr-weaker r (λ (e : Error). (e ≡ NoMemory) × IsAbsent i.entries p) (λ (e : Error). e ≡ NoMemory) (λ e why. why.0) lack;
    unchanged = unchanged;
  }

-- a place was used where there was no entry
pub uses_one : (o : Option Mark) → o ≡ None → 1 ≡ pledges_used o
uses_one o none = sym (ap pledges_used none)

pub uses_none : (o : Option Mark) → (o ≡ None → Found ≡ Added) → 0 ≡ pledges_used o
uses_none None other = let found : Found ≡ Added = other refl in absurd cc
uses_none (Some mark) other = refl

-- ---- places pledged first
module _ (i now : IndexValue) (pledged : now ≡ record i { pledged = i.pledged + 4 }) where
  pub new_marked : (new : IndexValue) (p : Pair) → pledges_used (get i.entries p) ≤ 1 → new ≡ marked now p Marked
      → new ≡ record i { entries = set_at i.entries p (Some Marked); pledged = i.pledged + (4 - pledges_used (get i.entries p)) }
  new_marked new p few is = is ∙ ap (λ (w : IndexValue). marked w p Marked) pledged
      ∙ (λ j. record i { entries = set_at i.entries p (Some Marked); pledged = left i.pledged (pledges_used (get i.entries p)) few j })
    where
      left : (n u : ℕ) → u ≤ 1 → n + 4 - u ≡ n + (4 - u)
      left n u le = omega (arith, le)

  pub released : (same back : IndexValue) → same ≡ now → back ≡ record same { pledged = same.pledged - 4 } → back ≡ i
  released same back kept is = is ∙ ap (λ (w : IndexValue). record w { pledged = w.pledged - 4 }) (kept ∙ pledged)
      ∙ (λ j. record i { pledged = none i.pledged j })
    where
      none : (n : ℕ) → n + 4 - 4 ≡ n
      none n = omega arith

pub few_used : (o : Option Mark) → pledges_used o ≤ 1
few_used None = omega arith
few_used (Some mark) = omega arith

-- ---- the newest record leaves the outbox again
pub popped : (before now after : List RecordValue) (made : RecordValue) (len : ℕ) → len ≡ length now → now ≡ before ++ made ∷ [] → after ≡ take (len - 1) now
    → after ≡ before
popped before now after made len counted pushed rest =
    rest ∙ ap (take (len - 1)) pushed ∙ take_at before (made ∷ []) (len - 1) (one_less _ len counted pushed)
  where
    one_less : (l : List RecordValue) (n : ℕ) → n ≡ length l → l ≡ before ++ made ∷ [] → length before ≡ n - 1
    one_less l n e f = omega (arith, e, ap length f, length-append before (made ∷ []))
