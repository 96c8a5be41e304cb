-- What a transaction has reserved is pledged.
use Rattle.std.proofs.Common.{None, Option, Some, arith, refl, subst, ℕ, ◌+◌, ◌-◌, ◌≡◌, ◌≤◌}
use Rattle.std.specs.FinMap.{insert}
use Rattle.txn_table.specs.Table.{TxnState}
use Rattle.core_model.proofs.Laws.{reserved_insert}
use Rattle.core_model.specs.States.{Pledges}
use Rattle.core_model.specs.Steps.{all_reserved, reserved}
use Rattle.core_parts.specs.View.{CoreValue, IsSafe, Shows}
use Rattle.core_parts.specs.Moves.{txn_shown}
use Rattle.core_parts.specs.Private.{reserved_of}
use Rattle.core_parts.proofs.Moved.{places_are}

within : (m : Pledges) (t : ℕ) → reserved m t ≤ all_reserved m
within m t =
    let sum : all_reserved (insert m t 0) + reserved m t ≡ all_reserved m + 0 = reserved_insert m t 0 in
    part _ _ _ sum
  where
    part : (n r all : ℕ) → n + r ≡ all + 0 → r ≤ all
    part n r all e = omega (arith, e)

-- what a transaction has reserved is pledged
pub reserved_within : (v : CoreValue) (t : ℕ) (x : TxnState) → txn_shown v t ≡ Some x → IsSafe v → x.reserved ≤ v.index.pledged
reserved_within v t x here safe =
    let h : Shows v safe.state safe.standing = safe.is.shown in
    subst (λ n. n ≤ v.index.pledged) (places_are v safe.state safe.standing h t x here)
    (subst (λ n. reserved safe.state.pledges t ≤ n) h.pledged (within safe.state.pledges t))

few_by : (v : CoreValue) (t : ℕ) (o : Option TxnState) → txn_shown v t ≡ o → IsSafe v → reserved_of o ≤ v.index.pledged
few_by v t None here safe = omega arith
few_by v t (Some x) here safe = reserved_within v t x here safe

pub few_reserved : (v : CoreValue) (t : ℕ) → IsSafe v → reserved_of (txn_shown v t) ≤ v.index.pledged
few_reserved v t safe = few_by v t (txn_shown v t) refl safe

-- each commit made a record
pub few_commits : (v : CoreValue) → IsSafe v → v.commits ≤ v.last
few_commits v safe = subst (λ n. n ≤ v.last) safe.is.shown.commits (subst (λ n. safe.standing.commits ≤ n) safe.is.shown.made safe.is.counted)

pub places_left : (reserved used r u : ℕ) → reserved ≡ r → used ≡ u → reserved - used ≡ r - u
places_left reserved used r u e f = λ i. e i - f i

pub places_and : (reserved more r m : ℕ) → reserved ≡ r → more ≡ m → reserved + more ≡ r + m
places_and reserved more r m e f = λ i. e i + f i
