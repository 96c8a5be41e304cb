-- The page that is to be taken next.
use Rattle.std.proofs.Common.{◌≡◌, ◌<◌, ◌≤◌, ℕ, Bool, true, false, Some, None, nat_lt, if◌then◌else◌, refl, ap, arith, ltb-true, ltb-false, le-ltb}
use Rattle.std.specs.Option.{IfSome}
use Rattle.sorted_scan.specs.Scans.{page_from, IsBefore}

module _ (pages n : ℕ) where
  some_by : (b : Bool) → nat_lt n pages ≡ b → IfSome (if b then Some n else None) (λ m. (m ≡ n) × (m < pages))
  some_by true e = (refl, ltb-true n pages e)
  some_by false e = tt

  -- a page that is wanted is one of the table's
  pub page_is : IfSome (page_from pages n) (λ m. (m ≡ n) × (m < pages))
  page_is = some_by (nat_lt n pages) refl

  before_by : (m : ℕ) (b : Bool) → nat_lt n pages ≡ b → m < pages → IsBefore m (if b then Some n else None) → m < n
  before_by m true e inside h = h
  before_by m false e inside h = let past : pages ≤ n = ltb-false n pages e in omega arith

  -- pages before the wanted one, or all where none is
  pub page_before : (m : ℕ) → m < pages → IsBefore m (page_from pages n) → m < n
  page_before m inside h = before_by m (nat_lt n pages) refl inside h

  wanted_by : (m : ℕ) (b : Bool) → nat_lt n pages ≡ b → (if b then Some n else None) ≡ Some m → (n ≡ m) × (n < pages)
  wanted_by m true e is = (cc, ltb-true n pages e)
  wanted_by m false e is = cc

  pub wanted_is : (m : ℕ) → page_from pages n ≡ Some m → (n ≡ m) × (n < pages)
  wanted_is m is = wanted_by m (nat_lt n pages) refl is

  pub page_none : pages ≤ n → page_from pages n ≡ None
  page_none h = ap (λ b. if b then Some n else None) (le-ltb n pages h)
