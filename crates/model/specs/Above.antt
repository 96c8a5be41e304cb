-- What comes next in a map.
use Rattle.std.specs.Prelude.{List, Option, Some, None}
use Rattle.std.specs.declared.cmp.Ordering.{Ordering}
use Rattle.std.specs.Ordering.{is_lt}
use Rattle.std.specs.List.{filter}
use Rattle.std.specs.FinMap.{FinMap, entries}

-- the entries of a map whose keys are above this one, in their order, or all of them where no key is given
abbrev pub entries_above : {K X : Type 0} {R : K → K → Ordering} → FinMap R X → Option K → List (K × X)
entries_above m None = entries m
entries_above {R = R} m (Some key) = filter (λ e. is_lt (R key e.0)) (entries m)
