-- What the test of two keys says.
use Rattle.std.specs.Prelude.{nat_eq, ◌≡◌}
use Rattle.std.specs.Cmp.Lexicographic.{pointwise, texts_ties}
use Rattle.record_values.specs.declared.row.Row.{Row}
use Rattle.model.specs.Pairs.{same_key}

pub key_test : (a b : Row) → pointwise nat_eq a.key b.key ≡ same_key a b
key_test a b = texts_ties a.key b.key
