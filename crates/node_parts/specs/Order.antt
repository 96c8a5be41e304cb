-- The order of pairs, and what ascending entries hold.
use Rattle.std.specs.Prelude.{◌≡◌, Bool, true, cond, List, [], ◌∷◌, Option, Some, None}
use Rattle.std.specs.Ordering.{is_lt, is_eq}
use Rattle.std.specs.declared.cmp.Ordering.{Ordering}
use Rattle.record_values.specs.Orders.{pair_cmp}
use Rattle.record_values.specs.declared.pair.Pair.{Pair}
use Rattle.record_values.specs.declared.pair.Mark.{Mark}
use Rattle.node_parts.specs.declared.Entry.{Entry}

-- the order of pairs, by key and then by place. It is closed here, so that no proof looks into keys
unfoldable pub order : Pair → Pair → Ordering
order = pair_cmp

-- a comes before b
abbrev pub is_below : Pair → Pair → Bool
is_below a b = is_lt (order a b)

-- the mark of a pair
abbrev pub mark_in : List Entry → Pair → Option Mark
mark_in [] p = None
mark_in (e ∷ es) p = cond (is_eq (order e.pair p)) (Some e.mark) (mark_in es p)

-- the same entries, with another mark at a pair
abbrev pub with_mark : List Entry → Pair → Mark → List Entry
with_mark [] p m = []
with_mark (e ∷ es) p m = cond (is_eq (order e.pair p)) (record { pair = e.pair; mark = m }) e ∷ with_mark es p m

-- each entry comes after p
abbrev pub AllAbove : Pair → List Entry → Type 0
AllAbove p [] = Unit {0}
AllAbove p (e ∷ es) = (is_below p e.pair ≡ true) × AllAbove p es

-- each entry comes after those before it
abbrev pub IsAscending : List Entry → Type 0
IsAscending [] = Unit {0}
IsAscending (e ∷ es) = AllAbove e.pair es × IsAscending es

-- the entries with another one at its place
abbrev pub insert_entry : List Entry → Entry → List Entry
insert_entry [] e = e ∷ []
insert_entry (x ∷ xs) e = cond (is_below x.pair e.pair) (x ∷ insert_entry xs e) (e ∷ x ∷ xs)
