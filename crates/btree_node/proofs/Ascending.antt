-- Changes that keep entries ascending.
use Rattle.std.proofs.Common.{◌≡◌, ◌+◌, Bool, true, false, cond, List, [], ◌∷◌, length, Option, Some, None, refl, ap, ◌∙◌, arith, suc}
use Rattle.std.specs.Ordering.{is_lt, is_eq, ordering_reverse}
use Rattle.std.specs.declared.cmp.Ordering.{Ordering}
use Rattle.std.specs.declared.cmp.Ordering.TheVariants.{Less, Equal, Greater}
use Rattle.record_values.specs.declared.pair.Pair.{Pair}
use Rattle.record_values.specs.declared.pair.Mark.{Mark}
use Rattle.node_parts.specs.declared.Entry.{Entry}
use Rattle.node_parts.specs.Order.{order, is_below, mark_in, with_mark, insert_entry, AllAbove, IsAscending}
use Rattle.node_parts.proofs.Order.{pairs_total, AllAbove-from}

not_less : (o : Ordering) → is_lt o ≡ false → is_eq o ≡ false → is_lt (ordering_reverse o) ≡ true
not_less Less h k = cc
not_less Equal h k = cc
not_less Greater h k = refl

-- of two different pairs one comes first
pub other_below : (a b : Pair) → is_below a b ≡ false → is_eq (order a b) ≡ false → is_below b a ≡ true
other_below a b h k = ap is_lt (pairs_total.antisymm b a) ∙ not_less (order a b) h k

absent_head : (b : Bool) (m : Mark) (r : Option Mark) → cond b (Some m) r ≡ None → b ≡ false
absent_head true m r h = cc
absent_head false m r h = refl

absent_tail : (b : Bool) (m : Mark) (r : Option Mark) → cond b (Some m) r ≡ None → r ≡ None
absent_tail true m r h = cc
absent_tail false m r h = h

above_insert : (p : Pair) (xs : List Entry) (e : Entry) → AllAbove p xs → is_below p e.pair ≡ true → AllAbove p (insert_entry xs e)
above_insert p [] e h b = (b, tt)
above_insert p (x ∷ xs) e h b = pick (above_insert p xs e h.1 b) (is_below x.pair e.pair)
  where
    pick : AllAbove p (insert_entry xs e) → (v : Bool) → AllAbove p (cond v (x ∷ insert_entry xs e) (e ∷ x ∷ xs))
    pick r true = (h.0, r)
    pick r false = (b, h)

pub ascending_insert : (xs : List Entry) (e : Entry) → IsAscending xs → mark_in xs e.pair ≡ None → IsAscending (insert_entry xs e)
ascending_insert [] e h a = (tt, tt)
ascending_insert (x ∷ xs) e h a = pick (ascending_insert xs e h.1 (absent_tail (is_eq (order x.pair e.pair)) x.mark (mark_in xs e.pair) a))
    (is_below x.pair e.pair) refl
  where
    pick : IsAscending (insert_entry xs e) → (v : Bool) → is_below x.pair e.pair ≡ v → IsAscending (cond v (x ∷ insert_entry xs e) (e ∷ x ∷ xs))
    pick r true b = (above_insert x.pair xs e h.0 b, r)
    pick r false b =
        let after : is_below e.pair x.pair ≡ true = other_below x.pair e.pair b (absent_head (is_eq (order x.pair e.pair)) x.mark (mark_in xs e.pair) a) in
        ((after, AllAbove-from e.pair x.pair xs after h.0), h)

pub length_insert : (xs : List Entry) (e : Entry) → length (insert_entry xs e) ≡ length xs + 1
length_insert [] e = refl
length_insert (x ∷ xs) e = pick (length_insert xs e) (is_below x.pair e.pair)
  where
    pick : length (insert_entry xs e) ≡ length xs + 1 → (v : Bool) → length (cond v (x ∷ insert_entry xs e) (e ∷ x ∷ xs)) ≡ length (x ∷ xs) + 1
    pick r true = omega (arith, r)
    pick r false = omega arith

same_pair : (v : Bool) (e : Entry) (m : Mark) → (cond v (record { pair = e.pair; mark = m }) e).pair ≡ e.pair
same_pair true e m = refl
same_pair false e m = refl

above_mark : (q : Pair) (xs : List Entry) (p : Pair) (m : Mark) → AllAbove q xs → AllAbove q (with_mark xs p m)
above_mark q [] p m h = tt
above_mark q (x ∷ xs) p m h = (rw (same_pair (is_eq (order x.pair p)) x m) h.0, above_mark q xs p m h.1)

pub ascending_mark : (xs : List Entry) (p : Pair) (m : Mark) → IsAscending xs → IsAscending (with_mark xs p m)
ascending_mark [] p m h = tt
ascending_mark (x ∷ xs) p m h = (rw (same_pair (is_eq (order x.pair p)) x m) (above_mark x.pair xs p m h.0), ascending_mark xs p m h.1)

pub length_mark : (xs : List Entry) (p : Pair) (m : Mark) → length (with_mark xs p m) ≡ length xs
length_mark [] p m = refl
length_mark (x ∷ xs) p m = ap suc (length_mark xs p m)
