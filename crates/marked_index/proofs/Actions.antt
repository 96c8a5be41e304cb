-- What the actions leave as it was, and how many entries there are after one.
use Rattle.std.proofs.Common.{Result, Ok, Err, OnOk, OnErr, ◌<◌, ◌≡◌, ℕ, zero, suc, ◌+◌, ◌-◌, ◌≤◌, Bool, true, false, cond}
use Rattle.std.proofs.Common.{Option, Some, None, is_some, refl, sym, ap}
use Rattle.std.proofs.Common.{subst, ◌∙◌, arith}
use Rattle.std.specs.FinMap as map
use Rattle.std.specs.Prelude.{IsTrue, ◌↔◌}
use Rattle.record_values.specs.Maps.{set_at, set_at-get, pair_exact}
use Rattle.record_values.specs.Orders.{pair_cmp_total}
use Rattle.record_values.specs.declared.pair.Pair.{Pair}
use Rattle.record_values.specs.declared.pair.Mark.{Mark}
use Rattle.record_values.specs.declared.pair.Mark.TheVariants.{Live, Marked}
use Rattle.record_values.specs.declared.key_action.KeyAction.TheVariants.{BuildPut, Clean}
use Rattle.record_values.specs.KeyActions.{after_action}
use Rattle.record_values.specs.Entries.{Index}
use Rattle.btree_node.specs.Placed.{outcome}
use Rattle.btree_node.specs.declared.placing.InLeaf.TheVariants.{Added, Found, NoRoom}
use Rattle.btree_node.specs.declared.limits.TheConstants.{ENTRIES_MAX}
use Rattle.record_values.specs.declared.error.Error.{Error}
use Rattle.marked_index.specs.Index.{IndexValue, IsFull, IsWithinCapacity, entries_after}

-- to set what is there changes nothing
as_it_was : (m : Index) (p : Pair) (o : Option Mark) → map.get m p ≡ o → set_at m p o ≡ m
as_it_was m p o e = ap (set_at m p) (sym e) ∙ set_at-get pair_exact m p

same_value : (v : IndexValue) (m : Index) → m ≡ v.entries → v ≡ record v { entries = m }
same_value v m e = λ i. record { entries = sym e i; pledged = v.pledged; capacity = v.capacity }

pub none_of : (o : Option Mark) → is_some o ≡ false → o ≡ None
none_of None e = refl
none_of (Some x) e = cc

build_leaves_there : (o : Option Mark) → is_some o ≡ true → after_action BuildPut o ≡ o
build_leaves_there None e = cc
build_leaves_there (Some Live) e = refl
build_leaves_there (Some Marked) e = refl

stays : (o : Option Mark) (allowed : Bool) → (allowed ≡ true → o ≡ Some Marked → ⊥) → after_action (Clean allowed) o ≡ o
stays None allowed h = refl
stays (Some Live) allowed h = refl
stays (Some Marked) true h = absurd (h refl refl)
stays (Some Marked) false h = refl

pub after_no_clean : (v : IndexValue) (p : Pair) (allowed : Bool) → (allowed ≡ true → map.get v.entries p ≡ Some Marked → ⊥)
    → v ≡ record v { entries = entries_after v.entries (Clean allowed) p }
after_no_clean v p allowed h = same_value v _ (as_it_was v.entries p _ (sym (stays (map.get v.entries p) allowed h)))

-- ---- how many entries there are after a change of one

pub len_added : (m : Index) (p : Pair) (x : Mark) → map.get m p ≡ None → map.len (map.insert m p x) ≡ map.len m + 1
len_added m p x e = map.len-insert pair_cmp_total m p x ∙ ap (λ o. cond (is_some o) (map.len m) (map.len m + 1)) e

pub len_changed : (m : Index) (p : Pair) (x : Mark) → is_some (map.get m p) ≡ true → map.len (map.insert m p x) ≡ map.len m
len_changed m p x e = map.len-insert pair_cmp_total m p x ∙ ap (λ b. cond b (map.len m) (map.len m + 1)) e

at_most : (b : Bool) (n : ℕ) → cond b (n - 1) n ≤ n
at_most true n = omega arith
at_most false n = omega arith

pub len_removed : (m : Index) (p : Pair) → map.len (map.remove m p) ≤ map.len m
len_removed m p = subst (λ n. n ≤ map.len m) (sym (map.len-remove pair_cmp_total m p)) (at_most (is_some (map.get m p)) (map.len m))

-- ---- room for what a change leaves

pub room_removed : (m n : Index) (p : Pair) (k c : ℕ) → IsWithinCapacity (record { entries = m; pledged = k; capacity = c }) → n ≡ map.remove m p
    → IsWithinCapacity (record { entries = n; pledged = k; capacity = c })
room_removed m n p k c room e = record { within = omega (arith, len_removed m p, ap map.len e, room.within); most = room.most }

pub room_changed : (m n : Index) (p : Pair) (x : Mark) (k c : ℕ) → IsWithinCapacity (record { entries = m; pledged = k; capacity = c })
    → is_some (map.get m p) ≡ true → n ≡ map.insert m p x → IsWithinCapacity (record { entries = n; pledged = k; capacity = c })
room_changed m n p x k c room there e = record { within = omega (arith, len_changed m p x there, ap map.len e, room.within); most = room.most }

-- one more entry, and j places pledged
pub room_added : (m n : Index) (p : Pair) (x : Mark) (j c : ℕ) → map.len m + 1 + j ≤ c → c ≤ ENTRIES_MAX → map.get m p ≡ None → n ≡ map.insert m p x
    → IsWithinCapacity (record { entries = n; pledged = j; capacity = c })
room_added m n p x j c fits most absent e = record { within = omega (arith, len_added m p x absent, ap map.len e, fits); most = most }

-- ---- trees that a pair is put into
pub build_there : (m : Index) (p : Pair) → is_some (map.get m p) ≡ true → m ≡ entries_after m BuildPut p
build_there m p e = sym (as_it_was m p _ (sym (build_leaves_there (map.get m p) e)))

pub by_mark : (P : Type 0) (o : Option Mark) → (o ≡ None → P) → (is_some o ≡ true → P) → P
by_mark P None absent there = absent refl
by_mark P (Some x) absent there = there refl

pub room_set : (m n : Index) (p : Pair) (x : Mark) (k c : ℕ) (r : Result Bool Error)
    → IsWithinCapacity (record { entries = m; pledged = k; capacity = c }) → (map.get m p ≡ None → map.len m + k < c) → OnOk r (n ≡ map.insert m p x)
    → OnErr r (n ≡ m) → IsWithinCapacity (record { entries = n; pledged = k; capacity = c })
room_set m n p x k c (Ok added) room fits done left =
    by_mark (IsWithinCapacity (record { entries = n; pledged = k; capacity = c })) (map.get m p)
    (λ none. room_added m n p x k c (let free : map.len m + k < c = fits none in omega arith) room.most none done)
    (λ there. room_changed m n p x k c room there done)
room_set m n p x k c (Err e) room fits done left = record { within = omega (arith, ap map.len left, room.within); most = room.most }

pub room_built : (m n : Index) (p : Pair) (k c : ℕ) (r : Result Bool Error) → IsWithinCapacity (record { entries = m; pledged = k; capacity = c })
    → (map.get m p ≡ None → map.len m + k < c) → OnOk r (n ≡ entries_after m BuildPut p) → OnErr r (n ≡ m)
    → IsWithinCapacity (record { entries = n; pledged = k; capacity = c })
room_built m n p k c (Ok added) room fits done left =
    by_mark (IsWithinCapacity (record { entries = n; pledged = k; capacity = c })) (map.get m p)
    (λ none. room_added m n p Live k c (let free : map.len m + k < c = fits none in omega arith) room.most none
    (done ∙ ap (λ o. set_at m p (after_action BuildPut o)) none))
    (λ there. record { within = omega (arith, ap map.len (done ∙ sym (build_there m p there)), room.within); most = room.most })
room_built m n p k c (Err e) room fits done left = record { within = omega (arith, ap map.len left, room.within); most = room.most }

-- a pair that does not lack a place has an entry, or there is room for it
pub place_left : (v : IndexValue) (p : Pair) (lacks : Bool) → (IsTrue lacks ↔ (map.get v.entries p ≡ None) × IsFull v) → lacks ≡ false
    → map.get v.entries p ≡ None → map.len v.entries + v.pledged < v.capacity
place_left v p lacks is free absent = omega (arith, not_full)
  where
    not_full : (v.capacity ≤ map.len v.entries + v.pledged) → ⊥
    not_full h = let yes : lacks ≡ true = is.1 (absent, h) in absurd (cc (yes, free))

-- what is absent can be taken out
pub removed_none : (v : IndexValue) (p : Pair) → is_some (map.get v.entries p) ≡ false → v ≡ record v { entries = map.remove v.entries p }
removed_none v p e = same_value v _ (as_it_was v.entries p None (none_of _ e))

-- what was found is there
pub found_is : (o : Option Mark) (n : ℕ) (m : Mark) → Found m ≡ outcome o n → o ≡ Some m
found_is (Some x) n m e = cc
found_is None zero m e = cc
found_is None (suc n) m e = cc

-- what was added was not there
pub added_is : (o : Option Mark) (n : ℕ) → Added ≡ outcome o n → o ≡ None
added_is (Some x) n e = cc
added_is None zero e = refl
added_is None (suc n) e = cc

pub there_of : (o : Option Mark) (added : Bool) → (IsTrue added ↔ o ≡ None) → added ≡ false → is_some o ≡ true
there_of None added is e = let yes : added ≡ true = is.1 refl in absurd (cc (yes, e))
there_of (Some x) added is e = refl

-- what had no room was not there
pub no_room_is : (o : Option Mark) (n : ℕ) → NoRoom ≡ outcome o n → o ≡ None
no_room_is (Some x) n e = cc
no_room_is None n e = refl

pub no_room_not_added : NoRoom ≡ Added → ⊥
no_room_not_added e = cc

pub found_not_added : (m : Mark) → Found m ≡ Added → ⊥
found_not_added m e = cc

pub none_added : (o : Option Mark) (m : Mark) → o ≡ Some m → IsTrue false ↔ (o ≡ None)
none_added o m there = (λ no. absurd (cc), λ none. absurd (cc))

pub build_new : (m n : Index) (p : Pair) → map.get m p ≡ None → n ≡ map.insert m p Live → n ≡ entries_after m BuildPut p
build_new m n p none put = put ∙ sym (ap (λ o. set_at m p (after_action BuildPut o)) none)
