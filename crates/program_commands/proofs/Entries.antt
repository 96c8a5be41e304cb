-- The entries of an index that come after a pair.
use Rattle.std.proofs.Common.{◌≡◌, ℕ, Bool, true, false, cond, ◌&&◌, List, [], ◌∷◌, Option, Some, None, refl, sym, ap, subst, ◌∙◌}
use Rattle.std.specs.FinMap as map
use Rattle.std.specs.FinMap.Entries.{below_all, is_sorted}
use Rattle.std.specs.List.{filter}
use Rattle.std.specs.Ordering.{eq_by_cmp, is_eq, is_lt, ordering_reverse}
use Rattle.std.specs.Prelude.{T}
use Rattle.std.specs.declared.cmp.Ordering.{Ordering}
use Rattle.std.specs.declared.cmp.Ordering.TheVariants.{Less, Equal, Greater}
use Rattle.record_values.specs.Maps.{key_is, pair_exact, same_key}
use Rattle.record_values.specs.Orders.{pair_cmp, pair_cmp_total}
use Rattle.record_values.specs.declared.pair.Mark.{Mark}
use Rattle.record_values.specs.declared.pair.Pair.{Pair}
use Rattle.record_values.specs.Entries.{Index}
use Rattle.btree_node.specs.Above.{IsAfter, IsLeastAbove}
use Rattle.program_values.specs.Texts.{line_of}
use Rattle.program_values.specs.declared.answer.Answer.TheVariants as answer

abbrev pub Entry : Type 0
Entry = Pair × Mark

-- the line of an entry in a dump
abbrev pub line_of_entry : Entry → List ℕ
line_of_entry entry = line_of (answer.Entry entry.0 entry.1)

abbrev is_after : Option Pair → Pair → Bool
is_after None q = true
is_after (Some start) q = is_lt (pair_cmp start q)

-- those of the entries whose pairs come after the start
abbrev pub later : Option Pair → List Entry → List Entry
later start es = filter (λ e. is_after start e.0) es

first : (a b : Bool) → T (a && b) → T a
first true b h = tt
first false b h = absurd h

second : (a b : Bool) → T (a && b) → T b
second true b h = h
second false b h = absurd h

less_is : (o : Ordering) → T (is_lt o) → o ≡ Less
less_is Less h = refl
less_is Equal h = absurd h
less_is Greater h = absurd h

lower : (p q : Pair) → pair_cmp p q ≡ Greater → pair_cmp q p ≡ Less
lower p q e = pair_cmp_total.antisymm q p ∙ ap ordering_reverse e

comes_after : (start : Option Pair) (q : Pair) → IsAfter start q → is_after start q ≡ true
comes_after None q h = refl
comes_after (Some p) q h = ap is_lt h

is_later : (start : Option Pair) (q : Pair) → is_after start q ≡ true → IsAfter start q
is_later None q h = tt
is_later (Some p) q h = less_is (pair_cmp p q) (subst T (sym h) tt)

even_later : (start : Option Pair) (p q : Pair) → IsAfter start p → pair_cmp p q ≡ Less → IsAfter start q
even_later None p q h l = tt
even_later (Some s) p q h l = pair_cmp_total.trans s p q h l

-- ---- all of them

pub later_all : (es : List Entry) → later None es ≡ es
later_all [] = refl
later_all (e ∷ es) = ap (λ (l : List Entry). e ∷ l) (later_all es)

-- where a pair after the start comes before all of the entries, all come after the start
later_whole : (start : Option Pair) (p : Pair) (es : List Entry) → IsAfter start p → T (below_all pair_cmp p es) → later start es ≡ es
later_whole start p [] h b = refl
later_whole start p (e ∷ es) h b =
    let is : is_after start e.0 ≡ true = comes_after start e.0 (even_later start p e.0 h (less_is (pair_cmp p e.0) (first _ _ b))) in
    ap (λ (c : Bool). cond c (e ∷ later start es) (later start es)) is ∙ ap (λ (l : List Entry). e ∷ l) (later_whole start p es h (second _ _ b))

behind_all : (p : Pair) (es : List Entry) → T (below_all pair_cmp p es) → later (Some p) es ≡ es
behind_all p [] b = refl
behind_all p (e ∷ es) b =
    ap (λ (o : Ordering). cond (is_lt o) (e ∷ later (Some p) es) (later (Some p) es)) (less_is (pair_cmp p e.0) (first _ _ b))
    ∙ ap (λ (l : List Entry). e ∷ l) (behind_all p es (second _ _ b))

none_below : (p q : Pair) (es : List Entry) → pair_cmp p q ≡ Less → T (below_all pair_cmp q es) → map.find pair_cmp p es ≡ None
none_below p q [] l b = refl
none_below p q (e ∷ es) l b =
    ap (λ (o : Ordering). cond (is_eq o) (Some e.1) (map.find pair_cmp p es)) (pair_cmp_total.trans p q e.0 l (less_is (pair_cmp q e.0) (first _ _ b)))
    ∙ none_below p q es l (second _ _ b)

-- ---- what is found

found_first : (e : Entry) (es : List Entry) → map.find pair_cmp e.0 (e ∷ es) ≡ Some e.1
found_first e es = ap (λ (b : Bool). cond b (Some e.1) (map.find pair_cmp e.0 es)) (same_key pair_exact e.0)

none_behind : (b : Bool) (m : Mark) (o : Option Mark) → cond b (Some m) o ≡ None → o ≡ None
none_behind true m o e = absurd (cc (e))
none_behind false m o e = e

some_is : (x y : Mark) → Some x ≡ Some y → x ≡ y
some_is x y e = cc

-- no entry comes after the start
pub none_later : (start : Option Pair) (es : List Entry) → ((q : Pair) → IsAfter start q → map.find pair_cmp q es ≡ None) → later start es ≡ []
none_later start [] h = refl
none_later start (e ∷ es) h = by_test (is_after start e.0) refl
    (none_later start es (λ q after. none_behind (eq_by_cmp pair_cmp q e.0) e.1 (map.find pair_cmp q es) (h q after)))
  where
    by_test : (b : Bool) → is_after start e.0 ≡ b → later start es ≡ [] → cond b (e ∷ later start es) (later start es) ≡ []
    by_test true is rest = let none = sym (found_first e es) ∙ h e.0 (is_later start e.0 is) in absurd (cc (none))
    by_test false is rest = rest

-- the least entry after the start, and those after it
pub least_later : (start : Option Pair) (p : Pair) (m : Mark) (es : List Entry) → T (is_sorted pair_cmp es) → IsAfter start p → map.find pair_cmp p es ≡ Some m
    → ((q : Pair) → IsAfter start q → pair_cmp q p ≡ Less → map.find pair_cmp q es ≡ None) → later start es ≡ (p, m) ∷ later (Some p) es
least_later start p m [] sorted after found least = absurd (cc (found))
least_later start p m (e ∷ es) sorted after found least =
    by_order (pair_cmp p e.0) refl found (λ there. least_later start p m es (second _ _ sorted) after there (λ q a l.
    none_behind (eq_by_cmp pair_cmp q e.0) e.1 (map.find pair_cmp q es) (least q a l)))
  where
    -- an entry before the pair isn't after the start
    passed : (b : Bool) → pair_cmp e.0 p ≡ Less → is_after start e.0 ≡ b → cond b (e ∷ later start es) (later start es) ≡ later start es
    passed true l is = let none = sym (found_first e es) ∙ least e.0 (is_later start e.0 is) l in absurd (cc (none))
    passed false l is = refl

    by_order : (o : Ordering) → pair_cmp p e.0 ≡ o → cond (is_eq o) (Some e.1) (map.find pair_cmp p es) ≡ Some m
        → (map.find pair_cmp p es ≡ Some m → later start es ≡ (p, m) ∷ later (Some p) es)
        → cond (is_after start e.0) (e ∷ later start es) (later start es) ≡ (p, m) ∷ cond (is_lt o) (e ∷ later (Some p) es) (later (Some p) es)
    by_order Less is there rest = let none = sym there ∙ none_below p e.0 es is (first _ _ sorted) in absurd (cc (none))
    by_order Greater is there rest = passed (is_after start e.0) (lower p e.0 is) refl ∙ rest there
    by_order Equal is there rest =
        let one : p ≡ e.0 = key_is pair_exact p e.0 (ap is_eq is) in
        let here : is_after start e.0 ≡ true = comes_after start e.0 (subst (λ (q : Pair). IsAfter start q) one after) in
        let whole : later start es ≡ es = later_whole start e.0 es (subst (λ (q : Pair). IsAfter start q) one after) (first _ _ sorted) in
        let behind : later (Some p) es ≡ es = ap (λ (q : Pair). later (Some q) es) one ∙ behind_all e.0 es (first _ _ sorted) in
        ap (λ (b : Bool). cond b (e ∷ later start es) (later start es)) here
        ∙ ap (λ (l : List Entry). e ∷ l) (whole ∙ sym behind)
        ∙ ap (λ (q : Pair). (q, e.1) ∷ later (Some p) es) (sym one)
        ∙ ap (λ (x : Mark). (p, x) ∷ later (Some p) es) (some_is e.1 m there)

-- ---- of a map

pub none_left : (index : Index) (start : Option Pair) → IsLeastAbove index start None → later start (map.entries index) ≡ []
none_left index start h = none_later start (map.entries index) (λ q after. sym (map.get-entries index q) ∙ h q after)

pub one_left : (index : Index) (start : Option Pair) (p : Pair) (m : Mark) → IsLeastAbove index start (Some (p, m))
    → later start (map.entries index) ≡ (p, m) ∷ later (Some p) (map.entries index)
one_left index start p m h =
    least_later start p m (map.entries index) (map.entries_sorted index) h.0 (sym (map.get-entries index p) ∙ h.1) (λ q after low. sym (map.get-entries index q)
    ∙ h.2 q after low)
