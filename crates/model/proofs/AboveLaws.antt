-- The part of a map above a key, as its ranges give it.
use Rattle.std.proofs.Common.{◌≡◌, Bool, true, false, cond, ◌&&◌, List, [], ◌∷◌, Option, Some, None, refl, ap, sym, ◌∙◌}
use Rattle.std.specs.Prelude.{ℕ}
use Rattle.std.specs.declared.cmp.Ordering.{Ordering}
use Rattle.std.specs.Ordering.{nat_cmp, is_lt}
use Rattle.std.specs.List.{filter}
use Rattle.std.specs.List.Sorted.{IsStrictlySortedBy}
use Rattle.std.specs.Map.{keys_of}
use Rattle.std.specs.FinMap.{FinMap, from_entries}
use Rattle.std.specs.declared.ops.Bound.TheVariants.{Excluded, Unbounded}
use Rattle.std.specs.declared.vec.Vec.{Vec}
use Rattle.std.specs.BTreeMap.Range.{entries_between}
use Rattle.records.specs.ChangeValue.{ChangeValue}
use Rattle.record_values.specs.Maps.{IsExact}
use Rattle.model.specs.Above.{entries_above}
use Rattle.model.specs.Cells.{Pending}
use Rattle.model.specs.Lists.{listed}
use Rattle.model.proofs.MapLaws.{ordered_entries, entries-listed}

and_true : (b : Bool) → (b && true) ≡ b
and_true true = refl
and_true false = refl

-- what lies between a key and no end is what is above the key
between_above : {K X : Type 0} (R : K → K → Ordering) (key : K) (es : List (K × X))
    → entries_between R (Excluded key) Unbounded es ≡ filter (λ e. is_lt (R key e.0)) es
between_above R key es = ap (λ test. filter test es) (λ i e. and_true (is_lt (R key e.0)) i)

filter-listed : {A : Type 0} (test : ℕ → Bool) (es : List (ℕ × Vec ChangeValue A)) → filter (λ e. test e.0) (listed es) ≡ listed (filter (λ e. test e.0) es)
filter-listed test [] = refl
filter-listed test (e ∷ es) =
    elim (test e.0) as (λ b. cond b ((e.0, e.1.items) ∷ filter (λ f. test f.0) (listed es)) (filter (λ f. test f.0) (listed es))
    ≡ listed (cond b (e ∷ filter (λ f. test f.0) es) (filter (λ f. test f.0) es))) [
      | true ↦ ap (λ (rest : List (ℕ × List ChangeValue)). (e.0, e.1.items) ∷ rest) (filter-listed test es)
      | false ↦ filter-listed test es
    ]

-- the entries above a key are the map's range behind it
pub ranged_above : {K X : Type 0} {R : K → K → Ordering} (o : IsExact R) (es : List (K × X)) (m : FinMap R X) (key : Option K) (start : K)
    → IsStrictlySortedBy R (keys_of es) → from_entries es ≡ m → key ≡ Some start
    → entries_above m key ≡ entries_between R (Excluded start) Unbounded es
ranged_above {R = R} o es m key start h is some =
    ap (entries_above m) some ∙ ap (filter (λ e. is_lt (R start e.0))) (ordered_entries o es m h is) ∙ sym (between_above R start es)

pub listed_above : {A : Type 0} (es : List (ℕ × Vec ChangeValue A)) (pending : Pending) (key : Option ℕ) (start : ℕ) → IsStrictlySortedBy nat_cmp (keys_of es)
    → from_entries {R = nat_cmp} (listed es) ≡ pending → key ≡ Some start
    → entries_above pending key ≡ listed (entries_between nat_cmp (Excluded start) Unbounded es)
listed_above es pending key start h is some =
    ap (entries_above pending) some ∙ ap (filter (λ e. is_lt (nat_cmp start e.0))) (entries-listed es pending h is)
    ∙ filter-listed (λ q. is_lt (nat_cmp start q)) es ∙ ap listed (sym (between_above nat_cmp start es))

filter_all : {A : Type 0} (es : List A) → filter (λ _. true) es ≡ es
filter_all [] = refl
filter_all (e ∷ es) = ap (λ (rest : List _). e ∷ rest) (filter_all es)

-- and all of them are the map's whole range
pub ranged_all : {K X : Type 0} {R : K → K → Ordering} (o : IsExact R) (es : List (K × X)) (m : FinMap R X) (key : Option K) → IsStrictlySortedBy R (keys_of es)
    → from_entries es ≡ m → key ≡ None
    → entries_above m key ≡ entries_between R Unbounded Unbounded es
ranged_all {R = R} o es m key h is none = ap (entries_above m) none ∙ ordered_entries o es m h is ∙ sym (filter_all es)
