-- The committed row of a place, one active transaction after the other.
use Rattle.std.proofs.Common.{List, None, Option, Some, [], add-one, ap, arith, cond, drop, false, length, nat_eq, refl, slice_get, suc, sym, take, true}
use Rattle.std.proofs.Common.{unwrap_or, zero, ℕ, ◌+◌, ◌<◌, ◌∙◌, ◌∷◌, ◌≡◌, ◌≢◌, ◌≤◌, ◌==◌, ◌&&◌, Bool, eq-eqb}
use Rattle.std.proofs.lemmas.Bool.{and_parts, eqb-true, lt-ltb, ne_eqb, true≢false}
use Rattle.std.specs.FinMap.{entries, from_entries, get, insert}
use Rattle.std.specs.List.{AllByRecursion}
use Rattle.std.specs.List.Sorted.{IsStrictlySortedBy}
use Rattle.std.specs.Map.{keys_of}
use Rattle.std.specs.Option.{option_map}
use Rattle.std.specs.Ordering.{eq_by_cmp, nat_cmp}
use Rattle.std.specs.declared.cmp.Ordering.TheVariants.{Equal, Greater, Less}
use Rattle.records.specs.ChangeValue.{ChangeValue}
use Rattle.records.specs.Spelling.{old_row}
use Rattle.record_values.specs.Maps.{get-set_at, nat_exact, other_key, rid_exact, same_key}
use Rattle.record_values.specs.Orders.{rid_cmp}
use Rattle.record_values.specs.Values.{Place}
use Rattle.record_values.specs.declared.row.Row.{Row}
use Rattle.model.proofs.MapLaws.{ordered_entries}
use Rattle.model.specs.Cells.{reverted}
use Rattle.model.specs.Recovery.{all_reverted}
use Rattle.model.specs.Table.{Table}
use Rattle.txn_table.specs.Sound.{Rises}
use Rattle.txn_table.specs.Table.{TxnState, state_of}
use Rattle.core_parts.specs.View.{CoreValue}
use Rattle.core_laws.specs.Holds.{committed_rows, lists_of}

-- ---- changes of one transaction

-- the oldest change of a place tells its row
pub first_back : (rows : Table) (c : ChangeValue) (cs : List ChangeValue) (r : Place) → c.rid ≡ r → get (reverted rows (c ∷ cs)) r ≡ old_row c.rows
first_back rows c cs r same =
    get-set_at rid_exact (reverted rows cs) c.rid (old_row c.rows) r
    ∙ ap (λ b. cond b (old_row c.rows) (get (reverted rows cs) r)) (ap (eq_by_cmp rid_cmp r) same ∙ same_key rid_exact r)

-- a change of another place doesn't matter to it
pub later_back : (rows : Table) (c : ChangeValue) (cs : List ChangeValue) (r : Place) → c.rid ≢ r → get (reverted rows (c ∷ cs)) r ≡ get (reverted rows cs) r
later_back rows c cs r other =
    get-set_at rid_exact (reverted rows cs) c.rid (old_row c.rows) r
    ∙ ap (λ b. cond b (old_row c.rows) (get (reverted rows cs) r)) (other_key rid_exact r c.rid (λ same. other (sym same)))

-- the change that stands at a place of the list
pub drop_here : (cs : List ChangeValue) (i : ℕ) (c : ChangeValue) → slice_get cs i ≡ Some c → drop i cs ≡ c ∷ drop (suc i) cs
drop_here [] i c is = absurd cc
drop_here (x ∷ cs) zero c is = let same : x ≡ c = cc in ap (λ (y : ChangeValue). y ∷ cs) same
drop_here (x ∷ cs) (suc i) c is = drop_here cs i c is

-- places that are told to be the same, or not
abbrev pub are_same : Place → Place → Bool
are_same a b = (a.page == b.page) && (a.slot == b.slot)

pub place_is : (a b : Place) → are_same a b ≡ true → a ≡ b
place_is a b e =
    let both = and_parts (a.page == b.page) (a.slot == b.slot) e in
    λ i. record { page = eqb-true a.page b.page both.0 i; slot = eqb-true a.slot b.slot both.1 i }

same_itself : (a : Place) → are_same a a ≡ true
same_itself a = ap (λ t. t && (a.slot == a.slot)) (eq-eqb a.page a.page refl) ∙ eq-eqb a.slot a.slot refl

pub place_not : (a b : Place) → are_same a b ≡ false → a ≢ b
place_not a b e same = true≢false (sym (ap (are_same a) (sym same) ∙ same_itself a) ∙ e)

-- ---- the transactions, each with its changes

abbrev pub changes_in : List (ℕ × TxnState) → List (ℕ × List ChangeValue)
changes_in [] = []
changes_in (e ∷ active) = (e.0, e.1.changes) ∷ changes_in active

listed_from : (active : List (ℕ × TxnState)) → from_entries {R = nat_cmp} (changes_in active) ≡ lists_of active
listed_from [] = refl
listed_from (e ∷ active) = ap (λ m. insert m e.0 e.1.changes) (listed_from active)

lesser : (a b : ℕ) → a < b → nat_cmp a b ≡ Less
lesser a b less = ap (λ t. cond t Less (cond (nat_eq a b) Equal Greater)) (lt-ltb a b less)

all_later : (x low high : ℕ) (active : List (ℕ × TxnState)) → x ≤ low → Rises low active high
    → AllByRecursion (λ q. nat_cmp x q ≡ Less) (keys_of (changes_in active))
all_later x low high [] le rises = tt
all_later x low high (e ∷ active) le rises =
    let first : low < e.0 = rises.0 in
    (lesser x e.0 (omega (arith, le, first)), all_later x e.0 high active (omega (arith, le, first)) rises.1)

in_order : (low high : ℕ) (active : List (ℕ × TxnState)) → Rises low active high → IsStrictlySortedBy nat_cmp (keys_of (changes_in active))
unfolding IsStrictlySortedBy
in_order low high [] rises = tt
in_order low high (e ∷ active) rises = (all_later e.0 e.0 high active (omega arith) rises.1, in_order e.0 high active rises.1)

-- they stand in the order of their numbers
listed : (low high : ℕ) (active : List (ℕ × TxnState)) → Rises low active high → entries (lists_of active) ≡ changes_in active
listed low high active rises = ordered_entries nat_exact (changes_in active) (lists_of active) (in_order low high active rises) (listed_from active)

-- ---- one transaction after the other

-- the changes of the transaction at a place in that order
abbrev pub changes_of : Option (ℕ × TxnState) → List ChangeValue
changes_of o = unwrap_or (option_map (λ (e : ℕ × TxnState). e.1.changes) o) []

-- the first transactions are taken back, so many
abbrev pub back_to : Table → List (ℕ × TxnState) → ℕ → Table
back_to rows active n = all_reverted rows (take n (changes_in active))

one_back : (rows : Table) (active : List (ℕ × TxnState)) (i : ℕ)
    → back_to rows active (suc i) ≡ reverted (back_to rows active i) (changes_of (slice_get active i))
one_back rows [] zero = refl
one_back rows [] (suc i) = refl
one_back rows (e ∷ active) zero = refl
one_back rows (e ∷ active) (suc i) = one_back (reverted rows e.1.changes) active i

-- the row of a place, once one transaction more is taken back
pub one_more : (rows : Table) (active : List (ℕ × TxnState)) (i : ℕ) (r : Place) (row new : Option Row) (cs : List ChangeValue)
    → get (back_to rows active i) r ≡ row → cs ≡ changes_of (slice_get active i)
    → ((now : Table) → get now r ≡ row → new ≡ get (reverted now cs) r) → get (back_to rows active (i + 1)) r ≡ new
one_more rows active i r row new cs so_far those back =
    ap (λ n. get (back_to rows active n) r) (add-one i)
    ∙ ap (λ (t : Table). get t r) (one_back rows active i)
    ∙ ap (λ xs. get (reverted (back_to rows active i) xs) r) (sym those)
    ∙ sym (back (back_to rows active i) so_far)

all_there : (rows : Table) (active : List (ℕ × TxnState)) → back_to rows active (length active) ≡ all_reverted rows (changes_in active)
all_there rows [] = refl
all_there rows (e ∷ active) = all_there (reverted rows e.1.changes) active

-- with all of them taken back the rows are the committed ones
pub whole_back : (v : CoreValue) (high : ℕ) → Rises 0 v.txns.active high → back_to v.heap.rows v.txns.active (length v.txns.active) ≡ committed_rows v
whole_back v high rises = all_there v.heap.rows v.txns.active ∙ ap (all_reverted v.heap.rows) (sym (listed 0 high v.txns.active rises))

-- ---- the changes under a number

same_number : (n : ℕ) → nat_eq n n ≡ true
same_number n = eq-eqb n n refl

-- a transaction is found under its number
found_at : (low high : ℕ) (active : List (ℕ × TxnState)) (i : ℕ) (e : ℕ × TxnState) → Rises low active high → slice_get active i ≡ Some e
    → (low < e.0) × (state_of e.0 active ≡ Some e.1)
found_at low high [] i e rises is = absurd cc
found_at low high (x ∷ active) zero e rises is =
    let same : x ≡ e = cc in
    let first : low < x.0 = rises.0 in
    let number : x.0 ≡ e.0 = ap (λ (y : ℕ × TxnState). y.0) same in (
      omega (arith, first, number),
      ap (λ b. cond b (Some x.1) (state_of e.0 active)) (ap (λ n. nat_eq e.0 n) number ∙ same_number e.0) ∙ ap (λ (y : ℕ × TxnState). Some y.1) same,
    )
found_at low high (x ∷ active) (suc i) e rises is =
    let rest = found_at x.0 high active i e rises.1 is in
    let first : low < x.0 = rises.0 in
    let later : x.0 < e.0 = rest.0 in (
      omega (arith, first, later),
      ap (λ b. cond b (Some x.1) (state_of e.0 active)) (ne_eqb e.0 x.0 (λ same. omega (arith, later, same))) ∙ rest.1,
    )

-- what is said of the transaction with the number that stands at a place is said of the one there
pub changes_found : (high : ℕ) (active : List (ℕ × TxnState)) (i t : ℕ) → Rises 0 active high
    → Some t ≡ option_map (λ (e : ℕ × TxnState). e.0) (slice_get active i)
    → option_map (λ (x : TxnState). x.changes) (state_of t active) ≡ option_map (λ (e : ℕ × TxnState). e.1.changes) (slice_get active i)
changes_found high active i t rises is = by (slice_get active i) refl is
  where
    by : (o : Option (ℕ × TxnState)) → slice_get active i ≡ o → Some t ≡ option_map (λ (e : ℕ × TxnState). e.0) o
        → option_map (λ (x : TxnState). x.changes) (state_of t active) ≡ option_map (λ (e : ℕ × TxnState). e.1.changes) o
    by None there number = absurd cc
    by (Some e) there number =
        let same : t ≡ e.0 = cc in
        ap (λ n. option_map (λ (x : TxnState). x.changes) (state_of n active)) same
        ∙ ap (option_map (λ (x : TxnState). x.changes)) (found_at 0 high active i e rises there).1

-- what was found there are the changes of the transaction there
pub some_found : (o : Option (ℕ × TxnState)) (cs : List ChangeValue) → Some cs ≡ option_map (λ (e : ℕ × TxnState). e.1.changes) o → cs ≡ changes_of o
some_found None cs is = absurd cc
some_found (Some e) cs is = cc

pub none_found : (o : Option (ℕ × TxnState)) → (◌≡◌ {A = Option (List ChangeValue)} None (option_map (λ (e : ℕ × TxnState). e.1.changes) o)) → [] ≡ changes_of o
none_found None is = refl
none_found (Some e) is = absurd cc
