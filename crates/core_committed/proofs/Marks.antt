-- The entries of the index, each with the mark that its pair has in the committed table.
use Rattle.std.proofs.Common.{Bool, List, None, Option, Some, T, [], ap, cond, false, map, refl, subst, sym, true, ◌&&◌, ◌∙◌, ◌∷◌, ◌≡◌, ℕ}
use Rattle.std.proofs.lemmas.Bool.{false≢true}
use Rattle.std.specs.Cmp.Lexicographic.{nat_list_cmp_total, slice_cmp}
use Rattle.std.specs.FinMap.{entries, entries_sorted, find, get, get-entries, get-from_sorted, nat_cmp-IsAntisymmetric, slice_cmp-IsAntisymmetric}
use Rattle.std.specs.FinMap.Entries.{below_all, is_sorted}
use Rattle.std.specs.Option.{option_map}
use Rattle.std.specs.Ordering.{eq_by_cmp, is_lt, nat_cmp}
use Rattle.std.specs.Prelude.{IsTrue, if◌then◌else◌, ◌↔◌}
use Rattle.record_values.specs.Maps.{IsExact, key_is, pair_exact, same_key}
use Rattle.record_values.specs.Orders.{pair_cmp}
use Rattle.record_values.specs.declared.pair.Mark.{Mark}
use Rattle.record_values.specs.declared.pair.Mark.TheVariants.{Live, Marked}
use Rattle.record_values.specs.declared.pair.Pair.{Pair}
use Rattle.record_values.specs.declared.row.Row.{Row}
use Rattle.model.specs.Table.{IsPairOf, Table}
use Rattle.btree_node.specs.Above.{IsLeastAbove}
use Rattle.core_model.specs.Steps.{is_pair_of}
use Rattle.core_parts.specs.View.{CoreValue}
use Rattle.core_laws.specs.Holds.{committed_rows}
use Rattle.core_scan.specs.Ranges.{is_within}
use Rattle.core_scan.specs.Visible.{is_live, is_shown}
use Rattle.core_scan.specs.declared.range.KeyRange.{KeyRange}
use Rattle.core_committed.specs.Committed.{committed_index, mark_in}

abbrev Entry : Type 0
Entry = Pair × Mark

-- ---- the pair of a row

pub key_exact : IsExact {K = List ℕ} (slice_cmp nat_cmp)
key_exact = record { total = nat_list_cmp_total; only_equal = slice_cmp-IsAntisymmetric nat_cmp-IsAntisymmetric }

module _ (table : Table) (p : Pair) where
  pub pair_is : is_pair_of (get table p.rid) p ≡ true → IsPairOf table p
  pair_is is = by (get table p.rid) refl is
    where
      by : (o : Option Row) → get table p.rid ≡ o → is_pair_of o p ≡ true → IsPairOf table p
      by None there is = absurd (false≢true is)
      by (Some row) there is = record { row = row; is_there = there; has_key = key_is key_exact row.key p.key is }

  pub is_pair : IsPairOf table p → is_pair_of (get table p.rid) p ≡ true
  is_pair h =
      ap (λ o. is_pair_of o p) h.is_there ∙ ap (λ (k : List ℕ). eq_by_cmp (slice_cmp nat_cmp) k p.key) h.has_key ∙ same_key key_exact p.key

  live_by : (b : Bool) → is_live (if b then Live else Marked) ≡ b
  live_by true = refl
  live_by false = refl

  -- its mark is live just there
  pub live_is : is_live (mark_in table p) ≡ is_pair_of (get table p.rid) p
  live_is = live_by (is_pair_of (get table p.rid) p)

  pub live_mark : IsPairOf table p → mark_in table p ≡ Live
  live_mark h = ap (λ b. if b then Live else Marked) (is_pair h)

  pub marked_so : mark_in table p ≡ Live → IsPairOf table p
  marked_so is = pair_is (sym live_is ∙ ap is_live is)

  -- who tells whether it is one tells the test
  pub told : (b : Bool) → IsTrue b ↔ IsPairOf table p → b ≡ is_pair_of (get table p.rid) p
  told true tells = sym (is_pair (tells.0 refl))
  told false tells = by (is_pair_of (get table p.rid) p) refl
    where
      by : (t : Bool) → is_pair_of (get table p.rid) p ≡ t → false ≡ t
      by true is = tells.1 (pair_is is)
      by false is = refl

-- ---- the entries

module _ (v : CoreValue) where
  abbrev marked : Entry → Entry
  marked e = (e.0, mark_in (committed_rows v) e.0)

  below_same : (p : Pair) (es : List Entry) → below_all pair_cmp p (map marked es) ≡ below_all pair_cmp p es
  below_same p [] = refl
  below_same p (e ∷ es) = ap (λ b. is_lt (pair_cmp p e.0) && b) (below_same p es)

  sorted_same : (es : List Entry) → is_sorted pair_cmp (map marked es) ≡ is_sorted pair_cmp es
  sorted_same [] = refl
  sorted_same (e ∷ es) = λ i. below_same e.0 es i && sorted_same es i

  find_same : (p : Pair) (es : List Entry) → find pair_cmp p (map marked es) ≡ option_map (λ (m : Mark). mark_in (committed_rows v) p) (find pair_cmp p es)
  find_same p [] = refl
  find_same p (e ∷ es) = by (find_same p es) (eq_by_cmp pair_cmp p e.0) refl
    where
      by : find pair_cmp p (map marked es) ≡ option_map (λ (m : Mark). mark_in (committed_rows v) p) (find pair_cmp p es)
          → (b : Bool) → eq_by_cmp pair_cmp p e.0 ≡ b
          → cond b (Some (mark_in (committed_rows v) e.0)) (find pair_cmp p (map marked es))
          ≡ option_map (λ (m : Mark). mark_in (committed_rows v) p) (cond b (Some e.1) (find pair_cmp p es))
      by rest true tie = ap (λ (q : Pair). Some (mark_in (committed_rows v) q)) (sym (key_is pair_exact p e.0 tie))
      by rest false tie = rest

  -- a pair has an entry just where it has one in the index
  pub committed_at : (p : Pair) → get (committed_index v) p ≡ option_map (λ (m : Mark). mark_in (committed_rows v) p) (get v.index.entries p)
  unfolding committed_index
  committed_at p =
      get-from_sorted pair_cmp (map marked (entries v.index.entries)) p
      (subst (λ b. T b) (sym (sorted_same (entries v.index.entries))) (entries_sorted v.index.entries))
      ∙ find_same p (entries v.index.entries)
      ∙ ap (option_map (λ (m : Mark). mark_in (committed_rows v) p)) (sym (get-entries v.index.entries p))

  module _ (start : Option Pair) where
    -- the least entry above a pair is the least one there
    pub least_marked : (e : Entry) → IsLeastAbove v.index.entries start (Some e) → IsLeastAbove (committed_index v) start (Some (marked e))
    least_marked e least = (
      least.0,
      committed_at e.0 ∙ ap (option_map (λ (m : Mark). mark_in (committed_rows v) e.0)) least.1,
      λ q after less. committed_at q ∙ ap (option_map (λ (m : Mark). mark_in (committed_rows v) q)) (least.2 q after less),
    )

    pub none_marked : IsLeastAbove v.index.entries start None → IsLeastAbove (committed_index v) start None
    none_marked none = λ q after. committed_at q ∙ ap (option_map (λ (m : Mark). mark_in (committed_rows v) q)) (none q after)

  -- ---- what is live

  -- a live pair is that of a committed row
  pub live_committed : (p : Pair) → get (committed_index v) p ≡ Some Live → IsPairOf (committed_rows v) p
  live_committed p live = by (get v.index.entries p) (sym (committed_at p) ∙ live)
    where
      by : (o : Option Mark) → option_map (λ (m : Mark). mark_in (committed_rows v) p) o ≡ Some Live → IsPairOf (committed_rows v) p
      by None is = absurd (none_live is)
        where
          none_live : (◌≡◌ {A = Option Mark} None (Some Live)) → ⊥
          none_live e = absurd cc
      by (Some m) is = marked_so (committed_rows v) p (same_mark (mark_in (committed_rows v) p) Live is)
        where
          same_mark : (a b : Mark) → (◌≡◌ {A = Option Mark} (Some a) (Some b)) → a ≡ b
          same_mark a b e = cc

  -- the pair of a committed row is live, if it has an entry
  pub committed_live : (p : Pair) → IsPairOf (committed_rows v) p → (get v.index.entries p ≡ None → ⊥) → get (committed_index v) p ≡ Some Live
  committed_live p pair there = committed_at p ∙ by (get v.index.entries p) refl
    where
      by : (o : Option Mark) → get v.index.entries p ≡ o → option_map (λ (m : Mark). mark_in (committed_rows v) p) o ≡ Some Live
      by None none = absurd (there none)
      by (Some m) is = ap Some (live_mark (committed_rows v) p pair)

-- ---- what a range shows of it

and_in : (a b : Bool) → b ≡ true → a ≡ (a && b)
and_in true b is = sym is
and_in false b is = refl

module _ (range : KeyRange) (table : Table) (p : Pair) where
  pub shows_in : (b : Bool) → true ≡ is_within range p.key → IsTrue b ↔ IsPairOf table p → b ≡ is_shown range (p, mark_in table p)
  shows_in b within tells =
      told table p b tells ∙ sym (live_is table p) ∙ and_in (is_live (mark_in table p)) (is_within range p.key) (sym within)
