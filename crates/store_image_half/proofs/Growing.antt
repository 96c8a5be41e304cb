-- What is read grows by one part.
use Rattle.std.proofs.Common.{◌≡◌, ⊎_elim, ℕ, zero, suc, ◌+◌, ◌<◌, List, [], ◌∷◌, ◌++◌, length, take, map, Option, Some, None, refl, sym, ap, ◌∙◌, subst, arith}
use Rattle.std.proofs.Common.{length-append, length-take-le}
use Rattle.std.specs.Prelude.{slice_get}
use Rattle.std.specs.Option.{option_map}
use Rattle.std.specs.Ordering.{nat_cmp}
use Rattle.std.specs.Cmp.{nat_cmp_is, nat_cmp_total}
use Rattle.std.specs.declared.cmp.Ordering.{Ordering}
use Rattle.std.specs.declared.cmp.Ordering.TheVariants.{Less}
use Rattle.std.specs.FinMap.{entries, empty, get, get-empty, insert, len-empty, len-entries}
use Rattle.std.proofs.lemmas.Bool.{cases_eq, cases_lt}
use Rattle.std.proofs.lemmas.List.{length-map, take_more, map_push}
use Rattle.std.proofs.lemmas.Option.{none-some, slice_get-map, slice_get_within, get_or_from_slice_get}
use Rattle.sector_device.specs.Disk.{CrashState}
use Rattle.record_values.specs.Values.{Place}
use Rattle.records.specs.ChangeValue.{ChangeValue}
use Rattle.record_values.specs.declared.version.Version.{Version}
use Rattle.record_values.specs.GeometryValue.{GeometryValue}
use Rattle.record_values.specs.Orders.{pair_cmp, rid_cmp, pair_cmp_total}
use Rattle.record_values.specs.Maps.{set_at, rid_exact, get-set_at_same, get-set_at_other}
use Rattle.record_values.specs.declared.row.Row.{Row}
use Rattle.record_values.specs.declared.pair.Pair.{Pair}
use Rattle.record_values.specs.declared.pair.Mark.{Mark}
use Rattle.model.specs.Table.{Table}
use Rattle.record_values.specs.Entries.{Index}
use Rattle.model.specs.Cells.{Pending}
use Rattle.store_image_parts.specs.declared.head.Head.{Head}
use Rattle.store_image_half.specs.Image.{AreHeads, IsItemIn, HasEdges, IsRowIn, IsEntryIn, HoldsListIn, item_bytes_in, row_bytes_in, entry_bytes_in, head_of}
use Rattle.store_image_half.specs.Image.{item_of}
use Rattle.store_image_half.specs.Layout.{page_bytes_in}
use Rattle.store_image_half.specs.Steps.{HoldsLists, HoldsPages, HoldsSlots, HoldsEntries, IsLastPair}
use Rattle.store_image_half.proofs.Lists.{slice_get_push, slice_get_last, option_cases}
use Rattle.store_image_half.proofs.Maps.{AreBelow, entries-insert_last, below_first, below_next}
use Rattle.store_image_half.proofs.Sound.{at_index}

no_entries : {K : Type 0} (X : Type 0) (R : K → K → Ordering) → length (entries (empty {X = X} {R = R})) ≡ 0
no_entries {K} X R = sym (len-entries (empty {X = X} {R = R})) ∙ len-empty R X

-- an element of the front of a list is one of the list
pub slice_get-take : {A : Type 0} (n i : ℕ) (xs : List A) → i < n → slice_get (take n xs) i ≡ slice_get xs i
slice_get-take zero i xs below = absurd (omega (arith, below))
slice_get-take (suc n) i [] below = refl
slice_get-take (suc n) zero (x ∷ xs) below = refl
slice_get-take (suc n) (suc i) (x ∷ xs) below = slice_get-take n i xs (omega (arith, below))

module _ (v : Version) (g : GeometryValue) (first : ℕ) (image : CrashState) where
  -- ---- a list of changes

  pub no_list : (h : ℕ) → HoldsListIn v g first image h []
  no_list h = record { positions = λ p c is. absurd (none-some c is); items = λ p c is. absurd (none-some c is) }

  pub list_more : (h p : ℕ) (changes : List ChangeValue) (c : ChangeValue) → HoldsListIn v g first image h changes → length changes ≡ p → c.position ≡ p
      → IsItemIn v g (item_bytes_in v image first h p) (item_of c)
      → HoldsListIn v g first image h (changes ++ c ∷ [])
  list_more h p changes c held long position item = record {
    positions = λ q d is. ⊎_elim
        (λ there. held.positions q d there)
        (λ (last : (q ≡ length changes) × (c ≡ d)). ap (λ (e : ChangeValue). e.position) (sym last.1) ∙ position ∙ sym long ∙ sym last.0)
        (slice_get_push changes c d q is);
    items = λ q d is. ⊎_elim
        (λ there. held.items q d there)
        (λ (last : (q ≡ length changes) × (c ≡ d)). subst (λ (e : ChangeValue). IsItemIn v g (item_bytes_in v image first h q) (item_of e)) last.1
        (subst (λ k. IsItemIn v g (item_bytes_in v image first h k) (item_of c)) (sym (last.0 ∙ long)) item))
        (slice_get_push changes c d q is);
  }

  -- ---- the lists

  pub no_lists : HoldsLists v g first image [] empty
  no_lists = record {
    heads-are = nothing_mapped (entries (empty {X = List ChangeValue} {R = nat_cmp})) (no_entries (List ChangeValue) nat_cmp);
    each = λ h list is. absurd (let below : h < length (entries (empty {X = List ChangeValue} {R = nat_cmp})) = slice_get_within _ h list is in
        omega (arith, below, no_entries (List ChangeValue) nat_cmp));
  }
    where
      nothing_mapped : (es : List (ℕ × List ChangeValue)) → length es ≡ 0 → map head_of es ≡ []
      nothing_mapped [] none = refl
      nothing_mapped (e ∷ es) none = absurd (omega (arith, none))

  module _ (bytes : List ℕ) (heads : List Head) (are : AreHeads bytes heads) (pending : Pending) (h : ℕ) (head : Head) (at_h : slice_get heads h ≡ Some head)
      (held : HoldsLists v g first image (take h heads) pending) where
    count : length (entries pending) ≡ h
    count = sym (length-map (entries pending) head_of) ∙ ap length held.heads-are ∙ length-take-le h heads (omega (arith, slice_get_within heads h head at_h))

    lists_below : (n : ℕ) → h ≡ n → AreBelow nat_cmp_total head.txn (entries pending)
    lists_below zero is = below_first nat_cmp_total pending head.txn (count ∙ is)
    lists_below (suc n) is =
        let e = at_index (entries pending) n (omega (arith, count, is)) in
        let there : slice_get heads n ≡ Some (head_of e.0) = sym (slice_get-take h n heads (omega (arith, is)))
        ∙ ap (λ (hs : List Head). slice_get hs n) (sym held.heads-are) ∙ slice_get-map head_of (entries pending) n ∙ ap (option_map head_of) e.1 in
        let next : slice_get heads (n + 1) ≡ Some head = subst (λ k. slice_get heads k ≡ Some head) (let s : h ≡ n + 1 = omega (arith, is) in s) at_h in
        below_next nat_cmp_total pending head.txn n e.0 (omega (arith, count, is)) e.1
        (sym (nat_cmp_is e.0.0 head.txn Less (are.rising n (head_of e.0) head there next)))

    pub lists_more : (list : List ChangeValue) → length list ≡ head.changes → HoldsListIn v g first image h list
        → HoldsLists v g first image (take (h + 1) heads) (insert pending head.txn list)
    lists_more list long is =
        let es : entries (insert pending head.txn list) ≡ entries pending ++ (head.txn, list) ∷ [] =
        entries-insert_last nat_cmp_total pending head.txn list (lists_below h refl) in
        let same : head_of (head.txn, list) ≡ head = λ i. record { txn = head.txn; changes = long i } in
        record {
          heads-are = ap (map head_of) es ∙ map_push head_of (entries pending) (head.txn, list) ∙ (λ i. held.heads-are i ++ same i ∷ [])
              ∙ ap (λ (k : Head). take h heads ++ k ∷ []) (sym (get_or_from_slice_get heads h head head at_h))
              ∙ sym (take_more heads h head (slice_get_within heads h head at_h));
          each = λ k l at_l. ⊎_elim
              (λ there. held.each k l there)
              (λ (last : (k ≡ length (entries pending)) × ((head.txn, list) ≡ l)).
              subst (λ (m : ℕ × List ChangeValue). HoldsListIn v g first image k m.1) last.1
              (subst (λ j. HoldsListIn v g first image j list) (sym (last.0 ∙ count)) is))
              (slice_get_push (entries pending) (head.txn, list) l k (sym (ap (λ (x : List (ℕ × List ChangeValue)). slice_get x k) es) ∙ at_l));
        }

  -- ---- the rows

  pub no_pages : HoldsPages v g first image 0 empty
  no_pages = record {
    edges = λ page below. absurd (omega (arith, below));
    slots = λ q below slot. absurd (omega (arith, below));
    within = λ q r is. absurd (none-some r (sym (get-empty rid_cmp q) ∙ is));
  }

  pub no_slots : (n : ℕ) (before : Table) → HoldsPages v g first image n before → HoldsSlots v first image n 0 before before
  no_slots n before held = record {
    slots = λ q at below. absurd (omega (arith, below));
    behind = λ q at past. ⊎_elim (λ none. none) (λ (some : (r : Row) × (get before q ≡ Some r)). absurd (omega (arith, at, (held.within q some.0 some.1).0)))
        (option_cases (get before q));
    others = λ q other. refl;
  }

  pub slots_more : (n slot : ℕ) (before rows : Table) (o : Option Row) → HoldsSlots v first image n slot before rows
      → IsRowIn v (row_bytes_in v image first n slot) o → HoldsSlots v first image n (slot + 1) before (set_at rows (record { page = n; slot = slot }) o)
  slots_more n slot before rows o held is = record {
    slots = λ q at below. ⊎_elim
        (λ (here : q.slot ≡ slot). subst (λ (x : Option Row). IsRowIn v (row_bytes_in v image first n q.slot) x) (sym (at_place q at here))
        (subst (λ k. IsRowIn v (row_bytes_in v image first n k) o) (sym here) is))
        (λ other. subst (λ (x : Option Row). IsRowIn v (row_bytes_in v image first n q.slot) x)
        (sym (elsewhere q (λ (e : q ≡ place). other (ap (λ (p : Place). p.slot) e)))) (held.slots q at (omega (arith, other, below))))
        (cases_eq q.slot slot);
    behind = λ q at past. elsewhere q (λ (e : q ≡ place). past (omega (arith, ap (λ (p : Place). p.slot) e)))
        ∙ held.behind q at (λ below. past (omega (arith, below)));
    others = λ q other. elsewhere q (λ (e : q ≡ place). other (ap (λ (p : Place). p.page) e)) ∙ held.others q other;
  }
    where
      place : Place
      place = record { page = n; slot = slot }

      elsewhere : (q : Place) → ¬ (q ≡ place) → get (set_at rows place o) q ≡ get rows q
      elsewhere q apart = get-set_at_other rid_exact rows place o q apart

      at_place : (q : Place) → q.page ≡ n → q.slot ≡ slot → get (set_at rows place o) q ≡ o
      at_place q at here = ap (get (set_at rows place o)) (λ i. record { page = at i; slot = here i }) ∙ get-set_at_same rid_exact rows place o

  pub page_more : (n : ℕ) (before rows : Table) → HoldsPages v g first image n before → HasEdges v (page_bytes_in v image first n)
      → HoldsSlots v first image n 63 before rows → HoldsPages v g first image (n + 1) rows
  page_more n before rows held edges slots = record {
    edges = λ page below. ⊎_elim (λ here. subst (λ k. HasEdges v (page_bytes_in v image first k)) (sym here) edges) (λ other.
        held.edges page (omega (arith, below, other))) (cases_eq page n);
    slots = λ q below slot. ⊎_elim
        (λ here. subst (λ k. IsRowIn v (row_bytes_in v image first k q.slot) (get rows q)) (sym here) (slots.slots q here slot))
        (λ other. subst (λ (x : Option Row). IsRowIn v (row_bytes_in v image first q.page q.slot) x) (sym (slots.others q other))
        (held.slots q (omega (arith, below, other)) slot))
        (cases_eq q.page n);
    within = λ q r is. ⊎_elim
        (λ here. (
          omega (arith, here),
          ⊎_elim (λ below. below) (λ past.
              absurd (none-some r (sym (slots.behind q here (λ below. omega (arith, below, past))) ∙ is))) (cases_lt q.slot 63),
        ))
        (λ other. let old = held.within q r (sym (slots.others q other) ∙ is) in (omega (arith, old.0), old.1))
        (cases_eq q.page n);
  }

  -- ---- the entries

  pub no_entry : HoldsEntries v g first image 0 empty
  no_entry = record {
    count = no_entries Mark pair_cmp;
    each = λ i e is. absurd (let below : i < length (entries (empty {X = Mark} {R = pair_cmp})) = slice_get_within _ i e is in
        omega (arith, below, no_entries Mark pair_cmp));
  }

  entries_below : (n : ℕ) (m : Index) (last : Option Pair) (pair : Pair) → HoldsEntries v g first image n m → IsLastPair m n last
      → ((p : Pair) → last ≡ Some p → pair_cmp p pair ≡ Less) → AreBelow pair_cmp_total pair (entries m)
  entries_below n m None pair held last above = below_first pair_cmp_total m pair (held.count ∙ last)
  entries_below n m (Some p) pair held (k, e, next, at_k, is) above =
      below_next pair_cmp_total m pair k e (held.count ∙ next) at_k (subst (λ (q : Pair). pair_cmp q pair ≡ Less) (sym is) (above p refl))

  module _ (n : ℕ) (m : Index) (last : Option Pair) (pair : Pair) (mark : Mark) (held : HoldsEntries v g first image n m) (is_last : IsLastPair m n last)
      (above : (p : Pair) → last ≡ Some p → pair_cmp p pair ≡ Less) where
    pushed : entries (insert m pair mark) ≡ entries m ++ (pair, mark) ∷ []
    pushed = entries-insert_last pair_cmp_total m pair mark (entries_below n m last pair held is_last above)

    pub entries_more : IsEntryIn v g (entry_bytes_in v g image first n) (pair, mark) → HoldsEntries v g first image (n + 1) (insert m pair mark)
    entries_more is = record {
      count = ap length pushed ∙ length-append {A = Pair × Mark} (entries m) ((pair, mark) ∷ []) ∙ ap (λ k. k + 1) held.count;
      each = λ i e at_i. ⊎_elim
          (λ there. held.each i e there)
          (λ (end : (i ≡ length (entries m)) × ((pair, mark) ≡ e)).
          subst (λ (x : Pair × Mark). IsEntryIn v g (entry_bytes_in v g image first i) x) end.1
          (subst (λ k. IsEntryIn v g (entry_bytes_in v g image first k) (pair, mark)) (sym (end.0 ∙ held.count)) is))
          (slice_get_push (entries m) (pair, mark) e i (sym (ap (λ (x : List (Pair × Mark)). slice_get x i) pushed) ∙ at_i));
    }

    pub last_more : IsLastPair (insert m pair mark) (n + 1) (Some pair)
    last_more = (
      n,
      (pair, mark),
      refl,
      ap (λ (x : List (Pair × Mark)). slice_get x n) pushed
          ∙ subst (λ k. slice_get (entries m ++ (pair, mark) ∷ []) k ≡ Some (pair, mark)) held.count (slice_get_last (entries m) (pair, mark)),
      refl,
    )
