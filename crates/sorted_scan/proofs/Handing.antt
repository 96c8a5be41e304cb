-- What the scan hands out is the next pair of its run, and how it goes on behind it.
use Rattle.std.proofs.Common.{◌≡◌, ◌<◌, ◌≤◌, ◌+◌, ◌-◌, ℕ, true, false, Option, Some, None, List, [], ◌∷◌, ◌++◌, length, get_or, nat_eq, refl, sym, ap, subst}
use Rattle.std.proofs.Common.{◌∙◌, inl, inr, arith, eqb-true}
use Rattle.std.specs.declared.cmp.Ordering.TheVariants.{Less}
use Rattle.std.specs.List.{All, Contains, list_any}
use Rattle.std.specs.Option.{IfSome, IfNone}
use Rattle.std.specs.Ordering.{is_lt}
use Rattle.std.proofs.lemmas.Bool.{cases_Bool, or_cases}
use Rattle.std.proofs.lemmas.List.Elements.{All-tail, All-contains, Contains-get_or}
use Rattle.record_values.specs.Orders.{pair_cmp, is_above}
use Rattle.record_values.specs.declared.pair.Pair.{Pair}
use Rattle.sorted_scan.specs.FullRuns.{MergeValue}
use Rattle.sorted_scan.specs.Pairs.{least, AreSame, IsOnceEach, IsLow}
use Rattle.sorted_scan.specs.Runs.{ScanStep, Took, HandedOut, ScanRun, with_step, takes, is_given, last_pair, AreInTurn, MayHandOut, IsAtEnd}
use Rattle.sorted_scan.specs.Scans.{ScanValue, page_from, HasRun, IsSoundScan}
use Rattle.sorted_scan.proofs.Order.{less_is, above_above, among_others, same_pair}
use Rattle.sorted_scan.proofs.Counts.{same_all, same_contains, same_length, same_once, not_again, rest_once}
use Rattle.sorted_scan.proofs.Least.{least_has, least_none}
use Rattle.sorted_scan.proofs.Pages.{page_none}

-- only pages of the table are taken
pub taken_inside : (start : Option Pair) (pages : ℕ) (steps : List ScanStep) (n : ℕ) → AreInTurn start pages steps → list_any (takes n) steps ≡ true → n < pages
taken_inside start pages [] n turn h = cc
taken_inside start pages (Took page pairs ∷ before) n turn h =
    elim (or_cases (nat_eq n page) (list_any (takes n) before) h) [
      | inl e ↦ let same : n ≡ page = eqb-true n page e in subst (λ m. m < pages) (sym same) turn.1.1
      | inr e ↦ taken_inside start pages before n turn.0 e
    ]
taken_inside start pages (HandedOut p ∷ before) n turn h = taken_inside start pages before n turn.0 h

abbrev pub scan_of : ℕ → Option ℕ → Option Pair → List Pair → ScanValue
scan_of pages wanted low waiting = record { pages = pages; last = low; wanted = wanted; waiting = waiting }

module _ (pages : ℕ) (low : Option Pair) (waiting : List Pair) (r : ScanRun) (has : HasRun (scan_of pages None low waiting) r) where
  -- the least of the pairs that wait is the next one
  pub is_next : (p : Pair) → Contains waiting p → IsLow p waiting → All (λ q. is_above low q ≡ true) waiting → MayHandOut r p
  is_next p waits lowest above = record {
    all_taken = λ n h. has.taken n h tt;
    given = All-contains (λ q. is_given r q ≡ true) waiting p has.given waits;
    rising = ap (λ x. is_above x p) (sym has.last_is) ∙ All-contains (λ q. is_above low q ≡ true) waiting p above waits;
    none_between = λ q steady over.
        let inside : q.rid.page < r.pages = taken_inside r.start r.pages r.steps q.rid.page has.in_turn steady.taken in
        All-contains (λ x. is_lt (pair_cmp x p) ≡ false) waiting q lowest (has.left q inside tt steady.always (ap (λ x. is_above x q) has.last_is ∙ over));
  }

  -- with no pair that waits the run is at its end
  pub is_end : waiting ≡ [] → IsAtEnd r
  is_end empty = record {
    all_taken = λ n h. has.taken n h tt;
    none_above = λ q steady. elim (cases_Bool (is_above (last_pair r) q)) [
      | inl over ↦
          let inside : q.rid.page < r.pages = taken_inside r.start r.pages r.steps q.rid.page has.in_turn steady.taken in
          let waits : Contains waiting q = has.left q inside tt steady.always (ap (λ x. is_above x q) has.last_is ∙ over) in
          absurd (none_in (subst (λ xs. Contains xs q) empty waits))
      | inr under ↦ under
    ];
  }
    where
      none_in : {q : Pair} → Contains [] q → ⊥
      none_in (k, within, is) = omega arith

  -- the run goes on behind the pair
  pub run_behind : (p : Pair) (rest : List Pair) → Contains waiting p → IsLow p waiting → All (λ q. is_above low q ≡ true) waiting → AreSame waiting (p ∷ rest)
      → HasRun (scan_of pages None (Some p) rest) (with_step r (HandedOut p))
  run_behind p rest waits lowest above same = record {
    pages = has.pages;
    last_is = refl;
    in_turn = (has.in_turn, is_next p waits lowest above);
    wanted = tt;
    taken = λ n h b. has.taken n h tt;
    given = All-tail (λ q. is_given r q ≡ true) p rest (same_all (λ q. is_given r q ≡ true) waiting (p ∷ rest) same has.given);
    left = λ q inside before always over.
        let later : pair_cmp p q ≡ Less = less_is _ over in
        among_others p rest q later (same_contains waiting (p ∷ rest) same q
        (has.left q inside tt always (above_above low p q (All-contains (λ x. is_above low x ≡ true) waiting p above waits) later)));
  }

-- no other pair is as low as the least one
above_least : (p : Pair) (rest : List Pair) → IsOnceEach (p ∷ rest) → IsLow p (p ∷ rest) → All (λ q. is_above (Some p) q ≡ true) rest
above_least p rest once lowest k d h =
    elim (cases_Bool (is_lt (pair_cmp p (get_or rest k d)))) [
      | inl above ↦ above
      | inr not_above ↦ absurd (
          let waits : Contains rest (get_or rest k d) = Contains-get_or rest k d h in
          let q = get_or rest k d in
          let same : p ≡ q = same_pair p q not_above (All-tail (λ x. is_lt (pair_cmp x p) ≡ false) p rest lowest k d h) in
          not_again p rest once (subst (Contains rest) (sym same) waits)
          )
    ]

module _ (pages next_page : ℕ) (low : Option Pair) (remaining : ℕ) (gathered : List Pair) (merge : MergeValue)
    (sound : IsSoundScan pages next_page low remaining gathered merge) (past : pages ≤ next_page) where
  abbrev merged : List Pair
  merged = merge.pairs

  none_gathered : gathered ≡ []
  none_gathered = sound.merged_all (let h = sound.inside in omega (arith, h, past))

  all_merged : gathered ++ merged ≡ merged
  all_merged = ap (λ xs. xs ++ merged) none_gathered

  pub view_merged : scan_of pages (page_from pages next_page) low (gathered ++ merged) ≡ scan_of pages None low merged
  view_merged = ap (λ w. scan_of pages w low (gathered ++ merged)) (page_none pages next_page past) ∙ ap (scan_of pages None low) all_merged

  merged_above : All (λ q. is_above low q ≡ true) merged
  merged_above = subst (All (λ q. is_above low q ≡ true)) all_merged sound.above

  module _ (v : ScanValue) (view : scan_of pages (page_from pages next_page) low (gathered ++ merged) ≡ v) where
    value_is : v ≡ scan_of pages None low merged
    value_is = sym view ∙ view_merged

    pub next_pair : (result : Option Pair) → result ≡ least merged → IfSome result (λ p. (r : ScanRun) → HasRun v r → MayHandOut r p)
    next_pair None e = tt
    next_pair (Some p) e = λ r has. let it = least_has merged p (sym e) in
        is_next pages low merged r (subst (λ x. HasRun x r) value_is has) p it.0 it.1 merged_above

    pub at_end : (result : Option Pair) → result ≡ least merged → IfNone result (v.wanted ≡ None → (r : ScanRun) → HasRun v r → IsAtEnd r)
    at_end None e = λ none r has. is_end pages low merged r (subst (λ x. HasRun x r) value_is has) (least_none merged (sym e))
    at_end (Some p) e = tt

    module _ (p : Pair) (left : MergeValue) (first : Some p ≡ least merged) (same : AreSame merged (p ∷ left.pairs)) where
      abbrev rest : List Pair
      rest = left.pairs

      pub run_out : (r : ScanRun) → HasRun v r → HasRun (scan_of pages (page_from pages next_page) (Some p) (gathered ++ rest)) (with_step r (HandedOut p))
      run_out r has =
          let it = least_has merged p (sym first) in
          let e : scan_of pages (page_from pages next_page) (Some p) (gathered ++ rest) ≡ scan_of pages None (Some p) rest =
          ap (λ w. scan_of pages w (Some p) (gathered ++ rest)) (page_none pages next_page past)
          ∙ ap (λ xs. scan_of pages None (Some p) (xs ++ rest)) none_gathered in
          subst (λ x. HasRun x (with_step r (HandedOut p))) (sym e)
          (run_behind pages low merged r (subst (λ x. HasRun x r) value_is has) p rest it.0 it.1 merged_above same)

      one_fewer : remaining ≡ 1 + length rest
      one_fewer =
          let a = sound.counted ∙ ap length all_merged ∙ same_length merged (p ∷ rest) same in
          omega (arith, a)

      pub sound_out : left.runs ≤ merge.runs → IsSoundScan pages next_page (Some p) (remaining - 1) gathered left
      sound_out no_more =
          let it = least_has merged p (sym first) in
          let once = same_once merged (p ∷ rest) same (subst IsOnceEach all_merged sound.once) in
          let on_pages = All-tail (λ q. q.rid.page < next_page) p rest
          (same_all (λ q. q.rid.page < next_page) merged (p ∷ rest) same (subst (All (λ q. q.rid.page < next_page)) all_merged sound.on_pages)) in
          let lowest = same_all (λ q. is_lt (pair_cmp q p) ≡ false) merged (p ∷ rest) same it.1 in
          let few = sound.few in
          let fewer = one_fewer in
          let back = λ (P : List Pair → Type 0) (h : P rest). subst (λ xs. P (xs ++ rest)) (sym none_gathered) h in
          record {
            inside = sound.inside;
            counted = back (λ xs. remaining - 1 ≡ length xs) (omega (arith, fewer));
            few = omega (arith, few, fewer);
            once = back IsOnceEach (rest_once p rest once);
            on_pages = back (All (λ q. q.rid.page < next_page)) on_pages;
            above = back (All (λ q. is_above (Some p) q ≡ true)) (above_least p rest once lowest);
            open_run = sound.open_run;
            merged_all = sound.merged_all;
            full = λ before. absurd (omega (arith, before, past));
            few_runs = let h = sound.few_runs in omega (arith, h, no_more);
          }
