-- What a journal is once it was opened.
use Rattle.std.proofs.Common.{◌≡◌, ◌≢◌, ◌⊎◌, inl, inr, ⊎_elim, ℕ, ◌+◌, ◌%◌, ◌<◌, List, [], ◌∷◌, ◌++◌, length}
use Rattle.std.proofs.Common.{Option, Some, None, IfSome, Contains, refl, sym, ◌∙◌, ap, subst, arith}
use Rattle.std.proofs.lemmas.Bool.{cases_eq}
use Rattle.std.proofs.lemmas.Bool.Decides.{nat_tests}
use Rattle.std.proofs.lemmas.List.Elements.{Contains-push, Contains-push_cases}
use Rattle.block_device.specs.Blocks.{CrashFile, SameOutside}
use Rattle.block_batch.specs.Batch.{Entry, Batch, replayed, IsPlace}
use Rattle.block_batch.specs.Replay.{in_order, pending}
use Rattle.block_batch.proofs.Replay.{again, both, cut_off, agree, outside}
use Rattle.block_journal.specs.declared.shape.Shape.{Shape}
use Rattle.block_journal.specs.Layout.{area_of, found, found_in, kept_of, recovered, IsHonest, IsInside}
use Rattle.block_journal.specs.Journal.{AreInAreas, AreKnown, IsPending, MayWrite, StandsFor}
use Rattle.block_journal.specs.Opening.{AreFound, IsBefore, first_entries, found_batches}
use Rattle.block_journal.proofs.Crash.{kept_agrees, same_area}
use Rattle.block_journal.proofs.Next.{now_committed}
use Rattle.block_journal.proofs.Placing.{inside_same}

-- ---- the order

order_before : (x y : Batch) → y.number + 1 ≡ x.number → in_order x y ≡ y.entries ++ x.entries
order_before x y is = grind (arith, nat_tests)

order_behind : (x y : Batch) → y.number + 1 ≡ x.number → in_order y x ≡ y.entries ++ x.entries
order_behind x y is = grind (arith, nat_tests)

order_far : (x y : Batch) → y.number + 1 < x.number → in_order x y ≡ x.entries
order_far x y lt = grind (arith, nat_tests)

order_far_behind : (x y : Batch) → y.number + 1 < x.number → in_order y x ≡ x.entries
order_far_behind x y lt = grind (arith, nat_tests)

pub first_is : (number n : ℕ) (entries : List Entry) → n + 1 ≡ number → first_entries number (Some n) entries ≡ entries
first_is number n entries is = grind (arith, nat_tests)

pub first_none : (number n : ℕ) (entries : List Entry) → n + 1 ≢ number → first_entries number (Some n) entries ≡ []
first_none number n entries other = grind (arith, nat_tests)

module _ (last : Batch) (entries : List Entry) where
  behind_first : (before : Option ℕ) (x y : Option Batch) → x ≡ Some last → IsBefore last.number before entries y
      → pending x y ≡ first_entries last.number before entries ++ last.entries
  behind_first None x y is none = λ i. pending (is i) (none i)
  behind_first (Some n) x y is (low, there) =
      let other : Batch = record { number = n; entries = entries } in
      let same : pending x y ≡ in_order last other = λ i. pending (is i) (there i) in
      same ∙ elim (cases_eq (n + 1) last.number) [
        | inl next ↦ order_before last other next ∙ ap (λ (l : List Entry). l ++ last.entries) (sym (first_is last.number n entries next))
        | inr far ↦ order_far last other (omega (arith, low, far)) ∙ ap (λ (l : List Entry). l ++ last.entries) (sym (first_none last.number n entries far))
      ]

  behind_second : (before : Option ℕ) (x y : Option Batch) → y ≡ Some last → IsBefore last.number before entries x
      → pending x y ≡ first_entries last.number before entries ++ last.entries
  behind_second None x y is none = λ i. pending (none i) (is i)
  behind_second (Some n) x y is (low, there) =
      let other : Batch = record { number = n; entries = entries } in
      let same : pending x y ≡ in_order other last = λ i. pending (there i) (is i) in
      same ∙ elim (cases_eq (n + 1) last.number) [
        | inl next ↦ order_behind last other next ∙ ap (λ (l : List Entry). l ++ last.entries) (sym (first_is last.number n entries next))
        | inr far ↦ order_far_behind last other (omega (arith, low, far))
            ∙ ap (λ (l : List Entry). l ++ last.entries) (sym (first_none last.number n entries far))
      ]

-- what is replayed: what comes before the last batch, and then its blocks
pub pending_is : (g : Shape) (image : CrashFile) (last : Batch) (before : Option ℕ) (entries : List Entry) → AreFound g image last before entries
    → pending (found g image 0) (found g image 1) ≡ first_entries last.number before entries ++ last.entries
pending_is g image last before entries finds = elim (cases_eq (last.number % 2) 0) [
  | inl even ↦
      let one : (last.number + 1) % 2 ≡ 1 = omega (arith, even) in
      behind_first last entries before (found g image 0) (found g image 1) (ap (found g image) (sym even) ∙ finds.here)
      (subst (λ (a : ℕ). IsBefore last.number before entries (found g image a)) one finds.other)
  | inr odd ↦
      let here : last.number % 2 ≡ 1 = omega (arith, odd) in
      let none : (last.number + 1) % 2 ≡ 0 = omega (arith, odd) in
      behind_second last entries before (found g image 0) (found g image 1) (ap (found g image) (sym here) ∙ finds.here)
      (subst (λ (a : ℕ). IsBefore last.number before entries (found g image a)) none finds.other)
]

-- ---- what was found is known

contains_one : {X : Type 0} (x y : X) → Contains (x ∷ []) y → y ≡ x
contains_one x y has = ⊎_elim (λ none. absurd (omega (arith, none.1))) (λ is. sym is) (Contains-push_cases [] x y has)

contains_two : {X : Type 0} (x y z : X) → Contains (x ∷ y ∷ []) z → (z ≡ x) ⊎ (z ≡ y)
contains_two x y z has = ⊎_elim (λ one. inl (contains_one x z one)) (λ is. inr (sym is)) (Contains-push_cases (x ∷ []) y z has)

has_last : (last : Batch) (before : Option ℕ) (entries : List Entry) → Contains (found_batches last before entries) last
has_last last None entries = Contains-push [] last
has_last last (Some n) entries = (0, omega arith, refl)

has_other : (last : Batch) (n : ℕ) (entries : List Entry) → Contains (found_batches last (Some n) entries) (record { number = n; entries = entries })
has_other last n entries = Contains-push (last ∷ []) (record { number = n; entries = entries })

module _ (last : Batch) (entries : List Entry) (start : CrashFile) where
  abbrev pub settled : Option ℕ → CrashFile
  settled before = replayed last.entries (replayed (first_entries last.number before entries) start)

  pub found_known : (before : Option ℕ) (other : Option Batch) → IsBefore last.number before entries other
      → AreKnown (found_batches last before entries) last (settled before)
  found_known None other none = record {
    has_last = has_last last None entries;
    none_later = λ x has. omega (arith, ap (λ (b : Batch). b.number) (contains_one last x has));
    is_last = λ x has same. contains_one last x has;
    before = λ x has same. absurd (omega (arith, ap (λ (b : Batch). b.number) (contains_one last x has), same));
  }
  found_known (Some n) other (low, there) =
      let o : Batch = record { number = n; entries = entries } in
      record {
        has_last = has_last last (Some n) entries;
        none_later = λ x has. ⊎_elim (λ is. omega (arith, ap (λ (b : Batch). b.number) is)) (λ is. omega (arith, ap (λ (b : Batch). b.number) is, low))
            (contains_two last o x has);
        is_last = λ x has same. ⊎_elim (λ is. is) (λ is. absurd (omega (arith, ap (λ (b : Batch). b.number) is, low, same))) (contains_two last o x has);
        before = λ x has same. ⊎_elim
            (λ is. absurd (omega (arith, ap (λ (b : Batch). b.number) is, same)))
            (λ is. ap (λ (b : Batch). replayed last.entries (replayed b.entries (settled (Some n)))) is
            ∙ twice (omega (arith, ap (λ (b : Batch). b.number) is, same)))
            (contains_two last o x has);
      }
    where
      -- both again
      twice : n + 1 ≡ last.number → replayed last.entries (replayed entries (settled (Some n))) ≡ settled (Some n)
      twice next =
          let is : first_entries last.number (Some n) entries ≡ entries = first_is last.number n entries next in
          let mid : CrashFile = replayed entries start in
          let gave : settled (Some n) ≡ replayed last.entries mid = ap (λ (l : List Entry). replayed last.entries (replayed l start)) is in
          ap (λ (s : CrashFile). replayed last.entries (replayed entries s)) gave
          ∙ cut_off last.entries mid (replayed entries (replayed last.entries mid))
          (subst (λ (s : CrashFile). SameOutside (IsPlace last.entries) s (replayed entries (replayed last.entries mid))) (again entries start)
          (agree (IsPlace last.entries) entries mid (replayed last.entries mid) (outside last.entries mid)))
          ∙ sym gave

-- each batch that was found is one of them
pub found_honest : (g : Shape) (image : CrashFile) (last : Batch) (before : Option ℕ) (entries : List Entry) → AreFound g image last before entries
    → IsHonest (found_batches last before entries) g image
found_honest g image last before entries finds a low = elim (cases_eq a (last.number % 2)) [
  | inl is ↦ subst (λ (o : Option Batch). IfSome o (λ x. Contains (found_batches last before entries) x)) (sym (ap (found g image) is ∙ finds.here))
      (has_last last before entries)
  | inr apart ↦
      let is : a ≡ (last.number + 1) % 2 = omega (arith, apart, low) in
      subst (λ (o : Option Batch). IfSome o (λ x. Contains (found_batches last before entries) x)) (sym (ap (found g image) is))
      (other_one before finds.other)
]
  where
    other_one : (b : Option ℕ) → IsBefore last.number b entries (found g image ((last.number + 1) % 2))
        → IfSome (found g image ((last.number + 1) % 2)) (λ x. Contains (found_batches last b entries) x)
    other_one None none = subst (λ (o : Option Batch). IfSome o (λ x. Contains (found_batches last None entries) x)) (sym none) tt
    other_one (Some n) (under, there) =
        subst (λ (o : Option Batch). IfSome o (λ x. Contains (found_batches last (Some n) entries) x)) (sym there) (has_other last n entries)

-- and each of them is in an area
pub found_in_areas : (g : Shape) (image : CrashFile) (last : Batch) (before : Option ℕ) (entries : List Entry) → AreFound g image last before entries
    → AreInAreas g image (found_batches last before entries)
found_in_areas g image last before entries finds x has = from before finds.other has
  where
    at : (a : ℕ) → a < 2 → found g image a ≡ Some x → (found g image 0 ≡ Some x) ⊎ (found g image 1 ≡ Some x)
    at a low there = elim (cases_eq a 0) [
      | inl is ↦ inl (subst (λ (k : ℕ). found g image k ≡ Some x) is there)
      | inr other ↦ let is : a ≡ 1 = omega (arith, other, low) in inr (subst (λ (k : ℕ). found g image k ≡ Some x) is there)
    ]

    as_last : x ≡ last → (found g image 0 ≡ Some x) ⊎ (found g image 1 ≡ Some x)
    as_last is = at (last.number % 2) (omega arith) (finds.here ∙ ap (λ (b : Batch). Some b) (sym is))

    from : (b : Option ℕ) → IsBefore last.number b entries (found g image ((last.number + 1) % 2)) → Contains (found_batches last b entries) x
        → (found g image 0 ≡ Some x) ⊎ (found g image 1 ≡ Some x)
    from None none has = as_last (contains_one last x has)
    from (Some n) (low, there) has = ⊎_elim as_last
        (λ is. at ((last.number + 1) % 2) (omega arith) (there ∙ ap (λ (b : Batch). Some b) (sym is)))
        (contains_two last (record { number = n; entries = entries }) x has)

-- ---- the file after it was opened

module _ (g : Shape) (image : CrashFile) (last : Batch) (before : Option ℕ) (entries : List Entry) (inside : IsInside g image)
    (finds : AreFound g image last before entries) where
  abbrev pub start : CrashFile
  start = replayed (first_entries last.number before entries) (kept_of g image)

  recovered_is : recovered g image ≡ replayed last.entries start
  recovered_is =
      ap (λ (l : List Entry). replayed l (kept_of g image)) (pending_is g image last before entries finds)
      ∙ both (first_entries last.number before entries) last.entries (kept_of g image)

  -- the blocks before the last batch are put in their places, but for its own
  module _ (new : CrashFile) (size : length new ≡ length image) (areas : (a : ℕ) → a < 2 → area_of g new a ≡ area_of g image a)
      (placed : SameOutside (IsPlace last.entries) start (kept_of g new)) where
    pub opened_settled : replayed last.entries (kept_of g new) ≡ recovered g image
    opened_settled = cut_off last.entries start (kept_of g new) placed ∙ sym recovered_is

    pub opened_stands : StandsFor g new last (replayed last.entries (kept_of g new))
    opened_stands = subst (StandsFor g new last) (sym (cut_off last.entries start (kept_of g new) placed)) (record {
      inside = inside_same g image new inside size;
      here = ap (λ (area : CrashFile). found_in area (last.number % 2)) (areas (last.number % 2) (omega arith)) ∙ finds.here;
      committed = now_committed last start (kept_of g new) placed;
    })

    pub opened_known : AreKnown (found_batches last before entries) last (replayed last.entries (kept_of g new))
    opened_known = subst (AreKnown (found_batches last before entries) last) (sym (cut_off last.entries start (kept_of g new) placed))
        (found_known last entries (kept_of g image) before (found g image ((last.number + 1) % 2)) finds.other)

-- ---- what a crash leaves meanwhile

pub wider : (S T : ℕ → Type 0) (image c : CrashFile) → ((n : ℕ) → S n → T n) → SameOutside S image c → SameOutside T image c
wider S T image c within same = record { size = same.size; same = λ n out. same.same n (λ there. out (within n there)) }

-- what agrees with an image but for what a replay sets stands for the same blocks
pub recovered_stays : (g : Shape) (image c : CrashFile) → IsInside g image → SameOutside (IsPending g image) image c → recovered g c ≡ recovered g image
recovered_stays g image c inside agrees =
    same ∙ cut_off all (kept_of g image) (kept_of g c) (kept_agrees g image c 0 all inside (omega arith) (within 0))
  where
    all : List Entry
    all = pending (found g image 0) (found g image 1)

    within : (torn : ℕ) → SameOutside (MayWrite g torn all) image c
    within torn = wider (IsPending g image) (MayWrite g torn all) image c (λ n there. inr there) agrees

    first : area_of g c 0 ≡ area_of g image 0
    first = same_area g image c 1 all inside (omega arith) (within 1) 0 (omega arith) (omega arith)

    second : area_of g c 1 ≡ area_of g image 1
    second = same_area g image c 0 all inside (omega arith) (within 0) 1 (omega arith) (omega arith)

    same : recovered g c ≡ replayed all (kept_of g c)
    same = λ i. replayed (pending (found_in (first i) 0) (found_in (second i) 1)) (kept_of g c)
