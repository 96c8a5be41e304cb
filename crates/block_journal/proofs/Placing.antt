-- What a write to an area, and one to a place, leaves of a journal's file.
use Rattle.std.proofs.Common.{◌≡◌, ◌≢◌, ◌⊎◌, inl, inr, ⊎_elim, ℕ, zero, suc, ◌+◌, ◌-◌, ◌%◌, ◌<◌, ◌≤◌, Bool, true, ◌&&◌, ◌==◌, if◌then◌else◌, List, [], ◌∷◌}
use Rattle.std.proofs.Common.{Some, None, length, take, slice_index, slice_set, refl, sym, ◌∙◌, ap, subst, arith, length-set}
use Rattle.std.proofs.lemmas.Bool.{cases_lt, eq-eqb}
use Rattle.std.proofs.lemmas.List.{drop_more, ext_get_or, get_or-set_other, set_past}
use Rattle.block_device.specs.Blocks.{CrashFile, block, run_of, with_run, InRun, SameOutside, BlockFile, IsSynced, SyncedOutside}
use Rattle.block_device.proofs.CrashFiles.{length-with_run, with_run_outside, with_run_inside}
use Rattle.block_batch.specs.Batch.{Entry, Batch, batch_in, count_in, is_batch, number_in, replayed, IsPlace}
use Rattle.block_batch.proofs.Larger.{larger_has, larger_same}
use Rattle.block_batch.proofs.Replay.{agree}
use Rattle.block_journal.specs.declared.shape.Shape.{Shape}
use Rattle.block_journal.specs.Layout.{area_start, kept_start, area_of, kept_of, found_in, IsInside}
use Rattle.block_journal.specs.Journal.{InRunOrKept, MayWrite}
use Rattle.block_journal.specs.Entries.{entries_in}
use Rattle.block_journal.proofs.Crash.{area_before_kept, areas_apart, block_of_run, length-run_of, run_same}
use Rattle.block_journal.proofs.Entries.{replayed_more}

-- before the first write
pub synced_all : (S : ℕ → Type 0) (file : BlockFile) → IsSynced file → SyncedOutside S file.content file
synced_all S file synced = record { content = record { size = refl; same = λ n out. refl }; synced = λ n out. synced n }

pub inside_same : (g : Shape) (image other : CrashFile) → IsInside g image → length other ≡ length image → IsInside g other
inside_same g image other inside size = record { some = inside.some; few = inside.few; room = omega (arith, inside.room, size) }

-- whether a block is one of a run
decide_run : (first count n : ℕ) → InRun first count n ⊎ (¬ InRun first count n)
decide_run first count n = elim (cases_lt n first) [
  | inl below ↦ inr (λ within. omega (arith, below, within.0))
  | inr from ↦ elim (cases_lt n (first + count)) [
    | inl under ↦ inl (from, under)
    | inr past ↦ inr (λ within. omega (arith, past, within.1))
  ]
]

module _ (g : Shape) (image : CrashFile) (inside : IsInside g image) where
  pub length-area : (a : ℕ) → a < 2 → length (area_of g image a) ≡ g.area
  length-area a low = length-run_of image (area_start g a) g.area (omega (arith, inside.room, area_before_kept g a low))

  pub length-kept : length (kept_of g image) ≡ g.kept
  length-kept = length-run_of image (kept_start g) g.kept inside.room

  -- ---- blocks are written to an area

  module _ (a : ℕ) (run : CrashFile) (low : a < 2) (short : length run ≤ g.area) where
    pub in_area : (entries : List Entry) (n : ℕ) → InRun (area_start g a) (length run) n → MayWrite g a entries n
    in_area entries n there = inl (there.0, omega (arith, there.1, short))

    pub area_kept : kept_of g (with_run image (area_start g a) run) ≡ kept_of g image
    area_kept = run_same image (with_run image (area_start g a) run) (kept_start g) g.kept inside.room (length-with_run image (area_start g a) run)
        (λ n within. with_run_outside image (area_start g a) run n
        (λ there. omega (arith, within.0, there.1, short, area_before_kept g a low)))

    pub area_other : (b : ℕ) → b < 2 → b ≢ a → area_of g (with_run image (area_start g a) run) b ≡ area_of g image b
    area_other b below apart = run_same image (with_run image (area_start g a) run) (area_start g b) g.area
        (omega (arith, inside.room, area_before_kept g b below)) (length-with_run image (area_start g a) run)
        (λ n within. with_run_outside image (area_start g a) run n
        (λ there. areas_apart g b a n below low apart within (there.0, omega (arith, there.1, short))))

    pub area_has : (i : ℕ) → i < length run → block (area_of g (with_run image (area_start g a) run) a) i ≡ block run i
    area_has i below =
        block_of_run (with_run image (area_start g a) run) (area_start g a) g.area i (omega (arith, below, short))
        ∙ with_run_inside image (area_start g a) run i (area_start g a + i) refl below
        (omega (arith, below, short, inside.room, area_before_kept g a low))

  -- ---- blocks are written to their places, one behind the other

  module _ (place : ℕ) (run : CrashFile) (low : place + length run ≤ g.kept) where
    abbrev after : CrashFile
    after = with_run image (kept_start g + place) run

    pub in_places : (first count : ℕ) (all : List Entry) → ((k : ℕ) → k < length run → IsPlace all (place + k)) → (n : ℕ)
        → InRun (kept_start g + place) (length run) n → InRunOrKept g first count all n
    in_places first count all there n within =
        let k : ℕ = n - (kept_start g + place) in
        inr (place + k, there k (omega (arith, within.0, within.1)), omega (arith, within.0))

    pub places_areas : (a : ℕ) → a < 2 → area_of g after a ≡ area_of g image a
    places_areas a below = run_same image after (area_start g a) g.area
        (omega (arith, inside.room, area_before_kept g a below)) (length-with_run image (kept_start g + place) run)
        (λ n within. with_run_outside image (kept_start g + place) run n
        (λ there. omega (arith, within.1, there.0, area_before_kept g a below)))

    kept_after : length (kept_of g after) ≡ g.kept
    kept_after = length-run_of after (kept_start g) g.kept (omega (arith, inside.room, length-with_run image (kept_start g + place) run))

    block_after : (n : ℕ) → n < g.kept → block (kept_of g after) n ≡ block (with_run (kept_of g image) place run) n
    block_after n below = block_of_run after (kept_start g) g.kept n below ∙ elim (decide_run place (length run) n) [
      | inl here ↦
          let i : ℕ = n - place in
          with_run_inside image (kept_start g + place) run i (kept_start g + n) (omega (arith, here.0)) (omega (arith, here.0, here.1))
          (omega (arith, inside.room, below))
          ∙ sym (with_run_inside (kept_of g image) place run i n (omega (arith, here.0)) (omega (arith, here.0, here.1)) (omega (arith, below, length-kept)))
      | inr out ↦
          with_run_outside image (kept_start g + place) run (kept_start g + n) (λ there. out (omega (arith, there.0), omega (arith, there.1)))
          ∙ sym (block_of_run image (kept_start g) g.kept n below)
          ∙ sym (with_run_outside (kept_of g image) place run n out)
    ]

    pub places_kept : kept_of g (with_run image (kept_start g + place) run) ≡ with_run (kept_of g image) place run
    places_kept = ext_get_or [] (kept_of g after) (with_run (kept_of g image) place run)
        (kept_after ∙ sym (length-with_run (kept_of g image) place run ∙ length-kept))
        (λ n below. block_after n (omega (arith, below, kept_after)))

-- ---- the batch of an area

pub found_is : (area : CrashFile) (a : ℕ) → is_batch area ≡ true → number_in area % 2 ≡ a → found_in area a ≡ Some (batch_in area)
found_is area a is parity = chosen (is_batch area) (number_in area % 2 == a) (batch_in area) is (eq-eqb (number_in area % 2) a parity)
  where
    chosen : (x y : Bool) (b : Batch) → x ≡ true → y ≡ true → (if x && y then Some b else None) ≡ Some b
    chosen x y b p q = λ i. if p i && q i then Some b else None

-- an area that begins with the blocks of a batch has it
pub sealed_found : (sealed area : CrashFile) (count a : ℕ) (next : Batch) → length sealed ≤ length area → is_batch sealed ≡ true
    → batch_in sealed ≡ next → count_in sealed ≡ count → ((n : ℕ) → n ≤ count → block area n ≡ block sealed n) → next.number % 2 ≡ a
    → found_in area a ≡ Some next
sealed_found sealed area count a next le is same counted blocks parity =
    found_is area a (larger_has sealed area le all is) (ap (λ (b : Batch). b.number % 2) now ∙ parity)
    ∙ ap (λ (b : Batch). Some b) now
  where
    all : (n : ℕ) → n ≤ count_in sealed → block area n ≡ block sealed n
    all n low = blocks n (omega (arith, low, counted))

    now : batch_in area ≡ next
    now = larger_same sealed area le all ∙ same

-- ---- the blocks of a batch are put in their places, one after the other

-- a place is passed over: it is behind the kept blocks, or the others have it
pub passed_over : (kept : CrashFile) (place : ℕ) (bytes : List ℕ) (others : List Entry) → (length kept ≤ place) ⊎ IsPlace others place
    → SameOutside (IsPlace others) (slice_set kept place bytes) kept
passed_over kept place bytes others why = record { size = sym (length-set kept place bytes); same = λ n out. sym (stays n out) }
  where
    stays : (n : ℕ) → ¬ IsPlace others n → block (slice_set kept place bytes) n ≡ block kept n
    stays n out = ⊎_elim
        (λ past. ap (λ (l : CrashFile). block l n) (set_past kept place bytes past))
        (λ there. get_or-set_other kept place n bytes [] (λ same. out (subst (IsPlace others) (sym same) there)))
        why

pub same_then : (S : ℕ → Type 0) (a b c : CrashFile) → SameOutside S a b → SameOutside S b c → SameOutside S a c
same_then S a b c first second = record { size = second.size ∙ first.size; same = λ n out. second.same n out ∙ first.same n out }

-- one block more is in its place, or was passed over
pub one_placed : (area : CrashFile) (places : List ℕ) (i : ℕ) (others : List Entry) (start kept new : CrashFile)
    → SameOutside (IsPlace others) (replayed (entries_in area places i) start) kept
    → SameOutside (IsPlace others) (slice_set kept (slice_index places i) (block area (1 + i))) new
    → SameOutside (IsPlace others) (replayed (entries_in area places (i + 1)) start) new
one_placed area places i others start kept new so_far step = subst (λ (all : CrashFile). SameOutside (IsPlace others) all new)
    (sym (replayed_more area places i start))
    (same_then (IsPlace others) (slice_set (replayed (entries_in area places i) start) (slice_index places i) (block area (1 + i)))
    (slice_set kept (slice_index places i) (block area (1 + i))) new
    (agree (IsPlace others) (record { place = slice_index places i; bytes = block area (1 + i) } ∷ []) (replayed (entries_in area places i) start) kept so_far)
    step)

-- the first block of a run
run_more_left : (image : CrashFile) (first count : ℕ) → first < length image
    → run_of image first (suc count) ≡ block image first ∷ run_of image (first + 1) count
run_more_left image first count below = ap (take (suc count)) (drop_more image first [] below)

-- and one more is passed over
pub one_passed : (area : CrashFile) (places : List ℕ) (i : ℕ) (others : List Entry) (start kept : CrashFile)
    → (length kept ≤ slice_index places i) ⊎ IsPlace others (slice_index places i)
    → SameOutside (IsPlace others) (replayed (entries_in area places i) start) kept
    → SameOutside (IsPlace others) (replayed (entries_in area places (i + 1)) start) kept
one_passed area places i others start kept why so_far =
    one_placed area places i others start kept kept so_far (passed_over kept (slice_index places i) (block area (1 + i)) others why)

-- a run of them is in its places, one behind the other
pub run_placed : (area : CrashFile) (places : List ℕ) (count i first : ℕ) (others : List Entry) (start kept : CrashFile)
    → 1 + i + count ≤ length area → ((k : ℕ) → k < count → slice_index places (i + k) ≡ first + k)
    → SameOutside (IsPlace others) (replayed (entries_in area places i) start) kept
    → SameOutside (IsPlace others) (replayed (entries_in area places (i + count)) start) (with_run kept first (run_of area (1 + i) count))
run_placed area places zero i first others start kept room each so_far =
    let at : i ≡ i + zero = omega arith in
    subst (λ (n : ℕ). SameOutside (IsPlace others) (replayed (entries_in area places n) start) kept) at so_far
run_placed area places (suc count) i first others start kept room each so_far =
    let bytes : List ℕ = block area (1 + i) in
    let at_0 : i ≡ i + 0 = omega arith in
    let is_0 : first + 0 ≡ first = omega arith in
    let here : slice_index places i ≡ first = ap (slice_index places) at_0 ∙ each 0 (omega arith) ∙ is_0 in
    let behind : (k : ℕ) → k < count → slice_index places (i + 1 + k) ≡ first + 1 + k = λ k below.
    let at_k : i + 1 + k ≡ i + (k + 1) = omega arith in
    let is_k : first + (k + 1) ≡ first + 1 + k = omega arith in
    ap (slice_index places) at_k ∙ each (k + 1) (omega (arith, below)) ∙ is_k in
    let step : SameOutside (IsPlace others) (replayed (entries_in area places (i + 1)) start) (slice_set kept first bytes) =
    one_placed area places i others start kept (slice_set kept first bytes) so_far
    (subst (λ (p : ℕ). SameOutside (IsPlace others) (slice_set kept p bytes) (slice_set kept first bytes)) (sym here)
    (record { size = refl; same = λ n out. refl })) in
    let rest = run_placed area places count (i + 1) (first + 1) others start (slice_set kept first bytes) (omega (arith, room)) behind
    step in
    let next : 1 + i + 1 ≡ 1 + (i + 1) = omega arith in
    let runs : run_of area (1 + i) (suc count) ≡ bytes ∷ run_of area (1 + (i + 1)) count =
    run_more_left area (1 + i) count (omega (arith, room)) ∙ ap (λ (n : ℕ). bytes ∷ run_of area n count) next in
    let at : i + 1 + count ≡ i + suc count = omega arith in
    subst (λ (r : CrashFile). SameOutside (IsPlace others) (replayed (entries_in area places (i + suc count)) start) (with_run kept first r)) (sym runs)
    (subst (λ (n : ℕ). SameOutside (IsPlace others) (replayed (entries_in area places n) start)
    (with_run (slice_set kept first bytes) (first + 1) (run_of area (1 + (i + 1)) count))) at rest)
