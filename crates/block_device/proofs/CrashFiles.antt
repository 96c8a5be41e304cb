-- CrashFiles, and runs of blocks in them.
use Rattle.std.proofs.Common.{◌≡◌, ◌≢◌, inl, inr, ⊎_elim, ℕ, zero, suc, ◌+◌, ◌<◌, ◌≤◌, Bool, true, false, ◌||◌, List, [], ◌∷◌, ◌++◌, length, take, drop}
use Rattle.std.proofs.Common.{replicate, slice_set, slice_index_or, refl, sym, ◌∙◌, ap, subst, arith, length-set}
use Rattle.std.proofs.Math.Path.{fun_ext}
use Rattle.std.proofs.lemmas.Bool.{cases_eq, cases_lt}
use Rattle.std.proofs.lemmas.Bool.Decides.{nat_tests}
use Rattle.std.proofs.lemmas.List.{get_or-set_other, ext_get_or, get_or_past, drop_more, drop_all, take_all, append-nil}
use Rattle.std.proofs.lemmas.Grind.{get_or-set_at}
use Rattle.std.proofs.Math.ListN.{length-replicate, get_or-replicate}
use Rattle.block_device.specs.Blocks.{CrashFile, block, IsBlock, IsWhole, zero_block, with_run, InRun}
use Rattle.block_device.specs.Blocks.{is_in_run, BlockFile, after_write, after_sync, IsSynced, IsCrashFile}
use Rattle.block_device.specs.Blocks.{SameOutside, SyncedOutside}

-- ---- one block

pub set_whole : (image : CrashFile) (n : ℕ) (bytes : List ℕ) → IsBlock bytes → IsWhole image → IsWhole (slice_set image n bytes)
set_whole image n bytes all whole k below = elim (cases_eq k n) [
  | inl same ↦ subst IsBlock (sym (get_or-set_at image n k bytes [] same (omega (arith, below, same, length-set image n bytes)))) all
  | inr other ↦ subst IsBlock (sym (get_or-set_other image n k bytes [] other)) (whole k (omega (arith, below, length-set image n bytes)))
]

filled : (n : ℕ) → n ≡ 4096 → IsBlock (replicate n 0)
filled n is = record {
  size = length-replicate n 0 ∙ is;
  are_bytes = λ i. ⊎_elim (λ below. rw (get_or-replicate {A = ℕ} n i 0 0 below) (omega arith)) (λ past.
      rw (get_or_past {X = ℕ} (replicate n 0) i 0 (omega (arith, past, length-replicate {A = ℕ} n 0))) (omega arith)) (cases_lt i n);
}

zeros_are_block : IsBlock zero_block
unfolding zero_block
zeros_are_block = filled 4096 refl

pub zeros_are_whole : (n : ℕ) → IsWhole (replicate n zero_block)
zeros_are_whole n k below = subst IsBlock (sym (get_or-replicate n k zero_block [] (omega (arith, below, length-replicate n zero_block)))) zeros_are_block

-- ---- a run

pub length-with_run : (image : CrashFile) (first : ℕ) (run : CrashFile) → length (with_run image first run) ≡ length image
length-with_run image first [] = refl
length-with_run image first (bytes ∷ run) = length-with_run (slice_set image first bytes) (first + 1) run ∙ length-set image first bytes

-- the blocks outside a run stay
pub with_run_outside : (image : CrashFile) (first : ℕ) (run : CrashFile) (n : ℕ) → ¬ InRun first (length run) n
    → block (with_run image first run) n ≡ block image n
with_run_outside image first [] n out = refl
with_run_outside image first (bytes ∷ run) n out =
    with_run_outside (slice_set image first bytes) (first + 1) run n (λ within. out (omega (arith, within.0), omega (arith, within.1)))
    ∙ get_or-set_other image first n bytes [] (λ same. out (omega (arith, same), omega (arith, same)))

-- and those within it are its own
pub with_run_inside : (image : CrashFile) (first : ℕ) (run : CrashFile) (i n : ℕ) → n ≡ first + i → i < length run → n < length image
    → block (with_run image first run) n ≡ block run i
with_run_inside image first [] i n is below room = absurd (omega (arith, below))
with_run_inside image first (bytes ∷ run) zero n is below room =
    with_run_outside (slice_set image first bytes) (first + 1) run n (λ within. omega (arith, within.0, is))
    ∙ get_or-set_at image first n bytes [] (omega (arith, is)) (omega (arith, is, room))
with_run_inside image first (bytes ∷ run) (suc i) n is below room =
    with_run_inside (slice_set image first bytes) (first + 1) run i n (omega (arith, is)) (omega (arith, below))
    (omega (arith, room, length-set image first bytes))

-- a run of a loop: what is left of it, put over what is there, gives the same
pub run_more : (image now : CrashFile) (first i : ℕ) (run : CrashFile) → i < length run → with_run now (first + i) (drop i run) ≡ image
    → with_run (slice_set now (first + i) (block run i)) (first + (i + 1)) (drop (i + 1) run) ≡ image
run_more image now first i run below is =
    ap (λ n. with_run (slice_set now (first + i) (block run i)) n (drop (i + 1) run)) next
    ∙ sym (ap (with_run now (first + i)) (drop_more run i [] below)) ∙ is
  where
    next : first + (i + 1) ≡ first + i + 1
    next = omega arith

pub run_all : (image now : CrashFile) (first i : ℕ) (run : CrashFile) → length run ≤ i → with_run now (first + i) (drop i run) ≡ image → now ≡ image
run_all image now first i run past is = sym (ap (with_run now (first + i)) (drop_all i run past)) ∙ is

-- whether a block is in a run, and in one of a block more
in_run_none : (first n : ℕ) → is_in_run first 0 n ≡ false
in_run_none first n = grind (arith, nat_tests)

in_run_last : (first i n : ℕ) → n ≡ first + i → is_in_run first (i + 1) n ≡ true
in_run_last first i n is = grind (arith, nat_tests)

in_run_more : (first i n : ℕ) → n ≢ first + i → is_in_run first (i + 1) n ≡ is_in_run first i n
in_run_more first i n other = grind (arith, nat_tests)

pub mark_none : (first n : ℕ) (was : Bool) → was ≡ (is_in_run first 0 n || was)
mark_none first n was = ap (λ b. b || was) (sym (in_run_none first n))

pub mark_more : (marks : List Bool) (first i n : ℕ) (was : Bool) → first + i < length marks → slice_index_or marks n false ≡ (is_in_run first i n || was)
    → slice_index_or (slice_set marks (first + i) true) n false ≡ (is_in_run first (i + 1) n || was)
mark_more marks first i n was room is = elim (cases_eq n (first + i)) [
  | inl same ↦ get_or-set_at marks (first + i) n true false same room ∙ sym (ap (λ b. b || was) (in_run_last first i n same))
  | inr other ↦ get_or-set_other marks (first + i) n true false other ∙ is ∙ sym (ap (λ b. b || was) (in_run_more first i n other))
]

-- ---- a file in memory, by its lists

pub written : (content now : CrashFile) (loose marks : List Bool) (first : ℕ) (run : CrashFile) → now ≡ with_run content first run
    → ((n : ℕ) → slice_index_or marks n false ≡ (is_in_run first (length run) n || slice_index_or loose n false))
    → Path BlockFile (record { content = now; loose = λ n. slice_index_or marks n false })
    (after_write (record { content = content; loose = λ n. slice_index_or loose n false }) first run)
written content now loose marks first run is flags = λ i. record { content = is i; loose = flagged i }
  where
    flagged : Path (ℕ → Bool) (λ n. slice_index_or marks n false) (λ n. is_in_run first (length run) n || slice_index_or loose n false)
    flagged = fun_ext flags

pub no_flag : (n k : ℕ) → slice_index_or (replicate n false) k false ≡ false
no_flag zero k = refl
no_flag (suc n) zero = refl
no_flag (suc n) (suc k) = no_flag n k

pub settled : (content now : CrashFile) (loose marks : List Bool) (n : ℕ) → now ≡ content → marks ≡ replicate n false
    → Path BlockFile (record { content = now; loose = λ k. slice_index_or marks k false })
    (after_sync (record { content = content; loose = λ k. slice_index_or loose k false }))
settled content now loose marks n is none = λ i. record { content = is i; loose = flagged i }
  where
    flagged : Path (ℕ → Bool) (λ k. slice_index_or marks k false) (λ k. false)
    flagged = fun_ext (λ k. ap (λ l. slice_index_or l k false) none ∙ no_flag n k)

-- what a slice of a whole list is after writes to it
pub written_back : {X : Type 0} (new old : List X) (n : ℕ) → length new ≡ length old → n ≡ length old → take n (new ++ drop (length new) old) ≡ new
written_back {X} new old n same size =
    ap (λ (l : List X). take n (new ++ l)) (drop_all (length new) old (omega (arith, same)))
    ∙ ap (λ (l : List X). take n l) (append-nil new)
    ∙ take_all n new (omega (arith, same, size))

-- ---- crash images

-- a content is one of its own crash images
pub content_is_image : (file : BlockFile) → IsWhole file.content → IsCrashFile file file.content
content_is_image file whole = record { size = refl; kept = λ k is. refl; torn = λ k below is. whole k below }

-- each block of a crash image has its 4,096 bytes
pub image_is_whole : (file : BlockFile) (c : CrashFile) → IsWhole file.content → IsCrashFile file c → IsWhole c
image_is_whole file c whole crash k below = go (file.loose k) refl
  where
    go : (is : Bool) → file.loose k ≡ is → IsBlock (block c k)
    go true is = crash.torn k below is
    go false is = subst IsBlock (sym (crash.kept k is)) (whole k (omega (arith, below, crash.size)))

-- with no loose block a crash leaves the content
pub crash_synced : (file : BlockFile) (c : CrashFile) → IsSynced file → IsCrashFile file c → c ≡ file.content
crash_synced file c all crash = ext_get_or [] c file.content crash.size (λ k below. crash.kept k (all k))

-- a crash leaves the image outside S
pub crash_outside : (S : ℕ → Type 0) (image : CrashFile) (file : BlockFile) (c : CrashFile) → SyncedOutside S image file → IsCrashFile file c
    → SameOutside S image c
crash_outside S image file c held crash = record {
  size = crash.size ∙ held.content.size;
  same = λ k out. crash.kept k (held.synced k out) ∙ held.content.same k out;
}

-- a write of a run within S
pub written_outside : (S : ℕ → Type 0) (image : CrashFile) (file : BlockFile) (first : ℕ) (run : CrashFile) → ((n : ℕ) → InRun first (length run) n → S n)
    → SyncedOutside S image file → SyncedOutside S image (after_write file first run)
written_outside S image file first run within held = record {
  content = record {
    size = length-with_run file.content first run ∙ held.content.size;
    same = λ k out. with_run_outside file.content first run k (λ inside. out (within k inside)) ∙ held.content.same k out;
  };
  synced = λ k out. not_marked k (λ inside. out (within k inside)) (held.synced k out);
}
  where
    not_marked : (k : ℕ) → ¬ InRun first (length run) k → file.loose k ≡ false → (is_in_run first (length run) k || file.loose k) ≡ false
    not_marked k out synced = elim (cases_lt k first) [
      | inl before ↦ grind (arith, nat_tests, before, synced)
      | inr from ↦ elim (cases_lt k (first + length run)) [
        | inl inside ↦ absurd (out (from, inside))
        | inr behind ↦ grind (arith, nat_tests, from, behind, synced)
      ]
    ]

-- a sync
pub synced_outside : (S : ℕ → Type 0) (image : CrashFile) (file : BlockFile) → SyncedOutside S image file → SyncedOutside S image (after_sync file)
synced_outside S image file held = record { content = held.content; synced = λ k out. refl }
