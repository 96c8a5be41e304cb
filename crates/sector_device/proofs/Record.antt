-- What one call more makes of a disk in memory and its record.
use Rattle.std.proofs.Common.{◌≡◌, inl, inr, ⊎_elim, ℕ, zero, suc, ◌+◌, ◌<◌, ◌≤◌, nat_lt, nat_le, if◌then◌else◌, Bool, true, false, ◌||◌, ◌==◌, List, [], ◌∷◌}
use Rattle.std.proofs.Common.{◌++◌, length, take, drop, replicate, slice_set, slice_index, slice_index_or, refl, sym, ◌∙◌, ap, subst, arith, add-one}
use Rattle.std.proofs.Common.{length-set, length-append}
use Rattle.std.specs.List.{count_by}
use Rattle.std.proofs.Math.Path.{fun_ext}
use Rattle.std.proofs.lemmas.Bool.{cases_lt, cases_eq}
use Rattle.std.proofs.lemmas.Bool.Decides.{nat_tests}
use Rattle.std.proofs.lemmas.List.{take_all, drop_all, append-nil, get_or_past, take-append-le, get_or-set_other}
use Rattle.std.proofs.lemmas.List.Sums.{count_by-le-length, sum_by-cons}
use Rattle.std.proofs.lemmas.Grind.{get_or-set_at}
use Rattle.std.proofs.Math.ListN.{length-replicate, get_or-replicate}
use Rattle.sector_device.specs.declared.call.Call.{Call}
use Rattle.sector_device.specs.declared.call.Call.TheVariants.{Write, Sync}
use Rattle.sector_device.specs.Disk.{CrashState, sector, IsSector, IsDiskWhole, Disk, after_write, after_sync}
use Rattle.sector_device.specs.DevicePast.{Elapses}
use Rattle.sector_device.specs.Values.{zero_sector}
use Rattle.sector_device.specs.Memory.{MemoryState, initial_state, step, state_after, disk_of, memory_past, unsynced_since, Represents}

-- ---- the record

pub state_after-push : (s : MemoryState) (calls : List Call) (call : Call) → state_after s (calls ++ call ∷ []) ≡ step (state_after s calls) call
state_after-push s [] call = refl
state_after-push s (c ∷ calls) call = state_after-push (step s c) calls call

past : CrashState → List Call → Disk
past first calls = disk_of (state_after (initial_state first) calls)

module _ (first : CrashState) (calls later : List Call) (whole : IsDiskWhole (state_after (initial_state first) calls).content)
    (later_whole : IsDiskWhole (state_after (initial_state first) later).content) where
  -- no time passes
  pub elapses_same : later ≡ calls → Elapses (memory_past first calls whole) (memory_past first later later_whole)
  elapses_same is = record {
    later = omega (arith, ap length is);
    kept = λ t le. ap (λ (l : List Call). disk_of (state_after (initial_state first) (take t l))) is;
    during = λ t from to. inl (ap (λ (l : List Call). disk_of (state_after (initial_state first) (take t l))) is
        ∙ ap (λ (l : List Call). disk_of (state_after (initial_state first) l)) (take_all t calls from));
  }

  -- time goes on by a call
  pub elapses_push : (call : Call) → later ≡ calls ++ call ∷ [] → Elapses (memory_past first calls whole) (memory_past first later later_whole)
  elapses_push call is = record {
    later = omega (arith, size);
    kept = earlier;
    during = λ t from to. ⊎_elim
        (λ before. inl (earlier t (omega arith) ∙ ap (λ (l : List Call). disk_of (state_after (initial_state first) l)) (take_all t calls from)))
        (λ after. inr (ap (λ (l : List Call). disk_of (state_after (initial_state first) l)) (take_all t later (omega (arith, after, size)))))
        (cases_lt t (length calls + 1));
  }
    where
      size : length later ≡ length calls + 1
      size = ap length is ∙ length-append calls (call ∷ [])

      earlier : (t : ℕ) → t ≤ length calls → disk_of (state_after (initial_state first) (take t later))
          ≡ disk_of (state_after (initial_state first) (take t calls))
      earlier t le = ap (λ (l : List Call). disk_of (state_after (initial_state first) (take t l))) is
          ∙ ap (λ (l : List Call). disk_of (state_after (initial_state first) l)) (take-append-le t calls (call ∷ []) le)

-- ---- which sectors are unsynced

pub length-unsynced : (synced_at : ℕ) (written_at : List ℕ) → length (unsynced_since synced_at written_at) ≡ length written_at
length-unsynced synced_at [] = refl
length-unsynced synced_at (at ∷ written_at) = ap suc (length-unsynced synced_at written_at)

pub is_unsynced : (synced_at : ℕ) (written_at : List ℕ) (k : ℕ) → k < length written_at → synced_at < slice_index written_at k
    → slice_index_or (unsynced_since synced_at written_at) k false ≡ true
is_unsynced synced_at [] k below after = absurd (omega (arith, below))
is_unsynced synced_at (at ∷ written_at) zero below after = grind (arith, nat_tests, after)
is_unsynced synced_at (at ∷ written_at) (suc k) below after = is_unsynced synced_at written_at k (omega (arith, below)) after

pub is_synced : (synced_at : ℕ) (written_at : List ℕ) (k : ℕ) → slice_index written_at k ≤ synced_at
    → slice_index_or (unsynced_since synced_at written_at) k false ≡ false
is_synced synced_at [] k before = refl
is_synced synced_at (at ∷ written_at) zero before = grind (arith, nat_tests, before)
is_synced synced_at (at ∷ written_at) (suc k) before = is_synced synced_at written_at k before

pub unsynced-set : (synced_at : ℕ) (written_at : List ℕ) (n now : ℕ) → synced_at < now
    → unsynced_since synced_at (slice_set written_at n now) ≡ slice_set (unsynced_since synced_at written_at) n true
unsynced-set synced_at [] n now after = refl
unsynced-set synced_at (at ∷ written_at) zero now after = ap (λ (b : Bool). b ∷ unsynced_since synced_at written_at) (grind (arith, nat_tests, after))
unsynced-set synced_at (at ∷ written_at) (suc n) now after = ap (λ (l : List Bool). nat_lt synced_at at ∷ l) (unsynced-set synced_at written_at n now after)

pub none_unsynced : (synced_at : ℕ) (written_at : List ℕ) → ((k : ℕ) → slice_index written_at k ≤ synced_at)
    → unsynced_since synced_at written_at ≡ replicate (length written_at) false
none_unsynced synced_at [] before = refl
none_unsynced synced_at (at ∷ written_at) before =
    ap (λ (b : Bool). b ∷ unsynced_since synced_at written_at) (let le : at ≤ synced_at = before 0 in grind (arith, nat_tests, le))
    ∙ ap (λ (l : List Bool). false ∷ l) (none_unsynced synced_at written_at (λ k. before (suc k)))

pub no_flag : (n k : ℕ) → slice_index_or (replicate n false) k false ≡ false
no_flag zero k = refl
no_flag (suc n) zero = refl
no_flag (suc n) (suc k) = no_flag n k

flag_set : (flags : List Bool) (n k : ℕ) → n < length flags → slice_index_or (slice_set flags n true) k false ≡ ((k == n) || slice_index_or flags k false)
flag_set flags n k below = elim (cases_eq k n) [
  | inl is ↦ grind (arith, nat_tests, is, get_or-set_at flags n k true false is below)
  | inr other ↦ grind (arith, nat_tests, other, get_or-set_other flags n k true false other)
]

-- ---- the room that is kept for failed writes

-- how many sectors are synced
abbrev pub synced_count : ℕ → List ℕ → ℕ
synced_count synced_at written_at = count_by (λ at. nat_le at synced_at) written_at

pub synced_count_at_most : (synced_at : ℕ) (written_at : List ℕ) → synced_count synced_at written_at ≤ length written_at
synced_count_at_most synced_at written_at = count_by-le-length (λ at. nat_le at synced_at) written_at

-- one fewer after a write of a sector that was synced
pub synced_count-set : (synced_at : ℕ) (written_at : List ℕ) (n now : ℕ) → n < length written_at → slice_index written_at n ≤ synced_at → synced_at < now
    → synced_count synced_at (slice_set written_at n now) + 1 ≡ synced_count synced_at written_at
synced_count-set synced_at [] n now below own after = absurd (omega (arith, below))
synced_count-set synced_at (at ∷ written_at) zero now below own after =
    let no_more : nat_le now synced_at ≡ false = grind (arith, nat_tests, after) in
    let before : nat_le at synced_at ≡ true = grind (arith, nat_tests, own) in
    rw (sum_by-cons, sum_by-cons, no_more, before) (omega arith)
synced_count-set synced_at (at ∷ written_at) (suc n) now below own after =
    let rest = synced_count-set synced_at written_at n now (omega (arith, below)) own after in
    omega (
      arith,
      sum_by-cons (λ at. if nat_le at synced_at then 1 else 0) at written_at,
      sum_by-cons (λ at. if nat_le at synced_at then 1 else 0) at (slice_set written_at n now),
      rest,
    )

-- ---- one call more

module _ (s : MemoryState) (calls : ℕ) (content before : CrashState) (written_at : List ℕ) (synced_at : ℕ)
    (represents : Represents s calls content before written_at synced_at) where
  sizes : length s.content ≡ length content
  sizes = ap length represents.content_is

  flags : length s.unsynced ≡ length content
  flags = ap length represents.unsynced_is ∙ length-unsynced synced_at written_at ∙ represents.written_size

  pub represents_write : (n : ℕ) (bytes old : List ℕ) (now : ℕ) → n < length content → IsSector bytes → old ≡ sector s.synced n → now ≡ calls + 1
      → Represents (step s (Write n bytes)) (calls + 1) (slice_set content n bytes) (slice_set before n old) (slice_set written_at n now) synced_at
  represents_write n bytes old now below all_bytes is_old is_now = record {
    content_is = ap (λ (c : CrashState). slice_set c n bytes) represents.content_is;
    unsynced_is = ap (λ (f : List Bool). slice_set f n true) represents.unsynced_is
        ∙ sym (unsynced-set synced_at written_at n now (omega (arith, represents.last_sync, is_now)));
    before_is = kept;
    same = same;
    before_size = length-set before n old ∙ represents.before_size ∙ sym (length-set content n bytes);
    written_size = length-set written_at n now ∙ represents.written_size ∙ sym (length-set content n bytes);
    last_sync = omega (arith, represents.last_sync);
    last_writes = last_writes;
    whole = whole;
    synced_whole = λ k lt. represents.synced_whole k (omega (arith, lt, length-set s.content n bytes));
  }
    where
      kept : (k : ℕ) → slice_index_or (slice_set s.unsynced n true) k false ≡ true → sector s.synced k ≡ sector (slice_set before n old) k
      kept k is = elim (cases_eq k n) [
        | inl equal ↦ ap (sector s.synced) equal ∙ sym is_old ∙ sym (get_or-set_at before n k old [] equal (omega (arith, below, represents.before_size)))
        | inr other ↦ represents.before_is k (sym (get_or-set_other s.unsynced n k true false other) ∙ is) ∙ sym (get_or-set_other before n k old [] other)
      ]

      same : (k : ℕ) → slice_index_or (slice_set s.unsynced n true) k false ≡ false → sector s.synced k ≡ sector (slice_set content n bytes) k
      same k is = elim (cases_eq k n) [
        | inl equal ↦ let set = get_or-set_at s.unsynced n k true false equal (omega (arith, below, flags)) in absurd (cc (set, is))
        | inr other ↦ represents.same k (sym (get_or-set_other s.unsynced n k true false other) ∙ is) ∙ sym (get_or-set_other content n k bytes [] other)
      ]

      last_writes : (k : ℕ) → slice_index (slice_set written_at n now) k ≤ calls + 1
      last_writes k = elim (cases_eq k n) [
        | inl equal ↦ let set = get_or-set_at written_at n k now 0 equal (omega (arith, below, represents.written_size)) in omega (arith, set, is_now)
        | inr other ↦ let set = get_or-set_other written_at n k now 0 other in omega (arith, set, represents.last_writes k)
      ]

      whole : IsDiskWhole (slice_set s.content n bytes)
      whole k lt = elim (cases_eq k n) [
        | inl equal ↦ subst IsSector (sym (get_or-set_at s.content n k bytes [] equal (omega (arith, below, sizes)))) all_bytes
        | inr other ↦ subst IsSector (sym (get_or-set_other s.content n k bytes [] other))
            (represents.whole k (omega (arith, lt, length-set s.content n bytes)))
      ]

  pub represents_sync : (now : ℕ) → now ≡ calls + 1 → Represents (step s Sync) (calls + 1) content before written_at now
  represents_sync now is_now = record {
    content_is = represents.content_is;
    unsynced_is = sym (none_unsynced now written_at (λ k. omega (arith, represents.last_writes k, is_now))
        ∙ ap (λ (n : ℕ). replicate n false) (represents.written_size ∙ sym sizes));
    before_is = λ k is. absurd (let none = no_flag (length s.content) k in cc (none, is));
    same = λ k is. ap (λ (c : CrashState). sector c k) represents.content_is;
    before_size = represents.before_size;
    written_size = represents.written_size;
    last_sync = omega (arith, is_now);
    last_writes = λ k. omega (arith, represents.last_writes k);
    whole = represents.whole;
    synced_whole = represents.whole;
  }

  pub disk_write : (n : ℕ) (bytes : List ℕ) → n < length content → disk_of (step s (Write n bytes)) ≡ after_write (disk_of s) n bytes
  disk_write n bytes below = λ i. record { content = slice_set s.content n bytes; unsynced = flagged i }
    where
      flagged : Path (ℕ → Bool) (λ k. slice_index_or (slice_set s.unsynced n true) k false) (λ k. (k == n) || slice_index_or s.unsynced k false)
      flagged = fun_ext (λ k. flag_set s.unsynced n k (omega (arith, below, flags)))

  pub disk_sync : disk_of (step s Sync) ≡ after_sync (disk_of s)
  disk_sync = λ i. record { content = s.content; unsynced = flagged i }
    where
      flagged : Path (ℕ → Bool) (λ k. slice_index_or (replicate (length s.content) false) k false) (λ k. false)
      flagged = fun_ext (λ k. no_flag (length s.content) k)

-- the call is recorded
pub state_push : (first : CrashState) (calls later : List Call) (call : Call) → later ≡ calls ++ call ∷ []
    → state_after (initial_state first) later ≡ step (state_after (initial_state first) calls) call
state_push first calls later call is = ap (state_after (initial_state first)) is ∙ state_after-push (initial_state first) calls call

pub represents_push : (first : CrashState) (calls later : List Call) (call : Call) (content before : CrashState) (written_at : List ℕ) (synced_at : ℕ)
    → later ≡ calls ++ call ∷ [] → Represents (step (state_after (initial_state first) calls) call) (length calls + 1) content before written_at synced_at
    → Represents (state_after (initial_state first) later) (length later) content before written_at synced_at
represents_push first calls later call content before written_at synced_at is represents =
    subst (λ s. Represents s (length later) content before written_at synced_at) (sym (state_push first calls later call is))
    (subst (λ m. Represents (step (state_after (initial_state first) calls) call) m content before written_at synced_at)
    (sym (ap length is ∙ length-append calls (call ∷ []))) represents)

pub disk_push : (first : CrashState) (calls later : List Call) (call : Call) → later ≡ calls ++ call ∷ []
    → disk_of (state_after (initial_state first) later) ≡ disk_of (step (state_after (initial_state first) calls) call)
disk_push first calls later call is = ap disk_of (state_push first calls later call is)

-- the record begins anew
pub anew : (first image : CrashState) (calls : List Call) → first ≡ image → calls ≡ [] → state_after (initial_state first) calls ≡ initial_state image
anew first image calls is none = ap (state_after (initial_state first)) none ∙ ap initial_state is

pub represents_initial : (image before : CrashState) (written_at : List ℕ) → IsDiskWhole image → length before ≡ length image → length written_at ≡ length image
    → ((k : ℕ) → slice_index written_at k ≡ 0) → Represents (initial_state image) 0 image before written_at 0
represents_initial image before written_at whole before_size written_size zeros = record {
  content_is = refl;
  unsynced_is = sym (none_unsynced 0 written_at (λ k. omega (arith, zeros k)) ∙ ap (λ (n : ℕ). replicate n false) written_size);
  before_is = λ k is. absurd (let none = no_flag (length image) k in cc (none, is));
  same = λ k is. refl;
  before_size = before_size;
  written_size = written_size;
  last_sync = omega arith;
  last_writes = λ k. omega (arith, zeros k);
  whole = whole;
  synced_whole = whole;
}

-- what a slice of a whole list is after writes to it
pub written_back : (new old : CrashState) (n : ℕ) → length new ≡ length old → n ≡ length old → take n (new ++ drop (length new) old) ≡ new
written_back new old n same size =
    ap (λ (l : CrashState). take n (new ++ l)) (drop_all (length new) old (omega (arith, same)))
    ∙ ap (λ (l : CrashState). take n l) (append-nil new)
    ∙ take_all n new (omega (arith, same, size))

-- the record begins anew after a crash
pub represents_crashed : (first image before : CrashState) (calls : List Call) (written_at : List ℕ) → first ≡ image → calls ≡ [] → IsDiskWhole image
    → length before ≡ length image → length written_at ≡ length image → ((k : ℕ) → slice_index written_at k ≡ 0)
    → Represents (state_after (initial_state first) calls) (length calls) image before written_at 0
represents_crashed first image before calls written_at is no_calls whole before_size written_size zeros =
    subst (λ l. Represents (state_after (initial_state first) l) (length l) image before written_at 0) (sym no_calls)
    (subst (λ f. Represents (initial_state f) 0 image before written_at 0) (sym is)
    (represents_initial image before written_at whole before_size written_size zeros))

-- ---- zeros

pub all_zero : (n k : ℕ) → slice_index (replicate n 0) k ≡ 0
all_zero zero k = refl
all_zero (suc n) zero = refl
all_zero (suc n) (suc k) = all_zero n k

pub replicate_push : (n : ℕ) (bytes : List ℕ) → replicate n bytes ++ bytes ∷ [] ≡ replicate (n + 1) bytes
replicate_push n bytes = rw add-one (go n)
  where
    go : (m : ℕ) → replicate m bytes ++ bytes ∷ [] ≡ bytes ∷ replicate m bytes
    go zero = refl
    go (suc m) = ap (λ (l : CrashState). bytes ∷ l) (go m)

zeros_are_sector : IsSector zero_sector
unfolding zero_sector
zeros_are_sector = filled 512 refl
  where
    filled : (n : ℕ) → n ≡ 512 → IsSector (replicate n 0)
    filled n is = record {
      size = length-replicate n 0
          ∙ is;
      are_bytes = λ i. ⊎_elim (λ below. rw (get_or-replicate {A = ℕ} n i 0 0 below) (omega arith)) (λ past.
          rw (get_or_past {X = ℕ} (replicate n 0) i 0 (omega (arith, past, length-replicate {A = ℕ} n 0))) (omega arith)) (cases_lt i n);
    }

pub zeros_are_whole : (n : ℕ) → IsDiskWhole (replicate n zero_sector)
zeros_are_whole n k below = subst IsSector (sym (get_or-replicate n k zero_sector [] (omega (arith, below, length-replicate n zero_sector)))) zeros_are_sector
