-- What a write or a sync makes of a mirror.
use Rattle.std.proofs.Common.{◌≡◌, inl, inr, ℕ, ◌+◌, ◌<◌, Bool, true, false, ◌||◌, ◌==◌, List, [], ◌∷◌, ◌++◌, length, replicate}
use Rattle.std.proofs.Common.{slice_set, slice_index_or, refl, sym, ◌∙◌, ap, subst, arith, length-set}
use Rattle.std.proofs.Math.Path.{fun_ext}
use Rattle.std.proofs.lemmas.Bool.{cases_eq}
use Rattle.std.proofs.lemmas.Bool.Decides.{nat_tests}
use Rattle.std.proofs.lemmas.List.{get_or-set_other}
use Rattle.std.proofs.lemmas.Grind.{get_or-set_at}
use Rattle.std.proofs.Math.ListN.{length-replicate}
use Rattle.sector_device.specs.declared.call.Call.{Call}
use Rattle.sector_device.specs.declared.call.Call.TheVariants.{Write, Sync}
use Rattle.sector_device.specs.Disk.{CrashState, IsSector, IsDiskWhole, after_write, after_sync}
use Rattle.sector_device.specs.Memory.{MemoryState, step, disk_of}
use Rattle.sector_device.specs.Values.{zero_sector}
use Rattle.sector_device.proofs.Record.{state_push, zeros_are_whole, no_flag}
use Rattle.store_file.specs.Done.{Done, call_of}
use Rattle.store_file.specs.Mirror.{IsMirror, blank, calls_of, state_of}

calls-push : (done : List Done) (d : Done) → calls_of (done ++ d ∷ []) ≡ calls_of done ++ call_of d ∷ []
calls-push [] d = refl
calls-push (e ∷ done) d = ap (λ (l : List Call). call_of e ∷ l) (calls-push done d)

pub calls_pushed : (done later : List Done) (d : Done) → later ≡ done ++ d ∷ [] → calls_of later ≡ calls_of done ++ call_of d ∷ []
calls_pushed done later d is = ap calls_of is ∙ calls-push done d

flag_set : (flags : List Bool) (n k : ℕ) → n < length flags → slice_index_or (slice_set flags n true) k false ≡ ((k == n) || slice_index_or flags k false)
flag_set flags n k below = elim (cases_eq k n) [
  | inl is ↦ grind (arith, nat_tests, is, get_or-set_at flags n k true false is below)
  | inr other ↦ grind (arith, nat_tests, other, get_or-set_other flags n k true false other)
]

module _ (sectors : ℕ) (done later : List Done) (content : CrashState) (mirror : IsMirror sectors done content) where
  abbrev s : MemoryState
  s = state_of sectors done

  -- ---- a write

  module _ (n : ℕ) (bytes : List ℕ) (is : later ≡ done ++ (n ∷ [], bytes) ∷ []) (below : n < sectors) where
    wrote : state_of sectors later ≡ step s (Write n bytes)
    wrote = state_push (blank sectors) (calls_of done) (calls_of later) (Write n bytes) (calls_pushed done later (n ∷ [], bytes) is)

    held : length s.content ≡ sectors
    held = ap length mirror.holds ∙ mirror.size

    whole_set : IsSector bytes → IsDiskWhole (slice_set s.content n bytes)
    whole_set all k lt = elim (cases_eq k n) [
      | inl equal ↦ subst IsSector (sym (get_or-set_at s.content n k bytes [] equal (omega (arith, below, held)))) all
      | inr other ↦ subst IsSector (sym (get_or-set_other s.content n k bytes [] other)) (mirror.whole k (omega (arith, lt, length-set s.content n bytes)))
    ]

    pub mirror_write : IsSector bytes → IsMirror (length (slice_set content n bytes)) later (slice_set content n bytes)
    mirror_write all = subst (λ m. IsMirror m later (slice_set content n bytes)) (sym size) (record {
      size = size;
      holds = ap (λ (x : MemoryState). x.content) wrote ∙ ap (λ (c : CrashState). slice_set c n bytes) mirror.holds;
      flags = ap (λ (x : MemoryState). length x.unsynced) wrote ∙ length-set s.unsynced n true ∙ mirror.flags;
      whole = subst IsDiskWhole (sym (ap (λ (x : MemoryState). x.content) wrote)) (whole_set all);
    })
      where
        size : length (slice_set content n bytes) ≡ sectors
        size = length-set content n bytes ∙ mirror.size

    pub disk_written : disk_of (state_of (length (slice_set content n bytes)) later) ≡ after_write (disk_of s) n bytes
    disk_written = ap (λ (m : ℕ). disk_of (state_of m later)) (length-set content n bytes ∙ mirror.size) ∙ ap disk_of wrote
        ∙ λ i. record { content = slice_set s.content n bytes; unsynced = flagged i }
      where
        flagged : Path (ℕ → Bool) (λ k. slice_index_or (slice_set s.unsynced n true) k false) (λ k. (k == n) || slice_index_or s.unsynced k false)
        flagged = fun_ext (λ k. flag_set s.unsynced n k (omega (arith, below, mirror.flags)))

  -- ---- a sync

  module _ (bytes : List ℕ) (is : later ≡ done ++ ([], bytes) ∷ []) where
    synced : state_of sectors later ≡ step s Sync
    synced = state_push (blank sectors) (calls_of done) (calls_of later) Sync (calls_pushed done later ([], bytes) is)

    pub mirror_sync : IsMirror sectors later content
    mirror_sync = record {
      size = mirror.size;
      holds = ap (λ (x : MemoryState). x.content) synced ∙ mirror.holds;
      flags = ap (λ (x : MemoryState). length x.unsynced) synced ∙ length-replicate (length s.content) false ∙ ap length mirror.holds ∙ mirror.size;
      whole = subst IsDiskWhole (sym (ap (λ (x : MemoryState). x.content) synced)) mirror.whole;
    }

    pub disk_synced : disk_of (state_of sectors later) ≡ after_sync (disk_of s)
    disk_synced = ap disk_of synced ∙ λ i. record { content = s.content; unsynced = flagged i }
      where
        flagged : Path (ℕ → Bool) (λ k. slice_index_or (replicate (length s.content) false) k false) (λ k. false)
        flagged = fun_ext (λ k. no_flag (length s.content) k)

-- ---- zeros

pub mirror_blank : (sectors : ℕ) (done : List Done) (content : CrashState) → done ≡ [] → content ≡ blank sectors → IsMirror (length content) done content
mirror_blank sectors done content none is =
    subst (λ c. IsMirror (length c) done c) (sym is)
    (subst (λ m. IsMirror m done (blank sectors)) (sym (length-replicate sectors zero_sector))
    (subst (λ d. IsMirror sectors d (blank sectors)) (sym none)
    (record {
      size = length-replicate sectors zero_sector;
      holds = refl;
      flags = length-replicate (length (blank sectors)) false ∙ length-replicate sectors zero_sector;
      whole = zeros_are_whole sectors;
    })))
