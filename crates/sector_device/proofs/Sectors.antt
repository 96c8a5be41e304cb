-- What calls of a device change, sector by sector.
use Rattle.std.proofs.Common.{Result, Ok, Err, OnOk, OnErr, ◌≡◌, ◌≢◌, ◌⊎◌, inl, inr, ℕ, ◌+◌, ◌-◌, ◌<◌, ◌≤◌, Bool, true, false, List, [], ◌∷◌, ◌++◌, length}
use Rattle.std.proofs.Common.{slice_set, take, drop, slice_range, refl, sym, ◌∙◌, ap, subst, arith, length-set, length-take, length-drop}
use Rattle.std.specs.List.{concat}
use Rattle.std.proofs.lemmas.Bool.{cases_eq, cases_lt}
use Rattle.std.proofs.lemmas.Bool.Decides.{nat_tests}
use Rattle.std.proofs.lemmas.List.{get_or-set_same, get_or-set_other, get_or-take, get_or-drop, ext_get_or, take_more, append-nil, append_assoc, get_or_past}
use Rattle.std.proofs.lemmas.Grind.{get_or-set_at}
use Rattle.sector_device.specs.declared.device.Failed.{Failed}
use Rattle.sector_device.specs.Disk.{CrashState, sector, IsSector, IsDiskWhole, Disk, after_write, after_sync, IsFailedWrite, IsSynced, IsCrashState}
use Rattle.sector_device.specs.Disk.{SameOutside}
use Rattle.sector_device.specs.Disk.{SyncedOutside}

-- ---- one call

-- what holds after each write of the sector holds after one that was done or failed
pub holds_after_write : (Q : Disk → Type 0) (old : Disk) (n : ℕ) (bytes : List ℕ) (new : Disk) (result : Result Unit Failed)
    → OnOk result (new ≡ after_write old n bytes) → OnErr result (IsFailedWrite old n new) → ((b : List ℕ) → Q (after_write old n b)) → Q new
holds_after_write Q old n bytes new (Ok x) ok err after = subst Q (sym ok) (after bytes)
holds_after_write Q old n bytes new (Err e) ok err after = subst Q (sym err.2) (after err.0)

-- what holds before and after a sync holds after one that was done or failed
pub holds_after_sync : (Q : Disk → Type 0) (old new : Disk) (result : Result Unit Failed) → OnOk result (new ≡ after_sync old) → OnErr result (new ≡ old)
    → Q old → Q (after_sync old) → Q new
holds_after_sync Q old new (Ok x) ok err before after = subst Q (sym ok) after
holds_after_sync Q old new (Err e) ok err before after = subst Q (sym err) before

-- ---- reading a content

-- what was written is in the content
pub sector_written : (disk : Disk) (n : ℕ) (bytes : List ℕ) → n < length disk.content → sector (after_write disk n bytes).content n ≡ bytes
sector_written disk n bytes below = get_or-set_same disk.content n bytes [] below

-- and the other sectors are as they were
pub sector_other : (disk : Disk) (n k : ℕ) (bytes : List ℕ) → k ≢ n → sector (after_write disk n bytes).content k ≡ sector disk.content k
sector_other disk n k bytes other = get_or-set_other disk.content n k bytes [] other

-- two images with the same sectors from low up to high have the same part there
pub same_part : (a b : CrashState) (low high : ℕ) → length a ≡ length b → ((k : ℕ) → low ≤ k → k < high → sector a k ≡ sector b k)
    → slice_range a low high ≡ slice_range b low high
same_part a b low high long same = ext_get_or [] (slice_range a low high) (slice_range b low high) sizes each
  where
    sizes : length (slice_range a low high) ≡ length (slice_range b low high)
    sizes = omega (arith, length-take (high - low) (drop low a), length-take (high - low) (drop low b), length-drop low a, length-drop low b, long)

    each : (i : ℕ) → i < length (slice_range a low high) → sector (slice_range a low high) i ≡ sector (slice_range b low high) i
    each i below =
        let inside : i < high - low = omega (arith, length-take (high - low) (drop low a)) in
        get_or-take (high - low) (drop low a) i [] inside
        ∙ get_or-drop low a i []
        ∙ same (low + i) (omega arith) (omega (arith, inside))
        ∙ sym (get_or-drop low b i [])
        ∙ sym (get_or-take (high - low) (drop low b) i [] inside)

-- a part of an image, sector by sector
pub part_is : (image rows : CrashState) (low high : ℕ) → high ≤ length image → low + length rows ≡ high
    → ((k : ℕ) → k < length rows → sector image (low + k) ≡ sector rows k) → slice_range image low high ≡ rows
part_is image rows low high room size each = ext_get_or [] (slice_range image low high) rows long at
  where
    long : length (slice_range image low high) ≡ length rows
    long = omega (arith, length-take (high - low) (drop low image), length-drop low image)

    at : (i : ℕ) → i < length (slice_range image low high) → sector (slice_range image low high) i ≡ sector rows i
    at i lt =
        let inside : i < high - low = omega (arith, long) in
        get_or-take (high - low) (drop low image) i [] inside ∙ get_or-drop low image i [] ∙ each i (omega (arith, long))

-- the bytes of a part of an image, and of one sector more
pub part_more : (image : CrashState) (low n high : ℕ) → low + n < length image → high ≡ low + n + 1
    → concat (slice_range image low high) ≡ concat (slice_range image low (low + n)) ++ sector image (low + n)
part_more image low n high lt is =
    ap (λ m. concat (take m (drop low image))) longer
    ∙ ap concat (take_more (drop low image) n [] (omega (arith, length-drop low image)))
    ∙ concat-push (take n (drop low image)) (sector (drop low image) n)
    ∙ ap (λ (t : List ℕ). concat (take n (drop low image)) ++ t) (get_or-drop low image n [])
    ∙ ap (λ m. concat (take m (drop low image)) ++ sector image (low + n)) shorter
  where
    longer : high - low ≡ n + 1
    longer = omega arith

    shorter : n ≡ (low + n) - low
    shorter = omega arith

    concat-push : (xs : List (List ℕ)) (y : List ℕ) → concat (xs ++ y ∷ []) ≡ concat xs ++ y
    concat-push [] y = append-nil y
    concat-push (x ∷ xs) y = ap (λ (t : List ℕ). x ++ t) (concat-push xs y) ∙ sym (append_assoc x (concat xs) y)

-- ---- crash images

sector_past : (image : CrashState) (k : ℕ) → length image ≤ k → sector image k ≡ []
sector_past image k past = get_or_past image k [] past

-- a content is one of its own crash images
pub content_is_image : (disk : Disk) → IsDiskWhole disk.content → IsCrashState disk disk.content
content_is_image disk whole = record { sectors = refl; kept = λ k is. refl; torn = λ k below is. whole k below }

-- each sector of a crash image has its 512 bytes
pub image_is_whole : (disk : Disk) (c : CrashState) → IsDiskWhole disk.content → IsCrashState disk c → IsDiskWhole c
image_is_whole disk c whole crash k below = go (disk.unsynced k) refl
  where
    go : (is : Bool) → disk.unsynced k ≡ is → IsSector (sector c k)
    go true is = crash.torn k below is
    go false is = subst IsSector (sym (crash.kept k is)) (whole k (omega (arith, below, crash.sectors)))

-- with no unsynced sector a crash leaves the content
pub crash_synced : (disk : Disk) (c : CrashState) → IsSynced disk → IsCrashState disk c → c ≡ disk.content
crash_synced disk c all crash = ext_get_or [] c disk.content crash.sectors (λ k below. crash.kept k (all k))

-- a crash image after a write is one from before it, but for the sector
pub image_before_write : (disk : Disk) (n : ℕ) (bytes : List ℕ) (c : CrashState) → IsDiskWhole disk.content → IsCrashState (after_write disk n bytes) c
    → IsCrashState disk (slice_set c n (sector disk.content n)) × SameOutside (λ k. k ≡ n) (slice_set c n (sector disk.content n)) c
image_before_write disk n bytes c whole crash = (
  record { sectors = long; kept = kept; torn = torn },
  record { sectors = sym (length-set c n there); same = λ k other. sym (get_or-set_other c n k there [] other) },
)
  where
    there : List ℕ
    there = sector disk.content n

    sizes : length c ≡ length disk.content
    sizes = crash.sectors ∙ length-set disk.content n bytes

    long : length (slice_set c n there) ≡ length disk.content
    long = length-set c n there ∙ sizes

    kept : (k : ℕ) → disk.unsynced k ≡ false → sector (slice_set c n there) k ≡ sector disk.content k
    kept k is = elim (cases_eq k n) [
      | inl same ↦ elim (cases_lt n (length c)) [
        | inl below ↦ get_or-set_at c n k there [] same below ∙ ap (sector disk.content) (sym same)
        | inr past ↦ sector_past (slice_set c n there) k (omega (arith, same, past, length-set c n there))
            ∙ sym (sector_past disk.content k (omega (arith, same, past, sizes)))
      ]
      | inr other ↦ get_or-set_other c n k there [] other ∙ crash.kept k (grind (arith, nat_tests, is, other))
          ∙ get_or-set_other disk.content n k bytes [] other
    ]

    torn : (k : ℕ) → k < length (slice_set c n there) → disk.unsynced k ≡ true → IsSector (sector (slice_set c n there) k)
    torn k below is = elim (cases_eq k n) [
      | inl same ↦ subst IsSector (sym (get_or-set_at c n k there [] same (omega (arith, same, below, length-set c n there))))
          (whole n (omega (arith, same, below, long)))
      | inr other ↦ subst IsSector (sym (get_or-set_other c n k there [] other))
          (crash.torn k (omega (arith, below, length-set c n there)) (grind (arith, nat_tests, is, other)))
    ]

-- ---- outside a set of sectors

-- a disk with no unsynced sector
pub outside_synced : (S : ℕ → Type 0) (disk : Disk) → IsSynced disk → SyncedOutside S disk.content disk
outside_synced S disk all = record { content = record { sectors = refl; same = λ k out. refl }; synced = λ k out. all k }

-- any disk, and its unsynced sectors
pub outside_unsynced : (S : ℕ → Type 0) (disk : Disk) → SyncedOutside (λ n. S n ⊎ (disk.unsynced n ≡ true)) disk.content disk
outside_unsynced S disk = record {
  content = record { sectors = refl; same = λ k out. refl };
  synced = λ k out.
      not_true (disk.unsynced k) (λ is. out (inr is));
}
  where
    not_true : (b : Bool) → ¬ (b ≡ true) → b ≡ false
    not_true true other = absurd (other refl)
    not_true false other = refl

-- a crash leaves the image outside S
pub crash_outside : (S : ℕ → Type 0) (image : CrashState) (disk : Disk) (c : CrashState) → SyncedOutside S image disk → IsCrashState disk c
    → SameOutside S image c
crash_outside S image disk c held crash = record {
  sectors = crash.sectors ∙ held.content.sectors;
  same = λ k out. crash.kept k (held.synced k out) ∙ held.content.same k out;
}

-- a write within S
pub written_outside : (S : ℕ → Type 0) (image : CrashState) (disk : Disk) (n : ℕ) (bytes : List ℕ) → S n → SyncedOutside S image disk
    → SyncedOutside S image (after_write disk n bytes)
written_outside S image disk n bytes within held = record {
  content = record {
    sectors = length-set disk.content n bytes ∙ held.content.sectors;
    same = λ k out. get_or-set_other disk.content n k bytes [] (other k out)
        ∙ held.content.same k out;
  };
  synced = λ k out. grind (arith, nat_tests, held.synced k out, other k out);
}
  where
    other : (k : ℕ) → ¬ S k → k ≢ n
    other k out is = out (subst S (sym is) within)

-- a write within S, done or failed, changes the content within S
pub content_after : (S : ℕ → Type 0) (image : CrashState) (old : Disk) (n : ℕ) (bytes : List ℕ) (new : Disk) (result : Result Unit Failed)
    → OnOk result (new ≡ after_write old n bytes) → OnErr result (IsFailedWrite old n new) → S n → SameOutside S image old.content
    → SameOutside S image new.content
content_after S image old n bytes new result ok err inside held =
    holds_after_write (λ d. SameOutside S image d.content) old n bytes new result ok err
    (λ b. record {
      sectors = length-set old.content n b ∙ held.sectors;
      same = λ k out. sector_other old n k b (λ is. out (subst S (sym is) inside))
          ∙ held.same k out;
    })

-- a sync
pub synced_outside : (S : ℕ → Type 0) (image : CrashState) (disk : Disk) → SyncedOutside S image disk → SyncedOutside S image (after_sync disk)
synced_outside S image disk held = record { content = held.content; synced = λ k out. refl }

-- a wider set
pub same_outside_wider : (S T : ℕ → Type 0) (image c : CrashState) → ((k : ℕ) → S k → T k) → SameOutside S image c → SameOutside T image c
same_outside_wider S T image c within same = record { sectors = same.sectors; same = λ k out. same.same k (λ inside. out (within k inside)) }

pub synced_outside_wider : (S T : ℕ → Type 0) (image : CrashState) (disk : Disk) → ((k : ℕ) → S k → T k) → SyncedOutside S image disk
    → SyncedOutside T image disk
synced_outside_wider S T image disk within held = record {
  content = same_outside_wider S T image disk.content within held.content;
  synced = λ k out. held.synced k (λ inside. out (within k inside));
}

-- an image, another, and a third
pub same_outside_then : (S : ℕ → Type 0) (a b c : CrashState) → SameOutside S a b → SameOutside S b c → SameOutside S a c
same_outside_then S a b c first second = record { sectors = second.sectors ∙ first.sectors; same = λ k out. second.same k out ∙ first.same k out }
