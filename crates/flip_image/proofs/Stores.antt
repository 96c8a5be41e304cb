-- What an image is a store of, for proofs in the crates above.
use Rattle.std.proofs.Common.{◌≡◌, ◌⊎◌, inl, inr, ℕ, ◌+◌, ◌<◌, ◌≤◌, List, All, refl, ap, sym, ◌∙◌, subst, arith}
use Rattle.sector_device.specs.Disk.{CrashState, sector, SameOutside}
use Rattle.record_values.specs.declared.error.Error.{Error}
use Rattle.record_values.specs.declared.error.Error.TheVariants.{OldVersion}
use Rattle.record_values.specs.declared.version.Version.{Version}
use Rattle.record_values.specs.declared.version.Version.TheVariants.{One, Two}
use Rattle.record_values.specs.GeometryValue.{GeometryValue, sectors_in}
use Rattle.flip_image.specs.declared.half.Half.{Half}
use Rattle.flip_image.specs.declared.half.Half.TheVariants.{A, B}
use Rattle.flip_image.specs.Layout.{HalvesValue, header_sector, heads_sector, page_sector, log_first, InLog}
use Rattle.flip_image.specs.Store.{Names, IsSuperblock, IsStore, IsStoreIn, AreZeros, IsFresh, IsFormatted, IsTooSmallIn, IsUntitled, IsOlder}
use Rattle.flip_image.specs.Store.{IsSuperblockDamagedIn, IsSuperblockRefused, IsRefusedIn, IsDeviceFailure}
use Rattle.flip_image.proofs.Spelled as spelled

front_room : (v : Version) (g : GeometryValue) → 2 ≤ sectors_in v g
front_room One g = omega arith
front_room Two g = omega arith

-- an image is of a store of one geometry at most
pub one_geometry : (v : Version) (g h : GeometryValue) (a b : Half) (image : CrashState) → IsStoreIn v g a image → IsStoreIn v h b image → g ≡ h
one_geometry v g h a b image first second = spelled.one_geometry v g h (sector image 0) first.limits second.limits first.superblock-is second.superblock-is

-- no reader refuses it
pub accepted : (v : Version) (g : GeometryValue) (half : Half) (image : CrashState) (e : Error) → IsStoreIn v g half image → ¬ IsRefusedIn v image e
accepted v g half image e store (inl (is, (inl small))) = omega (arith, small, front_room v g, store.room)
accepted v g half image e store (inl (is, (inr (h, limits, there, small)))) =
    let same = spelled.one_geometry v g h (sector image 0) store.limits limits store.superblock-is there in
    omega (arith, small, store.room, ap (sectors_in v) same)
accepted v g half image e store (inr (inl (is, untitled))) = untitled.other (spelled.titled v g (sector image 0) store.superblock-is)
accepted v g half image e store (inr (inr (inl (is, older)))) = spelled.not_older v g (sector image 0) store.superblock-is older.older
accepted v g half image e store (inr (inr (inr (is, damaged)))) = damaged.none g store.limits store.superblock-is

small_not_untitled : (v : Version) (image : CrashState) → IsTooSmallIn v image → ¬ IsUntitled image
small_not_untitled v image (inl small) other = omega (arith, small, other.room)
small_not_untitled v image (inr (g, limits, there, small)) other = other.other (spelled.titled v g (sector image 0) there)

small_not_older : (v : Version) (image : CrashState) → IsTooSmallIn v image → ¬ IsOlder v image
small_not_older v image (inl small) other = omega (arith, small, other.room)
small_not_older v image (inr (g, limits, there, small)) other = spelled.not_older v g (sector image 0) there other.older

small_not_damaged : (v : Version) (image : CrashState) → IsTooSmallIn v image → ¬ IsSuperblockDamagedIn v image
small_not_damaged v image (inl small) other = omega (arith, small, other.room)
small_not_damaged v image (inr (g, limits, there, small)) other = other.none g limits there

small_not_refused : (v : Version) (image : CrashState) (e : Error) → IsTooSmallIn v image → ¬ IsSuperblockRefused v image e
small_not_refused v image e small (inl p) = small_not_untitled v image small p.1
small_not_refused v image e small (inr (inl p)) = small_not_older v image small p.1
small_not_refused v image e small (inr (inr p)) = small_not_damaged v image small p.1

-- its superblock is refused in one way at most
one_superblock : (v : Version) (image : CrashState) (d e : Error) → IsSuperblockRefused v image d → IsSuperblockRefused v image e → d ≡ e
one_superblock v image d e (inl p) (inl q) = p.0 ∙ sym q.0
one_superblock v image d e (inl p) (inr (inl q)) = absurd (p.1.other q.1.titled)
one_superblock v image d e (inl p) (inr (inr q)) = absurd (p.1.other q.1.titled)
one_superblock v image d e (inr (inl p)) (inl q) = absurd (q.1.other p.1.titled)
one_superblock v image d e (inr (inl p)) (inr (inl q)) = p.0 ∙ sym q.0
one_superblock v image d e (inr (inl p)) (inr (inr q)) = absurd (q.1.not_older p.1.older)
one_superblock v image d e (inr (inr p)) (inl q) = absurd (q.1.other p.1.titled)
one_superblock v image d e (inr (inr p)) (inr (inl q)) = absurd (p.1.not_older q.1.older)
one_superblock v image d e (inr (inr p)) (inr (inr q)) = p.0 ∙ sym q.0

-- so it is refused in one way at most
pub one_refusal : (v : Version) (image : CrashState) (d e : Error) → IsRefusedIn v image d → IsRefusedIn v image e → d ≡ e
one_refusal v image d e (inl p) (inl q) = p.0 ∙ sym q.0
one_refusal v image d e (inl p) (inr q) = absurd (small_not_refused v image e p.1 q)
one_refusal v image d e (inr p) (inl q) = absurd (small_not_refused v image d q.1 p)
one_refusal v image d e (inr p) (inr q) = one_superblock v image d e p q

-- a store of version 1 is refused as one
pub refused_older : (g : GeometryValue) (half : Half) (image : CrashState) → IsStoreIn One g half image → IsRefusedIn Two image OldVersion
refused_older g half image store = inr (inr (inl (
  refl,
  record {
    room = omega (arith, front_room One g, store.room);
    titled = spelled.titled One g (sector image 0) store.superblock-is;
    older = spelled.old_is_older g (sector image 0) store.superblock-is;
  },
)))

-- one half of it is current
pub one_half : (v : Version) (g h : GeometryValue) (a b : Half) (image : CrashState) → IsStoreIn v g a image → IsStoreIn v h b image → a ≡ b
one_half v g h A A image first second = refl
one_half v g h A B image first second = absurd (first.current second.current)
one_half v g h B A image first second = absurd (second.current first.current)
one_half v g h B B image first second = refl

-- so a reader gives one value
pub one_value : (v : Version) (g : GeometryValue) (half : Half) (halves : HalvesValue) (image : CrashState) → IsStoreIn v halves.geometry halves.current image
    → IsStoreIn v g half image → halves ≡ record { geometry = g; current = half }
one_value v g half halves image first second =
    ap (λ (x : GeometryValue). record { geometry = x; current = halves.current }) (one_geometry v halves.geometry g halves.current half image first second)
    ∙ ap (λ (x : Half). record { geometry = g; current = x }) (one_half v halves.geometry g halves.current half image first second)

-- a reader of its superblock can only fail with the device
pub superblock_accepted : (v : Version) (g : GeometryValue) (half : Half) (image : CrashState) (a b : ℕ) (e : Error) → IsStoreIn v g half image
    → IsDeviceFailure a b e ⊎ IsSuperblockRefused v image e → IsDeviceFailure a b e
superblock_accepted v g half image a b e store (inl failed) = failed
superblock_accepted v g half image a b e store (inr refused) = absurd (accepted v g half image e store (inr refused))

-- ---- sectors apart from a log

-- a store depends on no sector of the log
pub store_apart : (g : GeometryValue) (half : Half) (image other : CrashState) → SameOutside (InLog g half) image other → IsStore g half image
    → IsStore g half other
store_apart g half image other same store = record {
  limits = store.limits;
  room = omega (arith, store.room, same.sectors);
  superblock-is = subst (IsSuperblock g) (sym (same.same 0 (λ is. front 0 (omega arith) is))) store.superblock-is;
  current = subst (λ (b : List ℕ). Names b half) (sym (same.same 1 (λ is. front 1 (omega arith) is))) store.current;
}
  where
    low : (h : Half) → 2 ≤ header_sector g h
    low A = omega arith
    low B = omega arith

    front : (n : ℕ) → n < 2 → ¬ InLog g half n
    front n below is = omega (arith, below, is.0, low half)

-- nor does it make a half other than fresh
pub fresh_apart : (g : GeometryValue) (half : Half) (image other : CrashState) → SameOutside (InLog g half) image other → IsFresh g half image
    → IsFresh g half other
fresh_apart g half image other same fresh = record {
  header = stay (header_sector g half) 1 (omega arith) fresh.header;
  heads = stay (heads_sector g half) 1 (omega arith) fresh.heads;
  pages = λ page below. stay (page_sector g half page) 16 (omega (arith, below)) (fresh.pages page below);
}
  where
    stay : (first count : ℕ) → first + count ≤ log_first g half → AreZeros image first count → AreZeros other first count
    stay first count before zeros i below = subst (All (λ b. b ≡ 0)) (sym (same.same (first + i) (λ is. omega (arith, before, below, is.0)))) (zeros i below)

-- so what `format` leaves stays while only the log is written
pub formatted_apart : (g : GeometryValue) (image other : CrashState) → SameOutside (InLog g A) image other → IsFormatted g image → IsFormatted g other
formatted_apart g image other same formatted = record {
  store = store_apart g A image other same formatted.store;
  fresh = fresh_apart g A image other same formatted.fresh;
}
