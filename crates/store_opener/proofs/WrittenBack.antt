-- What a crash leaves while a store is written back into its other half, and what there is in the end.
use Rattle.std.proofs.Common.{◌≡◌, inl, inr, ⊎_elim, ℕ, ◌≤◌, true, List, [], Option, unwrap_or, refl, sym, ap, subst, ◌∙◌, arith}
use Rattle.std.specs.FinMap as map
use Rattle.std.specs.FinMap.{len}
use Rattle.std.specs.Ordering.{nat_cmp}
use Rattle.sector_device.specs.Disk.{CrashState, sector, IsSynced, SameOutside}
use Rattle.sector_device.specs.DevicePast.{DevicePast, LeavesOnly}
use Rattle.sector_device.proofs.Moments.{joined, weaker}
use Rattle.sector_device.proofs.Sectors.{same_outside_then, same_outside_wider}
use Rattle.record_values.specs.GeometryValue.{GeometryValue}
use Rattle.record_values.specs.declared.number.TheConstants.{LAST_NUMBER}
use Rattle.records.specs.ChangeValue.{ChangeValue}
use Rattle.model.specs.Cells.{list_of}
use Rattle.model.specs.Following.{ArePlaced}
use Rattle.model.specs.Given.{Given, opening_cells}
use Rattle.store_image_half.specs.Source.{FitsImage}
use Rattle.gate_log.specs.Area.{Area, Log, HoldsGroups, Stands}
use Rattle.flip_image.specs.declared.half.Half.{Half}
use Rattle.flip_image.specs.Layout.{HalvesValue, other, InHalf, InHalfImage}
use Rattle.flip_image.specs.Store.{Names, IsSuperblock, IsStore, IsFlipping, HoldsImage}
use Rattle.flip_image.proofs.Sides.{behind_front, either_store, image_inside, other_apart, store_in_front}
use Rattle.store_reader.specs.Contents.{Gives, log_area}
use Rattle.store_writer.specs.Writer.{IsOpenedAt}
use Rattle.store_opener.specs.Reopening.{IsOverwritten, IsSpare, IsWrittenBack}
use Rattle.store_opener.proofs.Told.{SameHalf, gives_image, gives_told, groups_told, imaged_told}

-- no transaction has a list
no_list : (txn : ℕ) → list_of map.empty txn ≡ []
no_list txn = ap (λ (o : Option (List ChangeValue)). unwrap_or o []) (map.get-empty nat_cmp txn)

-- ---- sectors

-- a change of the flip sector
either_half : (g : GeometryValue) (half : Half) (image c : CrashState) → SameOutside (λ n. n ≡ 1) image c → SameHalf g half image c
either_half g half image c same = record { sectors = same.sectors; same = λ n inside. same.same n (λ is. omega (arith, is, behind_front g half n inside)) }

-- a change of both
spare_half : (g : GeometryValue) (half : Half) (image c : CrashState) → SameOutside (IsSpare g half) image c → SameHalf g half image c
spare_half g half image c same = record {
  sectors = same.sectors;
  same = λ n inside. same.same n (λ spare. ⊎_elim (λ in_other. other_apart g half n inside in_other) (λ is.
      omega (arith, is, behind_front g half n inside)) spare);
}

store_apart : (g : GeometryValue) (half : Half) (image c : CrashState) → SameOutside (InHalf g (other half)) image c → IsStore g half image → IsStore g half c
store_apart g half image c same = store_in_front g half image c same.sectors (λ n few.
    same.same n (λ inside. omega (arith, few, behind_front g (other half) n inside)))

module _ (g : GeometryValue) (half : Half) (before : CrashState) (store : IsStore g half before) (given : Given) where
  -- what is written into the other half alone
  pub other_written : (c : CrashState) → SameOutside (InHalf g (other half)) before c → IsOverwritten g half given before c
  other_written c same = record {
    outside = same_outside_wider (InHalf g (other half)) (IsSpare g half) before c (λ n inside. inl inside) same;
    either = inl (store_apart g half before c same store);
  }

  -- the other half is written: it has the image of what was given, and an empty log
  module _ (room : len given.entries ≤ g.entries) (mid : CrashState) (same : SameOutside (InHalf g (other half)) before mid)
      (imaged : HoldsImage g (other half) mid given.last (opening_cells given)) (held : HoldsGroups (log_area g (other half)) mid []) where
    flip_written : (c : CrashState) → SameOutside (λ n. n ≡ 1) mid c → IsOverwritten g half given before c
    flip_written c flipped = record {
      outside = same_outside_then (IsSpare g half) before mid c
          (same_outside_wider (InHalf g (other half)) (IsSpare g half) before mid (λ n inside. inl inside) same)
          (same_outside_wider (λ n. n ≡ 1) (IsSpare g half) mid c (λ n is. inr is) flipped);
      either = ⊎_elim
          (λ stays. inl stays)
          (λ turned. inr (gives_image c g (other half) given turned
          (imaged_told g (other half) mid c (either_half g (other half) mid c flipped) given.last (opening_cells given) imaged)
          (groups_told g (other half) mid c (either_half g (other half) mid c flipped) [] held) room))
          (either_store g half mid c flipped (store_apart g half before mid same store));
    }

  -- of what the store gave it is written back
  pub back_of : Gives before g given → (c : CrashState) → IsOverwritten g half given before c → IsWrittenBack before c
  back_of gave c over = record {
    geometry = g;
    half = half;
    store = store;
    outside = over.outside;
    given = given;
    gave = gave;
    gives = ⊎_elim (λ stays. gives_told g half before c (spare_half g half before c over.outside) store stays given gave) (λ gives. gives) over.either;
  }

-- there is room for what fits
pub room_of : (g : GeometryValue) (given : Given) → FitsImage g (opening_cells given) → len given.entries ≤ g.entries
room_of g given fits = omega (arith, fits.room, map.len-entries given.entries)

-- ---- moments

module _ (g : GeometryValue) (half : Half) (old mid : DevicePast) (store : IsStore g half old.disk.content) (given : Given)
    (room : len given.entries ≤ g.entries)
    (writing : LeavesOnly old mid (SameOutside (InHalf g (other half)) old.disk.content)) where
  -- while the other half is written
  pub writing_over : LeavesOnly old mid (IsOverwritten g half given old.disk.content)
  writing_over = weaker old mid _ _ (other_written g half old.disk.content store given) writing

  module _ (new : DevicePast) (outside : SameOutside (InHalf g (other half)) old.disk.content mid.disk.content) (loose : (n : ℕ) → mid.disk.unsynced n ≡ true
      → InHalfImage g (other half) n)
      (imaged : HoldsImage g (other half) mid.disk.content given.last (opening_cells given)) (log : Log) (area : log.area ≡ log_area g (other half))
      (stands : Stands log mid.disk.content []) where
    held : HoldsGroups (log_area g (other half)) mid.disk.content []
    held = subst (λ (a : Area). HoldsGroups a mid.disk.content []) area stands.held

    flipping : (c : CrashState) → IsFlipping mid.disk c → IsOverwritten g half given old.disk.content c
    flipping c (inl still) = other_written g half old.disk.content store given c
        (same_outside_then (InHalf g (other half)) old.disk.content mid.disk.content c outside
        (same_outside_wider _ (InHalf g (other half)) mid.disk.content c (λ n unsynced. image_inside g (other half) n (loose n unsynced)) still))
    flipping c (inr flipped) = flip_written g half old.disk.content store given room mid.disk.content outside imaged held c flipped

    -- and then it is made current
    pub flipping_over : LeavesOnly mid new (IsFlipping mid.disk) → LeavesOnly old new (IsOverwritten g half given old.disk.content)
    flipping_over run = joined old mid new (IsOverwritten g half given old.disk.content) writing_over (weaker mid new _ _ flipping run)

    module _ (halves : HalvesValue) (halves_is : halves ≡ record { geometry = g; current = other half })
        (flipped : SameOutside (λ n. n ≡ 1) mid.disk.content new.disk.content) (named : Names (sector new.disk.content 1) (other half))
        (all : IsSynced new.disk)
        (small : given.last ≤ LAST_NUMBER) where
      same : SameHalf g (other half) mid.disk.content new.disk.content
      same = either_half g (other half) mid.disk.content new.disk.content flipped

      store_now : IsStore g (other half) new.disk.content
      store_now = record {
        limits = store.limits;
        room = omega (arith, store.room, outside.sectors, flipped.sectors);
        superblock-is = subst (IsSuperblock g) (sym (flipped.same 0 (λ e. omega (arith, e))
            ∙ outside.same 0 (λ inside. omega (arith, behind_front g (other half) 0 inside)))) store.superblock-is;
        current = named;
      }

      here : IsOpenedAt new (record { geometry = g; current = other half }) log given.last (opening_cells given)
      here = record {
        store = store_now;
        has = record {
          base = given.last;
          copied = opening_cells given;
          imaged = imaged_told g (other half) mid.disk.content new.disk.content same given.last (opening_cells given) imaged;
          groups = [];
          held = groups_told g (other half) mid.disk.content new.disk.content same [] held;
          following = tt;
          last-is = omega arith;
          cells-are = refl;
        };
        area-is = area;
        groups = [];
        stands = record {
          held = subst (λ (a : Area). HoldsGroups a new.disk.content []) (sym area)
              (groups_told g (other half) mid.disk.content new.disk.content same [] held);
          counted = stands.counted;
        };
        all_synced = all;
        placed = λ txn. subst (ArePlaced g.pages 0) (sym (no_list txn)) tt;
        small = small;
      }

      -- and it gives what was written
      pub gives_now : Gives new.disk.content g given
      gives_now = gives_image new.disk.content g (other half) given store_now
          (imaged_told g (other half) mid.disk.content new.disk.content same given.last (opening_cells given) imaged)
          (groups_told g (other half) mid.disk.content new.disk.content same [] held) room

      pub opened : IsOpenedAt new halves log given.last (opening_cells given)
      opened = subst (λ (h : HalvesValue). IsOpenedAt new h log given.last (opening_cells given)) (sym halves_is) here
