-- What a flush leaves of the records that were handed in.
use Rattle.std.proofs.Common.{◌≡◌, ◌≢◌, ◌⊎◌, inl, inr, ⊎_elim, ℕ, ◌+◌, ◌<◌, ◌≤◌, Bool, true, false, List, [], ◌∷◌, ◌++◌, length, take, Option, IfSome, Result}
use Rattle.std.proofs.Common.{Ok, OnOk, refl, sym, ap, subst, ◌∙◌, arith}
use Rattle.records.specs.RecordValue.{RecordValue}
use Rattle.record_values.specs.GeometryValue.{GeometryValue}
use Rattle.model.specs.Cells.{Cells, cells_after}
use Rattle.model.specs.Following.{AreFollowing}
use Rattle.sector_device.specs.Disk.{CrashState, Disk, IsSynced, SameOutside}
use Rattle.sector_device.specs.DevicePast.{DevicePast, LeavesOnly}
use Rattle.sector_device.proofs.Moments.{weaker, at_end}
use Rattle.sector_device.proofs.Sectors.{same_outside_wider}
use Rattle.gate_log.specs.Area.{Area, InArea, InSlot, IsAreaInside, HoldsGroups, Stands, IsAppended}
use Rattle.record_values.specs.declared.version.Version.TheVariants.{Two}
use Rattle.gate_log.proofs.Readings.{stands_for}
use Rattle.flip_image.specs.declared.half.Half.{Half}
use Rattle.flip_image.specs.Layout.{HalvesValue, other, InHalf, InHalfImage, InLog}
use Rattle.flip_image.specs.Store.{IsStore}
use Rattle.flip_image.proofs.Sides.{behind_front, image_inside, log_inside, other_apart, parts_apart, store_in_front}
use Rattle.store_image_model.specs.Run.{Run, cells_at, records_between}
use Rattle.store_image_model.proofs.Runs.{reached}
use Rattle.store_reader.specs.Contents.{log_area}
use Rattle.store_writer.specs.declared.writer.Writer.{Writer}
use Rattle.store_writer.specs.declared.known.KnownPages.{KnownPages}
use Rattle.store_writer.specs.Contents.{HalfHas, LeftBy}
use Rattle.store_writer.specs.Known.{KnowsPages}
use Rattle.store_writer.specs.Parts.{handed_of}
use Rattle.store_writer.proofs.Knowing.{known_apart, pages_in}
use Rattle.store_writer.specs.declared.copying.Copying.{Copying}
use Rattle.store_writer.specs.declared.image.NewImage.{NewImage}
use Rattle.store_writer.specs.Copying.{IsCopying}
use Rattle.store_writer.specs.Image.{IsUnderway}
use Rattle.store_writer.specs.Writer.{StandsFor, IsWriter, HasAppended}
use Rattle.store_writer.proofs.Numbers.{length_between, front_between, between_following}
use Rattle.store_writer.proofs.Halves.{SameIn, in_from_outside, log_room, same_groups, one_group_more}
use Rattle.store_writer.proofs.Underway.{if_underway_apart}
use Rattle.store_writer.proofs.Left.{left_by}

pub not_true : (b : Bool) → ¬ (b ≡ true) → b ≡ false
not_true true not = absurd (not refl)
not_true false not = refl

module _ {D M : Type 0} (past_of : D → DevicePast) (run : Run) (handed : ℕ) (old : Writer D M) (is : IsWriter past_of run handed old)
    (sound : old.failed ≡ false) where
  abbrev disk : Disk
  disk = (past_of old.device).disk

  abbrev g : GeometryValue
  g = run.geometry

  abbrev half : Half
  half = old.halves.current

  pub stood : StandsFor past_of run old
  stood = is.holds sound

  pub all_synced : (n : ℕ) → InArea old.log.area n → disk.unsynced n ≡ false
  all_synced n inside = not_true (disk.unsynced n) (λ unsynced.
      other_apart g half n (log_inside g half n (subst (λ (a : Area). InArea a n) stood.area-is inside))
      (image_inside g (other half) n (stood.loose n unsynced)))

  pub has_room : IsAreaInside old.log.area disk.content
  has_room = subst (λ (a : Area). IsAreaInside a disk.content) (sym stood.area-is) (omega (arith, stood.store.room, log_room g half))

  -- the log stands for the groups of its half
  pub stands : Stands old.log disk.content stood.has.groups
  stands = stands_for Two old.log disk.content stood.groups stood.has.groups stood.stands
      (subst (λ (a : Area). HoldsGroups a disk.content stood.has.groups) (sym stood.area-is) stood.has.held)

  module _ (count : ℕ) (group : List RecordValue) (group_is : group ≡ take count old.waiting) (within : count ≤ length old.waiting)
      (room : old.log.open_slots ≢ old.log.area.slots) where
    pub total : old.synced + count ≤ handed
    total = omega (arith, within, ap length is.waits, length_between run old.synced handed is.opened is.reached is.made, is.reached)

    group_between : group ≡ records_between run old.synced (old.synced + count)
    group_between = group_is ∙ ap (take count) is.waits ∙ front_between run old.synced handed is.opened is.reached is.made count (omega (arith, total))

    group_size : length group ≡ count
    group_size = omega (
      arith,
      ap length group_between,
      length_between run old.synced (old.synced + count) is.opened (omega arith) (omega (arith, total, is.made)),
    )

    follow : AreFollowing g.pages old.synced (cells_at run old.synced) group
    follow = subst (AreFollowing g.pages old.synced (cells_at run old.synced)) (sym group_between)
        (between_following run old.synced (old.synced + count) is.run-is is.opened (omega (arith, is.reached, is.made)))

    cells_new : cells_after (cells_at run old.synced) group ≡ cells_at run (old.synced + count)
    cells_new = ap (cells_after (cells_at run old.synced)) group_between ∙ reached run old.synced (old.synced + count) is.opened (omega arith)

    below : old.log.open_slots < old.log.area.slots
    below = omega (arith, room, stood.stands.counted, stood.stands.held.room)

    -- a sector of the slot is one of the log
    in_log : (n : ℕ) → InSlot old.log.area old.log.open_slots n → InLog g half n
    in_log n slot = subst (λ (a : Area). InArea a n) stood.area-is (omega (arith, slot.0), omega (arith, slot.1, below))

    -- a sector that an append may change
    abbrev MayChange : ℕ → Type 0
    MayChange n = InLog g half n ⊎ InHalfImage g (other half) n

    not_front : (n : ℕ) → MayChange n → 2 ≤ n
    not_front n (inl log) = behind_front g half n (log_inside g half n log)
    not_front n (inr image) = behind_front g (other half) n (image_inside g (other half) n image)

    not_image : (n : ℕ) → InHalfImage g half n → ¬ MayChange n
    not_image n inside (inl log) = parts_apart g half n inside log
    not_image n inside (inr image) = other_apart g half n (image_inside g half n inside) (image_inside g (other half) n image)

    module _ (c : CrashState) (same : SameOutside MayChange disk.content c) where
      store_there : IsStore g half c
      store_there = store_in_front g half disk.content c same.sectors (λ n few. same.same n (λ may. omega (arith, few, not_front n may))) stood.store

      image_there : SameIn (InHalfImage g half) disk.content c
      image_there = in_from_outside (InHalfImage g half) MayChange disk.content c not_image same

      there : (groups : List (List RecordValue)) → HoldsGroups old.log.area c groups → HoldsGroups (log_area g half) c groups
      there groups held = subst (λ (a : Area). HoldsGroups a c groups) stood.area-is held

      -- the groups as they were
      left_without : HoldsGroups old.log.area c stood.has.groups → LeftBy run old.synced handed c
      left_without held = left_by run old.synced handed old.synced c (omega arith) is.reached
          (record {
            half = half;
            store = store_there;
            has = same_groups g half disk.content c old.synced (cells_at run old.synced) stood.has image_there
                (there stood.has.groups held);
          })

      -- and one group more
      pub has_more : HoldsGroups old.log.area c (stood.has.groups ++ group ∷ []) → HalfHas g half c (old.synced + count) (cells_at run (old.synced + count))
      has_more held =
          let more = one_group_more g half disk.content c old.synced (cells_at run old.synced) stood.has image_there group follow
          (there (stood.has.groups ++ group ∷ []) held) in
          subst (λ (x : Cells). HalfHas g half c (old.synced + count) x) cells_new
          (subst (λ n. HalfHas g half c (old.synced + n) (cells_after (cells_at run old.synced) group)) group_size more)

      left_with : (floor : ℕ) → floor ≤ old.synced + count → HoldsGroups old.log.area c (stood.has.groups ++ group ∷ []) → LeftBy run floor handed c
      left_with floor least held = left_by run floor handed (old.synced + count) c least total
          (record { half = half; store = store_there; has = has_more held })

    -- what a crash leaves of an append
    pub left : (c : CrashState) → IsAppended old.log disk group c → LeftBy run old.synced handed c
    left c appended = ⊎_elim (left_without c same) (left_with c same old.synced (omega arith)) (appended.groups stood.has.groups stands)
      where
        same : SameOutside MayChange disk.content c
        same = same_outside_wider _ MayChange disk.content c (λ n either.
            ⊎_elim (λ slot. inl (in_log n slot)) (λ unsynced. inr (stood.loose n unsynced)) either) appended.outside

    pub leaves : (new : DevicePast) → LeavesOnly (past_of old.device) new (IsAppended old.log disk group)
        → LeavesOnly (past_of old.device) new (LeftBy run old.synced handed)
    leaves new any_moment = weaker (past_of old.device) new (IsAppended old.log disk group) (LeftBy run old.synced handed) left any_moment

    -- after the append was done
    module _ (new : Writer D M) (halves_is : new.halves ≡ old.halves) (same_area : new.log.area ≡ old.log.area) (synced_is : new.synced ≡ old.synced)
        (waiting_is : new.waiting ≡ old.waiting) (image_is : new.image ≡ old.image) (copying_is : new.copying ≡ old.copying)
        (known_is : new.known ≡ old.known)
        (slot : SameOutside (InSlot old.log.area old.log.open_slots) disk.content (past_of new.device).disk.content)
        (stands_new : Stands new.log (past_of new.device).disk.content (stood.has.groups ++ group ∷ [])) (all : IsSynced (past_of new.device).disk) where
      abbrev content : CrashState
      content = (past_of new.device).disk.content

      outside : SameOutside MayChange disk.content content
      outside = same_outside_wider _ MayChange disk.content content (λ n inside. inl (in_log n inside)) slot

      held_new : HoldsGroups old.log.area content (stood.has.groups ++ group ∷ [])
      held_new = subst (λ (a : Area). HoldsGroups a content (stood.has.groups ++ group ∷ [])) same_area stands_new.held

      other_kept : SameIn (InHalf g (other half)) disk.content content
      other_kept = in_from_outside (InHalf g (other half)) _ disk.content content (λ n there inside.
          other_apart g half n (log_inside g half n (in_log n inside)) there) slot

      image_kept : IfSome old.image (IsUnderway run (other half) content old.synced)
      image_kept = if_underway_apart run (other half) disk.content content old.synced old.image other_kept stood.image

      -- what is known of pages
      handed_new : handed_of old ≡ handed_of new
      handed_new = omega (arith, synced_is, ap length waiting_is)

      known_new : KnowsPages run new.halves.current content (handed_of new) new.known.changed.items new.known.current new.known.other
      known_new = subst (λ (h : HalvesValue). KnowsPages run h.current content (handed_of new) new.known.changed.items new.known.current new.known.other)
          (sym halves_is)
          (subst (λ (k : KnownPages M). KnowsPages run half content (handed_of new) k.changed.items k.current k.other) (sym known_is)
          (subst (λ k. KnowsPages run half content k old.known.changed.items old.known.current old.known.other) handed_new
          (known_apart run half disk.content content (handed_of old) old.known.changed.items old.known.current old.known.other
          (pages_in g half disk.content content (image_there content outside))
          (pages_in g (other half) disk.content content (record {
            sectors = other_kept.sectors;
            same = λ n inside. other_kept.same n (image_inside g (other half) n inside);
          })) stood.known)))

      pub has_appended : HasAppended past_of run handed count new
      has_appended = record {
        run-is = is.run-is;
        geometry-is = ap (λ (h : HalvesValue). h.geometry) halves_is ∙ is.geometry-is;
        opened = omega (arith, is.opened, synced_is);
        made = is.made;
        small = is.small;
        within = omega (arith, total, synced_is);
        waits = waiting_is ∙ is.waits ∙ ap (λ n. records_between run n handed) (sym synced_is);
        store = subst (λ (h : HalvesValue). IsStore g h.current content) (sym halves_is) (store_there content outside);
        has = subst (λ n. HalfHas g new.halves.current content (n + count) (cells_at run (n + count))) (sym synced_is)
            (subst (λ (h : HalvesValue). HalfHas g h.current content (old.synced + count) (cells_at run (old.synced + count))) (sym halves_is)
            (has_more content outside held_new));
        area-is = same_area ∙ stood.area-is ∙ ap (λ (h : HalvesValue). log_area g h.current) (sym halves_is);
        groups = stood.has.groups ++ group ∷ [];
        stands = stands_new;
        all_synced = all;
        image = subst (λ (t : Option NewImage). IfSome t (IsUnderway run (other new.halves.current) content new.synced)) (sym image_is)
            (subst (λ n. IfSome old.image (IsUnderway run (other new.halves.current) content n)) (sym synced_is)
            (subst (λ (h : HalvesValue). IfSome old.image (IsUnderway run (other h.current) content old.synced)) (sym halves_is) image_kept));
        copying = subst (λ (t : Option NewImage). IsCopying g.pages new.copying t) (sym image_is)
            (subst (λ (at : Copying). IsCopying g.pages at old.image) (sym copying_is) stood.copying);
        known = known_new;
      }

-- after a call that left records and numbers alone
module _ {D M : Type 0} (past_of : D → DevicePast) (run : Run) (handed : ℕ) (old new : Writer D M) (is : IsWriter past_of run handed old) where
  pub carried_on : new.halves ≡ old.halves → new.synced ≡ old.synced → new.waiting ≡ old.waiting → (new.failed ≡ false → StandsFor past_of run new)
      → LeavesOnly (past_of old.device) (past_of new.device) (LeftBy run old.synced handed) → IsWriter past_of run handed new
  carried_on halves_is synced_is waiting_is holds left = record {
    run-is = is.run-is;
    geometry-is = ap (λ (h : HalvesValue). h.geometry) halves_is ∙ is.geometry-is;
    opened = omega (arith, is.opened, synced_is);
    reached = omega (arith, is.reached, synced_is);
    made = is.made;
    small = is.small;
    waits = waiting_is ∙ is.waits ∙ ap (λ n. records_between run n handed) (sym synced_is);
    holds = holds;
    images = λ image crash. subst (λ n. LeftBy run n handed image) (sym synced_is)
        (at_end (past_of old.device) (past_of new.device) (LeftBy run old.synced handed) left image crash);
  }

pub on_ok_at : {T E P : Type 0} {x : T} (r : Result T E) → r ≡ Ok x → OnOk r P → P
on_ok_at {T} {E} {P} r is h = subst (λ (s : Result T E). OnOk s P) is h
