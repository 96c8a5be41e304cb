-- Why a reader of a store refuses it.
use Rattle.std.proofs.Common.{◌≡◌, ◌⊎◌, ◌+◌, ◌*◌, ◌<◌, ◌≤◌, inl, inr, refl, ℕ, List, Result, Ok, Err, IfErr, sym, ap, subst, ◌∙◌, arith}
use Rattle.std.specs.FinMap.{len}
use Rattle.sector_device.specs.Disk.{CrashState}
use Rattle.records.specs.RecordValue.{RecordValue}
use Rattle.record_values.specs.declared.version.Version.{Version}
use Rattle.record_values.specs.GeometryValue.{GeometryValue, sectors_in}
use Rattle.record_values.specs.declared.geometry.TheConstants.{SLOT_SECTORS}
use Rattle.record_values.specs.declared.error.Error.{Error}
use Rattle.record_values.specs.declared.error.Error.TheVariants.{Damaged}
use Rattle.gate_log.specs.Area.{Area, Log, IsAreaInside, HoldsGroupsIn, StandsIn, records_of, IsGateOf, IsFirstDamagedSlotIn, Refuses}
use Rattle.store_image_half.specs.Damage.{IsFirstDamagedIn, IsUnreadIn}
use Rattle.flip_image.specs.declared.half.Half.{Half}
use Rattle.flip_image.specs.Layout.{header_sector_in, log_first_in}
use Rattle.flip_image.specs.Store.{HoldsImageIn, IsStoreIn}
use Rattle.model.specs.Cells.{Cells}
use Rattle.model.specs.Following.{IsFirstUnfit}
use Rattle.model.specs.Given.{Given}
use Rattle.store_reader.specs.Contents.{log_area_in, given_over, GivesIn, HoldsStoreIn, IsHalfDamagedIn, IsMisplacedAtIn, IsUnreadableIn}
use Rattle.store_reader.proofs.Readings as readings

refused_later : (a b c : ℕ) (e : Error) → b ≡ a → Refuses b c e → Refuses a c e
refused_later a b c e same refused = subst (λ n. Refuses n c e) same refused

module _ (v : Version) where
  -- the refusals of a reader of this image
  abbrev pub Why : CrashState → ℕ → ℕ → Error → Type 0
  Why image before now e = Refuses before now e ⊎ IsUnreadableIn v image e

  pub accepted : {T : Type 0} (r : Result T Error) (image : CrashState) (g : GeometryValue) (given : Given) (before now : ℕ) → GivesIn v image g given
      → IfErr r (Why image before now) → IfErr r (Refuses before now)
  accepted (Ok x) image g given before now gives why = tt
  accepted (Err e) image g given before now gives why = readings.accepted_one v image g given before now e gives why

  module _ (image : CrashState) (g : GeometryValue) (half : Half) (a c : ℕ) (store : IsStoreIn v g half image) where
    damaged_at : (e : Error) (n : ℕ) → e ≡ Damaged n → IsHalfDamagedIn v g half image n → Why image a c e
    damaged_at e n is damaged = inr (inr (n, is, record { geometry = g; half = half; store = store; damaged = damaged }))

    module _ (now : CrashState) (b : ℕ) (e : Error) (same : now ≡ image) (quiet : b ≡ a) where
      pub image_unread : IsUnreadIn v g (header_sector_in v g half) now b c e → Why image a c e
      image_unread (inl hindered) = inl (refused_later a b c e quiet hindered)
      image_unread (inr (n, is, damaged)) = damaged_at e n is
          (inl (subst (λ (i : CrashState). IsFirstDamagedIn v g (header_sector_in v g half) i n) same damaged))

      module _ (base : ℕ) (cells : Cells) (imaged : HoldsImageIn v g half image base cells) where
        pub slot_damaged : (area : Area) → area ≡ log_area_in v g half → Refuses b c e ⊎ ((n : ℕ) × (e ≡ Damaged n) × IsFirstDamagedSlotIn v area now n)
            → Why image a c e
        slot_damaged area is (inl refused) = inl (refused_later a b c e quiet refused)
        slot_damaged area is (inr (n, named, damaged)) =
            let first = subst (λ (i : CrashState). IsFirstDamagedSlotIn v (log_area_in v g half) i n) same
            (subst (λ (x : Area). IsFirstDamagedSlotIn v x now n) is damaged) in
            damaged_at e n named (inr (record { base = base; cells = cells; imaged = imaged; first = inl first }))

        pub record_misplaced : (log : Log) (groups : List (List RecordValue)) (index : ℕ) → log.area ≡ log_area_in v g half → StandsIn v log now groups
            → IsFirstUnfit g.pages base cells (records_of groups) index
            → Refuses b c e ⊎ ((n : ℕ) × (e ≡ Damaged n) × ((held : List (List RecordValue)) → StandsIn v log now held → IsGateOf log.area held index n))
            → Why image a c e
        record_misplaced log groups index is stands first (inl refused) = inl (refused_later a b c e quiet refused)
        record_misplaced log groups index is stands first (inr (n, named, at)) =
            let misplaced : IsMisplacedAtIn v g half image base cells n = record {
              groups = groups;
              held = subst (λ (i : CrashState). HoldsGroupsIn v (log_area_in v g half) i groups) same
                  (subst (λ (x : Area). HoldsGroupsIn v x now groups) is stands.held);
              index = index;
              first = first;
              gate-is = subst (λ (x : Area). IsGateOf x groups index n) is (at groups stands);
            } in
            damaged_at e n named (inr (record { base = base; cells = cells; imaged = imaged; first = inr (inl misplaced) }))

  -- the records of a log leave too many entries
  pub overfull : (image : CrashState) (g : GeometryValue) (half : Half) (base : ℕ) (cells : Cells) (records : List RecordValue) (sector a c : ℕ)
      → HoldsStoreIn v image g half base cells records → g.entries < len (given_over base cells records).entries
      → sector ≡ header_sector_in v g half → Why image a c (Damaged sector)
  overfull image g half base cells records sector a c holds crowded is =
      damaged_at image g half a c holds.store (Damaged sector) sector refl
      (inr (record {
        base = base;
        cells = cells;
        imaged = holds.imaged;
        first = inr (inr (record { records = records; holds = holds; crowded = crowded; sector-is = is }));
      }))

  pub area_is : (first slots : ℕ) (g : GeometryValue) (half : Half) → first ≡ log_first_in v g half → slots ≡ g.slots
      → record { first = first; slots = slots } ≡ log_area_in v g half
  area_is first slots g half p q = ap (λ (n : ℕ). let area : Area = record { first = n; slots = slots } in area) p
      ∙ ap (λ (n : ℕ). let area : Area = record { first = log_first_in v g half; slots = n } in area) q

  -- the log of a store's half lies on the device
  pub area_inside : (first : ℕ) (g : GeometryValue) (half : Half) (area : Area) (image : CrashState) → area ≡ log_area_in v g half
      → first ≡ log_first_in v g half → first + SLOT_SECTORS * g.slots ≤ sectors_in v g → IsStoreIn v g half image → IsAreaInside area image
  area_inside first g half area image is value inside store =
      subst (λ (a : Area). IsAreaInside a image) (sym is) (omega (arith, value, inside, store.room))

-- ---- how often the device failed

pub later_than : (a b c : ℕ) → b ≡ a → b ≤ c → a ≤ c
later_than a b c same later = omega (arith, same, later)

pub not_fewer : (a b : ℕ) → b ≡ a → a ≤ b
not_fewer a b same = omega (arith, same)
