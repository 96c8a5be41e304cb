-- What an image gives, for proofs in the crates above: one answer at most, and then no refusal.
use Rattle.std.proofs.Common.{◌≡◌, ◌⊎◌, ◌↔◌, ⊎_elim, inl, inr, Bool, IsTrue, ℕ, ◌+◌, ◌<◌, ◌≤◌, List, [], ◌++◌, length, take, take-take, drop, refl, sym, ap}
use Rattle.std.proofs.Common.{subst, ◌∙◌, arith, length-append}
use Rattle.std.proofs.lemmas.Bool.{cases_lt}
use Rattle.std.proofs.lemmas.List.{take-append-drop}
use Rattle.std.proofs.lemmas.Grind.{flat_map-append}
use Rattle.sector_device.specs.Disk.{CrashState}
use Rattle.records.specs.RecordValue.{RecordValue}
use Rattle.record_values.specs.declared.version.Version.{Version}
use Rattle.record_values.specs.declared.version.Version.TheVariants.{One}
use Rattle.record_values.specs.GeometryValue.{GeometryValue}
use Rattle.record_values.specs.Orders.{pair_cmp}
use Rattle.record_values.specs.declared.pair.Mark.{Mark}
use Rattle.record_values.specs.declared.error.Error.{Error}
use Rattle.record_values.specs.declared.error.Error.TheVariants.{Damaged, OldVersion}
use Rattle.std.specs.FinMap as map
use Rattle.std.specs.FinMap.{len}
use Rattle.model.specs.Cells.{Cells}
use Rattle.model.specs.Following.{AreFollowing, IsFirstUnfit}
use Rattle.model.specs.Given.{Given, given_after, nothing}
use Rattle.store_reader.specs.Store.{StoreValue}
use Rattle.model.proofs.FollowingLaws.{not_following, one_unfit}
use Rattle.gate_log.specs.Area.{Area, Log, HoldsGroupsIn, StandsIn, records_of, IsGateOf, Refuses}
use Rattle.gate_log.proofs.Readings as log
use Rattle.store_image_half.specs.Image.{no_cells}
use Rattle.store_image_half.proofs.Readings as images
use Rattle.flip_image.specs.declared.half.Half.{Half}
use Rattle.flip_image.specs.declared.half.Half.TheVariants.{A}
use Rattle.flip_image.specs.Layout.{header_sector_in}
use Rattle.flip_image.specs.Store.{AreGatesClosed, HoldsImage, HoldsImageIn, IsFormatted, IsStoreIn}
use Rattle.flip_image.proofs.Stores as stores
use Rattle.store_reader.specs.Contents.{log_area_in, given_over, GivesIn, HoldsStoreIn, IsFoundIn, IsUntouched, IsUntouchedIn, IsMisplacedAtIn}
use Rattle.store_reader.specs.Contents.{IsOverfullIn, IsLogDamagedIn, IsHalfDamagedIn, IsStoreDamagedAtIn, IsUnreadable, IsUnreadableIn}

-- one image, and one list of records behind it
pub record AreOne (m n : ℕ) (x y : Cells) (rs ss : List RecordValue) : Type 0 where
  pub base : m ≡ n
  pub cells : x ≡ y
  pub records : rs ≡ ss

-- records that were redone over an image's cells, and for which store
pub follows : (geometry : GeometryValue) (records : List RecordValue) (begun : StoreValue) → begun.geometry ≡ geometry
    → AreFollowing begun.geometry.pages begun.last begun.cells records → AreFollowing geometry.pages begun.last begun.cells records
follows geometry records begun is = subst (λ (x : GeometryValue). AreFollowing x.pages begun.last begun.cells records) is

-- the first record that could not be redone over them
pub first_unfit : (geometry : GeometryValue) (records read : List RecordValue) (begun : StoreValue) (index : ℕ) → begun.geometry ≡ geometry → records ≡ read
    → IsFirstUnfit begun.geometry.pages begun.last begun.cells records index → IsFirstUnfit geometry.pages begun.last begun.cells read index
first_unfit geometry records read begun index is same first =
    subst (λ (l : List RecordValue). IsFirstUnfit geometry.pages begun.last begun.cells l index) same
    (subst (λ (x : GeometryValue). IsFirstUnfit x.pages begun.last begun.cells records index) is first)

records_rise : (groups : List (List RecordValue)) (m n : ℕ) → m ≤ n → length (records_of (take m groups)) ≤ length (records_of (take n groups))
records_rise groups m n less =
    let parts : take n groups ≡ take m groups ++ drop m (take n groups) = sym (take-append-drop m (take n groups))
    ∙ ap (λ l. l ++ drop m (take n groups)) (take-take m n groups less) in
    let all : records_of (take n groups) ≡ records_of (take m groups) ++ records_of (drop m (take n groups)) = ap records_of parts
    ∙ flat_map-append (λ (group : List RecordValue). group) (take m groups) (drop m (take n groups)) in
    omega (arith, ap length all, length-append (records_of (take m groups)) (records_of (drop m (take n groups))))

one_gate : (area : Area) (groups : List (List RecordValue)) (index m n : ℕ) → IsGateOf area groups index m → IsGateOf area groups index n → m ≡ n
one_gate area groups index m n p q =
    ⊎_elim (λ less. absurd (apart p.slot q.slot less p.before q.behind))
    (λ up. ⊎_elim (λ less. absurd (apart q.slot p.slot less q.before p.behind)) (λ down. p.gate-is
    ∙ omega (arith, up, down, q.gate-is)) (cases_lt q.slot p.slot))
    (cases_lt p.slot q.slot)
  where
    apart : (i j : ℕ) → i < j → index < length (records_of (take (i + 1) groups)) → ¬ (length (records_of (take j groups)) ≤ index)
    apart i j less before behind = omega (arith, before, behind, records_rise groups (i + 1) j (omega arith))

module _ (v : Version) where
  -- ---- one answer

  pub one_geometry : (image : CrashState) (g h : GeometryValue) (x y : Given) → GivesIn v image g x → GivesIn v image h y → g ≡ h
  one_geometry image g h x y p q = stores.one_geometry v g h p.half q.half image p.holds.store q.holds.store

  one_held : (image : CrashState) (g : GeometryValue) (half : Half) (m n : ℕ) (x y : Cells) (rs ss : List RecordValue) → HoldsStoreIn v image g half m x rs
      → HoldsStoreIn v image g half n y ss → AreOne m n x y rs ss
  one_held image g half m n x y rs ss p q = record {
    base = images.one_base v g (header_sector_in v g half) image m n x y p.imaged q.imaged;
    cells = images.one_image v g (header_sector_in v g half) image m n x y p.imaged q.imaged;
    records = p.all ∙ ap records_of (log.one_reading v (log_area_in v g half) image p.groups q.groups p.held q.held) ∙ sym q.all;
  }

  -- of whatever geometry and half
  pub one_store : (image : CrashState) (g h : GeometryValue) (a b : Half) (m n : ℕ) (x y : Cells) (rs ss : List RecordValue) → HoldsStoreIn v image g a m x rs
      → HoldsStoreIn v image h b n y ss → AreOne m n x y rs ss
  one_store image g h a b m n x y rs ss p q =
      one_held image g a m n x y rs ss p
      (subst (λ (k : GeometryValue). HoldsStoreIn v image k a n y ss) (sym (stores.one_geometry v g h a b image p.store q.store))
      (subst (λ (k : Half). HoldsStoreIn v image h k n y ss) (sym (stores.one_half v g h a b image p.store q.store)) q))

  pub one_given : (image : CrashState) (g h : GeometryValue) (x y : Given) → GivesIn v image g x → GivesIn v image h y → x ≡ y
  one_given image g h x y p q =
      let same = one_store image g h p.half q.half p.base q.base p.cells q.cells p.records q.records p.holds q.holds in
      p.recovered ∙ (λ i. given_over (same.base i) (same.cells i) (same.records i)) ∙ sym q.recovered

  pub holds : (image : CrashState) (g : GeometryValue) (half : Half) (base : ℕ) (cells : Cells) (area : Log) (groups : List (List RecordValue))
      (records : List RecordValue)
      → IsStoreIn v g half image → HoldsImageIn v g half image base cells → area.area ≡ log_area_in v g half → StandsIn v area image groups
      → records ≡ records_of groups
      → AreFollowing g.pages base cells records → HoldsStoreIn v image g half base cells records
  holds image g half base cells area groups records store imaged is stands all following = record {
    store = store;
    imaged = imaged;
    groups = groups;
    held = subst (λ (a : Area). HoldsGroupsIn v a image groups) is stands.held;
    all = all;
    following = following;
  }

  pub found : (image : CrashState) (g : GeometryValue) (half : Half) (base : ℕ) (cells : Cells) (area : Log) (groups : List (List RecordValue))
      (records : List RecordValue) (given : Given)
      → IsStoreIn v g half image → HoldsImageIn v g half image base cells → area.area ≡ log_area_in v g half → StandsIn v area image groups
      → records ≡ records_of groups
      → AreFollowing g.pages base cells records → given ≡ given_over base cells records → len given.entries ≤ g.entries → IsFoundIn v image g area given
  unfolding holds
  found image g half base cells area groups records given store imaged is stands all following recovered room = record {
    gives = record {
      half = half;
      base = base;
      cells = cells;
      records = records;
      holds = holds image g half base cells area groups records store imaged is stands all following;
      recovered = recovered;
      room = room;
    };
    area = is;
    stands = stands;
  }

  -- one log, with as many open slots as there are groups
  pub one_found : (image : CrashState) (g h : GeometryValue) (a b : Log) (x y : Given) → IsFoundIn v image g a x → IsFoundIn v image h b y → a ≡ b
  one_found image g h a b x y p q = λ i. record { area = same_area i; open_slots = same_count i }
    where
      same_geometry : g ≡ h
      same_geometry = stores.one_geometry v g h p.gives.half q.gives.half image p.gives.holds.store q.gives.holds.store

      same_half : p.gives.half ≡ q.gives.half
      same_half = stores.one_half v g h p.gives.half q.gives.half image p.gives.holds.store q.gives.holds.store

      same_area : a.area ≡ b.area
      same_area = p.area ∙ (λ i. log_area_in v (same_geometry i) (same_half i)) ∙ sym q.area

      same_groups : p.gives.holds.groups ≡ q.gives.holds.groups
      same_groups = log.one_reading v b.area image p.gives.holds.groups q.gives.holds.groups
          (subst (λ (r : Area). HoldsGroupsIn v r image p.gives.holds.groups) same_area p.stands.held) q.stands.held

      same_count : a.open_slots ≡ b.open_slots
      same_count = p.stands.counted ∙ ap length same_groups ∙ sym q.stands.counted

  -- ---- a store that holds nothing

  -- over the image of no cells whose base is 0, a log with no record
  untouched : (image : CrashState) (g : GeometryValue) (half : Half) (base : ℕ) (cells : Cells) (records : List RecordValue)
      → HoldsStoreIn v image g half base cells records → base ≡ 0 → cells ≡ no_cells → records ≡ [] → IsUntouchedIn v image g
  untouched image g half base cells records is zero bare none = (
    half,
    record {
      store = is.store;
      imaged = subst (λ n. HoldsImageIn v g half image n no_cells) zero (subst (HoldsImageIn v g half image base) bare is.imaged);
      groups = is.groups;
      held = is.held;
      all = sym none ∙ is.all;
      following = tt;
    },
  )

  -- which is the only way to hold nothing
  touched_so : (image : CrashState) (g : GeometryValue) (half : Half) (base : ℕ) (cells : Cells) (records : List RecordValue)
      → HoldsStoreIn v image g half base cells records → IsUntouchedIn v image g → AreOne base 0 cells no_cells records []
  touched_so image g half base cells records is none = one_store image g g half none.0 base 0 cells no_cells records [] is none.1

  -- so a reader tells it by the image and the records that it found
  pub told_untouched : (image : CrashState) (g : GeometryValue) (half : Half) (base : ℕ) (cells : Cells) (records : List RecordValue) (bare result : Bool)
      → HoldsStoreIn v image g half base cells records
      → (IsTrue bare ↔ (base ≡ 0) × (cells ≡ no_cells)) → (IsTrue result ↔ IsTrue bare × (records ≡ [])) → IsTrue result ↔ IsUntouchedIn v image g
  told_untouched image g half base cells records bare result is bare_is result_is = (
    (λ yes. let both = result_is.0 yes in let none = bare_is.0 both.0 in untouched image g half base cells records is none.0 none.1 both.1),
    (λ none. let one = touched_so image g half base cells records is none in result_is.1 (bare_is.1 (one.base, one.cells), one.records)),
  )

  pub untouched_gives : (image : CrashState) (g : GeometryValue) → nothing ≡ given_after nothing [] → IsUntouchedIn v image g → GivesIn v image g nothing
  untouched_gives image g again (half, is) = record {
    half = half;
    base = 0;
    cells = no_cells;
    records = [];
    holds = is;
    recovered = again;
    room = omega (arith, map.len-empty pair_cmp Mark);
  }

  -- ---- no refusal

  not_damaged : (image : CrashState) (g : GeometryValue) (half : Half) (base : ℕ) (cells : Cells) (records : List RecordValue) (sector : ℕ)
      → HoldsStoreIn v image g half base cells records → len (given_over base cells records).entries ≤ g.entries → ¬ IsHalfDamagedIn v g half image sector
  not_damaged image g half base cells records sector holds room (inl damaged) =
      images.not_damaged v g (header_sector_in v g half) image base cells sector damaged holds.imaged
  not_damaged image g half base cells records sector holds room (inr at) = ⊎_elim
      (λ slot. log.not_damaged v (log_area_in v g half) image sector holds.groups slot holds.held)
      (λ later. ⊎_elim misplaced overfull later)
      at.first
    where
      same_base : at.base ≡ base
      same_base = images.one_base v g (header_sector_in v g half) image at.base base at.cells cells at.imaged holds.imaged

      same_cells : at.cells ≡ cells
      same_cells = images.one_image v g (header_sector_in v g half) image at.base base at.cells cells at.imaged holds.imaged

      misplaced : ¬ IsMisplacedAtIn v g half image at.base at.cells sector
      misplaced there =
          let same : records_of there.groups ≡ records = ap records_of
          (log.one_reading v (log_area_in v g half) image there.groups holds.groups there.held holds.held) ∙ sym holds.all in
          let first : IsFirstUnfit g.pages at.base at.cells records there.index =
          subst (λ (l : List RecordValue). IsFirstUnfit g.pages at.base at.cells l there.index) same there.first in
          not_following g.pages base cells records there.index
          (subst (λ n. IsFirstUnfit g.pages n cells records there.index) same_base
          (subst (λ (c : Cells). IsFirstUnfit g.pages at.base c records there.index) same_cells first)) holds.following

      overfull : ¬ IsOverfullIn v g half image at.base at.cells sector
      overfull over =
          let same = one_held image g half at.base base at.cells cells over.records records over.holds holds in
          let given : given_over at.base at.cells over.records ≡ given_over base cells records = λ i.
          given_over (same.base i) (same.cells i) (same.records i) in
          let crowded : g.entries < len (given_over base cells records).entries = subst (λ (x : Given). g.entries < len x.entries) given over.crowded in
          omega (arith, room, crowded)

  pub readable : (image : CrashState) (g : GeometryValue) (given : Given) (e : Error) → GivesIn v image g given → ¬ IsUnreadableIn v image e
  readable image g given e gives (inl refused) = stores.accepted v g gives.half image e gives.holds.store refused
  readable image g given e gives (inr (sector, is, damaged)) =
      let same_geometry = stores.one_geometry v damaged.geometry g damaged.half gives.half image damaged.store gives.holds.store in
      let same_half = stores.one_half v damaged.geometry g damaged.half gives.half image damaged.store gives.holds.store in
      let here = subst (λ (k : Half). IsHalfDamagedIn v g k image sector) same_half
      (subst (λ (k : GeometryValue). IsHalfDamagedIn v k damaged.half image sector) same_geometry damaged.damaged) in
      not_damaged image g gives.half gives.base gives.cells gives.records sector gives.holds
      (subst (λ (x : Given). len x.entries ≤ g.entries) gives.recovered gives.room) here

  -- so a reader of an image that gives something can only want for memory, or fail with the device
  pub accepted_one : (image : CrashState) (g : GeometryValue) (given : Given) (before now : ℕ) (e : Error) → GivesIn v image g given
      → Refuses before now e ⊎ IsUnreadableIn v image e → Refuses before now e
  accepted_one image g given before now e gives (inl refused) = refused
  accepted_one image g given before now e gives (inr unreadable) = absurd (readable image g given e gives unreadable)

  -- ---- one refusal

  -- what is damaged behind an image
  abbrev Behind : GeometryValue → Half → CrashState → ℕ → Cells → ℕ → Type 0
  Behind g half image base cells n = IsMisplacedAtIn v g half image base cells n ⊎ IsOverfullIn v g half image base cells n

  module _ (g : GeometryValue) (half : Half) (image : CrashState) (base : ℕ) (cells : Cells) where
    one_misplacement : (m n : ℕ) → IsMisplacedAtIn v g half image base cells m → IsMisplacedAtIn v g half image base cells n → m ≡ n
    one_misplacement m n p q =
        let same = log.one_reading v (log_area_in v g half) image q.groups p.groups q.held p.held in
        let first = subst (λ (l : List (List RecordValue)). IsFirstUnfit g.pages base cells (records_of l) q.index) same q.first in
        let gate = subst (λ (l : List (List RecordValue)). IsGateOf (log_area_in v g half) l q.index n) same q.gate-is in
        one_gate (log_area_in v g half) p.groups p.index m n p.gate-is
        (subst (λ i. IsGateOf (log_area_in v g half) p.groups i n)
        (sym (one_unfit g.pages base cells (records_of p.groups) p.index q.index p.first first)) gate)

    -- a record that can't follow, and records that all can, aren't in one log
    apart : (m n : ℕ) → IsMisplacedAtIn v g half image base cells m → ¬ IsOverfullIn v g half image base cells n
    apart m n p q =
        let same : records_of p.groups ≡ q.records = ap records_of (log.one_reading v (log_area_in v g half) image p.groups q.holds.groups p.held q.holds.held)
        ∙ sym q.holds.all in
        not_following g.pages base cells q.records p.index
        (subst (λ (l : List RecordValue). IsFirstUnfit g.pages base cells l p.index) same p.first) q.holds.following

    one_behind : (m n : ℕ) → Behind g half image base cells m → Behind g half image base cells n → m ≡ n
    one_behind m n (inl p) (inl q) = one_misplacement m n p q
    one_behind m n (inl p) (inr q) = absurd (apart m n p q)
    one_behind m n (inr p) (inl q) = absurd (apart n m q p)
    one_behind m n (inr p) (inr q) = p.sector-is ∙ sym q.sector-is

    held_of : (n : ℕ) → Behind g half image base cells n → (groups : List (List RecordValue)) × HoldsGroupsIn v (log_area_in v g half) image groups
    held_of n (inl p) = (p.groups, p.held)
    held_of n (inr p) = (p.holds.groups, p.holds.held)

  one_log_damage : (g : GeometryValue) (half : Half) (image : CrashState) (m n : ℕ) → IsLogDamagedIn v g half image m → IsLogDamagedIn v g half image n → m ≡ n
  one_log_damage g half image m n p q = ⊎_elim
      (λ slot. ⊎_elim (λ other. log.one_damage v (log_area_in v g half) image m n slot other) (λ behind.
      let held = held_of g half image q.base q.cells n behind in absurd (log.not_damaged v (log_area_in v g half) image m held.0 slot held.1)) q.first)
      (λ behind. ⊎_elim (λ slot. let held = held_of g half image p.base p.cells m behind in
      absurd (log.not_damaged v (log_area_in v g half) image n held.0 slot held.1)) (λ other.
      one_behind g half image p.base p.cells m n behind (here other)) q.first)
      p.first
    where
      same_base : p.base ≡ q.base
      same_base = images.one_base v g (header_sector_in v g half) image p.base q.base p.cells q.cells p.imaged q.imaged

      same_cells : p.cells ≡ q.cells
      same_cells = images.one_image v g (header_sector_in v g half) image p.base q.base p.cells q.cells p.imaged q.imaged

      here : Behind g half image q.base q.cells n → Behind g half image p.base p.cells n
      here other = subst (λ k. Behind g half image k p.cells n) (sym same_base) (subst (λ (c : Cells). Behind g half image q.base c n) (sym same_cells) other)

  one_half_damage : (g : GeometryValue) (half : Half) (image : CrashState) (m n : ℕ) → IsHalfDamagedIn v g half image m → IsHalfDamagedIn v g half image n
      → m ≡ n
  one_half_damage g half image m n (inl p) (inl q) = images.one_damage v g (header_sector_in v g half) image m n p q
  one_half_damage g half image m n (inl p) (inr q) = absurd (images.not_damaged v g (header_sector_in v g half) image q.base q.cells m p q.imaged)
  one_half_damage g half image m n (inr p) (inl q) = absurd (images.not_damaged v g (header_sector_in v g half) image p.base p.cells n q p.imaged)
  one_half_damage g half image m n (inr p) (inr q) = one_log_damage g half image m n p q

  one_damage : (image : CrashState) (m n : ℕ) → IsStoreDamagedAtIn v image m → IsStoreDamagedAtIn v image n → m ≡ n
  one_damage image m n p q =
      let same_geometry = stores.one_geometry v q.geometry p.geometry q.half p.half image q.store p.store in
      let same_half = stores.one_half v q.geometry p.geometry q.half p.half image q.store p.store in
      one_half_damage p.geometry p.half image m n p.damaged
      (subst (λ (k : Half). IsHalfDamagedIn v p.geometry k image n) same_half
      (subst (λ (k : GeometryValue). IsHalfDamagedIn v k q.half image n) same_geometry q.damaged))

  pub one_refusal : (image : CrashState) (d e : Error) → IsUnreadableIn v image d → IsUnreadableIn v image e → d ≡ e
  one_refusal image d e (inl p) (inl q) = stores.one_refusal v image d e p q
  one_refusal image d e (inl p) (inr (sector, is, damaged)) = absurd (stores.accepted v damaged.geometry damaged.half image d damaged.store p)
  one_refusal image d e (inr (sector, is, damaged)) (inl q) = absurd (stores.accepted v damaged.geometry damaged.half image e damaged.store q)
  one_refusal image d e (inr (m, is, p)) (inr (n, are, q)) = is ∙ ap Damaged (one_damage image m n p q) ∙ sym are

-- ---- of version 2, which is written

-- what is formatted holds no group
pub formatted_untouched : (g : GeometryValue) (image : CrashState) → HoldsImage g A image 0 no_cells → IsFormatted g image → AreGatesClosed g A image
    → IsUntouched image g
formatted_untouched g image bare formatted closed = (
  A,
  record {
    store = formatted.store;
    imaged = bare;
    groups = [];
    held = record {
      room = omega arith;
      opened = λ slot none. absurd (omega (arith, none));
      closed = λ slot from inside. closed slot inside;
    };
    all = refl;
    following = tt;
  },
)

-- what a store of version 1 gives, a reader of version 2 refuses as old
pub old_refused : (image : CrashState) (g : GeometryValue) (given : Given) → GivesIn One image g given → IsUnreadable image OldVersion
old_refused image g given gives = inl (stores.refused_older g gives.half image gives.holds.store)
