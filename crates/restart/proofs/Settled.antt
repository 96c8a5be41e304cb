-- An engine that is left as a restart would leave it.
use Rattle.std.proofs.Common.{◌≡◌, ◌⊎◌, false, inl, inr, ℕ, ◌+◌, ◌-◌, ◌≤◌, ◌<◌, List, [], ◌∷◌, ◌++◌, length, take, refl, sym, ◌∙◌, ap, subst}
use Rattle.std.proofs.Common.{None, Some, IfSome, Option, unwrap_or, zero, suc, Result, Ok, Err, IfOk, IfErr, ◌↔◌, arith, append-nil, ⊎_elim}
use Rattle.std.proofs.lemmas.List.{nil_from_length, take_all}
use Rattle.std.specs.FinMap as map
use Rattle.std.specs.Ordering.{nat_cmp}
use Rattle.records.specs.ChangeValue.{ChangeValue}
use Rattle.record_values.specs.GeometryValue.{GeometryValue}
use Rattle.record_values.specs.Values.{Place}
use Rattle.record_values.specs.declared.row.Row.{Row}
use Rattle.records.specs.RecordValue.{RecordValue}
use Rattle.record_values.specs.declared.error.Error.{Error}
use Rattle.record_values.specs.declared.error.Error.TheVariants.{IndexFull, NoMemory}
use Rattle.record_values.specs.declared.number.TheConstants.{LAST_NUMBER}
use Rattle.model.specs.Cells.{Cells, cells_after, list_of}
use Rattle.model.specs.Following.{ArePlaced}
use Rattle.model.specs.Given.{Given, IsBeginning, opening_cells, recovered}
use Rattle.model.specs.Inside.{IsGivenInside}
use Rattle.model.specs.Redo.{cells_of}
use Rattle.model.specs.declared.cell_maps.CellMaps.{CellMaps}
use Rattle.model.specs.Table.{Table}
use Rattle.record_values.specs.Entries.{Index}
use Rattle.model.proofs.GivenLaws.{given_again}
use Rattle.core_model.specs.Events as core
use Rattle.core_model.specs.Events.{Standing, standing_at}
use Rattle.core_model.specs.Served as told
use Rattle.core_model.specs.Served.{IsMadeOf}
use Rattle.core_copies.specs.Lists.{HasLists}
use Rattle.core_copies.specs.Pieces.{IsWholeOf}
use Rattle.core_copies.specs.Shown.{IsCellsOf, list_shown}
use Rattle.core_copies.specs.Loaded.{holding}
use Rattle.core_model.specs.Histories.{Opened, no_writes, opened}
use Rattle.core_model.specs.Records.{HasCells}
use Rattle.core_model.specs.States.{State}
use Rattle.flip_image.specs.Layout.{header_sector, other}
use Rattle.flip_image.specs.declared.half.Half.{Half}
use Rattle.store_image_half.specs.Part.{HasPage}
use Rattle.store_image_model.specs.declared.chunk.Piece.{Piece}
use Rattle.store_image_model.specs.declared.chunk.Piece.TheVariants.{Entries, Page, Start, Whole}
use Rattle.store_image_model.specs.Run.{Run, cells_at, end_of, records_between}
use Rattle.nsf_core.specs.Loading.{IsQuiet}
use Rattle.core_parts.specs.Opening.{opened_of}
use Rattle.core_parts.specs.View.{CoreValue, IsState}
use Rattle.sector_device.specs.Disk.{CrashState, IsCrashState}
use Rattle.sector_device.specs.DevicePast.{DevicePast}
use Rattle.sector_device.proofs.Moments.{weaker}
use Rattle.store_reader.specs.Contents.{Gives}
use Rattle.store_writer.specs.Contents.{HalfHas, LeftBy, StoreHas}
use Rattle.store_writer.specs.Image.{IsUnderway}
use Rattle.store_writer.specs.Known.{HasPageNow, HasUnchanged, KnowsPages}
use Rattle.store_writer.specs.Parts as writer
use Rattle.store_writer.specs.Writer.{IsWriter, StandsFor}
use Rattle.store_writer.specs.declared.copying.Copying.TheVariants.{GivenUp, Idle}
use Rattle.store_writer.specs.declared.image.NewImage.{NewImage}
use Rattle.store_writer.specs.declared.writer.Writer.{Writer}
use Rattle.txn_table.specs.Sound.{IsSoundTable}
use Rattle.txn_table.specs.Table.{state_of}
use Rattle.restart.specs.declared.event.Event.TheVariants.{Copy}
use Rattle.restart.specs.declared.event.Reply.{Reply}
use Rattle.restart.specs.declared.event.Reply.TheVariants as reply
use Rattle.restart.specs.declared.parts.EngineParts.{EngineParts}
use Rattle.restart.specs.Copies.{CannotFlip, CannotTake, IsCopyAnswer}
use Rattle.restart.specs.History.{core_calls, standing_over}
use Rattle.restart.specs.Parts.{core_of, device_of, has_failed, horizon_of, unhanded, unwritten, writer_of}
use Rattle.restart.specs.Settling.{CopiesAnew, IsFresh, IsSettled, WritesWhole, giving_up}
use Rattle.restart.specs.Store.{CanRun, IsAt, Past, ServesOn, StandsAt, Survives, and_then, over}
use Rattle.restart.proofs.Copied.{all_handed}
use Rattle.restart.proofs.Numbers.{count_between}
use Rattle.restart.proofs.Told.{pairs_last}

-- ---- an image under way is given up

module _ {D M : Type 0} (past_of : D → DevicePast) (engine : EngineParts D M)
    (gives : (run : Run) (handed : ℕ) → IsWriter past_of run handed (writer_of engine)
    → IsWriter past_of run handed (writer.without_image GivenUp (writer_of engine))) where
  stands_giving_up : (run : Run) (handed : ℕ) (s : State) (k : Standing) → StandsAt past_of run handed s k engine
      → StandsAt past_of run handed s k (giving_up engine)
  stands_giving_up run handed s k is = record {
    writer = gives run handed is.writer;
    rest = is.rest;
    shown = is.shown;
    log = is.log;
    pages = is.pages;
    places = is.places;
    made = is.made;
    lists = is.lists;
    geometry = is.geometry;
  }

  pub can_give_up : CanRun past_of engine → CanRun past_of (giving_up engine)
  can_give_up can = (can.0, can.1, can.2, can.3, stands_giving_up can.0 can.1 can.2 can.3 can.4)

  at_giving_up : (past : Past M) → IsAt past_of past engine → IsAt past_of past (giving_up engine)
  at_giving_up past is = record {
    answered = is.answered;
    kinds = is.kinds;
    opens = is.opens;
    made = is.made;
    handed = is.handed;
    state = is.state;
    standing = is.standing;
    served = is.served;
    stands = stands_giving_up _ is.handed is.state is.standing is.stands;
    safe = is.safe;
  }

  pub serves_anew : (r : Reply M) (new : EngineParts D M) → ServesOn past_of Copy r (giving_up engine) new → ServesOn past_of Copy r engine new
  serves_anew r new serves past is = serves past (at_giving_up past is)

-- such a copy takes the whole image, or is refused
pub whole_or_refused : {D M : Type 0} (failures : D → ℕ) (r : Reply M) (old new : EngineParts D M) → IsCopyAnswer failures r (giving_up old) new
    → ((n : ℕ) × (r ≡ reply.Flipped n)) ⊎ ((e : Error) × (r ≡ reply.Refused e))
whole_or_refused failures (reply.Flipped n) old new is = inl (n, refl)
whole_or_refused failures (reply.Refused e) old new is = inr (e, refl)
whole_or_refused failures reply.Copied old new is = absurd (let none = is.1.next in cc)
whole_or_refused failures reply.Again old new is =
    absurd (⊎_elim (λ (x : CannotTake (giving_up old) new). let none = x.next in cc) (λ (x : CannotFlip (giving_up old) new). let other = x.whole in cc) is.1)
whole_or_refused failures (reply.Txn t) old new is = absurd is
whole_or_refused failures (reply.Rid r) old new is = absurd is
whole_or_refused failures reply.Stepped old new is = absurd is
whole_or_refused failures reply.Undone old new is = absurd is
whole_or_refused failures reply.Empty old new is = absurd is
whole_or_refused failures reply.Ended old new is = absurd is
whole_or_refused failures (reply.Ticket t) old new is = absurd is
whole_or_refused failures (reply.Built b) old new is = absurd is
whole_or_refused failures (reply.Cleaned b) old new is = absurd is
whole_or_refused failures (reply.Horizon n) old new is = absurd is
whole_or_refused failures reply.LogFull old new is = absurd is
whole_or_refused failures (reply.Row row) old new is = absurd is
whole_or_refused failures (reply.Found rids) old new is = absurd is
whole_or_refused failures (reply.Life life) old new is = absurd is
whole_or_refused failures reply.Skipped old new is = absurd is

-- ---- what a copy more tells is told without it

module _ {M : Type 0} (past : Past M) (r : Reply M) (even : length past.replies ≡ length past.events) where
  no_call_more : core_calls (past.events ++ Copy ∷ []) (past.replies ++ r ∷ []) ≡ core_calls past.events past.replies
  no_call_more = pairs_last past.events past.replies Copy r even ∙ append-nil (core_calls past.events past.replies)

  pub survives_without : (floor : ℕ) (image : CrashState) → Survives (and_then past (Copy ∷ []) (r ∷ [])) floor image → Survives past floor image
  survives_without floor image left = record {
    given = left.given;
    gives = left.gives;
    beginning = subst (λ (pairs : List (core.Event × core.Reply)).
        IsBeginning past.given (told.items_of no_writes pairs) floor left.given) no_call_more left.beginning;
    within = subst (λ (pairs : List (core.Event × core.Reply)).
        left.given.last ≤ (standing_over (standing_at past.given.last) pairs).made) no_call_more left.within;
    records = subst (λ (pairs : List (core.Event × core.Reply)). IsMadeOf (over past.geometry past.given) pairs left.given) no_call_more left.records;
    opens = left.opens;
  }

-- ---- a copy of the whole core

pub must_be_whole : {A : Type 0} (v : CoreValue) (piece : Piece A) → IsWholeOf v piece → ((cells : CellMaps A) → piece ≡ Whole cells → ⊥) → ⊥
must_be_whole v (Whole copied) of none = none copied refl
must_be_whole v (Start life lists) of none = of
must_be_whole v (Page page rows) of none = of
must_be_whole v (Entries entries) of none = of

pub whole_cells : {A : Type 0} (v : CoreValue) (piece : Piece A) (copied : CellMaps A) → piece ≡ Whole copied → IsWholeOf v piece
    → IsCellsOf v (cells_of copied)
whole_cells v piece copied is of = let whole = subst (IsWholeOf v) is of in whole.0

pub given_same : (v : CoreValue) (cells : Cells) (last : ℕ) → IsCellsOf v cells → last ≡ v.last
    → record { table = cells.rows; entries = cells.entries; life = cells.life; last = last } ≡ (opened_of v).given
given_same v cells last are same = λ j. record { table = are.rows j; entries = are.entries j; life = are.life j; last = same j }

pub if_ok_both : {X E : Type 0} (P Q R : X → Type 0) (r : Result X E) → ((x : X) → P x → Q x → R x) → IfOk r P → IfOk r Q → IfOk r R
if_ok_both P Q R (Ok x) both p q = both x p q
if_ok_both P Q R (Err e) both p q = tt

-- what has room is refused for want of memory alone
pub only_memory : {X : Type 0} (r : Result X Error) (room count : ℕ) → ((r ≡ Err IndexFull) ↔ (room < count)) → IfErr r (λ e. (e ≡ IndexFull) ⊎ (e ≡ NoMemory))
    → count ≤ room → IfErr r (λ e. e ≡ NoMemory)
only_memory (Ok x) room count full refused fits = tt
only_memory (Err e) room count full refused fits =
    ⊎_elim (λ is. let more : room < count = full.0 (ap Err is) in absurd (omega (arith, more, fits))) (λ is. is) refused

-- ---- lists of which nothing is left

first_none : (a b : List RecordValue) → a ++ b ≡ [] → a ≡ []
first_none [] b none = refl
first_none (x ∷ a) b none = absurd cc

second_none : (a b : List RecordValue) → a ++ b ≡ [] → b ≡ []
second_none [] b none = none
second_none (x ∷ a) b none = absurd cc

abbrev no_records : List RecordValue
no_records = []

none_taken : (n : ℕ) → take n no_records ≡ []
none_taken zero = refl
none_taken (suc n) = refl

-- what was given, once more
given_held : (x : Given) → recovered (opening_cells x) x.last ≡ x
given_held x = ap (recovered (opening_cells x)) (let more : x.last ≡ x.last + 0 = omega arith in more) ∙ given_again x

-- ---- a core made anew

module _ {D M : Type 0} (past_of : D → DevicePast) (engine : EngineParts D M) (can : CanRun past_of engine) where
  abbrev v : CoreValue
  v = core_of engine

  stands : StandsAt past_of can.0 can.1 can.2 can.3 engine
  stands = can.4

  pages_are : (can.2).pages ≡ engine.geometry.pages
  pages_are = sym stands.pages ∙ ap (λ (g : GeometryValue). g.pages) (sym stands.geometry)

  places_are : (can.2).places ≡ engine.geometry.entries
  places_are = sym stands.places ∙ ap (λ (g : GeometryValue). g.entries) (sym stands.geometry)

  pub held_inside : IsGivenInside engine.geometry.pages (opened_of v).given
  held_inside = record {
    rows = λ r row there. subst (λ (n : ℕ). r.page < n) pages_are
        (stands.shown.fit.rows r row (ap (λ (rows : Table). map.get rows r) stands.shown.shown.rows ∙ there));
    entries = λ p there. subst (λ (n : ℕ). p.rid.page < n) pages_are
        (stands.shown.fit.inside.entries p (λ none. there (ap (λ (entries : Index). map.get entries p) (sym stands.shown.shown.entries) ∙ none)));
    life = λ p is. subst (λ (n : ℕ). p.rid.page < n) pages_are (stands.shown.fit.inside.highest p (stands.shown.shown.life ∙ is));
  }

  pub held_fits : map.len v.index.entries ≤ engine.geometry.entries
  held_fits = omega (arith, stands.shown.fit.places.fits, places_are, ap (λ (entries : Index). map.len entries) stands.shown.shown.entries)

  pub held_small : v.last ≤ LAST_NUMBER
  held_small = omega (arith, stands.shown.shown.made, stands.shown.standing.within)

  module _ (x : Given) (same : x ≡ (opened_of v).given) where
    opened_is : record { given = x; pages = engine.geometry.pages; places = engine.geometry.entries } ≡ opened_of v
    opened_is = λ j. record { given = same j; pages = (sym pages_are ∙ stands.shown.shown.pages) j; places = (sym places_are ∙ stands.shown.shown.places) j }

    pub fresh_made : (new : CoreValue) → new ≡ holding engine.geometry x
        → IsState new (opened (record { given = x; pages = engine.geometry.pages; places = engine.geometry.entries })) (standing_at x.last) → IsFresh v new
    fresh_made new made shown = record {
      geometry = engine.geometry;
      made = made ∙ ap (holding engine.geometry) same;
      same = ap opened_of made ∙ opened_is;
      stands = subst (λ (n : ℕ). IsState new (opened (opened_of v)) (standing_at n)) (ap (λ (g : Given). g.last) same)
          (subst (λ (o : Opened). IsState new (opened o) (standing_at x.last)) opened_is shown);
    }

  -- ---- a writer with everything, once a whole image is current

  module _ (quiet : IsQuiet v) (all : unwritten engine ≡ []) (sound : has_failed engine ≡ false) (empty : (writer.log_of (writer_of engine)).open_slots ≡ 0)
      (none : writer.image_of (writer_of engine) ≡ None) (idle : writer.copying_of (writer_of engine) ≡ Idle)
      (txns : IsSoundTable v.txns)
      (shown : (v : CoreValue) (s : State) (k : Standing) (cells : Cells) → IsSoundTable v.txns → IsState v s k → HasCells s cells → HasLists s cells
      → IsCellsOf v cells)
      (one : (v : CoreValue) (a b : Cells) → IsCellsOf v a → IsCellsOf v b → a ≡ b) where
    abbrev run : Run
    run = can.0

    abbrev w : Writer D M
    w = writer_of engine

    abbrev held : Given
    held = (opened_of v).given

    all_made : end_of run ≤ can.1
    all_made = all_handed past_of run can.1 can.2 can.3 engine stands (second_none (writer.waiting_of w) (unhanded engine) all)

    all_synced : can.1 ≤ horizon_of engine
    all_synced = omega (
      arith,
      stands.writer.reached,
      count_between run (horizon_of engine) can.1 stands.writer.opened stands.writer.made,
      ap length (sym stands.writer.waits ∙ first_none (writer.waiting_of w) (unhanded engine) all),
    )

    last_is : v.last ≡ end_of run
    last_is = sym (stands.made ∙ stands.shown.shown.made)

    synced_is : horizon_of engine ≡ v.last
    synced_is = omega (arith, all_made, all_synced, last_is, stands.writer.reached, stands.writer.made)

    all_cells : cells_after run.cells run.records ≡ cells_at run (end_of run)
    all_cells = ap (cells_after run.cells) (sym (take_all (end_of run - run.last) run.records (omega arith)))

    cells_now : IsCellsOf v (cells_at run (end_of run))
    cells_now = subst (IsCellsOf v) all_cells (shown v can.2 can.3 (cells_after run.cells run.records) txns stands.shown stands.log.set stands.lists)

    held_cells : IsCellsOf v (opening_cells held)
    held_cells = record {
      rows = refl;
      entries = refl;
      pending = λ t. map.get-empty nat_cmp t ∙ sym (ap (λ active. list_shown (state_of t active)) quiet);
      life = refl;
    }

    same_cells : cells_at run (end_of run) ≡ opening_cells held
    same_cells = one v (cells_at run (end_of run)) (opening_cells held) cells_now held_cells

    -- a run that has not begun, over what is held
    abbrev begun : GeometryValue → Run
    begun g = record { geometry = g; last = v.last; cells = opening_cells held; records = [] }

    cells_there : (n : ℕ) → n ≡ end_of run → cells_at run n ≡ cells_at (begun run.geometry) n
    cells_there n is = ap (cells_at run) is ∙ same_cells ∙ sym (ap (cells_after (opening_cells held)) (none_taken (n - v.last)))

    none_listed : (txn : ℕ) → list_of (opening_cells held).pending txn ≡ []
    none_listed txn = ap (λ (list : Option (List ChangeValue)). unwrap_or list []) (map.get-empty nat_cmp txn)

    number_is : (image : CrashState) (left : LeftBy run (horizon_of engine) can.1 image) → left.number ≡ end_of run
    number_is image left = omega (arith, left.least, left.most, all_made, all_synced, stands.writer.made)

    left_there : (image : CrashState) → LeftBy run (horizon_of engine) can.1 image → LeftBy (begun run.geometry) (horizon_of engine) v.last image
    left_there image left =
        let here = cells_there left.number (number_is image left) in
        record {
          number = left.number;
          least = left.least;
          most = omega (arith, number_is image left, last_is);
          has = subst (StoreHas run.geometry image left.number) here left.has;
          gives = subst (λ (cells : Cells). map.len (recovered cells left.number).entries ≤ run.geometry.entries
              → Gives image run.geometry (recovered cells left.number)) here left.gives;
        }

    handed_is : writer.handed_of w ≡ end_of run
    handed_is = omega (arith, ap length (first_none (writer.waiting_of w) (unhanded engine) all), synced_is, last_is)

    -- no record is made, so the cells are the same after any
    same_begun : (m n : ℕ) → cells_at (begun run.geometry) m ≡ cells_at (begun run.geometry) n
    same_begun m n =
        ap (cells_after (opening_cells held)) (none_taken (m - v.last)) ∙ sym (ap (cells_after (opening_cells held)) (none_taken (n - v.last)))

    page_there : (h : Half) (page : ℕ) → HasPageNow run h (past_of w.device).disk.content (writer.handed_of w) page
        → HasPageNow (begun run.geometry) h (past_of w.device).disk.content (writer.handed_of w) page
    page_there h page is =
        let there = cells_there (writer.handed_of w) handed_is in
        record {
          has = subst (λ (x : Cells). HasPage (header_sector run.geometry h) (past_of w.device).disk.content page x.rows) there is.has;
          slots = subst (λ (x : Cells). (q : Place) (r : Row) → q.page ≡ page → map.get x.rows q ≡ Some r → q.slot < 63) there is.slots;
        }

    half_there : (h : Half) (low : Option ℕ)
        → IfSome low (HasUnchanged run h (past_of w.device).disk.content (writer.handed_of w) w.known.changed.items)
        → IfSome low (HasUnchanged (begun run.geometry) h (past_of w.device).disk.content (writer.handed_of w) w.known.changed.items)
    half_there h None is = is
    half_there h (Some low) is = record { within = is.within; pages = λ page inside below. page_there h page (is.pages page inside below) }

    known_there : KnowsPages run w.halves.current (past_of w.device).disk.content (writer.handed_of w) w.known.changed.items w.known.current w.known.other
        → KnowsPages (begun run.geometry) w.halves.current (past_of w.device).disk.content (writer.handed_of w) w.known.changed.items w.known.current
        w.known.other
    known_there is = record {
      few = is.few;
      since = λ page inside n q late up at. ap (λ (x : Cells). map.get x.rows q) (same_begun n (writer.handed_of w));
      current = half_there w.halves.current w.known.current is.current;
      idle = half_there (other w.halves.current) w.known.other is.idle;
    }

    stands_there : writer.has_failed w ≡ false → StandsFor past_of (begun run.geometry) w
    stands_there works =
        let now = stands.writer.holds works in
        record {
          store = now.store;
          has = subst (HalfHas run.geometry w.halves.current (past_of w.device).disk.content w.synced) (cells_there w.synced (synced_is ∙ last_is)) now.has;
          area-is = now.area-is;
          groups = now.groups;
          stands = now.stands;
          loose = now.loose;
          image = subst (λ (i : Option NewImage). IfSome i (IsUnderway (begun run.geometry) (other w.halves.current) (past_of w.device).disk.content w.synced))
              (sym none) tt;
          copying = now.copying;
          known = known_there now.known;
        }

    writes : IsWriter past_of (begun run.geometry) v.last w
    writes = record {
      run-is = record { following = tt; placed = λ txn. subst (λ (list : List ChangeValue). ArePlaced run.geometry.pages 0 list) (sym (none_listed txn)) tt };
      geometry-is = stands.writer.geometry-is;
      opened = omega (arith, synced_is);
      reached = omega (arith, synced_is);
      made = omega arith;
      small = held_small;
      waits = first_none (writer.waiting_of w) (unhanded engine) all
          ∙ sym (nil_from_length (records_between (begun run.geometry) w.synced v.last)
          (omega (arith, synced_is, count_between (begun run.geometry) w.synced v.last (omega (arith, synced_is)) (omega arith))));
      holds = stands_there;
      images = λ image crash. left_there image (stands.writer.images image crash);
    }

    given_there : (image : CrashState) → IsCrashState (past_of (device_of engine)).disk image → Gives image run.geometry held
    given_there image crash =
        let left = stands.writer.images image crash in
        let is = number_is image left in
        let same : recovered (cells_at run left.number) left.number ≡ held = (λ j. recovered ((ap (cells_at run) is ∙ same_cells) j) ((is ∙ sym last_is) j))
        ∙ given_held held in
        let room : map.len (recovered (cells_at run left.number) left.number).entries ≤ run.geometry.entries =
        omega (arith, ap (λ (x : Given). map.len x.entries) same, held_fits, ap (λ (g : GeometryValue). g.entries) stands.geometry) in
        subst (Gives image run.geometry) same (left.gives room)

    pub settled : IsSettled past_of (opened_of v) w
    settled = record {
      writer = subst (λ (g : GeometryValue). IsWriter past_of (begun g) v.last w) (sym stands.writer.geometry-is) writes;
      gives = λ image crash. subst (λ (g : GeometryValue). Gives image g held) (sym stands.writer.geometry-is) (given_there image crash);
      pages = ap (λ (g : GeometryValue). g.pages) stands.writer.geometry-is ∙ stands.pages ∙ stands.shown.shown.pages;
      places = ap (λ (g : GeometryValue). g.entries) stands.writer.geometry-is ∙ stands.places ∙ stands.shown.shown.places;
      fits = omega (arith, held_fits, places_are, stands.shown.shown.places);
      synced = synced_is;
      sound = sound;
      empty = empty;
      idle = none;
      copying = idle;
    }

-- a copy that was answered so leaves the writer with everything
pub written_whole : {D M : Type 0} (past_of : D → DevicePast) (failures : D → ℕ) (r : Reply M) (n : ℕ) (old new : EngineParts D M) → r ≡ reply.Flipped n
    → CopiesAnew past_of failures r old new → CanRun past_of new → IsQuiet (core_of old) → IsSoundTable (core_of old).txns
    → ((v : CoreValue) (s : State) (k : Standing) (cells : Cells) → IsSoundTable v.txns → IsState v s k → HasCells s cells → HasLists s cells
    → IsCellsOf v cells) → ((v : CoreValue) (a b : Cells) → IsCellsOf v a → IsCellsOf v b → a ≡ b)
    → WritesWhole past_of failures old (writer_of new)
written_whole past_of failures r n old new is told can quiet txns shown one =
    let copies : CopiesAnew past_of failures (reply.Flipped n) old new = subst (λ (x : Reply _). CopiesAnew past_of failures x old new) is told in
    let well = copies.answer.0 in
    let current = copies.answer.2 in
    let core_is : core_of new ≡ record (core_of old) { outbox = (core_of new).outbox } = well.keeps.core in
    record {
      settled = subst (λ (o : Opened). IsSettled past_of o (writer_of new)) (ap opened_of core_is)
          (settled past_of new can (ap (λ (v : CoreValue). v.txns.active) core_is ∙ quiet) (current.all refl) well.sound (current.emptied refl) current.none
          current.idle (subst IsSoundTable (sym (ap (λ (v : CoreValue). v.txns) core_is)) txns) shown one);
      quiet = well.quiet;
      survives = λ past is. weaker (past_of (device_of old)) (past_of (device_of new)) _ (Survives past (horizon_of old))
          (survives_without past (reply.Flipped n) is.answered (horizon_of old)) (copies.runs past is).1;
      around = copies.around;
    }
