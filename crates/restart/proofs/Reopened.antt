-- Where the engine that a restart makes begins.
use Rattle.std.proofs.Common.{◌≡◌, ℕ, List, [], ◌++◌, Option, None, false, inl, refl, sym, ◌∙◌, ap, subst, arith}
use Rattle.std.proofs.lemmas.List.{nil_from_length}
use Rattle.std.specs.FinMap as map
use Rattle.std.specs.Ordering.{nat_cmp}
use Rattle.records.specs.ChangeValue.{ChangeValue}
use Rattle.record_values.specs.GeometryValue.{GeometryValue}
use Rattle.records.specs.RecordValue.{RecordValue}
use Rattle.model.specs.Cells.{Cells}
use Rattle.model.specs.Given.{Given, IsBeginning, opening_cells}
use Rattle.core_model.specs.Histories.{CanOpen, Opened, opened}
use Rattle.core_copies.specs.Lists.{HasLists}
use Rattle.core_model.specs.Logs.{IsLogOf}
use Rattle.core_model.specs.Records.{HasCells, IsListOf}
use Rattle.core_model.specs.States.{State}
use Rattle.core_model.specs.Events.{standing_at}
use Rattle.core_model.proofs.ReplyLaws.{served_nothing}
use Rattle.core_model.specs.Served.{IsMadeOf}
use Rattle.core_parts.specs.View.{CoreValue}
use Rattle.core_copies.specs.Loaded.{holding}
use Rattle.sector_device.specs.Disk.{Disk, CrashState, IsCrashState, IsSynced}
use Rattle.sector_device.specs.DevicePast.{DevicePast, LeavesOnly}
use Rattle.sector_device.proofs.Moments.{weaker}
use Rattle.gate_log.specs.Area.{Log}
use Rattle.flip_image.specs.Layout.{HalvesValue}
use Rattle.store_image_model.specs.Run.{end_of, records_between}
use Rattle.store_opener.specs.Reopening.{ReopeningLeaves}
use Rattle.store_reader.specs.Contents.{Gives, GivesIn}
use Rattle.record_values.specs.declared.version.Version.TheVariants.{One, Two}
use Rattle.store_reader.proofs.Readings.{one_geometry, one_given}
use Rattle.store_writer.specs.Parts as writer
use Rattle.store_writer.specs.Writer.{IsOpenedAt, IsWriter, opened_run}
use Rattle.store_writer.specs.declared.copying.Copying.TheVariants.{Idle}
use Rattle.restart.specs.declared.parts.EngineParts.{EngineParts}
use Rattle.restart.specs.Building.{HasCome}
use Rattle.restart.specs.History.{core_calls}
use Rattle.restart.specs.Parts.{core_of, device_of, horizon_of, writer_of}
use Rattle.restart.specs.Reopening.{BeginsOver, IsCoreOf, IsOpened, IsTurned, Recovers, opening}
use Rattle.restart.specs.Migrating.{IsMigrated}
use Rattle.restart.proofs.Numbers.{count_to_end}
use Rattle.restart.specs.Store.{CanRun, IsAt, Past, StandsAt, Survives, items_told, over, run_of}

-- a core over what is given has its cells
begins_with : (pages places : ℕ) (given : Given) → HasCells (opened (record { given = given; pages = pages; places = places })) (opening_cells given)
begins_with pages places given = record {
  rows = refl;
  entries = refl;
  pending = λ t. subst (λ (list : Option (List ChangeValue)). IsListOf list None) (sym (map.get-empty nat_cmp t)) tt;
  life = refl;
}

-- ---- the engine

module _ {D M : Type 0} (past_of : D → DevicePast) (before : CrashState) (engine : EngineParts D M) (halves : HalvesValue) (log : Log)
    (is : IsCoreOf before (past_of (device_of engine)) halves log (core_of engine))
    (half : (pages base : ℕ) (cells : Cells) (s : State) → HasCells s cells → IsLogOf pages base cells [] s)
    (lists : (o : Opened) → HasLists (opened o) (opening_cells o.given))
    (size : engine.geometry ≡ halves.geometry) (idle : engine.writer.copying ≡ Idle) (no_image : writer.image_of (writer_of engine) ≡ None)
    (takes : (cells : Cells) → IsOpenedAt (past_of (device_of engine)) halves log is.given.last cells
    → IsWriter past_of (opened_run halves is.given.last cells) is.given.last (writer_of engine))
    (none : engine.outgoing.items ≡ []) (reached : horizon_of engine ≡ is.given.last) (sound : writer.has_failed (writer_of engine) ≡ false) where
  abbrev g : GeometryValue
  g = halves.geometry

  none_made : records_between (run_of (opening {M = M} g is.given) []) is.given.last (end_of (run_of (opening {M = M} g is.given) [])) ≡ []
  none_made = nil_from_length (records_between (run_of (opening {M = M} g is.given) []) is.given.last (end_of (run_of (opening {M = M} g is.given) [])))
      (omega (arith, count_to_end (run_of (opening {M = M} g is.given) []) is.given.last (omega arith)))

  begun : StandsAt past_of (run_of (opening {M = M} g is.given) []) is.given.last (opened (over g is.given)) (standing_at is.given.last) engine
  begun = record {
    writer = takes (opening_cells is.given) is.opened-at;
    rest = none_made ∙ sym (ap (λ (l : List RecordValue). l ++ (core_of engine).outbox) none ∙ ap (λ (v : CoreValue). v.outbox) is.holds);
    shown = is.shown;
    log = half g.pages is.given.last (opening_cells is.given) (opened (over g is.given)) (begins_with g.pages g.entries is.given);
    pages = refl;
    places = refl;
    made = omega arith;
    lists = lists (over g is.given);
    geometry = size;
  }

  pub can_run_opened : CanRun past_of engine
  can_run_opened = (run_of (opening {M = M} g is.given) [], is.given.last, opened (over g is.given), standing_at is.given.last, begun)

  module _ (opens : CanOpen (over g is.given)) where
    pub begins_at : IsAt past_of (opening g is.given) engine
    begins_at = record {
      answered = refl;
      kinds = tt;
      opens = opens;
      made = [];
      handed = is.given.last;
      state = opened (over g is.given);
      standing = standing_at is.given.last;
      served = served_nothing (over g is.given) is.shown.standing.within;
      stands = begun;
      safe = omega (arith, reached);
    }

    pub come_to : HasCome (core_of engine)
    come_to = record {
      opening = over g is.given;
      opens = opens;
      made = [];
      pairs = [];
      state = opened (over g is.given);
      standing = standing_at is.given.last;
      served = served_nothing (over g is.given) is.shown.standing.within;
      shown = is.shown;
    }

  -- the run that left it
  pub recovers_run : (past : Past M) (floor : ℕ) → Survives past floor before → Recovers past_of past floor engine
  recovers_run past floor left = record {
    given = is.given;
    beginning = subst (λ (x : Given). IsBeginning past.given (items_told past) floor x) (sym same) left.beginning;
    within = omega (arith, left.within, ap (λ (x : Given). x.last) same);
    records = subst (IsMadeOf (over past.geometry past.given) (core_calls past.events past.replies)) (sym same) left.records;
    core = is.holds ∙ ap (λ (x : GeometryValue). holding x is.given) same_size;
    opens = can_past;
    begins = subst (λ (x : GeometryValue). IsAt past_of (opening x is.given) engine) same_size (begins_at can);
    come = come_to can;
  }
    where
      same_size : g ≡ past.geometry
      same_size = one_geometry Two before g past.geometry is.given left.given is.gives left.gives

      same : is.given ≡ left.given
      same = one_given Two before g past.geometry is.given left.given is.gives left.gives

      can_past : CanOpen (over past.geometry is.given)
      can_past = subst (λ (x : Given). CanOpen (over past.geometry x)) (sym same) left.opens

      can : CanOpen (over g is.given)
      can = subst (λ (x : GeometryValue). CanOpen (over x is.given)) (sym same_size) can_past

-- ---- what is made of what was opened

module _ {D M : Type 0} (past_of : D → DevicePast) (before after : D) (engine : EngineParts D M) (halves : HalvesValue) (log : Log)
    (found : IsCoreOf (past_of before).disk.content (past_of after) halves log (core_of engine)) (made : BeginsOver past_of after halves log engine)
    (half : (pages base : ℕ) (cells : Cells) (s : State) → HasCells s cells → IsLogOf pages base cells [] s) (lists : (o : Opened)
    → HasLists (opened o) (opening_cells o.given)) where
  number : (core_of engine).last ≡ found.given.last
  number = ap (λ (v : CoreValue). v.last) found.holds

  abbrev moved : IsCoreOf (past_of before).disk.content (past_of (device_of engine)) halves log (core_of engine)
  moved = record {
    given = found.given;
    gives = found.gives;
    holds = found.holds;
    shown = found.shown;
    opened-at = subst (λ d. IsOpenedAt (past_of d) halves log found.given.last (opening_cells found.given)) (sym made.device-is) found.opened-at;
  }

  takes : (cells : Cells) → IsOpenedAt (past_of (device_of engine)) halves log found.given.last cells
      → IsWriter past_of (opened_run halves found.given.last cells) found.given.last (writer_of engine)
  takes cells at = subst (λ n. IsWriter past_of (opened_run halves n cells) n (writer_of engine)) number
      (made.writes cells (subst (λ n. IsOpenedAt (past_of after) halves log n cells) (sym number)
      (subst (λ d. IsOpenedAt (past_of d) halves log found.given.last cells) made.device-is at)))

  pub can_run_made : CanRun past_of engine
  can_run_made = can_run_opened past_of (past_of before).disk.content engine halves log moved half lists made.geometry made.idle made.no-image takes
      made.none-handed (made.synced ∙ number) made.sound

  pub opened_made : IsTurned past_of before after → IsOpened past_of before engine
  opened_made turned = record {
    geometry = halves.geometry;
    given = found.given;
    gives = found.gives;
    core = found.holds;
    horizon = made.synced ∙ number;
    sound = made.sound;
    device = subst (IsTurned past_of before) (sym made.device-is) turned;
    synced = moved.opened-at.all_synced;
    begins = λ opens. begins_at past_of (past_of before).disk.content engine halves log moved half lists made.geometry made.idle made.no-image takes
        made.none-handed (made.synced ∙ number) made.sound opens;
    come = λ opens. come_to past_of (past_of before).disk.content engine halves log moved half lists made.geometry made.idle made.no-image takes
        made.none-handed (made.synced ∙ number) made.sound opens;
  }

  pub recovers_made : (past : Past M) (floor : ℕ) → Survives past floor (past_of before).disk.content → Recovers past_of past floor engine
  recovers_made past floor left = recovers_run past_of (past_of before).disk.content engine halves log moved half lists made.geometry made.idle
      made.no-image takes made.none-handed (made.synced ∙ number) made.sound past floor left

-- ---- what is moved from another device

-- a device that stays as it is
still : {D : Type 0} (past_of : D → DevicePast) (d : D) → IsTurned past_of d d
still past_of d = record {
  images = record {
    later = omega arith;
    kept = λ t le. refl;
    each = λ t image from to crash.
        inl (subst (λ (x : Disk). IsCrashState x image) (ap (past_of d).disk_at (let e : t ≡ (past_of d).moment = omega (arith, from, to) in e)
        ∙ (past_of d).now) crash);
  };
  now = inl refl;
}

module _ {D M : Type 0} (past_of : D → DevicePast) (new : D) (engine : EngineParts D M) (halves : HalvesValue) (log : Log)
    (found : IsCoreOf (past_of new).disk.content (past_of new) halves log (core_of engine)) (made : BeginsOver past_of new halves log engine)
    (half : (pages base : ℕ) (cells : Cells) (s : State) → HasCells s cells → IsLogOf pages base cells [] s) (lists : (o : Opened)
    → HasLists (opened o) (opening_cells o.given)) where
  abbrev there : IsCoreOf (past_of (device_of engine)).disk.content (past_of (device_of engine)) halves log (core_of engine)
  there = record {
    given = found.given;
    gives = subst (λ d. Gives (past_of d).disk.content halves.geometry found.given) (sym made.device-is) found.gives;
    holds = found.holds;
    shown = found.shown;
    opened-at = subst (λ d. IsOpenedAt (past_of d) halves log found.given.last (opening_cells found.given)) (sym made.device-is) found.opened-at;
  }

  pub migrated : (old : CrashState) → GivesIn One old halves.geometry found.given → IsMigrated old past_of engine
  unfolding opened_made
  migrated old gave = record {
    opened = opened_made past_of (device_of engine) (device_of engine) engine halves log there
        (subst (λ d. BeginsOver past_of d halves log engine) (sym made.device-is) made) half lists (still past_of (device_of engine));
    gave = gave;
  }

-- ---- the device

module _ {M D : Type 0} (past_of : D → DevicePast) (before after : D) (turned : IsTurned past_of before after)
    (same : (old : Disk) (image : CrashState) → IsSynced old → ReopeningLeaves old image → (g : GeometryValue) (given : Given) → Gives old.content g given
    → Gives image g given) where
  -- what a run left on a synced device stays
  pub stays_left : IsSynced (past_of before).disk → (past : Past M) (floor : ℕ) → Survives past floor (past_of before).disk.content
      → LeavesOnly (past_of before) (past_of after) (Survives past floor)
  stays_left synced past floor left = weaker (past_of before) (past_of after) (ReopeningLeaves (past_of before).disk) (Survives past floor)
      (λ c was. record {
        given = left.given;
        gives = same (past_of before).disk c synced was past.geometry left.given left.gives;
        beginning = left.beginning;
        within = left.within;
        records = left.records;
        opens = left.opens;
      }) turned.images

-- ---- what is loaded
