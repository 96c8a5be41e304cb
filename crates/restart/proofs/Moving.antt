-- What the writer's calls leave of an engine.
use Rattle.std.proofs.Common.{◌≡◌, false, ℕ, ◌/◌, ◌≤◌, List, Option, None, Some, IfSome, [], ◌∷◌, ◌++◌, sym, ◌∙◌, ap, subst}
use Rattle.std.proofs.Common.{arith, append-nil}
use Rattle.record_values.specs.GeometryValue.{GeometryValue}
use Rattle.records.specs.RecordValue.{RecordValue}
use Rattle.core_model.specs.States.{State}
use Rattle.core_model.specs.Events as core
use Rattle.core_model.specs.Events.{Standing}
use Rattle.core_model.specs.Served.{HasServed}
use Rattle.store_image_model.specs.Run.{Run, end_of, records_between}
use Rattle.core_parts.specs.View.{CoreValue, IsState}
use Rattle.sector_device.specs.Disk.{CrashState}
use Rattle.sector_device.specs.DevicePast.{DevicePast, LeavesOnly}
use Rattle.sector_device.proofs.Moments.{joined, weaker}
use Rattle.store_writer.specs.Contents.{LeftBy}
use Rattle.store_writer.specs.Parts as writer
use Rattle.store_writer.specs.Writer.{IsWriter}
use Rattle.restart.specs.declared.event.Event.{Event}
use Rattle.restart.specs.declared.event.Reply.{Reply}
use Rattle.restart.specs.declared.parts.EngineParts.{EngineParts}
use Rattle.restart.specs.History.{IsOfKind, acknowledged, answered, asked, both, core_calls}
use Rattle.flip_image.specs.Layout.{other}
use Rattle.store_writer.specs.Image.{IsUnderway}
use Rattle.store_writer.specs.Parts.{image_of}
use Rattle.store_writer.specs.declared.image.NewImage.{NewImage}
use Rattle.restart.specs.Handing.{MovesOn}
use Rattle.restart.specs.Parts.{core_of, device_of, has_failed, horizon_of, unhanded, writer_of}
use Rattle.restart.specs.Store.{CanRun, IsAt, StandsAt, Survives, ServesOn, acknowledged_by, and_then, over, run_of}
use Rattle.restart.proofs.Stories.{at_next, left_then}

-- what a core stands for is the same whatever waits in its outbox
same_state : (v : CoreValue) (kept : List RecordValue) (s : State) (k : Standing) → IsState v s k → IsState (record v { outbox = kept }) s k
same_state v kept s k is = record {
  shown = record {
    rows = is.shown.rows;
    entries = is.shown.entries;
    txns = is.shown.txns;
    holder = is.shown.holder;
    pledges = is.shown.pledges;
    pledged = is.shown.pledged;
    life = is.shown.life;
    pages = is.shown.pages;
    scan_pages = is.shown.scan_pages;
    places = is.shown.places;
    cleaned = is.shown.cleaned;
    bound = is.shown.bound;
    scan = is.shown.scan;
    made = is.shown.made;
    begun = is.shown.begun;
    active = is.shown.active;
    attempts = is.shown.attempts;
    all_attempts = is.shown.all_attempts;
    commits = is.shown.commits;
  };
  fit = is.fit;
  standing = is.standing;
  counted = is.counted;
}

lower : (run : Run) (n m handed : ℕ) (image : CrashState) → n ≤ m → LeftBy run m handed image → LeftBy run n handed image
lower run n m handed image le left = record {
  number = left.number;
  least = omega (arith, le, left.least);
  most = left.most;
  has = left.has;
  gives = left.gives;
}

module _ {D M : Type 0} (past_of : D → DevicePast) where
  -- the writer has gone on, and holds more of the records
  pub stands_with : (run : Run) (handed later : ℕ) (s : State) (k : Standing) (old new : EngineParts D M) → StandsAt past_of run handed s k old
      → core_of new ≡ record (core_of old) { outbox = (core_of new).outbox }
      → IsWriter past_of run later (writer_of new) → records_between run later (end_of run) ≡ unhanded new → new.geometry ≡ old.geometry
      → StandsAt past_of run later s k new
  stands_with run handed later s k old new is others w rest size = record {
    writer = w;
    rest = rest;
    shown = subst (λ (v : CoreValue). IsState v s k) (sym others) (same_state (core_of old) (core_of new).outbox s k is.shown);
    log = is.log;
    pages = is.pages;
    places = is.places;
    made = is.made;
    lists = is.lists;
    geometry = size ∙ is.geometry;
  }

  -- a call of the writer that takes no record
  pub moves_by : (old new : EngineParts D M) → core_of new ≡ core_of old → unhanded new ≡ unhanded old
      → ((run : Run) (handed : ℕ) → IsWriter past_of run handed (writer_of old) → IsWriter past_of run handed (writer_of new))
      → ((run : Run) (handed : ℕ) → IsWriter past_of run handed (writer_of old)
      → LeavesOnly (past_of (device_of old)) (past_of (device_of new)) (LeftBy run (horizon_of old) handed))
      → horizon_of old ≤ horizon_of new → new.geometry ≡ old.geometry → MovesOn past_of old new
  moves_by old new same rest keeps images grows size = record {
    stands = λ run handed s k is. (
      handed,
      omega arith,
      stands_with run handed handed s k old new is others (keeps run handed is.writer) (is.rest ∙ sym rest) size,
    );
    images = λ run handed s k is. weaker (past_of (device_of old)) (past_of (device_of new)) (LeftBy run (horizon_of old) handed) (λ (image : CrashState).
        (later : ℕ) × (later ≤ end_of run) × LeftBy run (horizon_of old) later image)
        (λ c left. (handed, is.writer.made, left)) (images run handed is.writer);
    grows = grows;
    core = others;
  }
    where
      others : core_of new ≡ record (core_of old) { outbox = (core_of new).outbox }
      others = same ∙ ap (λ (o : List RecordValue). record (core_of old) { outbox = o }) (ap (λ (v : CoreValue). v.outbox) (sym same))

  -- a call of the writer that takes no record, of whatever the state of the core allows
  pub moves_at : (old new : EngineParts D M) → core_of new ≡ core_of old → unhanded new ≡ unhanded old
      → ((run : Run) (handed : ℕ) (s : State) (k : Standing) → StandsAt past_of run handed s k old → IsWriter past_of run handed (writer_of new))
      → ((run : Run) (handed : ℕ) → IsWriter past_of run handed (writer_of old)
      → LeavesOnly (past_of (device_of old)) (past_of (device_of new)) (LeftBy run (horizon_of old) handed))
      → horizon_of old ≤ horizon_of new → new.geometry ≡ old.geometry → MovesOn past_of old new
  moves_at old new same rest keeps images grows size = record {
    stands = λ run handed s k is. (
      handed,
      omega arith,
      stands_with run handed handed s k old new is others (keeps run handed s k is) (is.rest ∙ sym rest) size,
    );
    images = λ run handed s k is. weaker (past_of (device_of old)) (past_of (device_of new)) (LeftBy run (horizon_of old) handed) (λ (image : CrashState).
        (later : ℕ) × (later ≤ end_of run) × LeftBy run (horizon_of old) later image)
        (λ c left. (handed, is.writer.made, left)) (images run handed is.writer);
    grows = grows;
    core = others;
  }
    where
      others : core_of new ≡ record (core_of old) { outbox = (core_of new).outbox }
      others = same ∙ ap (λ (o : List RecordValue). record (core_of old) { outbox = o }) (ap (λ (v : CoreValue). v.outbox) (sym same))

  -- one after another
  pub moves_then : (old mid new : EngineParts D M) → MovesOn past_of old mid → MovesOn past_of mid new → MovesOn past_of old new
  moves_then old mid new first second = record {
    stands = λ run handed s k is.
        let a = first.stands run handed s k is in
        let b = second.stands run a.0 s k a.2 in
        (b.0, omega (arith, a.1, b.1), b.2);
    images = λ run handed s k is.
        let a = first.stands run handed s k is in
        joined (past_of (device_of old)) (past_of (device_of mid)) (past_of (device_of new)) (λ (image : CrashState). (later : ℕ) × (later ≤ end_of run)
        × LeftBy run (horizon_of old) later image) (first.images run handed s k is)
        (weaker (past_of (device_of mid)) (past_of (device_of new)) (λ (image : CrashState). (later : ℕ) × (later ≤ end_of run)
        × LeftBy run (horizon_of mid) later image) (λ (image : CrashState). (later : ℕ) × (later ≤ end_of run) × LeftBy run (horizon_of old) later image)
        (λ c left. (left.0, left.1, lower run (horizon_of old) (horizon_of mid) left.0 c first.grows left.2)) (second.images run a.0 s k a.2));
    grows = omega (arith, first.grows, second.grows);
    core = second.core ∙ ap (λ (v : CoreValue). record v { outbox = (core_of new).outbox }) first.core;
  }

  pub can_run_on : (old new : EngineParts D M) → MovesOn past_of old new → CanRun past_of old → CanRun past_of new
  can_run_on old new moves can = let a = moves.stands can.0 can.1 can.2 can.3 can.4 in (can.0, a.0, can.2, can.3, a.2)

  -- a request that asks the core for nothing
  pub serves_by : (old new : EngineParts D M) (x : Event) (r : Reply M) → MovesOn past_of old new → asked x ≡ None → IsOfKind x r
      → ((n : ℕ) → n ≤ horizon_of new → acknowledged n (r ∷ []) ≤ horizon_of new) → ServesOn past_of x r old new
  serves_by old new x r moves none kind safe past is = (at, leaves, moves.grows)
    where
      has : HasServed (over past.geometry past.given) is.made (core_calls past.events past.replies ++ both (asked x) (answered r)) is.state is.standing
      has = subst (λ (l : List (core.Event × core.Reply)). HasServed (over past.geometry past.given) is.made l is.state is.standing)
          (sym (ap (λ o. core_calls past.events past.replies ++ both o (answered r)) none ∙ append-nil (core_calls past.events past.replies))) is.served

      moved : (later : ℕ) × (is.handed ≤ later) × StandsAt past_of (run_of past is.made) later is.state is.standing new
      moved = moves.stands (run_of past is.made) is.handed is.state is.standing is.stands

      at : IsAt past_of (and_then past (x ∷ []) (r ∷ [])) new
      at = at_next past_of past old new x r kind is is.made moved.0 is.state is.standing has moved.2
          (safe (acknowledged_by past) (omega (arith, is.safe, moves.grows)))

      leaves : LeavesOnly (past_of (device_of old)) (past_of (device_of new)) (Survives (and_then past (x ∷ []) (r ∷ [])) (horizon_of old))
      leaves = weaker (past_of (device_of old)) (past_of (device_of new)) (λ (image : CrashState). (later : ℕ) × (later ≤ end_of (run_of past is.made))
          × LeftBy (run_of past is.made) (horizon_of old) later image) (Survives (and_then past (x ∷ []) (r ∷ [])) (horizon_of old))
          (λ c left. left_then past_of past old new x r kind is is.made left.0 is.state is.standing has
          (horizon_of old) is.stands.writer.opened left.1 c left.2)
          (moves.images (run_of past is.made) is.handed is.state is.standing is.stands)

-- the log of an image under way has groups in half its slots at most
pub open_now : {D M : Type 0} (past_of : D → DevicePast) (engine : EngineParts D M) → CanRun past_of engine → has_failed engine ≡ false
    → (i : NewImage) → image_of (writer_of engine) ≡ Some i → i.log.open_slots ≤ engine.geometry.slots / 2
open_now past_of engine can sound i there =
    let w = writer_of engine in
    let under : IsUnderway can.0 (other w.halves.current) (past_of w.device).disk.content w.synced i =
    subst (λ (t : Option NewImage). IfSome t (IsUnderway can.0 (other w.halves.current) (past_of w.device).disk.content w.synced)) there
    (can.4.writer.holds sound).image in
    subst (λ (x : GeometryValue). i.log.open_slots ≤ x.slots / 2) (sym can.4.geometry) under.half-open

-- so many slots as the engine's geometry has
pub slots_are : {D M : Type 0} (past_of : D → DevicePast) (engine : EngineParts D M) → CanRun past_of engine
    → (writer.halves_of (writer_of engine)).geometry.slots ≡ engine.geometry.slots
slots_are past_of engine can = ap (λ (x : GeometryValue). x.slots) (can.4.writer.geometry-is ∙ sym can.4.geometry)
