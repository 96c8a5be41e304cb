-- How a writer begins, and goes on where more records are made or handed in.
use Rattle.std.proofs.Common.{◌≡◌, ◌≢◌, ◌==◌, ℕ, ◌+◌, ◌-◌, ◌≤◌, true, false, List, [], ◌∷◌, ◌++◌, length, take, drop, Option, Some, None, IfSome, refl}
use Rattle.std.proofs.Common.{sym, ap, subst, ◌∙◌, arith, length-append, length-drop}
use Rattle.std.proofs.lemmas.List.{take-append-le, drop-append-le}
use Rattle.sector_device.specs.Disk.{CrashState, IsCrashState}
use Rattle.sector_device.specs.DevicePast.{DevicePast}
use Rattle.sector_device.proofs.Sectors.{crash_synced}
use Rattle.records.specs.RecordValue.{RecordValue}
use Rattle.model.specs.Cells.{Cells, cells_after}
use Rattle.flip_image.specs.Layout.{HalvesValue}
use Rattle.store_image_model.specs.Run.{Run, IsRun, end_of, cells_at, records_between}
use Rattle.store_writer.specs.declared.writer.Writer.{Writer}
use Rattle.store_writer.specs.Contents.{HalfHas, StoreHas, LeftBy}
use Rattle.store_writer.specs.Writer.{StandsFor, IsWriter, IsOpenedAt, opened_run, longer, AreNext}
use Rattle.std.proofs.lemmas.Bool.{eqb-true, false≢true}
use Rattle.std.specs.FinMap as map
use Rattle.flip_image.specs.declared.half.Half.{Half}
use Rattle.flip_image.specs.Layout.{other, header_sector}
use Rattle.record_values.specs.declared.pair.Pair.{Pair}
use Rattle.model.specs.Inside.{AreInside}
use Rattle.model.specs.Table.{Table}
use Rattle.record_values.specs.Entries.{Index}
use Rattle.store_image_half.specs.Part.{IsImagePart}
use Rattle.store_image_model.specs.Partly.{IsPartlyCopied}
use Rattle.store_writer.specs.declared.image.Stage.{Stage}
use Rattle.store_writer.specs.declared.image.Stage.TheVariants.{Whole, Partly}
use Rattle.store_image_model.specs.Run.{IsCopiedFrom, records_above}
use Rattle.store_writer.specs.declared.image.NewImage.{NewImage}
use Rattle.store_writer.specs.declared.copying.Copying.{Copying}
use Rattle.store_writer.specs.declared.copying.Copying.TheVariants.{Idle}
use Rattle.store_writer.specs.Copying.{IsCopying}
use Rattle.store_writer.specs.Image.{IsContent, IsUnderway, reach}
use Rattle.store_writer.specs.Known.{KnowsPages, with_changes}
use Rattle.store_writer.specs.Parts.{without_image}
use Rattle.store_writer.specs.Parts.{handed_of}
use Rattle.store_writer.proofs.Knowing.{known_longer, known_nothing, known_with}
use Rattle.store_writer.proofs.Numbers.{between_split, length_between, none_between}
use Rattle.store_writer.proofs.Left.{left_by}

-- ---- more records are made

-- the records that wait are the last ones that were handed in
pub waits_all : {D M : Type 0} (past_of : D → DevicePast) (run : Run) (handed : ℕ) (w : Writer D M) → IsWriter past_of run handed w
    → w.synced + length w.waiting ≡ handed
waits_all past_of run handed w is =
    omega (arith, ap length is.waits, length_between run w.synced handed is.opened is.reached is.made, is.reached)

module _ (run : Run) (more : List RecordValue) where
  same_cells_at : (n : ℕ) → n ≤ end_of run → cells_at (longer run more) n ≡ cells_at run n
  same_cells_at n made = ap (cells_after run.cells) (take-append-le (n - run.last) run.records more (omega (arith, made)))

  same_between : (m n : ℕ) → run.last ≤ m → m ≤ end_of run → n ≤ end_of run → records_between (longer run more) m n ≡ records_between run m n
  same_between m n low up made =
      ap (take (n - m)) (drop-append-le (m - run.last) run.records more (omega (arith, up)))
      ∙ take-append-le (n - m) (drop (m - run.last) run.records) more (omega (arith, made, low, length-drop (m - run.last) run.records))

  longer_end : end_of run ≤ end_of (longer run more)
  longer_end = omega (arith, length-append run.records more)

  longer_left : (floor handed : ℕ) (image : CrashState) → handed ≤ end_of run → LeftBy run floor handed image → LeftBy (longer run more) floor handed image
  longer_left floor handed image made left =
      left_by (longer run more) floor handed left.number image left.least left.most
      (subst (StoreHas run.geometry image left.number) (sym (same_cells_at left.number (omega (arith, left.most, made)))) left.has)

  same_part : (base n : ℕ) → base ≤ end_of run → base + n ≤ end_of run → run.last ≤ base
      → take n (records_above (longer run more) base) ≡ take n (records_above run base)
  same_part base n low made opened =
      ap (take n) (drop-append-le (base - run.last) run.records more (omega (arith, low)))
      ∙ take-append-le n (drop (base - run.last) run.records) more (omega (arith, made, opened, length-drop (base - run.last) run.records))

  longer_copied : (base to : ℕ) (copied : Cells) → run.last ≤ base → base ≤ to → to ≤ end_of run → IsCopiedFrom run base to copied
      → IsCopiedFrom (longer run more) base to copied
  longer_copied base to copied opened rise made is =
      let low : base ≤ end_of run = omega (arith, rise, made) in
      let same = same_cells_at base low in
      record {
        pending = is.pending ∙ sym (ap (λ (x : Cells). x.pending) same);
        life = is.life ∙ sym (ap (λ (x : Cells). x.life) same);
        rows = λ q. let (n, until, was) = is.rows q in (
          n,
          until,
          was
              ∙ sym (ap (λ (x : Cells). map.get (cells_after x (take n (records_above (longer run more) base))).rows q) same
              ∙ ap (λ (rs : List RecordValue). map.get (cells_after (cells_at run base) rs).rows q)
              (same_part base n low (omega (arith, until, rise, made)) opened)),
        );
        entries = λ p. let (n, until, was) = is.entries p in (
          n,
          until,
          was ∙ sym (ap (λ (x : Cells). map.get (cells_after x (take n (records_above (longer run more) base))).entries p) same
              ∙ ap (λ (rs : List RecordValue). map.get (cells_after (cells_at run base) rs).entries p)
              (same_part base n low (omega (arith, until, rise, made)) opened)),
        );
      }

  longer_partly : (base to pages : ℕ) (highest : Option Pair) (rows : Table) (entries : Index) → run.last ≤ base → base ≤ to → to ≤ end_of run
      → IsPartlyCopied (cells_at run base) (records_above run base) (to - base) pages highest rows entries
      → IsPartlyCopied (cells_at (longer run more) base) (records_above (longer run more) base) (to - base) pages highest rows entries
  longer_partly base to pages highest rows entries opened rise made is =
      let low : base ≤ end_of run = omega (arith, rise, made) in
      let same = same_cells_at base low in
      record {
        rows-were = λ q below. let (n, until, was) = is.rows-were q below in (
          n,
          until,
          was ∙ sym (ap (λ (x : Cells). map.get (cells_after x (take n (records_above (longer run more) base))).rows q) same
              ∙ ap (λ (rs : List RecordValue). map.get (cells_after (cells_at run base) rs).rows q)
              (same_part base n low (omega (arith, until, rise, made)) opened)),
        );
        rows-rest = is.rows-rest;
        entries-were = λ p up. let (n, until, was) = is.entries-were p up in (
          n,
          until,
          was ∙ sym (ap (λ (x : Cells). map.get (cells_after x (take n (records_above (longer run more) base))).entries p) same
              ∙ ap (λ (rs : List RecordValue). map.get (cells_after (cells_at run base) rs).entries p)
              (same_part base n low (omega (arith, until, rise, made)) opened)),
        );
        entries-rest = is.entries-rest;
      }

  longer_content : (half : Half) (image : CrashState) (base to : ℕ) (stage : Stage) → run.last ≤ base → base ≤ to → to ≤ end_of run
      → IsContent run half image base to stage → IsContent (longer run more) half image base to stage
  longer_content half image base to Whole opened rise made is =
      record { copied = is.copied; imaged = is.imaged; copies = longer_copied base to is.copied opened rise made is.copies }
  longer_content half image base to (Partly pages count highest life) opened rise made is =
      let same = same_cells_at base (omega (arith, rise, made)) in
      record {
        rows = is.rows;
        entries = is.entries;
        copied = longer_partly base to pages highest is.rows is.entries opened rise made is.copied;
        part = subst (λ (x : Cells). IsImagePart run.geometry (header_sector run.geometry half) image pages (record x { rows = is.rows; entries = is.entries }))
            (sym same) is.part;
        life-is = is.life-is ∙ sym (ap (λ (x : Cells). x.life) same);
        inside = subst (AreInside run.geometry.pages) (sym same) is.inside;
        counted = is.counted;
        full = is.full;
      }

  longer_underway : (half : Half) (image : CrashState) (synced : ℕ) (new : NewImage) → synced ≤ end_of run → IsUnderway run half image synced new
      → IsUnderway (longer run more) half image synced new
  longer_underway half image synced new made is = record {
    low = is.low;
    rise = is.rise;
    made = omega (arith, is.made, longer_end);
    content = longer_content half image new.base new.number new.stage is.low is.rise is.made is.content;
    area-is = is.area-is;
    groups = is.groups;
    stands = is.stands;
    carried = is.carried ∙ sym (same_between new.base (reach new synced) is.low (omega (arith, is.rise, is.made)) (omega (arith, is.rise, is.made, made)));
    half-open = is.half-open;
  }

  if_underway : (half : Half) (image : CrashState) (synced : ℕ) (new : Option NewImage) → synced ≤ end_of run → IfSome new (IsUnderway run half image synced)
      → IfSome new (IsUnderway (longer run more) half image synced)
  if_underway half image synced None made is = is
  if_underway half image synced (Some new) made is = longer_underway half image synced new made is

  module _ {D M : Type 0} (past_of : D → DevicePast) where
    pub longer_writer : (handed : ℕ) (w : Writer D M) → IsWriter past_of run handed w → IsRun (longer run more) → IsWriter past_of (longer run more) handed w
    longer_writer handed w is run_is = record {
      run-is = run_is;
      geometry-is = is.geometry-is;
      opened = is.opened;
      reached = is.reached;
      made = omega (arith, is.made, longer_end);
      small = is.small;
      waits = is.waits ∙ sym (same_between w.synced handed is.opened (omega (arith, is.reached, is.made)) is.made);
      holds = λ sound.
          let stood = is.holds sound in
          record {
            store = stood.store;
            has = subst (HalfHas run.geometry w.halves.current (past_of w.device).disk.content w.synced)
                (sym (same_cells_at w.synced (omega (arith, is.reached, is.made)))) stood.has;
            area-is = stood.area-is;
            groups = stood.groups;
            stands = stood.stands;
            loose = stood.loose;
            image = if_underway (other w.halves.current) (past_of w.device).disk.content w.synced w.image (omega (arith, is.reached, is.made)) stood.image;
            copying = stood.copying;
            known = known_longer run (longer run more) w.halves.current (past_of w.device).disk.content (handed_of w) w.known.changed.items w.known.current
                w.known.other refl (λ n up. same_cells_at n (omega (arith, up, waits_all past_of run handed w is, is.made))) stood.known;
          };
      images = λ image crash. longer_left w.synced handed image is.made (is.images image crash);
    }

-- ---- records are handed in

module _ {D M : Type 0} (past_of : D → DevicePast) (run : Run) (handed : ℕ) (old : Writer D M) (is : IsWriter past_of run handed old) where
  pub handed_writer : (new : Writer D M) (records : List RecordValue) → new.device ≡ old.device → new.halves ≡ old.halves → new.synced ≡ old.synced
      → (new.failed ≡ false → StandsFor past_of run new)
      → new.waiting ≡ old.waiting ++ records → AreNext run handed records → IsWriter past_of run (handed + length records) new
  handed_writer new records d h s stands waits next = record {
    run-is = is.run-is;
    geometry-is = ap (λ (x : HalvesValue). x.geometry) h ∙ is.geometry-is;
    opened = omega (arith, is.opened, s);
    reached = omega (arith, is.reached, s);
    made = next.made;
    small = next.small;
    waits = waits ∙ ap (λ (t : List RecordValue). t ++ records) is.waits
        ∙ ap (λ (t : List RecordValue). records_between run old.synced handed ++ t) next.records-are
        ∙ sym (between_split run old.synced handed (handed + length records) is.opened is.reached (omega arith))
        ∙ ap (λ k. records_between run k (handed + length records)) (sym s);
    holds = stands;
    images = λ image crash.
        let left = is.images image (subst (λ (x : D). IsCrashState (past_of x).disk image) d crash) in
        left_by run new.synced (handed + length records) left.number image (omega (arith, left.least, s)) (omega (arith, left.most)) left.has;
  }

  -- what is known of pages, with what these records set
  pub known_handed : old.failed ≡ false → (records : List RecordValue) → AreNext run handed records
      → KnowsPages run old.halves.current (past_of old.device).disk.content (handed_of old + length records) (with_changes old.known.changed.items records)
      old.known.current old.known.other
  known_handed sound records next =
      let at : handed ≡ handed_of old = sym (waits_all past_of run handed old is) in
      known_with run is.run-is old.halves.current (past_of old.device).disk.content old.known.current old.known.other records (handed_of old)
      old.known.changed.items (omega (arith, is.opened)) (omega (arith, next.made, at))
      (subst (λ n. records ≡ records_between run n (n + length records)) at next.records-are) (is.holds sound).known

  -- what keeps all but where the records lie, keeps the writer
  pub kept_writer : (new : Writer D M) → new.device ≡ old.device → new.halves ≡ old.halves → new.synced ≡ old.synced
      → (new.failed ≡ false → StandsFor past_of run new) → new.waiting ≡ old.waiting → IsWriter past_of run handed new
  kept_writer new d h s stands waits = record {
    run-is = is.run-is;
    geometry-is = ap (λ (x : HalvesValue). x.geometry) h ∙ is.geometry-is;
    opened = omega (arith, is.opened, s);
    reached = omega (arith, is.reached, s);
    made = is.made;
    small = is.small;
    waits = waits ∙ is.waits ∙ ap (λ k. records_between run k handed) (sym s);
    holds = stands;
    images = λ image crash.
        let left = is.images image (subst (λ (x : D). IsCrashState (past_of x).disk image) d crash) in
        left_by run new.synced handed left.number image (omega (arith, left.least, s)) left.most left.has;
  }

-- what has no image, and its copying where none is, is a writer still
pub without : {D M : Type 0} (past_of : D → DevicePast) (run : Run) (handed : ℕ) (copying : Copying) (w : Writer D M)
    → IsCopying run.geometry.pages copying None → IsWriter past_of run handed w → IsWriter past_of run handed (without_image copying w)
without past_of run handed copying w none is = record {
  run-is = is.run-is;
  geometry-is = is.geometry-is;
  opened = is.opened;
  reached = is.reached;
  made = is.made;
  small = is.small;
  waits = is.waits;
  holds = λ sound.
      let stood = is.holds sound in
      record {
        store = stood.store;
        has = stood.has;
        area-is = stood.area-is;
        groups = stood.groups;
        stands = stood.stands;
        loose = stood.loose;
        image = tt;
        copying = none;
        known = stood.known;
      };
  images = is.images;
}

-- ---- the beginning

no_record : (n : ℕ) (cells : Cells) → cells ≡ cells_after cells (take (n - n) [])
no_record n cells = let zero : 0 ≡ n - n = omega arith in ap (λ k. cells_after cells (take k [])) zero

pub opened_writer : {D M : Type 0} (past_of : D → DevicePast) (cells : Cells) (w : Writer D M) → IsOpenedAt (past_of w.device) w.halves w.log w.synced cells
    → w.waiting ≡ [] → w.image ≡ None → w.copying ≡ Idle → w.known.changed.items ≡ [] → w.known.current ≡ None → w.known.other ≡ None
    → IsWriter past_of (opened_run w.halves w.synced cells) w.synced w
opened_writer past_of cells w is empty none idle unknown here there = record {
  run-is = record { following = tt; placed = is.placed };
  geometry-is = refl;
  opened = omega arith;
  reached = omega arith;
  made = omega arith;
  small = is.small;
  waits = empty ∙ sym (none_between (opened_run w.halves w.synced cells) w.synced w.synced (omega arith));
  holds = λ sound. record {
    store = is.store;
    has = subst (HalfHas w.halves.geometry w.halves.current (past_of w.device).disk.content w.synced) (no_record w.synced cells) is.has;
    area-is = is.area-is;
    groups = is.groups;
    stands = is.stands;
    loose = λ n unsynced. absurd (false≢true (sym (is.all_synced n) ∙ unsynced));
    image = subst (λ (t : Option NewImage).
        IfSome t (IsUnderway (opened_run w.halves w.synced cells) (other w.halves.current) (past_of w.device).disk.content w.synced)) (sym none) tt;
    copying = subst (λ (at : Copying). IsCopying w.halves.geometry.pages at w.image) (sym idle) none;
    known = known_nothing (opened_run w.halves w.synced cells) w.halves.current (past_of w.device).disk.content (handed_of w) w.known.changed.items
        w.known.current w.known.other unknown here there;
  };
  images = λ image crash.
      let same : image ≡ (past_of w.device).disk.content = crash_synced (past_of w.device).disk image is.all_synced crash in
      subst (LeftBy (opened_run w.halves w.synced cells) w.synced w.synced) (sym same)
      (left_by (opened_run w.halves w.synced cells) w.synced w.synced w.synced (past_of w.device).disk.content (omega arith) (omega arith)
      (record {
        half = w.halves.current;
        store = is.store;
        has = subst (HalfHas w.halves.geometry w.halves.current (past_of w.device).disk.content w.synced) (no_record w.synced cells) is.has;
      }));
}

-- ---- a list of records that is empty, or isn't

pub none_in : (records : List RecordValue) (n : ℕ) → n ≡ length records → true ≡ (n == 0) → records ≡ []
none_in [] n size none = refl
none_in (r ∷ rs) n size none = absurd (omega (arith, size, eqb-true n 0 (sym none)))

pub some_in : (records : List RecordValue) (n : ℕ) → n ≡ length records → false ≡ (n == 0) → records ≢ []
some_in records n size some none =
    let zero : n ≡ 0 = omega (arith, size, ap length none) in
    false≢true (some ∙ ap (λ (k : ℕ). k == 0) zero)
