-- What a writer is opened over, and what a reader finds of it.
use Rattle.std.proofs.Common.{◌≡◌, ℕ, ◌+◌, ◌-◌, ◌≤◌, List, [], ◌++◌, length, take, drop, sym, ap, subst, ◌∙◌, arith, length-take, length-append}
use Rattle.std.proofs.Math.Seq.{take-length, drop-append_seam}
use Rattle.sector_device.specs.Disk.{CrashState, IsSynced}
use Rattle.sector_device.specs.DevicePast.{DevicePast}
use Rattle.records.specs.RecordValue.{RecordValue}
use Rattle.record_values.specs.GeometryValue.{GeometryValue}
use Rattle.record_values.specs.declared.number.TheConstants.{LAST_NUMBER}
use Rattle.model.specs.Cells.{Cells, cells_after, list_of}
use Rattle.model.specs.Following.{AreFollowing, ArePlaced}
use Rattle.model.specs.Given.{Given, given_after, opening_cells, recovered}
use Rattle.model.proofs.FollowingLaws.{following-append}
use Rattle.model.proofs.PlacedLaws.{following_placed}
use Rattle.gate_log.specs.Area.{Area, Log}
use Rattle.flip_image.specs.declared.half.Half.{Half}
use Rattle.flip_image.specs.Layout.{HalvesValue}
use Rattle.flip_image.specs.Store.{IsStore, HoldsImage}
use Rattle.record_values.specs.declared.version.Version.TheVariants.{Two}
use Rattle.flip_image.proofs.Stores.{one_half}
use Rattle.store_image_model.specs.Run.{Run, IsRun, end_of, cells_at, records_to}
use Rattle.store_reader.specs.Contents.{IsFound, log_area}
use Rattle.store_writer.specs.Contents.{HalfHas}
use Rattle.store_writer.specs.Writer.{IsOpenedAt, longer, AreNext}

pub prefix : (run : Run) (opening : Given) (n : ℕ) → run.cells ≡ opening_cells opening → run.last ≡ opening.last → run.last ≤ n → n ≤ end_of run
    → recovered (cells_at run n) n ≡ given_after opening (records_to run n)
prefix run opening n cells last low made =
    let size : length (records_to run n) ≡ n - run.last = omega (arith, length-take (n - run.last) run.records) in
    let number : n ≡ opening.last + length (records_to run n) = omega (arith, size, last, low) in
    ap (λ (x : Cells). recovered (cells_after x (records_to run n)) n) cells ∙ ap (recovered (cells_after (opening_cells opening) (records_to run n))) number

module _ (now : DevicePast) (halves : HalvesValue) (log : Log) (given : Given) (store : IsStore halves.geometry halves.current now.disk.content)
    (found : IsFound now.disk.content halves.geometry log given) (all : IsSynced now.disk) (small : given.last ≤ LAST_NUMBER)
    (placed : (g : GeometryValue) (half : Half) (image : CrashState) (base : ℕ) (cells : Cells) → HoldsImage g half image base cells → (txn : ℕ)
    → ArePlaced g.pages 0 (list_of cells.pending txn)) where
  abbrev g : GeometryValue
  g = halves.geometry

  abbrev image : CrashState
  image = now.disk.content

  abbrev cells : Cells
  cells = cells_after found.gives.cells found.gives.records

  same_half : found.gives.half ≡ halves.current
  same_half = one_half Two g g found.gives.half halves.current image found.gives.holds.store store

  last_is : given.last ≡ found.gives.base + length found.gives.records
  last_is = ap (λ (x : Given). x.last) found.gives.recovered

  has : HalfHas g found.gives.half image given.last cells
  has = record {
    base = found.gives.base;
    copied = found.gives.cells;
    imaged = found.gives.holds.imaged;
    groups = found.gives.holds.groups;
    held = found.gives.holds.held;
    following = subst (AreFollowing g.pages found.gives.base found.gives.cells) found.gives.holds.all found.gives.holds.following;
    last-is = last_is ∙ ap (λ (rs : List RecordValue). found.gives.base + length rs) found.gives.holds.all;
    cells-are = ap (cells_after found.gives.cells) found.gives.holds.all;
  }

  pub opened : (x : Cells) × (given ≡ recovered x given.last) × IsOpenedAt now halves log given.last x
  opened = (
    cells,
    found.gives.recovered ∙ ap (recovered cells) (sym last_is),
    record {
      store = store;
      has = subst (λ (h : Half). HalfHas g h image given.last cells) same_half has;
      area-is = found.area ∙ ap (log_area g) same_half;
      groups = found.gives.holds.groups;
      stands = found.stands;
      all_synced = all;
      placed = following_placed g.pages found.gives.base found.gives.cells found.gives.records found.gives.holds.following
          (placed g found.gives.half image found.gives.base found.gives.cells found.gives.holds.imaged);
      small = small;
    },
  )

-- ---- more records

all_records : (run : Run) → records_to run (end_of run) ≡ run.records
all_records run = ap (λ n. take n run.records) (let e : end_of run - run.last ≡ length run.records = omega arith in e) ∙ take-length run.records

pub longer_run : (run : Run) (more : List RecordValue) → IsRun run → AreFollowing run.geometry.pages (end_of run) (cells_at run (end_of run)) more
    → IsRun (longer run more)
longer_run run more is follow = record {
  following = following-append run.geometry.pages run.last run.cells run.records more is.following
      (subst (λ (rs : List RecordValue). AreFollowing run.geometry.pages (end_of run) (cells_after run.cells rs) more) (all_records run) follow);
  placed = is.placed;
}

pub next : (run : Run) (more : List RecordValue) → end_of run + length more ≤ LAST_NUMBER → AreNext (longer run more) (end_of run) more
next run more small = record {
  made = omega (arith, length-append run.records more);
  small = small;
  records-are = sym (
      ap (λ n. take (end_of run + length more - end_of run) (drop n (run.records ++ more))) (let e : end_of run - run.last ≡ length run.records = omega arith in
      e)
      ∙ ap (take (end_of run + length more - end_of run)) (drop-append_seam run.records more)
      ∙ ap (λ n. take n more) (let e : end_of run + length more - end_of run ≡ length more = omega arith in e)
      ∙ take-length more);
}
