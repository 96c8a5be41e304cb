-- An image under way, with one piece more.
use Rattle.std.proofs.Common.{◌≡◌, ⊎_elim, ℕ, ◌+◌, ◌-◌, ◌%◌, ◌<◌, ◌≤◌, List, [], ◌++◌, length, take, Option, Some, None, refl, sym, ap}
use Rattle.std.proofs.Common.{subst, ◌∙◌, arith, length-append}
use Rattle.std.proofs.lemmas.Bool.{cases_eq}
use Rattle.std.proofs.lemmas.Option.{none-some, slice_get_within, slice_get_cases}
use Rattle.std.specs.Prelude.{slice_get}
use Rattle.std.specs.FinMap as map
use Rattle.std.specs.Option.{option_map_or}
use Rattle.sector_device.specs.Disk.{CrashState, SameOutside}
use Rattle.record_values.specs.Values.{Place}
use Rattle.record_values.specs.Maps.{rid_exact}
use Rattle.record_values.specs.Orders.{pair_cmp}
use Rattle.records.specs.RecordValue.{RecordValue}
use Rattle.record_values.specs.GeometryValue.{GeometryValue}
use Rattle.record_values.specs.declared.row.Row.{Row}
use Rattle.record_values.specs.declared.pair.Pair.{Pair}
use Rattle.record_values.specs.declared.pair.Mark.{Mark}
use Rattle.model.specs.Table.{Table}
use Rattle.record_values.specs.Entries.{Index}
use Rattle.model.specs.Cells.{Cells, Pending, cells_after}
use Rattle.model.specs.declared.life.Life.{Life}
use Rattle.model.specs.declared.life.Life.TheVariants.{Absent}
use Rattle.gate_log.specs.Area.{Stands}
use Rattle.store_image_half.specs.Layout.{InPage}
use Rattle.store_image_half.specs.Image.{IsRow, row_bytes}
use Rattle.store_image_half.specs.Part.{IsImagePart, HasPage, IsWithPage}
use Rattle.store_image_half.proofs.PartByPart.{part_page}
use Rattle.flip_image.specs.declared.half.Half.{Half}
use Rattle.flip_image.specs.Layout.{header_sector}
use Rattle.flip_image.specs.Store.{HoldsImage}
use Rattle.store_image_model.specs.Partly.{joined, IsPartlyCopied, ArePageRows, AreNextEntries, AreLastEntries}
use Rattle.store_image_model.specs.Run.{Run, end_of, cells_at, records_above}
use Rattle.store_image_model.proofs.Steps.{get_first, get_second, nothing_copied, page_copied, entries_copied, last_copied}
use Rattle.store_image_model.proofs.Ordered.{joined_next, joined_last}
use Rattle.store_image_model.proofs.Runs.{reached}
use Rattle.store_reader.specs.Contents.{log_area}
use Rattle.store_writer.specs.declared.image.NewImage.{NewImage}
use Rattle.store_writer.specs.declared.image.Stage.{Stage}
use Rattle.store_writer.specs.declared.image.Stage.TheVariants.{Whole, Partly}
use Rattle.store_writer.specs.Image.{IsImageWhole, IsPart, IsContent, IsUnderway, reach}
use Rattle.store_writer.specs.Writer.{IsStartChunk, IsEntriesChunk, stage_behind}
use Rattle.store_writer.proofs.Numbers.{none_between}

-- ---- it begins

no_entries : 0 ≡ length (map.entries (map.empty {K = Pair} {X = Mark} {R = pair_cmp}))
no_entries = sym (sym (map.len-entries (map.empty {K = Pair} {X = Mark} {R = pair_cmp})) ∙ map.len-empty pair_cmp Mark)

pub start_taken : (run : Run) (half : Half) (image : CrashState) (synced : ℕ) (new : NewImage) (life : Life) (lists : Pending) → run.last ≤ synced
    → new.number ≡ new.base → new.stage ≡ Partly 0 0 None life → IsStartChunk run synced new.base life lists
    → IsImagePart run.geometry (header_sector run.geometry half) image 0 (record { rows = map.empty; entries = map.empty; pending = lists; life = life })
    → new.log.area ≡ log_area run.geometry half → Stands new.log image [] → IsUnderway run half image synced new
start_taken run half image synced new life lists opened one stage_is chunk part area stands =
    let cells = cells_at run new.base in
    let none : 0 ≡ new.number - new.base = omega (arith, one) in
    let same : record { rows = map.empty; entries = map.empty; pending = lists; life = life } ≡ record cells { rows = map.empty; entries = map.empty } = λ i.
    record { rows = map.empty; entries = map.empty; pending = chunk.lists-are i; life = chunk.life-is i } in
    record {
      low = omega (arith, opened, chunk.late);
      rise = omega (arith, one);
      made = omega (arith, one, chunk.made);
      content = subst (IsContent run half image new.base new.number) (sym stage_is) (record {
        rows = map.empty;
        entries = map.empty;
        copied = subst (λ m. IsPartlyCopied cells (records_above run new.base) m 0 None map.empty map.empty) none
            (nothing_copied cells (records_above run new.base));
        part = subst (λ (x : Cells). IsImagePart run.geometry (header_sector run.geometry half) image 0 x) same part;
        life-is = chunk.life-is;
        inside = chunk.inside;
        counted = no_entries;
        full = omega arith;
      });
      area-is = area;
      groups = [];
      stands = stands;
      carried = sym (none_between run new.base (reach new synced) (omega (arith, chunk.late)));
      half-open = omega (arith, stands.counted);
    }

-- ---- it goes on

-- the image has more, and is written up to a later record
pub at_stage : (run : Run) (half : Half) (image c : CrashState) (synced : ℕ) (i : NewImage) (is : IsUnderway run half image synced i) (number : ℕ)
    (stage : Stage)
    → i.number ≤ number → number ≤ end_of run → Stands i.log c is.groups
    → IsContent run half c i.base number stage → IsUnderway run half c synced (record i { number = number; stage = stage })
at_stage run half image c synced i is number stage later made stands content = record {
  low = is.low;
  rise = omega (arith, is.rise, later);
  made = made;
  content = content;
  area-is = is.area-is;
  groups = is.groups;
  stands = stands;
  carried = is.carried;
  half-open = is.half-open;
}

module _ (run : Run) (half : Half) (image c : CrashState) (base to number : ℕ) (low : run.last ≤ base) (rise : base ≤ to) (later : to ≤ number) where
  abbrev g : GeometryValue
  g = run.geometry

  abbrev first : ℕ
  first = header_sector g half

  abbrev cells : Cells
  cells = cells_at run base

  abbrev log : List RecordValue
  log = records_above run base

  now_is : cells_at run number ≡ cells_after cells (take (number - base) log)
  now_is = sym (reached run base number low (omega (arith, rise, later)))

  module _ (page : ℕ) (rows more : Table) (rest : (q : Place) → page ≤ q.page → map.get rows q ≡ None) (old : (q : Place) (r : Row) → map.get rows q ≡ Some r
      → (q.page < page) × (q.slot < 63))
      (next : ArePageRows (cells_at run number) page more) (slots : (q : Place) (r : Row) → map.get more q ≡ Some r → q.slot < 63) where
    with_page : IsWithPage page rows (joined more rows)
    with_page = record {
      earlier = λ q before. get_second rid_exact more rows q (next.elsewhere q (λ is. omega (arith, is, before)));
      within = λ q r there. ⊎_elim
          (λ here. (omega (arith, here), slots q r (sym (get_first rid_exact more rows q (rest q (omega (arith, here)))) ∙ there)))
          (λ other. let was = old q r (sym (get_second rid_exact more rows q (next.elsewhere q other)) ∙ there) in (omega (arith, was.0), was.1))
          (cases_eq q.page page);
    }

    has_page : HasPage first c page more → HasPage first c page (joined more rows)
    has_page has = record {
      edges = has.edges;
      slots = λ slot below. subst (λ (o : Option Row). IsRow (row_bytes c first page slot) o)
          (sym (get_first rid_exact more rows (record { page = page; slot = slot }) (rest (record { page = page; slot = slot }) (omega arith))))
          (has.slots slot below);
    }

  pub page_part : (page count : ℕ) (highest : Option Pair) (life : Life) (more : Table) → IsPart run half image base to page count highest life → page < g.pages
      → ArePageRows (cells_at run number) page more
      → ((q : Place) (r : Row) → map.get more q ≡ Some r → q.slot < 63) → SameOutside (InPage first page) image c → HasPage first c page more
      → IsPart run half c base number (page + 1) count highest life
  page_part page count highest life more is below next slots same has = record {
    rows = joined more is.rows;
    entries = is.entries;
    copied = page_copied cells log (to - base) (number - base) page highest is.rows more is.entries is.copied (omega (arith, later))
        (subst (λ (x : Cells). ArePageRows x page more) now_is next);
    part = part_page g first image c page (record cells { rows = is.rows; entries = is.entries }) (joined more is.rows) below is.part same
        (has_page page is.rows more is.copied.rows-rest is.part.within next slots has)
        (with_page page is.rows more is.copied.rows-rest is.part.within next slots);
    life-is = is.life-is;
    inside = is.inside;
    counted = is.counted;
    full = is.full;
  }

  -- entries, as many as a chunk takes
  pub entries_part : (pages count : ℕ) (above highest : Option Pair) (life : Life) (more : Index) (entries : List (Pair × Mark))
      (is : IsPart run half image base to pages count above life) → map.entries more ≡ entries → AreNextEntries (cells_at run number) above highest more
      → length entries % 8 ≡ 0
      → IsImagePart g first c pages (record cells { rows = is.rows; entries = joined more is.entries })
      → IsPart run half c base number pages (count + length entries) highest life
  entries_part pages count above highest life more entries is listed next full part = record {
    rows = is.rows;
    entries = joined more is.entries;
    copied = entries_copied cells log (to - base) (number - base) pages above highest is.rows is.entries more is.copied (omega (arith, later))
        (subst (λ (x : Cells). AreNextEntries x above highest more) now_is next);
    part = part;
    life-is = is.life-is;
    inside = is.inside;
    counted =
        let all = joined_next cells (cells_at run number) log (to - base) pages above highest is.rows is.entries more is.copied next in
        omega (arith, is.counted, ap length all, length-append (map.entries is.entries) (map.entries more), ap length listed);
    full = omega (arith, is.full, full);
  }

  -- the last entries
  pub entries_whole : (count : ℕ) (above : Option Pair) (life : Life) (more : Index) (is : IsPart run half image base to g.pages count above life)
      → AreLastEntries (cells_at run number) above more
      → HoldsImage g half c base (record cells { rows = is.rows; entries = joined more is.entries }) → IsImageWhole run half c base number
  entries_whole count above life more is last holds = record {
    copied = record cells { rows = is.rows; entries = joined more is.entries };
    imaged = holds;
    copies = last_copied cells log (to - base) (number - base) g.pages above is.rows is.entries more is.copied (omega (arith, later))
        (subst (λ (x : Cells). AreLastEntries x above more) now_is last) is.inside.rows;
  }

-- The next entries are in the image: as many as a chunk takes, or fewer, with which it is whole.
module _ (run : Run) (half : Half) (image c : CrashState) (i : NewImage) (number : ℕ) (entries : List (Pair × Mark))
    (chunk : IsEntriesChunk run i number entries)
    (low : run.last ≤ i.base) (rise : i.base ≤ i.number)
    (is : IsPart run half image i.base i.number run.geometry.pages chunk.count chunk.above chunk.life) where
  abbrev now : Cells
  now = record (cells_at run i.base) { rows = is.rows; entries = is.entries }

  abbrev index : Index
  index = joined chunk.more is.entries

  -- a full chunk
  full_chunk : (last : Pair × Mark) → slice_get entries 127 ≡ Some last → map.entries index ≡ map.entries is.entries ++ entries
  full_chunk last there = joined_next (cells_at run i.base) (cells_at run number) (records_above run i.base) (i.number - i.base) run.geometry.pages chunk.above
      (Some last.0) is.rows is.entries chunk.more is.copied (chunk.full last there)
      ∙ ap (λ (l : List (Pair × Mark)). map.entries is.entries ++ l) chunk.listed

  short_chunk : slice_get entries 127 ≡ None → map.entries index ≡ map.entries is.entries ++ entries
  short_chunk none = joined_last (cells_at run i.base) (cells_at run number) (records_above run i.base)
      (i.number - i.base) run.geometry.pages chunk.above is.rows is.entries chunk.more is.copied (chunk.rest none)
      ∙ ap (λ (l : List (Pair × Mark)). map.entries is.entries ++ l) chunk.listed

  module _ (written : 128 ≤ length entries → chunk.count ≡ length (map.entries is.entries) → map.entries index ≡ map.entries is.entries ++ entries
      → IsImagePart run.geometry (header_sector run.geometry half) c run.geometry.pages (record now { entries = index }))
      (whole : length entries < 128 → chunk.count ≡ length (map.entries is.entries) → map.entries index ≡ map.entries is.entries ++ entries
      → chunk.life ≡ (cells_at run i.base).life → HoldsImage run.geometry half c i.base (record now { entries = index })) where
    by : (o : Option (Pair × Mark)) → slice_get entries 127 ≡ o
        → IsContent run half c i.base number (option_map_or (λ last.
        Partly (run.geometry.pages) (chunk.count + length entries) (Some last.0) chunk.life) o Whole)
    by None none =
        entries_whole run half image c i.base i.number number low rise chunk.later chunk.count chunk.above chunk.life chunk.more is (chunk.rest none)
        (whole (⊎_elim (λ p. absurd (none-some p.0 (sym none ∙ p.2))) (λ p. omega (arith, p.0)) (slice_get_cases entries 127).1) is.counted
        (short_chunk none) is.life-is)
    by (Some last) there =
        let long : 128 ≤ length entries = omega (arith, slice_get_within entries 127 last there) in
        let size : length entries ≡ 128 = omega (arith, long, chunk.most) in
        entries_part run half image c i.base i.number number low rise chunk.later run.geometry.pages chunk.count chunk.above
        (Some last.0) chunk.life chunk.more entries is chunk.listed (chunk.full last there) (omega (arith, size))
        (written long is.counted (full_chunk last there))

    with_chunk : IsContent run half c i.base number (stage_behind run.geometry.pages chunk.count chunk.life entries)
    with_chunk = by (slice_get entries 127) refl

pages_of : Stage → ℕ
pages_of Whole = 0
pages_of (Partly pages count highest life) = pages

count_of : Stage → ℕ
count_of Whole = 0
count_of (Partly pages count highest life) = count

life_of : Stage → Life
life_of Whole = Absent
life_of (Partly pages count highest life) = life

-- so they are where they were written
pub with_entries : (run : Run) (half : Half) (image c : CrashState) (i : NewImage) (number : ℕ) (entries : List (Pair × Mark))
    (chunk : IsEntriesChunk run i number entries) → run.last ≤ i.base → i.base ≤ i.number
    → IsPart run half image i.base i.number run.geometry.pages chunk.count chunk.above chunk.life
    → (geometry : GeometryValue) → geometry ≡ run.geometry → (pages count : ℕ) (highest : Option Pair) (life : Life)
    → Partly run.geometry.pages chunk.count chunk.above chunk.life ≡ Partly pages count highest life
    → ((cells : Cells) (index : Index) → 128 ≤ length entries → IsImagePart geometry (header_sector geometry half) image geometry.pages cells
    → count ≡ length (map.entries cells.entries) → map.entries index ≡ map.entries cells.entries ++ entries
    → IsImagePart geometry (header_sector geometry half) c geometry.pages (record cells { entries = index }))
    → ((cells : Cells) (index : Index) → length entries < 128 → IsImagePart geometry (header_sector geometry half) image geometry.pages cells
    → count ≡ length (map.entries cells.entries) → map.entries index ≡ map.entries cells.entries ++ entries → life ≡ cells.life
    → HoldsImage geometry half c i.base (record cells { entries = index }))
    → (result : Stage) → result ≡ stage_behind pages count life entries → IsContent run half c i.base number result
unfolding count_of life_of pages_of
with_entries run half image c i number entries chunk low rise is geometry g_is pages count highest life at written whole result result_is =
    let count_is : chunk.count ≡ count = ap count_of at in
    let life_is : chunk.life ≡ life = ap life_of at in
    let now : Cells = record (cells_at run i.base) { rows = is.rows; entries = is.entries } in
    let index : Index = joined chunk.more is.entries in
    let here = subst (λ (x : GeometryValue). (cells : Cells) (index : Index) → 128 ≤ length entries → IsImagePart x (header_sector x half) image x.pages cells
    → count ≡ length (map.entries cells.entries) → map.entries index ≡ map.entries cells.entries ++ entries
    → IsImagePart x (header_sector x half) c x.pages (record cells { entries = index })) g_is written in
    let there = subst (λ (x : GeometryValue). (cells : Cells) (index : Index) → length entries < 128 → IsImagePart x (header_sector x half) image x.pages cells
    → count ≡ length (map.entries cells.entries) → map.entries index ≡ map.entries cells.entries ++ entries → life ≡ cells.life
    → HoldsImage x half c i.base (record cells { entries = index })) g_is whole in
    let same : stage_behind run.geometry.pages chunk.count chunk.life entries ≡ result =
    (λ k. stage_behind (pages_of (at k)) (count_of (at k)) (life_of (at k)) entries) ∙ sym result_is in
    subst (IsContent run half c i.base number) same (with_chunk run half image c i number entries chunk low rise is
    (λ long counted all. here now index long is.part (sym count_is ∙ counted) all)
    (λ short counted all life_at. there now index short is.part (sym count_is ∙ counted) all (sym life_is ∙ life_at)))
