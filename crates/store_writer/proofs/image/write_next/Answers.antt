use Rattle.std.proofs.Common.{◌≡◌, ℕ, ◌+◌, List, length, Some, Err, ap, subst, ◌∙◌, arith, length-append}
use Rattle.std.proofs.lemmas.Result.{err_from_is_err_and}
use Rattle.std.specs.Prelude.{slice_get}
use Rattle.std.specs.FinMap as map
use Rattle.sector_device.specs.Disk.{CrashState, sector, SameOutside}
use Rattle.sector_device.specs.DevicePast.{Rises}
use Rattle.record_values.specs.GeometryValue.{GeometryValue}
use Rattle.record_values.specs.declared.pair.Pair.{Pair}
use Rattle.record_values.specs.declared.pair.Mark.{Mark}
use Rattle.store_image_parts.specs.declared.header.Header.{Header}
use Rattle.store_image_half.specs.Layout.{InEntries}
use Rattle.store_image_half.specs.Image.{IsHeader, IsEntry, entry_bytes, header_of}
use Rattle.store_image_half.proofs.PartByPart.{part_entries, part_whole}
use Rattle.flip_image.specs.Layout.{other, header_sector, InHalfImage}
use Rattle.store_writer.proofs.Idle.{named_behind, runs_then}
use Rattle.store_writer.proofs.image.write_next.Goals as goal

pub write_entries-requires : goal.write_entries-requires
write_entries-requires g c = record {
  inside = c.requires.inside;
  current = c.requires.current;
  start = c.requires.full;
  room = c.requires.room;
  pages = c.requires.pages;
}

pub returns-in_err-write_entries : goal.returns-in_err-write_entries
returns-in_err-write_entries g c =
    let p = err_from_is_err_and c.from_residual.result c.from_residual.ensures.1 in
    rw (p.1 ∙ ap Err p.2) (record {
      part = tt;
      whole = tt;
      within = c.write_entries.ensures.within;
      counts = record { later = c.write_entries.ensures.counts.later; none = tt; failed = c.in_err-write_entries.ensures.counts.failed };
    })

pub write_header-requires : goal.write_header-requires
write_header-requires g c = record {
  inside = omega (arith, c.requires.inside, c.write_entries.ensures.outside.sectors);
  current = named_behind c.args.halves.geometry (other c.args.halves.current) c.args.halves.current _ _ _ _ c.write_entries.ensures.outside
      c.requires.current;
  base = c.requires.base;
  room = c.requires.room;
  pages = c.requires.highest;
}

pub returns-in_err-write_header : goal.returns-in_err-write_header
returns-in_err-write_header g c =
    let past_of = g.D.Device.past_of in
    let failures = g.D.Device.failures in
    let p = err_from_is_err_and c.from_residual-in_err-write_header.result c.from_residual-in_err-write_header.ensures.1 in
    rw (p.1 ∙ ap Err p.2) (record {
      part = tt;
      whole = tt;
      within = runs_then (InHalfImage c.args.halves.geometry (other c.args.halves.current)) (past_of c.args.device.now) (past_of c.write_entries.new.device)
          (past_of c.write_header.new.device) c.write_entries.ensures.within c.write_header.ensures.within;
      counts = record {
        later = omega (arith, c.write_entries.ensures.counts.later, c.write_header.ensures.counts.later);
        none = tt;
        failed = subst (λ (n : ℕ). Rises n (failures c.write_header.new.device)) c.in_ok-write_entries.ensures.counts.none
            c.in_err-write_header.ensures.counts.failed;
      };
    })

pub returns-in_ok-write_header : goal.returns-in_ok-write_header
returns-in_ok-write_header g c =
    let past_of = g.D.Device.past_of in
    record {
      part = λ cells index long part count all. absurd (omega (arith, long, c.if-entries-lt-CHUNK_ENTRIES.true));
      whole = λ cells index short part count all life.
          let geometry : GeometryValue = c.args.halves.geometry in
          let first : ℕ = header_sector geometry (other c.args.halves.current) in
          let old : CrashState = (g.D.Device.past_of c.args.device.now).disk.content in
          let mid : CrashState = (g.D.Device.past_of c.write_entries.new.device).disk.content in
          let new : CrashState = (g.D.Device.past_of c.write_header.new.device).disk.content in
          let more : List (Pair × Mark) = c.args.entries.now in
          let written : Header = record { life = c.args.header.now.life; base = c.args.header.now.base; entries = c.args.header.now.entries + length more } in
          let number : c.args.header.now.entries + length more ≡ length (map.entries index) =
          omega (arith, count, ap length all, length-append (map.entries cells.entries) more) in
          let same : written ≡ header_of c.args.header.now.base (record cells { entries = index }) = λ i.
          record { life = life i; base = c.args.header.now.base; entries = number i } in
          part_whole geometry first mid new c.args.header.now.base (record cells { entries = index })
          (part_entries geometry first old mid geometry.pages cells index more part (omega (arith, count, c.requires.full)) all
          (omega (arith, count, c.requires.room))
          (subst (λ n. SameOutside (InEntries geometry first n (length more)) old mid) count c.write_entries.ensures.outside)
          (subst (λ n. (i : ℕ) (e : Pair × Mark) → slice_get more i ≡ Some e
          → IsEntry geometry (entry_bytes geometry mid first (n + i)) e) count c.in_ok-write_entries.ensures.written))
          c.write_header.ensures.outside
          (subst (IsHeader geometry (sector new first)) same c.in_ok-write_header.ensures.written);
      within = runs_then (InHalfImage c.args.halves.geometry (other c.args.halves.current)) (past_of c.args.device.now) (past_of c.write_entries.new.device)
          (past_of c.write_header.new.device) c.write_entries.ensures.within c.write_header.ensures.within;
      counts = record {
        later = omega (arith, c.write_entries.ensures.counts.later, c.write_header.ensures.counts.later);
        none = c.in_ok-write_header.ensures.counts.none ∙ c.in_ok-write_entries.ensures.counts.none;
        failed = tt;
      };
    }

pub returns-else-entries-lt-CHUNK_ENTRIES : goal.returns-else-entries-lt-CHUNK_ENTRIES
returns-else-entries-lt-CHUNK_ENTRIES g c = record {
  part = λ cells index long part count all.
      let geometry : GeometryValue = c.args.halves.geometry in
      let first : ℕ = header_sector geometry (other c.args.halves.current) in
      let old : CrashState = (g.D.Device.past_of c.args.device.now).disk.content in
      let new : CrashState = (g.D.Device.past_of c.write_entries.new.device).disk.content in
      let more : List (Pair × Mark) = c.args.entries.now in
      part_entries geometry first old new geometry.pages cells index more part (omega (arith, count, c.requires.full)) all
      (omega (arith, count, c.requires.room))
      (subst (λ n. SameOutside (InEntries geometry first n (length more)) old new) count c.write_entries.ensures.outside)
      (subst (λ n. (i : ℕ) (e : Pair × Mark) → slice_get more i ≡ Some e
      → IsEntry geometry (entry_bytes geometry new first (n + i)) e) count c.in_ok-write_entries.ensures.written);
  whole = λ cells index short part count all life. absurd (omega (arith, short, c.if-entries-lt-CHUNK_ENTRIES.false));
  within = c.write_entries.ensures.within;
  counts = record { later = c.write_entries.ensures.counts.later; none = c.in_ok-write_entries.ensures.counts.none; failed = tt };
}
