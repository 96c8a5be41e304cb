use Rattle.std.proofs.Common.{◌≡◌, ⊎_elim, ℕ, ◌+◌, ◌*◌, ◌/◌, ◌%◌, ◌<◌, List, length, Err, refl, sym, ap, ◌∙◌, subst, arith}
use Rattle.std.specs.Prelude.{slice_get}
use Rattle.std.specs.FinMap.{entries}
use Rattle.std.proofs.lemmas.Bool.{cases_lt}
use Rattle.std.proofs.lemmas.Option.{slice_get_within, slice_get_past}
use Rattle.std.proofs.lemmas.Result.{err_from_is_err_and}
use Rattle.sector_device.specs.Disk.{Disk, sector, after_write}
use Rattle.sector_device.proofs.Sectors.{sector_written, sector_other}
use Rattle.record_values.specs.GeometryValue.{GeometryValue}
use Rattle.record_values.specs.declared.pair.Pair.{Pair}
use Rattle.record_values.specs.declared.pair.Mark.{Mark}
use Rattle.sector_device.proofs.Counts.{counts_later}
use Rattle.store_image_half.specs.Layout.{cut, page_at, entries_at, InEntries}
use Rattle.store_image_half.specs.Image.{entry_bytes}
use Rattle.store_image_half.specs.Steps.{IsEntryPiece, IsEntryPlace}
use Rattle.store_image_half.specs.Source.{IsPassed}
use Rattle.store_image_half.proofs.Joined.{counts_none, writes_none, writes_one}
use Rattle.store_image_half.proofs.Writing.{entry_inside}
use Rattle.store_image_half.proofs.whole.write_all_entries.Goals as goal

pub page_at-at-requires : goal.page_at-at-requires
page_at-at-requires g c =
    let pages = c.from.ensures ∙ ap (λ (x : GeometryValue). x.pages) c.geometry.view_is in
    omega (arith, pages, c.requires.number)

pub loop-k-init : goal.loop-k-init
loop-k-init g c = record {
  passed = λ _. refl;
  placed = λ i less. absurd (omega (arith, less));
  part = writes_none (InEntries c.args.geometry c.args.first 0 c.args.count) (g.D.Device.past_of c.args.device.now);
  failures = refl;
}

pub overflow_add-at : goal.overflow_add-at
overflow_add-at g c =
    let at_is : c.page_at-at.result ≡ entries_at c.args.geometry c.args.first = c.page_at-at.ensures
    ∙ ap (page_at c.args.first) (c.from.ensures ∙ ap (λ (x : GeometryValue). x.pages) c.geometry.view_is) in
    let some : c.loop-k.k < (c.args.count + 7) / 8 = omega (arith, c.div_ceil-k-end.ensures, c.from-2.ensures, c.loop-k-test.true) in
    omega (arith, at_is, some, c.requires.number, c.requires.count, c.requires.fits.room)

pub write-requires : goal.write-requires
write-requires g c =
    let at_is : c.page_at-at.result ≡ entries_at c.args.geometry c.args.first = c.page_at-at.ensures
    ∙ ap (page_at c.args.first) (c.from.ensures ∙ ap (λ (x : GeometryValue). x.pages) c.geometry.view_is) in
    let some : c.loop-k.k < (c.args.count + 7) / 8 = omega (arith, c.div_ceil-k-end.ensures, c.from-2.ensures, c.loop-k-test.true) in
    omega (arith, at_is, some, c.requires.inside, c.requires.count, c.requires.fits.room, c.loop-k.invariant.part.outside.sectors)

pub returns-in_err-write : goal.returns-in_err-write
returns-in_err-write g c =
    let hist = g.D.Device.past_of in
    let at_is : c.page_at-at.result ≡ entries_at c.args.geometry c.args.first = c.page_at-at.ensures
    ∙ ap (page_at c.args.first) (c.from.ensures ∙ ap (λ (x : GeometryValue). x.pages) c.geometry.view_is) in
    let some : c.loop-k.k < (c.args.count + 7) / 8 = omega (arith, c.div_ceil-k-end.ensures, c.from-2.ensures, c.loop-k-test.true) in
    let at = c.page_at-at.result + c.loop-k.k in
    let inside : InEntries c.args.geometry c.args.first 0 c.args.count at = (omega (arith, at_is), omega (arith, at_is, some)) in
    let p = err_from_is_err_and c.from_residual.result c.from_residual.ensures.1 in
    rw (p.1 ∙ ap Err p.2) (record {
      written = tt;
      rest = tt;
      part = writes_one (InEntries c.args.geometry c.args.first 0 c.args.count) (hist c.args.device.now) (hist c.loop-k.device)
          (hist c.write.new.self) at _ c.write.result inside c.write.ensures.time c.write.ensures.ok c.write.ensures.err c.loop-k.invariant.part;
      counts = counts_later _ _ _ _ c.loop-k.invariant.failures c.in_err-write.ensures.counts;
    })

pub loop-k-preserved : goal.loop-k-preserved
loop-k-preserved g c =
    let hist = g.D.Device.past_of in
    let mid : Disk = (hist c.loop-k.device).disk in
    let new : Disk = (hist c.write.new.self).disk in
    let cells = g.S.CellSource.cells c.args.source.now in
    let all : List (Pair × Mark) = entries cells.entries in
    let k = c.loop-k.k in
    let first_entry = entries_at c.args.geometry c.args.first in
    let at_is : c.page_at-at.result ≡ first_entry = c.page_at-at.ensures
    ∙ ap (page_at c.args.first) (c.from.ensures ∙ ap (λ (x : GeometryValue). x.pages) c.geometry.view_is) in
    let some : k < (c.args.count + 7) / 8 = omega (arith, c.div_ceil-k-end.ensures, c.from-2.ensures, c.loop-k-test.true) in
    let at = c.page_at-at.result + k in
    let bytes : List ℕ = c.entries_sector-bytes.result in
    let inside : InEntries c.args.geometry c.args.first 0 c.args.count at = (omega (arith, at_is), omega (arith, at_is, some)) in
    let so_far = c.loop-k.invariant in
    let passed : IsPassed all (8 * k) c.loop-k.last = so_far.passed (omega (arith, some)) in
    let ok : new ≡ after_write mid at bytes = c.in_ok-write.ensures.ok in
    let room : at < length mid.content = omega (arith, inside.1, c.requires.inside, c.requires.count, c.requires.fits.room, so_far.part.outside.sectors) in
    record {
      passed = λ more. subst (λ n. IsPassed all n c.entries_sector-bytes.new.last) (let e : 8 * k + 8 ≡ 8 * (k + 1) = omega arith in e)
          (c.entries_sector-bytes.ensures.passed (8 * k) passed (omega (arith, more, c.requires.count)));
      placed = λ i less. ⊎_elim
          (λ (lower : i < 8 * k).
          let n = first_entry + i / 8 in
          let same : sector new.content n ≡ sector mid.content n = ap (λ (d : Disk). sector d.content n) ok
          ∙ sector_other mid at n bytes (omega (arith, at_is, lower)) in
          subst (λ (b : List ℕ). IsEntryPlace (cut b 64 (i % 8)) (slice_get all i)) (sym same) (so_far.placed i lower))
          (λ higher.
          let n = first_entry + i / 8 in
          let which : n ≡ at = omega (arith, at_is, less, higher) in
          let there : sector new.content n ≡ bytes = ap (λ m. sector new.content m) which ∙ ap (λ (d : Disk). sector d.content at) ok
          ∙ sector_written mid at bytes room in
          let nth : i ≡ 8 * k + i % 8 = omega (arith, less, higher) in
          let piece = c.entries_sector-bytes.ensures.spelled (8 * k) passed (i % 8) (omega arith) in
          subst (λ (b : List ℕ). IsEntryPlace (cut b 64 (i % 8)) (slice_get all i)) (sym there)
          (subst (λ m. IsEntryPlace (cut bytes 64 (i % 8)) (slice_get all m)) (sym nth) piece))
          (cases_lt i (8 * k));
      part = writes_one (InEntries c.args.geometry c.args.first 0 c.args.count) (hist c.args.device.now) (hist c.loop-k.device)
          (hist c.write.new.self) at _ c.write.result inside c.write.ensures.time c.write.ensures.ok c.write.ensures.err so_far.part;
      failures = c.in_ok-write.ensures.counts.none ∙ so_far.failures;
    }

pub returns : goal.returns
returns g c =
    let cells = g.S.CellSource.cells c.args.source.now in
    let all : List (Pair × Mark) = entries cells.entries in
    let so_far = c.loop-k.invariant in
    record {
      written = λ i e at_i.
          let bytes = entry_bytes c.args.geometry (g.D.Device.past_of c.loop-k.device).disk.content c.args.first i in
          let piece : IsEntryPiece bytes e = subst (IsEntryPlace bytes) at_i
          (so_far.placed i (omega (
            arith,
            slice_get_within _ i e at_i,
            c.requires.count,
            c.div_ceil-k-end.ensures,
            c.from-2.ensures,
            c.loop-k-test.false,
          ))) in
          record { spelled = piece.spelled; fits = piece.fits; inside = entry_inside c.args.geometry cells c.requires.fits i e at_i };
      rest = λ i behind below. subst (IsEntryPlace (entry_bytes c.args.geometry (g.D.Device.past_of c.loop-k.device).disk.content c.args.first i))
          (slice_get_past all i (omega (arith, behind, c.requires.count)))
          (so_far.placed i (omega (arith, below, c.div_ceil-k-end.ensures, c.from-2.ensures, c.loop-k-test.false)));
      part = so_far.part;
      counts = counts_none _ _ _ so_far.failures;
    }
