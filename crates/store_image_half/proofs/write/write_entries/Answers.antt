use Rattle.std.proofs.Common.{◌≡◌, ⊎_elim, inl, ℕ, ◌+◌, ◌-◌, ◌*◌, ◌/◌, ◌%◌, ◌<◌, List, length, Err, refl, sym, ap, ◌∙◌, subst, arith}
use Rattle.std.specs.Prelude.{slice_get}
use Rattle.std.proofs.lemmas.Bool.{cases_lt}
use Rattle.std.proofs.lemmas.Option.{slice_get_within, slice_get_past}
use Rattle.std.proofs.lemmas.Result.{err_from_is_err_and}
use Rattle.sector_device.specs.Disk.{Disk, sector, after_write}
use Rattle.sector_device.proofs.Sectors.{sector_written, sector_other, content_after}
use Rattle.sector_device.proofs.Within.{within_write}
use Rattle.record_values.specs.GeometryValue.{GeometryValue}
use Rattle.sector_device.proofs.Counts.{counts_later}
use Rattle.store_image_half.specs.Layout.{cut, page_at, entries_at, InEntries}
use Rattle.store_image_parts.specs.Spelling.{zeros}
use Rattle.store_image_half.specs.Image.{entry_bytes}
use Rattle.store_image_half.specs.Steps.{IsEntryPiece, IsEntryPlace}
use Rattle.store_image_half.proofs.Joined.{counts_none, writes_none}
use Rattle.store_image_half.proofs.write.write_entries.Goals as goal

pub page_at-requires : goal.page_at-requires
page_at-requires g c =
    let pages = c.from.ensures ∙ ap (λ (x : GeometryValue). x.pages) c.geometry.view_is in
    omega (arith, pages, c.requires.number)

pub overflow_add-at : goal.overflow_add-at
overflow_add-at g c =
    let at_is : c.page_at.result ≡ entries_at c.args.geometry c.args.first = c.page_at.ensures
    ∙ ap (page_at c.args.first) (c.from.ensures ∙ ap (λ (x : GeometryValue). x.pages) c.geometry.view_is) in
    omega (arith, at_is, c.from-2.ensures, c.requires.number, c.requires.room)

pub loop-k-init : goal.loop-k-init
loop-k-init g c =
    let none = writes_none (InEntries c.args.geometry c.args.first c.args.start (length c.args.entries.now)) (g.D.Device.past_of c.args.device.now) in
    record {
      placed = λ i less. absurd (omega (arith, less));
      outside = none.outside;
      within = none.within;
      failures = refl;
    }

pub entries_sector-bytes-requires : goal.entries_sector-bytes-requires
entries_sector-bytes-requires g c = omega (arith, c.div_ceil-sectors.ensures, c.loop-k-test.true)

pub overflow_add-at-in-loop-k : goal.overflow_add-at-in-loop-k
overflow_add-at-in-loop-k g c =
    let at_is : c.page_at.result ≡ entries_at c.args.geometry c.args.first = c.page_at.ensures
    ∙ ap (page_at c.args.first) (c.from.ensures ∙ ap (λ (x : GeometryValue). x.pages) c.geometry.view_is) in
    let count : c.div_ceil-sectors.result ≡ (length c.args.entries.now + 7) / 8 = omega (arith, c.div_ceil-sectors.ensures) in
    let at = c.page_at.result + c.from-2.result / 8 + c.loop-k.k in
    let inside : InEntries c.args.geometry c.args.first c.args.start (length c.args.entries.now) at =
    (omega (arith, at_is, c.from-2.ensures), omega (arith, at_is, c.from-2.ensures, count, c.loop-k-test.true, c.requires.start)) in
    omega (arith, inside.1, c.requires.number, c.requires.room)

pub write-requires : goal.write-requires
write-requires g c =
    let at_is : c.page_at.result ≡ entries_at c.args.geometry c.args.first = c.page_at.ensures
    ∙ ap (page_at c.args.first) (c.from.ensures ∙ ap (λ (x : GeometryValue). x.pages) c.geometry.view_is) in
    let count : c.div_ceil-sectors.result ≡ (length c.args.entries.now + 7) / 8 = omega (arith, c.div_ceil-sectors.ensures) in
    let at = c.page_at.result + c.from-2.result / 8 + c.loop-k.k in
    let inside : InEntries c.args.geometry c.args.first c.args.start (length c.args.entries.now) at =
    (omega (arith, at_is, c.from-2.ensures), omega (arith, at_is, c.from-2.ensures, count, c.loop-k-test.true, c.requires.start)) in
    omega (arith, inside.1, c.requires.inside, c.requires.room, c.loop-k.invariant.outside.sectors)

pub returns-in_err-write : goal.returns-in_err-write
returns-in_err-write g c =
    let at_is : c.page_at.result ≡ entries_at c.args.geometry c.args.first = c.page_at.ensures
    ∙ ap (page_at c.args.first) (c.from.ensures ∙ ap (λ (x : GeometryValue). x.pages) c.geometry.view_is) in
    let count : c.div_ceil-sectors.result ≡ (length c.args.entries.now + 7) / 8 = omega (arith, c.div_ceil-sectors.ensures) in
    let at = c.page_at.result + c.from-2.result / 8 + c.loop-k.k in
    let inside : InEntries c.args.geometry c.args.first c.args.start (length c.args.entries.now) at =
    (omega (arith, at_is, c.from-2.ensures), omega (arith, at_is, c.from-2.ensures, count, c.loop-k-test.true, c.requires.start)) in
    let so_far = c.loop-k.invariant in
    let p = err_from_is_err_and c.from_residual.result c.from_residual.ensures.1 in
    rw (p.1 ∙ ap Err p.2) (record {
      written = tt;
      rest = tt;
      outside = content_after _ _ (g.D.Device.past_of c.loop-k.device).disk at _ _ c.write.result c.write.ensures.ok c.write.ensures.err inside so_far.outside;
      within = within_write _ _ _ _ _ so_far.within c.write.ensures.time at _ c.write.result (inl inside) c.write.ensures.ok c.write.ensures.err;
      counts = counts_later _ _ _ _ so_far.failures c.in_err-write.ensures.counts;
    })

pub loop-k-preserved : goal.loop-k-preserved
loop-k-preserved g c =
    let h = g.D.Device.past_of in
    let mid : Disk = (h c.loop-k.device).disk in
    let new : Disk = (h c.write.new.self).disk in
    let k = c.loop-k.k in
    let start = c.args.start in
    let first_entry = entries_at c.args.geometry c.args.first in
    let at_is : c.page_at.result ≡ first_entry = c.page_at.ensures
    ∙ ap (page_at c.args.first) (c.from.ensures ∙ ap (λ (x : GeometryValue). x.pages) c.geometry.view_is) in
    let count : c.div_ceil-sectors.result ≡ (length c.args.entries.now + 7) / 8 = omega (arith, c.div_ceil-sectors.ensures) in
    let at = c.page_at.result + c.from-2.result / 8 + k in
    let bytes : List ℕ = c.entries_sector-bytes.result in
    let inside : InEntries c.args.geometry c.args.first start (length c.args.entries.now) at =
    (omega (arith, at_is, c.from-2.ensures), omega (arith, at_is, c.from-2.ensures, count, c.loop-k-test.true, c.requires.start)) in
    let so_far = c.loop-k.invariant in
    let ok : new ≡ after_write mid at bytes = c.in_ok-write.ensures.ok in
    let room : at < length mid.content = omega (arith, inside.1, c.requires.inside, c.requires.room, so_far.outside.sectors) in
    record {
      placed = λ i less. ⊎_elim
          (λ (lower : i < 8 * k).
          let n = first_entry + (start + i) / 8 in
          let same : sector new.content n ≡ sector mid.content n = ap (λ (d : Disk). sector d.content n) ok
          ∙ sector_other mid at n bytes (omega (arith, at_is, c.from-2.ensures, c.requires.start, lower)) in
          subst (λ (b : List ℕ). IsEntryPlace (cut b 64 ((start + i) % 8)) (slice_get c.args.entries.now i)) (sym same) (so_far.placed i lower))
          (λ higher.
          let n = first_entry + (start + i) / 8 in
          let which : n ≡ at = omega (arith, at_is, c.from-2.ensures, c.requires.start, less, higher) in
          let there : sector new.content n ≡ bytes = ap (λ m. sector new.content m) which ∙ ap (λ (d : Disk). sector d.content at) ok
          ∙ sector_written mid at bytes room in
          let nth : i ≡ 8 * k + (start + i) % 8 = omega (arith, less, higher, c.requires.start) in
          let piece = c.entries_sector-bytes.ensures ((start + i) % 8) (omega arith) in
          subst (λ (b : List ℕ). IsEntryPlace (cut b 64 ((start + i) % 8)) (slice_get c.args.entries.now i)) (sym there)
          (subst (λ m. IsEntryPlace (cut bytes 64 ((start + i) % 8)) (slice_get c.args.entries.now m)) (sym nth) piece))
          (cases_lt i (8 * k));
      outside = content_after _ _ mid at _ _ c.write.result c.write.ensures.ok c.write.ensures.err inside so_far.outside;
      within = within_write _ _ _ _ _ so_far.within c.write.ensures.time at _ c.write.result (inl inside) c.write.ensures.ok c.write.ensures.err;
      failures = c.in_ok-write.ensures.counts.none ∙ so_far.failures;
    }

pub returns : goal.returns
returns g c =
    let count : c.div_ceil-sectors.result ≡ (length c.args.entries.now + 7) / 8 = omega (arith, c.div_ceil-sectors.ensures) in
    let so_far = c.loop-k.invariant in
    record {
      written = λ i e at_i.
          let bytes = entry_bytes c.args.geometry (g.D.Device.past_of c.loop-k.device).disk.content c.args.first (c.args.start + i) in
          let piece : IsEntryPiece bytes e = subst (IsEntryPlace bytes) at_i
          (so_far.placed i (omega (arith, slice_get_within c.args.entries.now i e at_i, count, c.loop-k-test.false))) in
          record { spelled = piece.spelled; fits = piece.fits; inside = c.requires.pages i e at_i };
      rest = λ n behind below.
          let i : ℕ = n - c.args.start in
          let is : c.args.start + i ≡ n = omega (arith, behind) in
          let bytes : ℕ → List ℕ = λ k. entry_bytes c.args.geometry (g.D.Device.past_of c.loop-k.device).disk.content c.args.first k in
          subst (λ k. bytes k ≡ zeros 64) is
          (subst (IsEntryPlace (bytes (c.args.start + i))) (slice_get_past c.args.entries.now i (omega (arith, behind)))
          (so_far.placed i (omega (arith, below, behind, count, c.requires.start, c.loop-k-test.false))));
      outside = so_far.outside;
      within = so_far.within;
      counts = counts_none _ _ _ so_far.failures;
    }
