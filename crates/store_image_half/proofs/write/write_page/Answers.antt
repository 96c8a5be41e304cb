use Rattle.std.proofs.Common.{◌≡◌, ⊎_elim, inl, ℕ, ◌+◌, ◌/◌, ◌<◌, List, [], length, Err, refl, sym, ap, ◌∙◌, subst, arith}
use Rattle.std.proofs.lemmas.Bool.{cases_eq}
use Rattle.std.proofs.lemmas.Grind.{get_or-set_at}
use Rattle.std.proofs.lemmas.Result.{err_from_is_err_and}
use Rattle.sector_device.specs.Disk.{CrashState, Disk, sector}
use Rattle.sector_device.proofs.Sectors.{sector_other, content_after}
use Rattle.sector_device.proofs.Within.{within_write}
use Rattle.record_values.specs.declared.version.Version.TheVariants.{Two}
use Rattle.sector_device.proofs.Counts.{counts_later}
use Rattle.store_image_half.specs.Layout.{page_at, row_of, InPage}
use Rattle.store_image_half.specs.Image.{HasEdges, IsRow}
use Rattle.store_image_half.proofs.Bytes.{bytes_written}
use Rattle.store_image_half.proofs.Joined.{counts_none, writes_none}
use Rattle.store_image_half.proofs.write.write_page.Goals as goal

pub put_rows-requires : goal.put_rows-requires
put_rows-requires g c = record { count = c.requires.rows; none = c.zero_page-bytes.ensures.rows }

pub page_at-at-requires : goal.page_at-at-requires
page_at-at-requires g c = omega (arith, c.from.ensures, c.requires.page, c.requires.number)

pub loop-k-init : goal.loop-k-init
loop-k-init g c =
    let none = writes_none (InPage c.args.first c.args.page) (g.D.Device.past_of c.args.device.now) in
    record {
      written = λ j below. absurd (omega (arith, below));
      outside = none.outside;
      within = none.within;
      failures = refl;
    }

pub overflow_add-at : goal.overflow_add-at
overflow_add-at g c =
    let at = c.page_at-at.result in
    let at_is : at ≡ page_at c.args.first c.args.page = c.page_at-at.ensures ∙ ap (page_at c.args.first) c.from.ensures in
    let few : c.loop-k.k < 16 = omega (arith, c.as_chunks.ensures.front_len, c.loop-k-test.true) in
    omega (arith, at_is, few, c.requires.page, c.requires.number)

pub write-requires : goal.write-requires
write-requires g c =
    let at = c.page_at-at.result in
    let at_is : at ≡ page_at c.args.first c.args.page = c.page_at-at.ensures ∙ ap (page_at c.args.first) c.from.ensures in
    let few : c.loop-k.k < 16 = omega (arith, c.as_chunks.ensures.front_len, c.loop-k-test.true) in
    omega (arith, at_is, few, c.requires.page, c.requires.inside, c.loop-k.invariant.outside.sectors)

pub returns-in_err-write : goal.returns-in_err-write
returns-in_err-write g c =
    let at = c.page_at-at.result in
    let at_is : at ≡ page_at c.args.first c.args.page = c.page_at-at.ensures ∙ ap (page_at c.args.first) c.from.ensures in
    let few : c.loop-k.k < 16 = omega (arith, c.as_chunks.ensures.front_len, c.loop-k-test.true) in
    let inside : InPage c.args.first c.args.page (at + c.loop-k.k) = (omega (arith, at_is), omega (arith, at_is, few)) in
    let so_far = c.loop-k.invariant in
    let p = err_from_is_err_and c.from_residual.result c.from_residual.ensures.1 in
    rw (p.1 ∙ ap Err p.2) (record {
      edges = tt;
      written = tt;
      outside = content_after _ _ _ (at + c.loop-k.k) _ _ c.write.result c.write.ensures.ok c.write.ensures.err inside so_far.outside;
      within = within_write _ _ _ _ _ so_far.within c.write.ensures.time (at + c.loop-k.k) _ c.write.result (inl inside) c.write.ensures.ok
          c.write.ensures.err;
      counts = counts_later _ _ _ _ so_far.failures c.in_err-write.ensures.counts;
    })

pub loop-k-preserved : goal.loop-k-preserved
loop-k-preserved g c =
    let h = g.D.Device.past_of in
    let mid : Disk = (h c.loop-k.device).disk in
    let k = c.loop-k.k in
    let at = c.page_at-at.result in
    let start = page_at c.args.first c.args.page in
    let rows : CrashState = c.as_chunks.result.0.now in
    let row = sector rows k in
    let at_is : at ≡ start = c.page_at-at.ensures ∙ ap (page_at c.args.first) c.from.ensures in
    let few : k < 16 = omega (arith, c.as_chunks.ensures.front_len, c.loop-k-test.true) in
    let inside : InPage c.args.first c.args.page (at + k) = (omega (arith, at_is), omega (arith, at_is, few)) in
    let so_far = c.loop-k.invariant in
    let ok = c.in_ok-write.ensures.ok in
    let room : at + k < length mid.content = omega (arith, at_is, c.requires.inside, c.requires.page, so_far.outside.sectors, few) in
    record {
      written = λ j below. ap (λ (d : Disk). sector d.content (start + j)) ok ∙ ⊎_elim
          (λ same. get_or-set_at mid.content (at + k) (start + j) row [] (omega (arith, at_is, same)) room ∙ ap (sector rows) (sym same))
          (λ other. sector_other mid (at + k) (start + j) row (omega (arith, at_is, other)) ∙ so_far.written j (omega (arith, below, other)))
          (cases_eq j k);
      outside = content_after _ _ mid (at + k) _ _ c.write.result c.write.ensures.ok c.write.ensures.err inside so_far.outside;
      within = within_write _ _ _ _ _ so_far.within c.write.ensures.time (at + k) _ c.write.result (inl inside) c.write.ensures.ok c.write.ensures.err;
      failures = c.in_ok-write.ensures.counts.none ∙ so_far.failures;
    }

pub returns : goal.returns
returns g c =
    let image : CrashState = (g.D.Device.past_of c.loop-k.device).disk.content in
    let rows : CrashState = c.as_chunks.result.0.now in
    let so_far = c.loop-k.invariant in
    let size : length rows ≡ 16 = omega (arith, c.as_chunks.ensures.front_len) in
    let bytes = bytes_written image rows c.put_rows.new.page (length c.put_rows.new.page / 512) (page_at c.args.first c.args.page) 16
    (omega (arith, c.requires.inside, c.requires.page, so_far.outside.sectors)) (omega arith) (omega arith) c.as_chunks.ensures.front size
    (λ j less. so_far.written j (omega (arith, size, less, c.loop-k-test.false))) in
    record {
      edges = subst (HasEdges Two) (sym bytes) (c.put_rows.ensures.edges c.zero_page-bytes.ensures.edges);
      written = λ slot o there. subst (λ (b : List ℕ). IsRow (row_of Two b slot) o) (sym bytes) (c.put_rows.ensures.rows slot o there);
      outside = so_far.outside;
      within = so_far.within;
      counts = counts_none _ _ _ so_far.failures;
    }
