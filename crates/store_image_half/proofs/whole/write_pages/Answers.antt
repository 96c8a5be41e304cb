use Rattle.std.proofs.Common.{◌≡◌, ⊎_elim, ◌<◌, Err, refl, sym, ap, ◌∙◌, subst, arith}
use Rattle.std.proofs.lemmas.Bool.{cases_eq}
use Rattle.std.proofs.lemmas.Result.{err_from_is_err_and}
use Rattle.record_values.specs.GeometryValue.{GeometryValue}
use Rattle.sector_device.proofs.Counts.{counts_later}
use Rattle.store_image_half.specs.Layout.{InPage, InPages}
use Rattle.store_image_half.specs.Part.{HasPage}
use Rattle.store_image_half.proofs.Joined.{counts_none, writes_none, writes_then}
use Rattle.store_image_half.proofs.Kept.{page_kept}
use Rattle.store_image_half.proofs.whole.write_pages.Goals as goal

pub loop-page-init : goal.loop-page-init
loop-page-init g c = record {
  written = λ p less. absurd (omega (arith, less));
  part = writes_none (InPages c.args.geometry c.args.first) (g.D.Device.past_of c.args.device.now);
  failures = refl;
}

pub write_rows-requires : goal.write_rows-requires
write_rows-requires g c = record {
  page = omega (arith, c.loop-page-test.true, ap (λ (x : GeometryValue). x.pages) c.geometry.view_is);
  inside = omega (arith, c.requires.inside, c.loop-page.invariant.part.outside.sectors);
  number = c.requires.number;
}

pub returns-in_err-write_rows : goal.returns-in_err-write_rows
returns-in_err-write_rows g c =
    let hist = g.D.Device.past_of in
    let first = c.args.first in
    let page = c.loop-page.page in
    let below : page < c.args.geometry.pages = omega (arith, c.loop-page-test.true, ap (λ (x : GeometryValue). x.pages) c.geometry.view_is) in
    let p = err_from_is_err_and c.from_residual.result c.from_residual.ensures.1 in
    rw (p.1 ∙ ap Err p.2) (record {
      written = tt;
      part = writes_then (InPages c.args.geometry first) (InPage first page) (hist c.args.device.now) (hist c.loop-page.device) (hist c.write_rows.new.device)
          (λ n is. (omega (arith, is.0), omega (arith, is.1, below))) c.loop-page.invariant.part
          (record { outside = c.write_rows.ensures.outside; within = c.write_rows.ensures.within });
      counts = counts_later _ _ _ _ c.loop-page.invariant.failures c.in_err-write_rows.ensures.counts;
    })

pub loop-page-preserved : goal.loop-page-preserved
loop-page-preserved g c =
    let hist = g.D.Device.past_of in
    let first = c.args.first in
    let page = c.loop-page.page in
    let all = (g.S.CellSource.cells c.args.source.now).rows in
    let below : page < c.args.geometry.pages = omega (arith, c.loop-page-test.true, ap (λ (x : GeometryValue). x.pages) c.geometry.view_is) in
    record {
      written = λ p less. ⊎_elim
          (λ (same : p ≡ page). subst (λ n. HasPage first (hist c.write_rows.new.device).disk.content n all) (sym same) c.in_ok-write_rows.ensures.written)
          (λ other. page_kept (InPage first page) _ _ c.write_rows.ensures.outside first p all (λ k low is. omega (arith, is.0, less, other, low))
          (c.loop-page.invariant.written p (omega (arith, less, other))))
          (cases_eq p page);
      part = writes_then (InPages c.args.geometry first) (InPage first page) (hist c.args.device.now) (hist c.loop-page.device) (hist c.write_rows.new.device)
          (λ n is. (omega (arith, is.0), omega (arith, is.1, below))) c.loop-page.invariant.part
          (record { outside = c.write_rows.ensures.outside; within = c.write_rows.ensures.within });
      failures = c.in_ok-write_rows.ensures.counts.none ∙ c.loop-page.invariant.failures;
    }

pub returns : goal.returns
returns g c =
    let so_far = c.loop-page.invariant in
    record {
      written = λ page below. so_far.written page (omega (arith, below, c.loop-page-test.false, ap (λ (x : GeometryValue). x.pages) c.geometry.view_is));
      part = so_far.part;
      counts = counts_none _ _ _ so_far.failures;
    }
