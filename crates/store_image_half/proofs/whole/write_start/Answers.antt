use Rattle.std.proofs.Common.{Err, ap, ◌∙◌, arith}
use Rattle.std.proofs.lemmas.Result.{err_from_is_err_and, on_ok_weaker}
use Rattle.sector_device.proofs.Counts.{counts_later}
use Rattle.store_image_half.proofs.PartByPart.{start_lists, start_heads, started}
use Rattle.store_image_half.proofs.whole.write_start.Goals as goal

pub write_lists-requires : goal.write_lists-requires
write_lists-requires g c = record { fits = c.requires.fits; inside = c.requires.inside; number = c.requires.number }

pub write_all_heads-requires : goal.write_all_heads-requires
write_all_heads-requires g c = record {
  fits = c.requires.fits;
  inside = omega (arith, c.requires.inside, c.write_lists.ensures.part.outside.sectors);
  number = omega (arith, c.requires.number);
}

pub returns-in_err-write_lists : goal.returns-in_err-write_lists
returns-in_err-write_lists g c =
    let hist = g.D.Device.past_of in
    let part = start_lists c.args.first (g.S.CellSource.cells c.args.source.now) (hist c.args.device.now)
    (hist c.write_lists.new.device) c.write_lists.ensures.part in
    let p = err_from_is_err_and c.from_residual.result c.from_residual.ensures.1 in
    rw (p.1 ∙ ap Err p.2) (record {
      written = tt;
      outside = part.outside;
      within = part.within;
      counts = c.in_err-write_lists.ensures.counts;
    })

pub returns : goal.returns
returns g c =
    let hist = g.D.Device.past_of in
    let part = start_heads c.args.first (g.S.CellSource.cells c.args.source.now) (hist c.args.device.now) (hist c.write_lists.new.device)
    (hist c.write_all_heads.new.device) c.write_lists.ensures.part c.write_all_heads.ensures.part in
    record {
      written = on_ok_weaker c.write_all_heads.result
          (started c.args.geometry c.args.first (g.S.CellSource.cells c.args.source.now) c.requires.fits (hist c.write_lists.new.device)
          (hist c.write_all_heads.new.device) c.write_all_heads.ensures.part c.in_ok-write_lists.ensures.written)
          c.write_all_heads.ensures.written;
      outside = part.outside;
      within = part.within;
      counts = counts_later _ _ _ _ c.in_ok-write_lists.ensures.counts.none c.write_all_heads.ensures.counts;
    }
