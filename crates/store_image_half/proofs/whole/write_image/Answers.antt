use Rattle.std.proofs.Common.{◌≡◌, length, Err, sym, ap, ◌∙◌, subst, arith}
use Rattle.std.specs.FinMap.{entries}
use Rattle.std.proofs.lemmas.Result.{err_from_is_err_and, on_ok_weaker}
use Rattle.sector_device.specs.Disk.{CrashState, sector}
use Rattle.store_image_parts.specs.declared.header.Header.{Header}
use Rattle.sector_device.proofs.Counts.{counts_later}
use Rattle.store_image_half.specs.Image.{IsHeader, header_of, ZerosBehindEntries}
use Rattle.store_image_half.specs.Steps.{WritesIn}
use Rattle.store_image_half.proofs.Written.{lists_in, heads_in, pages_in, entries_in, header_in, image_is, rest_is}
use Rattle.store_image_half.proofs.whole.write_image.Goals as goal

pub write_lists-requires : goal.write_lists-requires
write_lists-requires g c = record {
  fits = c.requires.fits;
  inside = omega (arith, c.requires.inside);
  number = omega (arith, c.requires.number);
}

pub write_all_heads-requires : goal.write_all_heads-requires
write_all_heads-requires g c = record {
  fits = c.requires.fits;
  inside = omega (arith, c.requires.inside, c.write_lists.ensures.part.outside.sectors);
  number = omega (arith, c.requires.number);
}

pub write_pages-requires : goal.write_pages-requires
write_pages-requires g c =
    let long = c.write_all_heads.ensures.part.outside.sectors ∙ c.write_lists.ensures.part.outside.sectors in
    record { inside = omega (arith, c.requires.inside, long); number = omega (arith, c.requires.number) }

pub write_all_entries-requires : goal.write_all_entries-requires
write_all_entries-requires g c =
    let long = c.write_pages.ensures.part.outside.sectors
    ∙ (c.write_all_heads.ensures.part.outside.sectors ∙ c.write_lists.ensures.part.outside.sectors) in
    record {
      fits = c.requires.fits;
      count = omega (arith, c.entry_count-entries.ensures);
      inside = omega (arith, c.requires.inside, long);
      number = c.requires.number;
    }

pub write_header-requires : goal.write_header-requires
write_header-requires g c =
    let long = c.write_all_entries.ensures.part.outside.sectors ∙ (c.write_pages.ensures.part.outside.sectors
    ∙ (c.write_all_heads.ensures.part.outside.sectors ∙ c.write_lists.ensures.part.outside.sectors)) in
    record {
      base = c.requires.base;
      room = omega (arith, c.entry_count-entries.ensures, c.requires.fits.room);
      pages = λ p is. c.requires.fits.inside.life p (sym c.life-life.ensures ∙ is);
      inside = omega (arith, c.requires.inside, long);
    }

pub returns-in_err-write_lists : goal.returns-in_err-write_lists
returns-in_err-write_lists g c =
    let hist = g.D.Device.past_of in
    let x = c.args.geometry in
    let first = c.args.first in
    let cells = g.S.CellSource.cells c.args.source.now in
    let old = hist c.args.device.now in
    let lists = lists_in x first cells old (hist c.write_lists.new.device) c.write_lists.ensures.part in
    let p = err_from_is_err_and c.from_residual.result c.from_residual.ensures.1 in
    rw (p.1 ∙ ap Err p.2) (record {
      written = tt;
      rest = tt;
      outside = lists.outside;
      within = lists.within;
      counts = c.in_err-write_lists.ensures.counts;
    })

pub returns-in_err-write_all_heads : goal.returns-in_err-write_all_heads
returns-in_err-write_all_heads g c =
    let hist = g.D.Device.past_of in
    let x = c.args.geometry in
    let first = c.args.first in
    let cells = g.S.CellSource.cells c.args.source.now in
    let old = hist c.args.device.now in
    let lists = lists_in x first cells old (hist c.write_lists.new.device) c.write_lists.ensures.part in
    let heads = heads_in x first cells old (hist c.write_lists.new.device) (hist c.write_all_heads.new.device) lists c.write_all_heads.ensures.part in
    let p = err_from_is_err_and c.from_residual-in_err-write_all_heads.result c.from_residual-in_err-write_all_heads.ensures.1 in
    rw (p.1 ∙ ap Err p.2) (record {
      written = tt;
      rest = tt;
      outside = heads.outside;
      within = heads.within;
      counts = counts_later _ _ _ _ c.in_ok-write_lists.ensures.counts.none c.in_err-write_all_heads.ensures.counts;
    })

pub returns-in_err-write_pages : goal.returns-in_err-write_pages
returns-in_err-write_pages g c =
    let hist = g.D.Device.past_of in
    let x = c.args.geometry in
    let first = c.args.first in
    let cells = g.S.CellSource.cells c.args.source.now in
    let old = hist c.args.device.now in
    let lists = lists_in x first cells old (hist c.write_lists.new.device) c.write_lists.ensures.part in
    let heads = heads_in x first cells old (hist c.write_lists.new.device) (hist c.write_all_heads.new.device) lists c.write_all_heads.ensures.part in
    let pages = pages_in x first cells old (hist c.write_all_heads.new.device) (hist c.write_pages.new.device) heads c.write_pages.ensures.part in
    let p = err_from_is_err_and c.from_residual-in_err-write_pages.result c.from_residual-in_err-write_pages.ensures.1 in
    rw (p.1 ∙ ap Err p.2) (record {
      written = tt;
      rest = tt;
      outside = pages.outside;
      within = pages.within;
      counts = counts_later _ _ _ _ (c.in_ok-write_all_heads.ensures.counts.none ∙ c.in_ok-write_lists.ensures.counts.none) c.in_err-write_pages.ensures.counts;
    })

pub returns-in_err-write_all_entries : goal.returns-in_err-write_all_entries
returns-in_err-write_all_entries g c =
    let hist = g.D.Device.past_of in
    let x = c.args.geometry in
    let first = c.args.first in
    let cells = g.S.CellSource.cells c.args.source.now in
    let old = hist c.args.device.now in
    let lists = lists_in x first cells old (hist c.write_lists.new.device) c.write_lists.ensures.part in
    let heads = heads_in x first cells old (hist c.write_lists.new.device) (hist c.write_all_heads.new.device) lists c.write_all_heads.ensures.part in
    let pages = pages_in x first cells old (hist c.write_all_heads.new.device) (hist c.write_pages.new.device) heads c.write_pages.ensures.part in
    let all = entries_in x first cells old (hist c.write_pages.new.device) (hist c.write_all_entries.new.device) _
    (omega (arith, c.entry_count-entries.ensures)) pages c.write_all_entries.ensures.part in
    let p = err_from_is_err_and c.from_residual-in_err-write_all_entries.result c.from_residual-in_err-write_all_entries.ensures.1 in
    rw (p.1 ∙ ap Err p.2) (record {
      written = tt;
      rest = tt;
      outside = all.outside;
      within = all.within;
      counts = counts_later _ _ _ _ (c.in_ok-write_pages.ensures.counts.none
          ∙ (c.in_ok-write_all_heads.ensures.counts.none ∙ c.in_ok-write_lists.ensures.counts.none)) c.in_err-write_all_entries.ensures.counts;
    })

pub returns : goal.returns
returns g c =
    let hist = g.D.Device.past_of in
    let x = c.args.geometry in
    let first = c.args.first in
    let cells = g.S.CellSource.cells c.args.source.now in
    let old = hist c.args.device.now in
    let lists = lists_in x first cells old (hist c.write_lists.new.device) c.write_lists.ensures.part in
    let heads = heads_in x first cells old (hist c.write_lists.new.device) (hist c.write_all_heads.new.device) lists c.write_all_heads.ensures.part in
    let pages = pages_in x first cells old (hist c.write_all_heads.new.device) (hist c.write_pages.new.device) heads c.write_pages.ensures.part in
    let all = entries_in x first cells old (hist c.write_pages.new.device) (hist c.write_all_entries.new.device) _
    (omega (arith, c.entry_count-entries.ensures)) pages c.write_all_entries.ensures.part in
    let header : WritesIn (λ n. n ≡ first) (hist c.write_all_entries.new.device) (hist c.write_header.new.device) =
    record { outside = c.write_header.ensures.outside; within = c.write_header.ensures.within } in
    let part = header_in x first cells old (hist c.write_all_entries.new.device) (hist c.write_header.new.device) all header in
    let written : Header = record { life = c.life-life.result; base = c.args.base; entries = c.entry_count-entries.result } in
    let same : written ≡ header_of c.args.base cells = λ i.
    record { life = c.life-life.ensures i; base = c.args.base; entries = c.entry_count-entries.ensures i } in
    let image : CrashState = (hist c.write_all_entries.new.device).disk.content in
    record {
      written = on_ok_weaker c.write_header.result
          (λ is_header. image_is x first c.args.base cells c.requires.fits
          (hist c.write_lists.new.device) (hist c.write_all_heads.new.device) (hist c.write_pages.new.device) (hist c.write_all_entries.new.device)
          (hist c.write_header.new.device) _
          c.write_all_heads.ensures.part c.write_pages.ensures.part c.write_all_entries.ensures.part header
          c.in_ok-write_lists.ensures.written c.in_ok-write_all_heads.ensures.written c.in_ok-write_pages.ensures.written
          c.in_ok-write_all_entries.ensures.written
          (subst (IsHeader x (sector (hist c.write_header.new.device).disk.content first)) same is_header))
          c.write_header.ensures.written;
      rest = on_ok_weaker c.write_header.result
          (λ is_header. rest_is x first c.args.base cells c.requires.fits
          (hist c.write_lists.new.device) (hist c.write_all_heads.new.device) (hist c.write_pages.new.device) (hist c.write_all_entries.new.device)
          (hist c.write_header.new.device) _
          c.write_all_heads.ensures.part c.write_pages.ensures.part c.write_all_entries.ensures.part header
          (subst (λ n. ZerosBehindEntries x first image n)
          (let count : c.entry_count-entries.result ≡ length (entries cells.entries) = omega (arith, c.entry_count-entries.ensures) in
          count) c.in_ok-write_all_entries.ensures.rest))
          c.write_header.ensures.written;
      outside = part.outside;
      within = part.within;
      counts = counts_later _ _ _ _ (c.in_ok-write_all_entries.ensures.counts.none ∙ (c.in_ok-write_pages.ensures.counts.none
          ∙ (c.in_ok-write_all_heads.ensures.counts.none ∙ c.in_ok-write_lists.ensures.counts.none))) c.write_header.ensures.counts;
    }
