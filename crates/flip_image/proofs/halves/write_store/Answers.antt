use Rattle.std.proofs.Common.{◌≡◌, ◌≤◌, length, Err, OnOk, sym, ◌∙◌, ap, subst, refl, arith}
use Rattle.std.proofs.lemmas.Result.{err_from_is_err_and, on_ok_weaker}
use Rattle.record_values.specs.GeometryValue.{GeometryValue, IsGeometry}
use Rattle.sector_device.specs.Disk.{Disk, sector, IsSynced, SameOutside}
use Rattle.sector_device.proofs.Counts.{counts_later}
use Rattle.sector_device.proofs.Sectors.{sector_written, content_after, holds_after_sync}
use Rattle.flip_image.specs.declared.half.Half.TheVariants.{A}
use Rattle.sector_device.specs.Values.{zero_sector}
use Rattle.flip_image.specs.Layout.{log_first, pages_first}
use Rattle.flip_image.specs.Store.{IsSuperblock, IsFormatted, AreLogGatesZero, IsFormatSector}
use Rattle.flip_image.proofs.Formats.{all_outside, all_there, gates_closed, still}
use Rattle.flip_image.proofs.halves.write_store.Goals as goal

pub write-requires : goal.write-requires
write-requires g c = omega (arith, c.requires)

pub returns-in_err-write : goal.returns-in_err-write
returns-in_err-write g c =
    let h = g.D.Device.past_of in
    let x = c.args.geometry in
    let d0 : Disk = (h c.args.device.now).disk in
    let d1 : Disk = (h c.write.new.self).disk in
    let one : SameOutside (λ n. n ≡ 0) d0.content d1.content =
    content_after (λ n. n ≡ 0) d0.content d0 0 _ d1 c.write.result c.write.ensures.ok c.write.ensures.err refl (still (λ n. n ≡ 0) d0.content) in
    let p = err_from_is_err_and c.from_residual.result c.from_residual.ensures.1 in
    rw (p.1 ∙ ap Err p.2) (record {
      formatted = tt;
      closed = tt;
      flip = tt;
      gates = tt;
      synced = tt;
      outside = all_outside x 2 (pages_first x A) x.pages (log_first x A) x.slots refl refl refl refl refl
          d0.content d1.content d1.content d1.content d1.content d1.content
          one (still _ d1.content) (still _ d1.content) (still _ d1.content) (still _ d1.content);
      counts = c.in_err-write.ensures.counts;
    })

pub write-requires-2 : goal.write-requires-2
write-requires-2 g c =
    let h = g.D.Device.past_of in
    let x = c.args.geometry in
    let d0 : Disk = (h c.args.device.now).disk in
    let d1 : Disk = (h c.write.new.self).disk in
    let one : SameOutside (λ n. n ≡ 0) d0.content d1.content =
    content_after (λ n. n ≡ 0) d0.content d0 0 _ d1 c.write.result c.write.ensures.ok c.write.ensures.err refl (still (λ n. n ≡ 0) d0.content) in
    omega (arith, c.requires, one.sectors)

pub returns-in_err-write-2 : goal.returns-in_err-write-2
returns-in_err-write-2 g c =
    let h = g.D.Device.past_of in
    let x = c.args.geometry in
    let d0 : Disk = (h c.args.device.now).disk in
    let d1 : Disk = (h c.write.new.self).disk in
    let one : SameOutside (λ n. n ≡ 0) d0.content d1.content =
    content_after (λ n. n ≡ 0) d0.content d0 0 _ d1 c.write.result c.write.ensures.ok c.write.ensures.err refl (still (λ n. n ≡ 0) d0.content) in
    let d2 : Disk = (h c.write-2.new.self).disk in
    let two : SameOutside (λ n. n ≡ 1) d1.content d2.content =
    content_after (λ n. n ≡ 1) d1.content d1 1 _ d2 c.write-2.result c.write-2.ensures.ok c.write-2.ensures.err refl (still (λ n. n ≡ 1) d1.content) in
    let quiet = c.in_ok-write.ensures.counts.none in
    let p = err_from_is_err_and c.from_residual-in_err-write-2.result c.from_residual-in_err-write-2.ensures.1 in
    rw (p.1 ∙ ap Err p.2) (record {
      formatted = tt;
      closed = tt;
      flip = tt;
      gates = tt;
      synced = tt;
      outside = all_outside x 2 (pages_first x A) x.pages (log_first x A) x.slots refl refl refl refl refl
          d0.content d1.content d2.content d2.content d2.content d2.content one two (still _ d2.content) (still _ d2.content) (still _ d2.content);
      counts = counts_later _ _ _ _ quiet c.in_err-write-2.ensures.counts;
    })

pub write_zeros-requires : goal.write_zeros-requires
write_zeros-requires g c =
    let h = g.D.Device.past_of in
    let x = c.args.geometry in
    let d0 : Disk = (h c.args.device.now).disk in
    let d1 : Disk = (h c.write.new.self).disk in
    let one : SameOutside (λ n. n ≡ 0) d0.content d1.content =
    content_after (λ n. n ≡ 0) d0.content d0 0 _ d1 c.write.result c.write.ensures.ok c.write.ensures.err refl (still (λ n. n ≡ 0) d0.content) in
    let d2 : Disk = (h c.write-2.new.self).disk in
    let two : SameOutside (λ n. n ≡ 1) d1.content d2.content =
    content_after (λ n. n ≡ 1) d1.content d1 1 _ d2 c.write-2.result c.write-2.ensures.ok c.write-2.ensures.err refl (still (λ n. n ≡ 1) d1.content) in
    let long = two.sectors ∙ one.sectors in
    record {
      step = omega arith;
      inside = omega (arith, c.header_sector-header.ensures, c.requires, long);
      number = omega (arith, c.header_sector-header.ensures);
    }

pub returns-in_err-write_zeros : goal.returns-in_err-write_zeros
returns-in_err-write_zeros g c =
    let h = g.D.Device.past_of in
    let x = c.args.geometry in
    let d0 : Disk = (h c.args.device.now).disk in
    let d1 : Disk = (h c.write.new.self).disk in
    let one : SameOutside (λ n. n ≡ 0) d0.content d1.content =
    content_after (λ n. n ≡ 0) d0.content d0 0 _ d1 c.write.result c.write.ensures.ok c.write.ensures.err refl (still (λ n. n ≡ 0) d0.content) in
    let d2 : Disk = (h c.write-2.new.self).disk in
    let two : SameOutside (λ n. n ≡ 1) d1.content d2.content =
    content_after (λ n. n ≡ 1) d1.content d1 1 _ d2 c.write-2.result c.write-2.ensures.ok c.write-2.ensures.err refl (still (λ n. n ≡ 1) d1.content) in
    let d3 : Disk = (h c.write_zeros.new.device).disk in
    let quiet = c.in_ok-write-2.ensures.counts.none ∙ c.in_ok-write.ensures.counts.none in
    let p = err_from_is_err_and c.from_residual-in_err-write_zeros.result c.from_residual-in_err-write_zeros.ensures.1 in
    rw (p.1 ∙ ap Err p.2) (record {
      formatted = tt;
      closed = tt;
      flip = tt;
      gates = tt;
      synced = tt;
      outside = all_outside x _ (pages_first x A) x.pages (log_first x A) x.slots c.header_sector-header.ensures refl refl refl refl
          d0.content d1.content d2.content d3.content d3.content d3.content one two c.write_zeros.ensures.outside (still _ d3.content) (still _ d3.content);
      counts = counts_later _ _ _ _ quiet c.in_err-write_zeros.ensures.counts;
    })

pub write_zeros-requires-2 : goal.write_zeros-requires-2
write_zeros-requires-2 g c =
    let h = g.D.Device.past_of in
    let x = c.args.geometry in
    let d0 : Disk = (h c.args.device.now).disk in
    let d1 : Disk = (h c.write.new.self).disk in
    let one : SameOutside (λ n. n ≡ 0) d0.content d1.content =
    content_after (λ n. n ≡ 0) d0.content d0 0 _ d1 c.write.result c.write.ensures.ok c.write.ensures.err refl (still (λ n. n ≡ 0) d0.content) in
    let d2 : Disk = (h c.write-2.new.self).disk in
    let two : SameOutside (λ n. n ≡ 1) d1.content d2.content =
    content_after (λ n. n ≡ 1) d1.content d1 1 _ d2 c.write-2.result c.write-2.ensures.ok c.write-2.ensures.err refl (still (λ n. n ≡ 1) d1.content) in
    let pages = c.from.ensures ∙ ap (λ (y : GeometryValue). y.pages) c.geometry.view_is in
    let limits : IsGeometry x = subst IsGeometry c.geometry.view_is c.geometry.invariant in
    let long = c.write_zeros.ensures.outside.sectors ∙ (two.sectors ∙ one.sectors) in
    record {
      step = omega arith;
      inside = omega (arith, c.pages_first-pages.ensures, pages, c.requires, long);
      number = omega (arith, c.pages_first-pages.ensures, pages, limits.most_pages);
    }

pub returns-in_err-write_zeros-2 : goal.returns-in_err-write_zeros-2
returns-in_err-write_zeros-2 g c =
    let h = g.D.Device.past_of in
    let x = c.args.geometry in
    let d0 : Disk = (h c.args.device.now).disk in
    let d1 : Disk = (h c.write.new.self).disk in
    let one : SameOutside (λ n. n ≡ 0) d0.content d1.content =
    content_after (λ n. n ≡ 0) d0.content d0 0 _ d1 c.write.result c.write.ensures.ok c.write.ensures.err refl (still (λ n. n ≡ 0) d0.content) in
    let d2 : Disk = (h c.write-2.new.self).disk in
    let two : SameOutside (λ n. n ≡ 1) d1.content d2.content =
    content_after (λ n. n ≡ 1) d1.content d1 1 _ d2 c.write-2.result c.write-2.ensures.ok c.write-2.ensures.err refl (still (λ n. n ≡ 1) d1.content) in
    let d3 : Disk = (h c.write_zeros.new.device).disk in
    let pages = c.from.ensures ∙ ap (λ (y : GeometryValue). y.pages) c.geometry.view_is in
    let d4 : Disk = (h c.write_zeros-2.new.device).disk in
    let quiet = c.in_ok-write_zeros.ensures.counts.none ∙ (c.in_ok-write-2.ensures.counts.none ∙ c.in_ok-write.ensures.counts.none) in
    let p = err_from_is_err_and c.from_residual-in_err-write_zeros-2.result c.from_residual-in_err-write_zeros-2.ensures.1 in
    rw (p.1 ∙ ap Err p.2) (record {
      formatted = tt;
      closed = tt;
      flip = tt;
      gates = tt;
      synced = tt;
      outside = all_outside x _ _ _ (log_first x A) x.slots c.header_sector-header.ensures c.pages_first-pages.ensures pages refl refl d0.content
          d1.content d2.content d3.content d4.content d4.content one two c.write_zeros.ensures.outside c.write_zeros-2.ensures.outside (still _ d4.content);
      counts = counts_later _ _ _ _ quiet c.in_err-write_zeros-2.ensures.counts;
    })

pub write_zeros-requires-3 : goal.write_zeros-requires-3
write_zeros-requires-3 g c =
    let h = g.D.Device.past_of in
    let x = c.args.geometry in
    let d0 : Disk = (h c.args.device.now).disk in
    let d1 : Disk = (h c.write.new.self).disk in
    let one : SameOutside (λ n. n ≡ 0) d0.content d1.content =
    content_after (λ n. n ≡ 0) d0.content d0 0 _ d1 c.write.result c.write.ensures.ok c.write.ensures.err refl (still (λ n. n ≡ 0) d0.content) in
    let d2 : Disk = (h c.write-2.new.self).disk in
    let two : SameOutside (λ n. n ≡ 1) d1.content d2.content =
    content_after (λ n. n ≡ 1) d1.content d1 1 _ d2 c.write-2.result c.write-2.ensures.ok c.write-2.ensures.err refl (still (λ n. n ≡ 1) d1.content) in
    let slots = c.from-2.ensures ∙ ap (λ (y : GeometryValue). y.slots) c.geometry-2.view_is in
    let limits : IsGeometry x = subst IsGeometry c.geometry.view_is c.geometry.invariant in
    let long = c.write_zeros-2.ensures.outside.sectors ∙ (c.write_zeros.ensures.outside.sectors ∙ (two.sectors ∙ one.sectors)) in
    record {
      step = omega arith;
      inside = omega (arith, c.log_first-log.ensures.inside, slots, c.requires, long);
      number = omega (arith, c.log_first-log.ensures.inside, slots, limits.most_pages, limits.most_entries, limits.most_slots);
    }

pub returns-in_err-write_zeros-3 : goal.returns-in_err-write_zeros-3
returns-in_err-write_zeros-3 g c =
    let h = g.D.Device.past_of in
    let x = c.args.geometry in
    let d0 : Disk = (h c.args.device.now).disk in
    let d1 : Disk = (h c.write.new.self).disk in
    let one : SameOutside (λ n. n ≡ 0) d0.content d1.content =
    content_after (λ n. n ≡ 0) d0.content d0 0 _ d1 c.write.result c.write.ensures.ok c.write.ensures.err refl (still (λ n. n ≡ 0) d0.content) in
    let d2 : Disk = (h c.write-2.new.self).disk in
    let two : SameOutside (λ n. n ≡ 1) d1.content d2.content =
    content_after (λ n. n ≡ 1) d1.content d1 1 _ d2 c.write-2.result c.write-2.ensures.ok c.write-2.ensures.err refl (still (λ n. n ≡ 1) d1.content) in
    let d3 : Disk = (h c.write_zeros.new.device).disk in
    let pages = c.from.ensures ∙ ap (λ (y : GeometryValue). y.pages) c.geometry.view_is in
    let d4 : Disk = (h c.write_zeros-2.new.device).disk in
    let slots = c.from-2.ensures ∙ ap (λ (y : GeometryValue). y.slots) c.geometry-2.view_is in
    let d5 : Disk = (h c.write_zeros-3.new.device).disk in
    let all = all_outside x _ _ _ _ _ c.header_sector-header.ensures c.pages_first-pages.ensures pages c.log_first-log.ensures.value slots
    d0.content d1.content d2.content d3.content d4.content d5.content one two
    c.write_zeros.ensures.outside c.write_zeros-2.ensures.outside c.write_zeros-3.ensures.outside in
    let quiet = c.in_ok-write_zeros-2.ensures.counts.none
    ∙ (c.in_ok-write_zeros.ensures.counts.none ∙ (c.in_ok-write-2.ensures.counts.none ∙ c.in_ok-write.ensures.counts.none)) in
    let p = err_from_is_err_and c.from_residual-in_err-write_zeros-3.result c.from_residual-in_err-write_zeros-3.ensures.1 in
    rw (p.1 ∙ ap Err p.2) (record {
      formatted = tt;
      closed = tt;
      flip = tt;
      gates = tt;
      synced = tt;
      outside = all;
      counts = counts_later _ _ _ _ quiet c.in_err-write_zeros-3.ensures.counts;
    })

pub returns : goal.returns
returns g c =
    let h = g.D.Device.past_of in
    let x = c.args.geometry in
    let d0 : Disk = (h c.args.device.now).disk in
    let d1 : Disk = (h c.write.new.self).disk in
    let one : SameOutside (λ n. n ≡ 0) d0.content d1.content =
    content_after (λ n. n ≡ 0) d0.content d0 0 _ d1 c.write.result c.write.ensures.ok c.write.ensures.err refl (still (λ n. n ≡ 0) d0.content) in
    let d2 : Disk = (h c.write-2.new.self).disk in
    let two : SameOutside (λ n. n ≡ 1) d1.content d2.content =
    content_after (λ n. n ≡ 1) d1.content d1 1 _ d2 c.write-2.result c.write-2.ensures.ok c.write-2.ensures.err refl (still (λ n. n ≡ 1) d1.content) in
    let d3 : Disk = (h c.write_zeros.new.device).disk in
    let pages = c.from.ensures ∙ ap (λ (y : GeometryValue). y.pages) c.geometry.view_is in
    let d4 : Disk = (h c.write_zeros-2.new.device).disk in
    let slots = c.from-2.ensures ∙ ap (λ (y : GeometryValue). y.slots) c.geometry-2.view_is in
    let d5 : Disk = (h c.write_zeros-3.new.device).disk in
    let limits : IsGeometry x = subst IsGeometry c.geometry.view_is c.geometry.invariant in
    let quiet = c.in_ok-write_zeros-3.ensures.counts.none ∙ (c.in_ok-write_zeros-2.ensures.counts.none
    ∙ (c.in_ok-write_zeros.ensures.counts.none ∙ (c.in_ok-write-2.ensures.counts.none ∙ c.in_ok-write.ensures.counts.none))) in
    let new : Disk = (h c.sync.new.self).disk in
    let room : 2 ≤ length d0.content = omega (arith, c.requires) in
    let superblock : IsSuperblock x (sector d1.content 0) =
    subst (IsSuperblock x) (sym (ap (λ d. sector d.content 0) c.in_ok-write.ensures.ok ∙ sector_written d0 0 _ (omega (arith, room)))) c.superblock.ensures in
    let first : sector d2.content 1 ≡ zero_sector = ap (λ d. sector d.content 1) c.in_ok-write-2.ensures.ok
    ∙ sector_written d1 1 _ (omega (arith, room, one.sectors)) ∙ c.zero_sector-zeros.ensures in
    let all = all_there x _ _ _ _ _ c.header_sector-header.ensures c.pages_first-pages.ensures pages c.log_first-log.ensures.value slots
    d0.content d1.content d2.content d3.content d4.content d5.content one two
    c.write_zeros.ensures.outside c.write_zeros-2.ensures.outside c.write_zeros-3.ensures.outside
    limits c.requires superblock first c.in_ok-write_zeros.ensures.zeros c.in_ok-write_zeros-2.ensures.zeros c.in_ok-write_zeros-3.ensures.zeros in
    let gates : OnOk c.sync.result (AreLogGatesZero x A new.content) =
    on_ok_weaker c.sync.result (λ ok. subst (λ (d : Disk). AreLogGatesZero x A d.content) (sym ok) all.3) c.sync.ensures.ok in
    record {
      formatted = on_ok_weaker c.sync.result (λ ok. subst (λ (d : Disk). IsFormatted x d.content) (sym ok) all.0) c.sync.ensures.ok;
      closed = on_ok_weaker c.sync.result (gates_closed x A new.content) gates;
      flip = on_ok_weaker c.sync.result (λ ok. subst (λ (d : Disk). sector d.content 1 ≡ zero_sector) (sym ok) all.2) c.sync.ensures.ok;
      gates = gates;
      synced = on_ok_weaker c.sync.result (λ ok. subst IsSynced (sym ok) (λ k. refl)) c.sync.ensures.ok;
      outside = holds_after_sync (λ d. SameOutside (IsFormatSector x) d0.content d.content) d5 new c.sync.result c.sync.ensures.ok c.sync.ensures.err
          all.1 all.1;
      counts = counts_later _ _ _ c.sync.result quiet c.sync.ensures.counts;
    }
