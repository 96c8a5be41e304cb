use Rattle.std.proofs.Common.{◌+◌, ◌≤◌, length, sym, subst, arith}
use Rattle.record_values.specs.GeometryValue.{GeometryValue}
use Rattle.store_image_half.specs.Layout.{InEntries, InImage}
use Rattle.flip_image.proofs.Wider.{within_more}
use Rattle.flip_image.proofs.halves.Halves.write_entries.Goals as goal

pub write_entries-requires : goal.write_entries-requires
write_entries-requires g c =
    rw c.geometry.ensures (record {
      start = c.requires.start;
      room = c.requires.room;
      pages = c.requires.pages;
      inside = omega (arith, c.idle_first-first.ensures.inside, c.requires.inside);
      number = c.idle_first-first.ensures.number;
    })

pub returns : goal.returns
returns g c =
    let geometry : GeometryValue = c.geometry.result in
    let first = c.idle_first-first.result in
    let room = subst (λ (x : GeometryValue). c.args.start + length c.args.entries.now ≤ x.entries) (sym c.geometry.ensures) c.requires.room in
    rw (← c.idle_first-first.ensures.value, ← c.geometry.ensures) (record {
      written = c.write_entries.ensures.written;
      rest = c.write_entries.ensures.rest;
      outside = c.write_entries.ensures.outside;
      within = within_more (InEntries geometry first c.args.start (length c.args.entries.now)) (InImage geometry first) _ _ _
          (λ n is. (omega (arith, is.0), omega (arith, is.1, room))) c.write_entries.ensures.within;
      counts = c.write_entries.ensures.counts;
    })
