use Rattle.std.proofs.Common.{◌≡◌, ℕ, ◌%◌, ◌<◌, Some, Err, refl, sym, ◌∙◌, ap, subst, arith}
use Rattle.std.proofs.lemmas.Result.{err_from_is_err_and}
use Rattle.sector_device.proofs.Counts.{counts_later}
use Rattle.block_device.specs.Blocks.{CrashFile, BlockFile, IsSynced, SameOutside, after_sync}
use Rattle.block_device.proofs.Within.{within_start, within_sync}
use Rattle.block_batch.specs.Batch.{Batch, IsPlace, replayed}
use Rattle.block_journal.specs.Layout.{area_of, area_start, found_in, kept_of}
use Rattle.block_journal.specs.Journal.{IsWritten, MayWrite}
use Rattle.block_journal.specs.Gathered.{entries_of}
use Rattle.block_journal.proofs.Results.{on_ok}
use Rattle.block_journal.proofs.Placing.{inside_same, length-area, sealed_found, synced_all}
use Rattle.block_journal.proofs.writing.write_batch.Goals as goal

pub write_places-requires : goal.write_places-requires
write_places-requires g c = record {
  inside = inside_same c.args.shape _ _ c.requires.inside c.write_area.ensures.size;
  small = c.requires.small;
  last = c.requires.last;
  next = c.requires.next;
}

pub returns-in_err-write_area : goal.returns-in_err-write_area
returns-in_err-write_area g c =
    let h = g.B.Blocks.past_of in
    let start = h c.args.below.now in
    let S : ℕ → Type 0 = MayWrite c.args.shape (c.args.number % 2) (entries_of c.args.last.now) in
    let p = err_from_is_err_and c.from_residual.result c.from_residual.ensures.1 in
    rw (p.1 ∙ ap Err p.2) (record {
      within = c.write_area.ensures.within (entries_of c.args.last.now) start.file.content start
          (within_start S start.file.content start (synced_all S start.file c.requires.synced));
      written = tt;
      synced = tt;
      back = c.write_area.ensures.back;
      counts = c.in_err-write_area.ensures.counts;
    })

pub returns-in_err-write_places : goal.returns-in_err-write_places
returns-in_err-write_places g c =
    let h = g.B.Blocks.past_of in
    let shape = c.args.shape in
    let a = c.args.number % 2 in
    let start = h c.args.below.now in
    let S : ℕ → Type 0 = MayWrite shape a (entries_of c.args.last.now) in
    let p = err_from_is_err_and c.from_residual-in_err-write_places.result c.from_residual-in_err-write_places.ensures.1 in
    rw (p.1 ∙ ap Err p.2) (record {
      within = c.write_places.ensures.within (area_start shape a) shape.area (entries_of c.args.last.now) start.file.content start (λ place there. there)
          (c.write_area.ensures.within (entries_of c.args.last.now) start.file.content start
          (within_start S start.file.content start (synced_all S start.file c.requires.synced)));
      written = tt;
      synced = tt;
      back = c.write_places.ensures.back ∙ c.write_area.ensures.back;
      counts = counts_later _ _ _ _ c.in_ok-write_area.ensures.counts.none c.in_err-write_places.ensures.counts;
    })

pub returns : goal.returns
returns g c =
    let h = g.B.Blocks.past_of in
    let shape = c.args.shape in
    let a = c.args.number % 2 in
    let low : a < 2 = omega arith in
    let start = h c.args.below.now in
    let mid : BlockFile = (h c.write_places.new.below).file in
    let new : BlockFile = (h c.sync.new.self).file in
    let wrote : CrashFile = (h c.write_area.new.below).file.content in
    let last = entries_of c.args.last.now in
    let next : Batch = record { number = c.args.number; entries = entries_of c.args.next.now } in
    let settled : CrashFile = replayed last (kept_of shape start.file.content) in
    let S : ℕ → Type 0 = MayWrite shape a last in
    let within = c.write_places.ensures.within (area_start shape a) shape.area last start.file.content start (λ place there. there)
    (c.write_area.ensures.within last start.file.content start
    (within_start S start.file.content start (synced_all S start.file c.requires.synced))) in
    let inside = inside_same shape start.file.content wrote c.requires.inside c.write_area.ensures.size in
    let here : found_in (area_of shape wrote a) a ≡ Some next = sealed_found c.args.next.now.area.items (area_of shape wrote a) c.args.next.now.count a next
    (omega (arith, c.requires.size, length-area shape wrote inside a low)) c.requires.sealed.batch c.requires.sealed.same c.requires.sealed.counted
    c.in_ok-write_area.ensures.written refl in
    let written : IsWritten shape mid.content next settled = record {
      inside = inside_same shape wrote mid.content inside c.write_places.ensures.size;
      here = ap (λ (area : CrashFile). found_in area a) (c.write_places.ensures.areas a low) ∙ here;
      placed = subst (λ (kept : CrashFile). SameOutside (IsPlace next.entries) (replayed last kept) (kept_of shape mid.content)) c.write_area.ensures.kept
          c.in_ok-write_places.ensures.placed;
    } in
    record {
      within = within_sync S start.file.content start (h c.write_places.new.below) (h c.sync.new.self) within c.sync.ensures.time c.sync.result
          c.sync.ensures.ok c.sync.ensures.err;
      written = on_ok (new ≡ after_sync mid) (IsWritten shape new.content next settled) c.sync.result
          (λ ok. subst (λ (image : CrashFile). IsWritten shape image next settled) (sym (ap (λ (f : BlockFile). f.content) ok)) written) c.sync.ensures.ok;
      synced = on_ok (new ≡ after_sync mid) (IsSynced new) c.sync.result (λ ok. subst IsSynced (sym ok) (λ n. refl)) c.sync.ensures.ok;
      back = c.sync.ensures.back ∙ c.write_places.ensures.back ∙ c.write_area.ensures.back;
      counts = counts_later _ _ _ c.sync.result (c.in_ok-write_places.ensures.counts.none ∙ c.in_ok-write_area.ensures.counts.none) c.sync.ensures.counts;
    }
