use Rattle.std.proofs.Common.{◌≡◌, ⊎_elim, inl, ◌+◌, ◌/◌, ◌<◌, ◌≤◌, ℕ, [], Err, length, slice_range, sym, ◌∙◌, ap, subst, refl, arith}
use Rattle.std.specs.List.{concat}
use Rattle.std.proofs.lemmas.Result.{err_from_is_err_and}
use Rattle.std.proofs.lemmas.Bool.{cases_eq}
use Rattle.std.proofs.lemmas.Grind.{get_or-set_at}
use Rattle.sector_device.specs.Disk.{sector, IsSynced, after_sync, SameOutside}
use Rattle.sector_device.proofs.Sectors.{sector_other, content_after, holds_after_sync}
use Rattle.sector_device.proofs.Within.{within_start_unsynced, within_write, within_sync}
use Rattle.sector_device.proofs.Counts.{counts_later}
use Rattle.gate_log.proofs.Runs.{body_written, on_ok}
use Rattle.gate_log.proofs.slot.write_body.Goals as goal

pub loop-i-init : goal.loop-i-init
loop-i-init g c =
    let h = g.D.Device.past_of c.args.device.now in
    record {
      written = λ k below. absurd (omega arith);
      outside = record { sectors = refl; same = λ k out. refl };
      within = within_start_unsynced (λ k. (c.args.gate + 1 ≤ k) × (k < c.args.gate + 8)) h;
      failures = refl;
    }

pub write-requires : goal.write-requires
write-requires g c =
    let seven : c.loop-i.i < 7 = omega (arith, c.as_chunks.ensures.front_len, c.requires.size, c.loop-i-test.true) in
    omega (arith, c.requires.inside, seven, c.loop-i.invariant.outside.sectors)

pub returns-in_err-write : goal.returns-in_err-write
returns-in_err-write g c =
    let seven : c.loop-i.i < 7 = omega (arith, c.as_chunks.ensures.front_len, c.requires.size, c.loop-i-test.true) in
    let inside : (c.args.gate + 1 ≤ c.args.gate + 1 + c.loop-i.i) × (c.args.gate + 1 + c.loop-i.i < c.args.gate + 8) =
    (omega arith, omega (arith, seven)) in
    let p = err_from_is_err_and c.from_residual.result c.from_residual.ensures.1 in
    rw (p.1 ∙ ap Err p.2) (record {
      written = tt;
      outside = content_after _ _ _ (c.args.gate + 1 + c.loop-i.i) _ _ c.write.result c.write.ensures.ok c.write.ensures.err inside
          c.loop-i.invariant.outside;
      synced = tt;
      within = within_write _ _ _ _ _ c.loop-i.invariant.within c.write.ensures.time (c.args.gate + 1 + c.loop-i.i) _ c.write.result
          (inl inside) c.write.ensures.ok c.write.ensures.err;
      counts = counts_later _ _ _ _ c.loop-i.invariant.failures c.in_err-write.ensures.counts;
    })

pub loop-i-preserved : goal.loop-i-preserved
loop-i-preserved g c =
    let h = g.D.Device.past_of in
    let base = c.args.gate + 1 in
    let i = c.loop-i.i in
    let mid = (h c.loop-i.device).disk in
    let rows = c.as_chunks.result.0.now in
    let row = sector rows i in
    let ok = c.in_ok-write.ensures.ok in
    let below_seven : i < 7 = omega (arith, c.as_chunks.ensures.front_len, c.requires.size, c.loop-i-test.true) in
    let room : base + i < length mid.content = omega (arith, c.requires.inside, below_seven, c.loop-i.invariant.outside.sectors) in
    record {
      written = λ k below. ap (λ d. sector d.content (base + k)) ok ∙ ⊎_elim
          (λ same. get_or-set_at mid.content (base + i) (base + k) row [] (omega (arith, same)) room ∙ ap (sector rows) (sym same))
          (λ other. sector_other mid (base + i) (base + k) row (omega (arith, other)) ∙ c.loop-i.invariant.written k (omega (arith, below, other)))
          (cases_eq k i);
      outside = content_after _ _ mid (base + i) _ _ c.write.result c.write.ensures.ok c.write.ensures.err (
        omega arith,
        omega arith,
      ) c.loop-i.invariant.outside;
      within = within_write _ _ _ _ _ c.loop-i.invariant.within c.write.ensures.time (base + i) _ c.write.result
          (inl (omega arith, omega arith)) c.write.ensures.ok c.write.ensures.err;
      failures = c.in_ok-write.ensures.counts.none ∙ c.loop-i.invariant.failures;
    }

pub returns : goal.returns
returns g c =
    let h = g.D.Device.past_of in
    let gate = c.args.gate in
    let old = (h c.loop-i.device).disk in
    let new = (h c.sync.new.self).disk in
    let start = (h c.args.device.now).disk.content in
    let S : ℕ → Type 0 = λ n. (gate + 1 ≤ n) × (n < gate + 8) in
    let rows = c.as_chunks.result.0.now in
    let so_far = c.loop-i.invariant in
    let size : length rows ≡ 7 = omega (arith, c.as_chunks.ensures.front_len, c.requires.size) in
    let there = body_written old.content rows c.args.bytes.now (length c.args.bytes.now / 512) gate (omega (arith, c.requires.inside, so_far.outside.sectors))
    c.requires.size (omega (arith, c.requires.size)) c.as_chunks.ensures.front size
    (λ k lt. so_far.written k (omega (arith, size, lt, c.loop-i-test.false))) in
    record {
      written = on_ok (new ≡ after_sync old) _ c.sync.result (λ ok. ap (λ d. concat (slice_range d.content (gate + 1) (gate + 8))) ok ∙ there)
          c.sync.ensures.ok;
      outside = holds_after_sync (λ d. SameOutside S start d.content) old new c.sync.result c.sync.ensures.ok c.sync.ensures.err so_far.outside
          so_far.outside;
      synced = on_ok (new ≡ after_sync old) _ c.sync.result (λ ok. subst IsSynced (sym ok) (λ k. refl)) c.sync.ensures.ok;
      within = within_sync _ _ _ _ _ so_far.within c.sync.ensures.time c.sync.result c.sync.ensures.ok c.sync.ensures.err;
      counts = counts_later _ _ _ c.sync.result so_far.failures c.sync.ensures.counts;
    }
