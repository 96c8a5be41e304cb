use Rattle.std.proofs.Common.{◌≡◌, ℕ, Err, refl, sym, ap, ◌∙◌, subst, arith}
use Rattle.std.proofs.lemmas.Result.{err_from_is_err_and}
use Rattle.sector_device.specs.Disk.{Disk, IsSynced, SameOutside, after_sync}
use Rattle.sector_device.proofs.Counts.{counts_later}
use Rattle.sector_device.proofs.Sectors.{holds_after_sync}
use Rattle.sector_device.proofs.Within.{within_sync}
use Rattle.gate_log.specs.Area.{Area, IsGate, AreGatesZero}
use Rattle.gate_log.proofs.Runs.{on_ok}
use Rattle.gate_log.proofs.area.close_gates.Goals as goal

pub write_zeros-requires : goal.write_zeros-requires
write_zeros-requires g c = record { step = omega arith; inside = c.requires.inside; number = c.requires.number }

pub returns-in_err-write_zeros : goal.returns-in_err-write_zeros
returns-in_err-write_zeros g c =
    let p = err_from_is_err_and c.from_residual.result c.from_residual.ensures.1 in
    rw (p.1 ∙ ap Err p.2) (record {
      zeros = tt;
      outside = c.write_zeros.ensures.outside;
      synced = tt;
      within = c.write_zeros.ensures.within;
      counts = c.in_err-write_zeros.ensures.counts;
    })

pub returns : goal.returns
returns g c =
    let h = g.D.Device.past_of in
    let start = (h c.args.device.now).disk.content in
    let old : Disk = (h c.write_zeros.new.device).disk in
    let new : Disk = (h c.sync.new.self).disk in
    let area : Area = record { first = c.args.first; slots = c.args.slots } in
    let S : ℕ → Type 0 = IsGate area in
    record {
      zeros = on_ok (new ≡ after_sync old) (AreGatesZero area new.content) c.sync.result
          (λ ok. subst (λ (d : Disk). AreGatesZero area d.content) (sym ok) c.in_ok-write_zeros.ensures.zeros) c.sync.ensures.ok;
      outside = holds_after_sync (λ d. SameOutside S start d.content) old new c.sync.result c.sync.ensures.ok c.sync.ensures.err
          c.write_zeros.ensures.outside c.write_zeros.ensures.outside;
      synced = on_ok (new ≡ after_sync old) (IsSynced new) c.sync.result (λ ok. subst IsSynced (sym ok) (λ k. refl)) c.sync.ensures.ok;
      within = within_sync _ _ _ _ _ c.write_zeros.ensures.within c.sync.ensures.time c.sync.result c.sync.ensures.ok c.sync.ensures.err;
      counts = counts_later _ _ _ c.sync.result c.in_ok-write_zeros.ensures.counts.none c.sync.ensures.counts;
    }
