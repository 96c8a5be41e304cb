use Rattle.std.proofs.Common.{◌≡◌, ⊎_elim, inl, ◌+◌, ◌*◌, ◌<◌, [], length, ◌∙◌, ap, refl, arith}
use Rattle.std.proofs.lemmas.Bool.{cases_eq}
use Rattle.std.proofs.lemmas.Grind.{get_or-set_at}
use Rattle.std.proofs.lemmas.Result.{err_from_is_err_and}
use Rattle.sector_device.specs.Disk.{sector}
use Rattle.sector_device.proofs.KnownSectors.{row_below}
use Rattle.sector_device.proofs.Counts.{counts_failed}
use Rattle.sector_device.proofs.Sectors.{sector_other, content_after}
use Rattle.sector_device.proofs.Within.{within_start_unsynced, within_write}
use Rattle.sector_device.proofs.values.write_zeros.Goals as goal

pub loop-i-init : goal.loop-i-init
loop-i-init g c = record {
  zeros = λ i below. absurd (omega (arith, below));
  outside = record { sectors = refl; same = λ k out. refl };
  within = within_start_unsynced _ _;
  failures = refl;
}

pub loop-i-preserved : goal.loop-i-preserved
loop-i-preserved g c =
    let h = g.D.Device.past_of in
    let at = c.args.first + c.args.step * c.loop-i.i in
    let mid = (h c.loop-i.device).disk in
    let so_far = c.loop-i.invariant in
    let ok = c.in_ok-write.ensures.ok in
    let below = row_below c.args.step c.loop-i.i c.args.count c.requires.step c.loop-i-test.true in
    let room : at < length mid.content = omega (arith, c.requires.inside, below, so_far.outside.sectors) in
    record {
      zeros = λ k less. ⊎_elim
          (λ same. ap (λ d. sector d.content (c.args.first + c.args.step * k)) ok ∙ get_or-set_at mid.content at (c.args.first + c.args.step * k) _ [] same room
          ∙ c.zero_sector-zeros.ensures)
          (λ other. ap (λ d. sector d.content (c.args.first + c.args.step * k)) ok ∙ sector_other mid at (c.args.first + c.args.step * k) _ other
          ∙ so_far.zeros k (omega (arith, less, λ (is : k ≡ c.loop-i.i). other (ap (λ n. c.args.first + c.args.step * n) is))))
          (cases_eq (c.args.first + c.args.step * k) at);
      outside = content_after _ _ mid at _ _ c.write.result c.write.ensures.ok c.write.ensures.err (c.loop-i.i, c.loop-i-test.true, refl) so_far.outside;
      within = within_write _ _ _ _ _ so_far.within c.write.ensures.time at _ c.write.result
          (inl (c.loop-i.i, c.loop-i-test.true, refl)) c.write.ensures.ok c.write.ensures.err;
      failures = c.in_ok-write.ensures.counts.none ∙ so_far.failures;
    }

pub returns-in_err-write : goal.returns-in_err-write
returns-in_err-write g c =
    let so_far = c.loop-i.invariant in
    let at = c.args.first + c.args.step * c.loop-i.i in
    let counts = c.write.ensures.counts in
    rw (err_from_is_err_and c.from_residual.result c.from_residual.ensures.1).1 (record {
      zeros = tt;
      outside = content_after _ _ _ at _ _ c.write.result c.write.ensures.ok c.write.ensures.err (c.loop-i.i, c.loop-i-test.true, refl) so_far.outside;
      within = within_write _ _ _ _ _ so_far.within c.write.ensures.time at _ c.write.result (inl (c.loop-i.i, c.loop-i-test.true, refl))
          c.write.ensures.ok c.write.ensures.err;
      counts = counts_failed _ _ _ _ (omega (arith, so_far.failures)) counts.later c.in_err-write.ensures.counts.failed;
    })

pub returns : goal.returns
returns g c =
    let so_far = c.loop-i.invariant in
    record {
      zeros = λ i below. so_far.zeros i (omega (arith, below, c.loop-i-test.false));
      outside = so_far.outside;
      within = so_far.within;
      counts = record { later = omega (arith, so_far.failures); none = so_far.failures; failed = tt };
    }

pub overflow_mul-step : goal.overflow_mul-step
overflow_mul-step g c =
    omega (arith, row_below c.args.step c.loop-i.i c.args.count c.requires.step c.loop-i-test.true, c.requires.number)

pub write-requires : goal.write-requires
write-requires g c =
    omega (arith, row_below c.args.step c.loop-i.i c.args.count c.requires.step c.loop-i-test.true, c.requires.inside, c.loop-i.invariant.outside.sectors)

pub overflow_add-first : goal.overflow_add-first
overflow_add-first g c =
    omega (arith, row_below c.args.step c.loop-i.i c.args.count c.requires.step c.loop-i-test.true, c.requires.number)
