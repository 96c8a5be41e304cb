use Rattle.std.proofs.Common.{◌≡◌, ◌⊎◌, inl, inr, Err, ℕ, ◌+◌, ◌≤◌, List, length, refl, sym, ◌∙◌, ap, subst, arith}
use Rattle.std.proofs.lemmas.Result.{err_from_is_err_and}
use Rattle.sector_device.specs.Disk.{CrashState, Disk, sector}
use Rattle.sector_device.specs.DevicePast.{Rises}
use Rattle.sector_device.proofs.Within.{reads_none, reads_then}
use Rattle.store_salvage.specs.Copied.{AreCopiedBut, AreUnread}
use Rattle.store_salvage.proofs.CopiedSectors.{copied_more, none_unread, rest_more, same_here, still_unread, unread_more, unread_next}
use Rattle.store_salvage.proofs.CopiedSectors.{was_not_read, was_read}
use Rattle.store_salvage.proofs.copying.copy_readable.Goals as goal

pub loop-n-init : goal.loop-n-init
loop-n-init g c = record {
  copied = λ k below. absurd (omega (arith, below));
  unread = subst (λ (l : List ℕ). AreUnread l 0 (g.O.Device.past_of c.args.from.now).disk.content (g.N.Device.past_of c.args.to.now).disk.content
      (g.O.Device.failures c.args.from.now) (g.O.Device.failures c.args.from.now)) (sym c.new-unread.ensures.items) (none_unread _ _ _);
  rest = same_here _ _;
  reads = reads_none _;
  later = omega arith;
  quiet = refl;
}

-- a sector that was read
pub loop-n-preserved-then-is_read : goal.loop-n-preserved-then-is_read
loop-n-preserved-then-is_read g c =
    let o = g.O.Device.past_of in
    let w = g.N.Device.past_of in
    let so_far = c.loop-n.invariant in
    let n = c.loop-n.n in
    let unread : List ℕ = c.loop-n.unread.items in
    let from : CrashState = (o c.args.from.now).disk.content in
    let there : CrashState = (o c.loop-n.from).disk.content in
    let now : CrashState = (w c.loop-n.to).disk.content in
    let next : CrashState = (w c.copy_sector.new.to).disk.content in
    let done = c.in-Ok.ensures in
    record {
      copied = copied_more unread n from now next so_far.copied c.copy_sector.ensures.others
          (was_read c.in-Ok.is_read there next n c.if-is_read.true done.copied ∙ ap (λ (d : Disk). sector d.content n) so_far.reads.disk);
      unread = still_unread unread n from now next _ _ _ so_far.unread c.copy_sector.ensures.others c.copy_sector.ensures.later;
      rest = rest_more n c.args.sectors (w c.args.to.now).disk.content now next c.loop-n-test.true so_far.rest c.copy_sector.ensures.others;
      reads = reads_then _ _ _ so_far.reads c.copy_sector.ensures.kept;
      later = omega (arith, so_far.later, c.copy_sector.ensures.later);
      quiet = done.counts.none ∙ so_far.quiet;
    }

pub loop-n-preserved : goal.loop-n-preserved
loop-n-preserved g c =
    let o = g.O.Device.past_of in
    let w = g.N.Device.past_of in
    let f = g.O.Device.failures in
    let so_far = c.loop-n.invariant in
    let n = c.loop-n.n in
    let unread : List ℕ = c.loop-n.unread.items in
    let from : CrashState = (o c.args.from.now).disk.content in
    let there : CrashState = (o c.loop-n.from).disk.content in
    let now : CrashState = (w c.loop-n.to).disk.content in
    let next : CrashState = (w c.copy_sector.new.to).disk.content in
    let long : length there ≡ length from = ap (λ (d : Disk). length d.content) so_far.reads.disk in
    let done = c.in-Ok.ensures in
    record {
      copied = subst (λ (l : List ℕ). AreCopiedBut l (n + 1) from next) (sym c.in_ok-push.ensures.items)
          (unread_more unread n from now next so_far.copied c.copy_sector.ensures.others
          (was_not_read c.in-Ok.is_read there next n c.if-is_read.false done.copied));
      unread = subst (λ (l : List ℕ). AreUnread l (n + 1) from next (f c.args.from.now) (f c.copy_sector.new.from)) (sym c.in_ok-push.ensures.items)
          (unread_next unread n from now next (f c.args.from.now) (f c.loop-n.from) (f c.copy_sector.new.from) so_far.unread
          c.copy_sector.ensures.others c.copy_sector.ensures.later
          (was_not_read c.in-Ok.is_read there next n c.if-is_read.false done.copied)
          (subst (λ (m : ℕ). (m ≤ n) ⊎ Rises (f c.loop-n.from) (f c.copy_sector.new.from)) long (done.unread c.if-is_read.false)));
      rest = rest_more n c.args.sectors (w c.args.to.now).disk.content now next c.loop-n-test.true so_far.rest c.copy_sector.ensures.others;
      reads = reads_then _ _ _ so_far.reads c.copy_sector.ensures.kept;
      later = omega (arith, so_far.later, c.copy_sector.ensures.later);
      quiet = done.counts.none ∙ so_far.quiet;
    }

pub returns : goal.returns
returns g c =
    let so_far = c.loop-n.invariant in
    let f = g.O.Device.failures in
    let all : c.loop-n.n ≡ c.args.sectors = omega (arith, c.loop-n.auto.n-end, c.loop-n-test.false) in
    record {
      copied = λ n below. so_far.copied n (omega arith);
      unread = subst (λ (n : ℕ). AreUnread c.loop-n.unread.items n (g.O.Device.past_of c.args.from.now).disk.content
          (g.N.Device.past_of c.loop-n.to).disk.content (f c.args.from.now) (f c.loop-n.from)) all so_far.unread;
      rest = so_far.rest;
      kept = so_far.reads;
      refused = tt;
      quiet = so_far.quiet;
    }

pub returns-in_err-push : goal.returns-in_err-push
returns-in_err-push g c =
    let w = g.N.Device.past_of in
    let p = err_from_is_err_and c.from_residual.result c.from_residual.ensures.1 in
    let so_far = c.loop-n.invariant in
    let done = c.copy_sector.ensures in
    rw (p.1 ∙ ap Err p.2) (record {
      copied = tt;
      unread = tt;
      rest = rest_more c.loop-n.n c.args.sectors (w c.args.to.now).disk.content (w c.loop-n.to).disk.content (w c.copy_sector.new.to).disk.content
          c.loop-n-test.true so_far.rest done.others;
      kept = reads_then _ _ _ so_far.reads done.kept;
      refused = inl refl;
      quiet = tt;
    })

pub returns-in_default : goal.returns-in_default
returns-in_default g c =
    let w = g.N.Device.past_of in
    let so_far = c.loop-n.invariant in
    let done = c.in_default.ensures in
    record {
      copied = tt;
      unread = tt;
      rest = rest_more c.loop-n.n c.args.sectors (w c.args.to.now).disk.content (w c.loop-n.to).disk.content (w c.copy_sector.new.to).disk.content
          c.loop-n-test.true so_far.rest done.others;
      kept = reads_then _ _ _ so_far.reads done.kept;
      refused = inr (refl, subst (λ (n : ℕ). Rises n (g.N.Device.failures c.copy_sector.new.to)) so_far.quiet done.counts.failed);
      quiet = tt;
    }
