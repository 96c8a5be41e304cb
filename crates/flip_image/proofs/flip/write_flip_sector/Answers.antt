use Rattle.std.proofs.Common.{Result, Err, OnOk, OnErr, ◌≡◌, ◌<◌, ◌≤◌, ◌∙◌, inl, ℕ, List, length, refl, sym, ap, subst, arith}
use Rattle.std.proofs.lemmas.Result.{err_from_is_err_and, on_ok_weaker}
use Rattle.sector_device.specs.declared.device.Failed.{Failed}
use Rattle.sector_device.specs.Disk.{CrashState, Disk, sector, after_write, after_sync, IsFailedWrite, IsCrashState, SameOutside}
use Rattle.sector_device.proofs.Counts.{counts_failed, counts_later}
use Rattle.sector_device.proofs.Sectors.{content_after, holds_after_sync, sector_written}
use Rattle.sector_device.proofs.Within.{reads_leave, reads_none}
use Rattle.flip_image.specs.Store.{IsFlipping, Names}
use Rattle.flip_image.proofs.Sides.{flipping_end, not_true}
use Rattle.flip_image.proofs.flip.write_flip_sector.Goals as goal

-- before the first call has done anything
unflipped : (d : Disk) (c : CrashState) → IsCrashState d c → IsFlipping d c
unflipped d c crash = inl (record { sectors = crash.sectors; same = λ k out. crash.kept k (not_true (d.unsynced k) out) })

same_content : (a b : Disk) → b.content ≡ a.content → SameOutside (λ n. n ≡ 1) a.content b.content
same_content a b is = record { sectors = ap length is; same = λ k out. ap (λ (i : CrashState). sector i k) is }

-- synced and then written, or not
outside : (a b d : Disk) (bytes : List ℕ) (r : Result Unit Failed) → b ≡ after_sync a → OnOk r (d ≡ after_write b 1 bytes) → OnErr r (IsFailedWrite b 1 d)
    → SameOutside (λ n. n ≡ 1) a.content d.content
outside a b d bytes r synced ok err =
    content_after (λ n. n ≡ 1) a.content b 1 bytes d r ok err refl (same_content a b (ap (λ (x : Disk). x.content) synced))

there : (a b d : Disk) (bytes : List ℕ) → 2 ≤ length a.content → b ≡ after_sync a → d ≡ after_write b 1 bytes → sector d.content 1 ≡ bytes
there a b d bytes room synced written =
    let long : length b.content ≡ length a.content = ap (λ (x : Disk). length x.content) synced in
    ap (λ (x : Disk). sector x.content 1) written ∙ sector_written b 1 bytes (omega (arith, room, long))

room_for : (a b : Disk) → 2 ≤ length a.content → b ≡ after_sync a → 1 < length b.content
room_for a b room synced =
    let long : length b.content ≡ length a.content = ap (λ (x : Disk). length x.content) synced in
    omega (arith, room, long)

pub write-requires : goal.write-requires
write-requires g c = let h = g.D.Device.past_of in room_for (h c.args.device.now).disk (h c.sync.new.self).disk c.requires c.in_ok-sync.ensures.ok

pub returns-in_err-sync : goal.returns-in_err-sync
returns-in_err-sync g c =
    let h = g.D.Device.past_of in
    let e = c.in_err-sync.ensures in
    rw (err_from_is_err_and c.from_residual.result c.from_residual.ensures.1).1 (record {
      sector = tt;
      named = tt;
      synced = tt;
      outside = same_content (h c.args.device.now).disk (h c.sync.new.self).disk (ap (λ (x : Disk). x.content) e.err);
      any_moment = reads_leave (h c.args.device.now) (h c.sync.new.self) _ (record { disk = e.err; time = e.time })
          (unflipped (h c.args.device.now).disk);
      counts = record { later = e.counts.later; none = tt; failed = e.counts.failed };
    })

pub returns-in_err-write : goal.returns-in_err-write
returns-in_err-write g c =
    let h = g.D.Device.past_of in
    let e = c.write.ensures in
    rw (err_from_is_err_and c.from_residual-in_err-write.result c.from_residual-in_err-write.ensures.1).1 (record {
      sector = tt;
      named = tt;
      synced = tt;
      outside = outside (h c.args.device.now).disk (h c.sync.new.self).disk (h c.write.new.self).disk _ c.write.result c.in_ok-sync.ensures.ok e.ok e.err;
      any_moment = flipping_end (h c.args.device.now) (h c.sync.new.self) (h c.write.new.self) _ c.sync.result c.write.result (Err c.in_err-write.field-0.0) _
          c.in_ok-sync.ensures.ok c.sync.ensures.time e.ok e.err e.time tt refl (reads_none (h c.write.new.self)).time;
      counts = counts_failed _ _ _ _ c.sync.ensures.counts.later e.counts.later c.in_err-write.ensures.counts.failed;
    })

pub returns : goal.returns
returns g c =
    let h = g.D.Device.past_of in
    let old = (h c.args.device.now).disk in
    let mid = (h c.sync.new.self).disk in
    let set = (h c.write.new.self).disk in
    let e = c.sync-2.ensures in
    let is = there old mid set _ c.requires c.in_ok-sync.ensures.ok c.in_ok-write.ensures.ok in
    record {
      sector = on_ok_weaker c.sync-2.result (λ ok. ap (λ (x : Disk). sector x.content 1) ok ∙ is ∙ c.flip_sector-bytes.ensures.is) e.ok;
      named = on_ok_weaker c.sync-2.result (λ ok. subst (λ (b : List ℕ). Names b c.args.to) (sym (ap (λ (x : Disk). sector x.content 1) ok ∙ is))
          c.flip_sector-bytes.ensures.named) e.ok;
      synced = on_ok_weaker c.sync-2.result (λ ok. λ k. ap (λ (x : Disk). x.unsynced k) ok) e.ok;
      outside =
          let done = outside old mid set _ c.write.result c.in_ok-sync.ensures.ok c.write.ensures.ok c.write.ensures.err in
          holds_after_sync (λ (x : Disk). SameOutside (λ n. n ≡ 1) old.content x.content) set (h c.sync-2.new.self).disk c.sync-2.result e.ok e.err done done;
      any_moment = flipping_end (h c.args.device.now) (h c.sync.new.self) (h c.write.new.self) (h c.sync-2.new.self) c.sync.result c.write.result
          c.sync-2.result _ c.in_ok-sync.ensures.ok c.sync.ensures.time c.write.ensures.ok c.write.ensures.err c.write.ensures.time e.ok e.err e.time;
      counts = counts_later _ _ _ c.sync-2.result (c.in_ok-write.ensures.counts.none ∙ c.in_ok-sync.ensures.counts.none) e.counts;
    }
