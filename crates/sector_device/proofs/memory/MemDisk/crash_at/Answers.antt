use Rattle.std.proofs.Common.{◌≡◌, refl, ◌∙◌, ap, sym, subst, arith, ℕ, ◌+◌, ◌≤◌, ◌++◌, List, length, take, drop, replicate, slice_index, vec_len}
use Rattle.std.proofs.Common.{vec_capacity}
use Rattle.std.proofs.Common.{false, slice_index_or}
use Rattle.std.proofs.Math.ListN.{length-replicate}
use Rattle.sector_device.specs.Disk.{CrashState, IsDiskWhole, IsCrashState}
use Rattle.sector_device.specs.Memory.{MemoryState, initial_state, state_after, disk_of}
use Rattle.sector_device.specs.Crash.{IsCrashed}
use Rattle.sector_device.proofs.Record.{represents_crashed, written_back, all_zero, synced_count, synced_count_at_most, anew, no_flag}
use Rattle.sector_device.proofs.memory.MemDisk.crash_at.Goals as goal

pub invariant_of-self : goal.invariant_of-self
invariant_of-self g c =
    let d = c.args.self.now in
    let image = c.crash_behind.new.content in
    let size : length image ≡ length d.content.items = c.crash_behind.ensures.sectors ∙ ap length c.deref_mut.ensures.value in
    let synced_size : length c.crash_behind.new.synced ≡ length d.before.items =
    c.crash_behind.ensures.synced_sectors ∙ ap length c.deref_mut-2.ensures.value in
    let back : take d.content.len (image ++ drop (length image) d.content.items) ≡ image =
    written_back image d.content.items d.content.len size d.content.ok.0 in
    let synced_back : take d.before.len (c.crash_behind.new.synced ++ drop (length c.crash_behind.new.synced) d.before.items) ≡ c.crash_behind.new.synced =
    written_back c.crash_behind.new.synced d.before.items d.before.len synced_size d.before.ok.0 in
    let content : CrashState = take d.content.len (image ++ drop (length image) d.content.items) in
    let stamps : c.fill.new.self.items ≡ replicate d.written_at.len 0 = c.fill.ensures.items (λ y is. is) in
    let stamps_size : length c.fill.new.self.items ≡ length d.written_at.items = ap length stamps ∙ length-replicate d.written_at.len 0 ∙ d.written_at.ok.0 in
    let none : (k : ℕ) → slice_index c.fill.new.self.items k ≡ 0 = λ k. ap (λ (l : List ℕ). slice_index l k) stamps ∙ all_zero d.written_at.len k in
    let long : length content ≡ length d.content.items = ap length back ∙ size in
    let first : c.copy_from_slice.new.self.items ≡ content = c.copy_from_slice.ensures.items ∙ c.deref-3.ensures.value in
    let whole : IsDiskWhole content = subst IsDiskWhole (sym back) c.crash_behind.ensures.whole in
    let represents = represents_crashed c.copy_from_slice.new.self.items content _ c.clear.new.self.items c.fill.new.self.items first
    c.clear.ensures.items whole (ap length synced_back ∙ synced_size ∙ d.represents.before_size ∙ sym long) (stamps_size ∙ d.represents.written_size
    ∙ sym long) none in
    let fewer = synced_count_at_most 0 c.fill.new.self.items in
    let same : vec_capacity c.clear.new.self ≡ vec_capacity d.calls = c.clear.ensures.capacity in
    let empty : vec_len c.clear.new.self ≡ 0 = c.clear.ensures.len in
    let fits : length content ≤ vec_capacity c.clear.new.self = omega (arith, long, d.size, same) in
    let room : vec_len c.clear.new.self + synced_count 0 c.fill.new.self.items ≤ vec_capacity c.clear.new.self =
    omega (arith, fewer, stamps_size, d.represents.written_size, d.size, same, empty) in
    record {
      represents = represents;
      first_size = ap length first;
      first_whole = subst IsDiskWhole (sym first) whole;
      size = fits;
      room = room;
    }

pub returns : goal.returns
returns g c =
    let d = c.args.self.now in
    let image = c.crash_behind.new.content in
    let size : length image ≡ length d.content.items = c.crash_behind.ensures.sectors ∙ ap length c.deref_mut.ensures.value in
    let back : take d.content.len (image ++ drop (length image) d.content.items) ≡ image =
    written_back image d.content.items d.content.len size d.content.ok.0 in
    let is = anew _ image _ (c.copy_from_slice.ensures.items ∙ c.deref-3.ensures.value ∙ back) c.clear.ensures.items in
    let content = ap (λ (s : MemoryState). s.content) is in
    let s = state_after (initial_state d.first.items) (take c.args.moment d.calls.items) in
    let fates : IsCrashed c.args.fates.now s image = rw (c.deref.ensures.value, c.deref-2.ensures.value) at c.crash_behind.ensures.fates in
    let crash : IsCrashState (disk_of s) image = rw (c.deref.ensures.value, c.deref-2.ensures.value) at c.crash_behind.ensures.crash in
    record {
      crash = subst (IsCrashState (disk_of s)) (sym content) crash;
      fates = subst (IsCrashed c.args.fates.now s) (sym content) fates;
      synced = λ k. ap (λ (s : MemoryState). slice_index_or s.unsynced k false) is ∙ no_flag (length image) k;
      last_synced = ap (λ (s : MemoryState). s.synced) is ∙ sym content;
      moment = ap length c.clear.ensures.items;
      failures = refl;
      room = omega (arith, c.clear.ensures.capacity, ap length back, size);
      anew = omega (arith, c.clear.ensures.len);
    }
