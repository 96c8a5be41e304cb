use Rattle.std.proofs.Common.{◌≡◌, ◌+◌, [], length, drop, sym, ap, subst, ◌∙◌}
use Rattle.std.proofs.lemmas.List.{drop_all, at_drop_more}
use Rattle.sector_device.specs.declared.call.Call.TheVariants.{Write}
use Rattle.sector_device.specs.Disk.{IsDiskWhole}
use Rattle.sector_device.specs.Memory.{MemoryState, initial_state, marked_state, state_after}
use Rattle.sector_device.proofs.Again.{begun, crashed_so, leaves_so, left_whole}
use Rattle.sector_device.proofs.crash.crash_behind.Goals as goal

pub loop-call-init : goal.loop-call-init
loop-call-init c =
    let first = c.args.first.now in
    record {
      state = ap (λ (s : MemoryState). state_after s c.args.calls.now)
          (begun first c.copy_from_slice.new.self c.copy_from_slice-2.new.self c.fill.new.self _ c.copy_from_slice.ensures.after
          c.copy_from_slice-2.ensures.after (c.fill.ensures.after (λ y is. is)) c.requires.marks);
      whole = subst IsDiskWhole (sym c.copy_from_slice.ensures.after) c.requires.whole;
      synced_whole = subst IsDiskWhole (sym c.copy_from_slice-2.ensures.after) c.requires.whole;
      sectors = ap length c.copy_from_slice.ensures.after;
      synced_sectors = ap length c.copy_from_slice-2.ensures.after;
      size = c.fill.ensures.len ∙ c.requires.marks;
    }

pub loop-call-preserved : goal.loop-call-preserved
loop-call-preserved c =
    let is = c.loop-call.invariant in
    let calls = c.args.calls.now in
    let i = c.loop-call.call-index in
    let held : MemoryState = marked_state c.loop-call.content c.loop-call.synced c.loop-call.marks in
    record {
      state =
          ap (λ (s : MemoryState). state_after s (drop (i + 1) calls)) c.make_again.ensures.state
          ∙ sym (at_drop_more (state_after held) calls i (Write 0 []) c.loop-call-test.true)
          ∙ is.state;
      whole = c.make_again.ensures.whole is.whole;
      synced_whole = c.make_again.ensures.synced_whole is.whole is.synced_whole;
      sectors = c.make_again.ensures.sectors ∙ is.sectors;
      synced_sectors = c.make_again.ensures.synced_sectors ∙ is.synced_sectors;
      size = c.make_again.ensures.size ∙ is.size;
    }

pub returns : goal.returns
returns c =
    let is = c.loop-call.invariant in
    let content = c.loop-call.content in
    let synced = c.loop-call.synced in
    let marks = c.loop-call.marks in
    let image = c.tear.new.content in
    let fates = c.args.fates.now in
    let s : MemoryState = state_after (initial_state c.args.first.now) c.args.calls.now in
    let so : marked_state content synced marks ≡ s =
    sym (ap (state_after (marked_state content synced marks)) (drop_all c.loop-call.call-index c.args.calls.now c.loop-call-test.false)) ∙ is.state in
    let size : length synced ≡ length content = is.synced_sectors ∙ sym is.sectors in
    record {
      fates = crashed_so fates content synced image marks s so is.whole is.synced_whole size c.tear.ensures;
      crash = leaves_so fates content synced image marks s so is.whole is.synced_whole size c.tear.ensures;
      whole = left_whole fates content synced image marks s so is.whole is.synced_whole size c.tear.ensures;
      sectors = c.tear.ensures.sectors ∙ is.sectors ∙ sym c.requires.content;
      synced_sectors = is.synced_sectors ∙ sym c.requires.synced;
      size = is.size ∙ sym c.requires.marks;
    }
