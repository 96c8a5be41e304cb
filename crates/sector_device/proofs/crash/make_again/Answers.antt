use Rattle.std.proofs.Common.{sym, subst, ap, ◌∙◌}
use Rattle.sector_device.specs.Disk.{IsDiskWhole}
use Rattle.sector_device.specs.Memory.{marked_state, step}
use Rattle.sector_device.proofs.Again.{made_write, made_sync}
use Rattle.sector_device.proofs.crash.make_again.Goals as goal

pub returns-in-Write-clause-state : goal.returns-in-Write-clause-state
returns-in-Write-clause-state c =
    made_write c.args.content.now c.args.synced.now c.write_again.new.content c.args.marks.now c.write_again.new.marks c.in-Write.sector c.in-Write.bytes
    c.write_again.ensures.content c.write_again.ensures.marks
    ∙ ap (step (marked_state c.args.content.now c.args.synced.now c.args.marks.now)) (sym c.in-Write.is)

pub returns-in-Sync-clause-state : goal.returns-in-Sync-clause-state
returns-in-Sync-clause-state c =
    made_sync c.args.content.now c.args.synced.now c.copy_from_slice.new.self c.args.marks.now c.fill.new.self _ c.copy_from_slice.ensures.after
    (c.fill.ensures.after (λ y is. is)) c.requires.marks
    ∙ ap (step (marked_state c.args.content.now c.args.synced.now c.args.marks.now)) (sym c.in-Sync.is)

pub returns-in-Sync-clause-synced_whole : goal.returns-in-Sync-clause-synced_whole
returns-in-Sync-clause-synced_whole c = λ whole was. subst IsDiskWhole (sym c.copy_from_slice.ensures.after) whole
