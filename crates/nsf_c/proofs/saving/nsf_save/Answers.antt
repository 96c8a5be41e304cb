use Rattle.std.proofs.Common.{◌∙◌, ap, subst}
use Rattle.sector_device.specs.Disk.{CrashState}
use Rattle.store_file.specs.FileDisk.{past_of}
use Rattle.program_commands.specs.Store as serving
use Rattle.program_commands.specs.declared.store.Store.{Store}
use Rattle.nsf_c.specs.Calls.{CopiesOut, IsStoreKept, content_of}
use Rattle.nsf_c.specs.Handles.{Disk}
use Rattle.nsf_c.specs.declared.held.Held.{Held}
use Rattle.nsf_c.proofs.Saved.{is_kept}
use Rattle.nsf_c.proofs.saving.nsf_save.Goals as goal

pub returns-clause-copied : goal.returns-clause-copied
returns-clause-copied c =
    let of_device = c.content.ensures ∙ ap (λ (d : Disk). (past_of d).disk.content) c.device.ensures.device in
    let of_store = of_device ∙ ap (λ (s : Store Disk). (past_of (serving.device_of s)).disk.content) c.store.ensures in
    let content_is = of_store ∙ ap (λ (h : Held). content_of h.store) c.deref.ensures in (
      c.take-held.result.value,
      c.take-held.ensures.taken,
      c.put.ensures,
      subst (λ (content : CrashState). CopiesOut content c.args.first c.copy_out-count.result c.args.room.now c.copy_out-count.new.room) content_is
          c.copy_out-count.ensures,
    )

pub returns-clause-kept : goal.returns-clause-kept
returns-clause-kept c =
    let held = c.deref.result.now in
    let of_device = subst (λ (d : Disk). serving.LeavesItsRun past_of c.store.result.now d) c.device.ensures.device c.device.ensures.survives in
    let leaves = subst (λ (s : Store Disk). serving.LeavesItsRun past_of s (serving.device_of s)) c.store.ensures of_device in (
      c.take-held.result.value,
      c.take-held.ensures.taken,
      c.put.ensures,
      subst (λ (h : Held). IsStoreKept h.store (content_of h.store)) c.deref.ensures (is_kept held.store leaves),
    )
