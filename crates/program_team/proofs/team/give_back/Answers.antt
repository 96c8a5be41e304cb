use Rattle.std.proofs.Common.{◌≡◌, List, ap, length, subst, take}
use Rattle.std.proofs.Math.Logic.{∥∥₁_map}
use Rattle.records.specs.RecordValue.{RecordValue}
use Rattle.threads_queue.specs.Ends.{Handed}
use Rattle.locked_core.specs.Locked.{locked_of}
use Rattle.locked_core.specs.Names.{IsShared}
use Rattle.store_writer.specs.Parts.{halves_of, synced_of}
use Rattle.threads_flusher.specs.Part.{popped_by}
use Rattle.program_team.proofs.Leaving.{left_opened}
use Rattle.program_team.proofs.team.give_back.Goals as goal

pub compare-requires-clause-popper : goal.compare-requires-clause-popper
compare-requires-clause-popper g c = ap (λ (p : Handed). p.queue) c.into_parts-device.ensures.popper

pub returns : goal.returns
returns g c = λ image crash.
    let o = g.B.Group.site.opened in
    let f = c.args.flush in
    let l = locked_of c.into_parts-locked.result.0 in
    let popped : popped_by f ≡ take (length (popped_by f)) l.pushed =
    subst (λ (rs : List RecordValue). rs ≡ take (length rs) l.pushed) (ap (λ (p : Handed). p.records) c.into_parts-device.ensures.popper)
    c.compare.ensures.beginning in
    ∥∥₁_map c.into_parts-locked.result.0.shared (λ (under : IsShared o l.core l.pushed l.book).
    left_opened o (halves_of f.writer).geometry l.core l.pushed l.book f.handed f.held (synced_of f.writer) image popped under
    (c.into_parts-device.ensures.images image crash))
