use Rattle.std.proofs.Common.{◌∙◌, refl, arith, subst}
use Rattle.store_writer.specs.Parts as writer
use Rattle.store_writer.specs.Writer.{IsFlipReply, IsStepReply, IsWriter}
use Rattle.store_writer.specs.declared.writer.FlipReply.{FlipReply}
use Rattle.store_writer.specs.declared.writer.FlipReply.TheVariants.{Behind, Flipped}
use Rattle.store_writer.specs.declared.writer.StepReply.{StepReply}
use Rattle.store_writer.specs.declared.writer.StepReply.TheVariants.{Taken}
use Rattle.nsf_core.specs.Value.{value_of}
use Rattle.restart.specs.declared.parts.EngineParts.{EngineParts}
use Rattle.restart.specs.Handing.{MovesOn}
use Rattle.restart.specs.Parts.{copying_of, device_of, writer_of}
use Rattle.restart.proofs.Copied.{CopyLaws, all_handed, is_taken, may_flip, none_unwritten, whole_current, whole_is, whole_synced}
use Rattle.restart.proofs.CopiesAround.{copies_then, flip_copied, half_copied, none_copied_around}
use Rattle.restart.proofs.CopyAnswers.{all_well, copy_failed, failed_later, none_copied}
use Rattle.restart.proofs.Flushing.{stays}
use Rattle.restart.proofs.Moving.{can_run_on, moves_at, moves_by, moves_then}
use Rattle.restart.proofs.parts.EngineParts.copy_all.Goals as goal

pub checkpoint_step-requires : goal.checkpoint_step-requires
checkpoint_step-requires g c =
    let past_of = g.D.Device.past_of in
    let old = c.args.self.now in
    let laws : CopyLaws past_of old = record {
      txns = c.copy_whole.ensures.sound;
      shown = c.each_list.ensures.shown;
      one = c.one_copy.ensures;
      page = c.next_pieces.ensures.page;
      entries = c.next_pieces.ensures.entries;
    } in
    let can = c.requires.runs in (
      can.0,
      can.1,
      can.4.writer,
      whole_is past_of old laws c.requires.sound c.in-Ok.chunk.number c.in-Ok.chunk.piece c.in-Ok.ensures.number
          c.in-Ok.ensures.whole can.0 can.1 can.2 can.3 can.4,
    )

pub returns-in-Err-clause-moves : goal.returns-in-Err-clause-moves
returns-in-Err-clause-moves g c = stays g.D.Device.past_of g.D.Device.failures c.args.self.now

pub returns-in-Err-clause-answer : goal.returns-in-Err-clause-answer
returns-in-Err-clause-answer g c = none_copied g.D.Device.failures c.args.self.now c.in-Err.error c.in-Err.ensures.no_memory c.requires.sound
    (λ whole. cc (c.requires.given_up, whole))

pub unreachable-requires : goal.unreachable-requires
unreachable-requires g c =
    let chunk = c.in-Ok.chunk in
    let old = c.args.self.now in
    is_taken (value_of old.core) chunk.number chunk.piece (writer_of old) c.checkpoint_step.new.self c.in-Ok.ensures.whole
    (subst (λ (r : StepReply). IsStepReply chunk.number chunk.piece r (writer_of old) c.checkpoint_step.new.self) c.in-Ok-StartAgain.field-0-is
    c.in-Ok-StartAgain.ensures.stepped)

pub returns-in-Err-checkpoint_step-clause-moves : goal.returns-in-Err-checkpoint_step-clause-moves
returns-in-Err-checkpoint_step-clause-moves g c =
    let past_of = g.D.Device.past_of in
    let failures = g.D.Device.failures in
    let old = c.args.self.now in
    let laws : CopyLaws past_of old = record {
      txns = c.copy_whole.ensures.sound;
      shown = c.each_list.ensures.shown;
      one = c.one_copy.ensures;
      page = c.next_pieces.ensures.page;
      entries = c.next_pieces.ensures.entries;
    } in
    let chunk = c.in-Ok.chunk in
    let can = c.requires.runs in
    let mid : EngineParts g.row.D.Denot g.row.A.Denot = record old { writer = c.checkpoint_step.new.self } in
    let first : MovesOn past_of old mid = moves_at past_of old mid refl refl
    (λ run handed s k is. c.checkpoint_step.ensures.writer run handed is.writer
    (whole_is past_of old laws c.requires.sound chunk.number chunk.piece c.in-Ok.ensures.number c.in-Ok.ensures.whole run handed s k is))
    c.checkpoint_step.ensures.images (omega (arith, c.checkpoint_step.ensures.kept)) refl in
    first

pub returns-in-Err-checkpoint_step-clause-answer : goal.returns-in-Err-checkpoint_step-clause-answer
returns-in-Err-checkpoint_step-clause-answer g c =
    let past_of = g.D.Device.past_of in
    let failures = g.D.Device.failures in
    let old = c.args.self.now in
    let laws : CopyLaws past_of old = record {
      txns = c.copy_whole.ensures.sound;
      shown = c.each_list.ensures.shown;
      one = c.one_copy.ensures;
      page = c.next_pieces.ensures.page;
      entries = c.next_pieces.ensures.entries;
    } in
    let chunk = c.in-Ok.chunk in
    let can = c.requires.runs in
    let mid : EngineParts g.row.D.Denot g.row.A.Denot = record old { writer = c.checkpoint_step.new.self } in
    let step : IsWriter past_of can.0 can.1 (writer_of mid) =
    c.checkpoint_step.ensures.writer can.0 can.1 can.4.writer
    (whole_is past_of old laws c.requires.sound chunk.number chunk.piece c.in-Ok.ensures.number c.in-Ok.ensures.whole can.0 can.1 can.2 can.3 can.4) in
    copy_failed past_of failures old mid c.requires.all can refl refl step
    (omega (arith, c.checkpoint_step.ensures.kept)) c.checkpoint_step.ensures.later c.in-Err-checkpoint_step.error c.requires.sound
    c.in-Err-checkpoint_step.ensures.err

pub unreachable-requires-in-Ok-Behind : goal.unreachable-requires-in-Ok-Behind
unreachable-requires-in-Ok-Behind g c =
    let past_of = g.D.Device.past_of in
    let failures = g.D.Device.failures in
    let old = c.args.self.now in
    let laws : CopyLaws past_of old = record {
      txns = c.copy_whole.ensures.sound;
      shown = c.each_list.ensures.shown;
      one = c.one_copy.ensures;
      page = c.next_pieces.ensures.page;
      entries = c.next_pieces.ensures.entries;
    } in
    let chunk = c.in-Ok.chunk in
    let can = c.requires.runs in
    let mid : EngineParts g.row.D.Denot g.row.A.Denot = record old { writer = c.checkpoint_step.new.self } in
    let step : IsWriter past_of can.0 can.1 (writer_of mid) =
    c.checkpoint_step.ensures.writer can.0 can.1 can.4.writer
    (whole_is past_of old laws c.requires.sound chunk.number chunk.piece c.in-Ok.ensures.number c.in-Ok.ensures.whole can.0 can.1 can.2 can.3 can.4) in
    let told : IsStepReply chunk.number chunk.piece Taken (writer_of old) (writer_of mid) =
    subst (λ (r : StepReply). IsStepReply chunk.number chunk.piece r (writer_of old) c.checkpoint_step.new.self) c.in-Ok-Taken.field-0-is
    c.in-Ok-Taken.ensures.stepped in
    let behind : IsFlipReply can.1 Behind (writer_of mid) c.checkpoint_flip.new.self =
    subst (λ (r : FlipReply). IsFlipReply can.1 r (writer_of mid) c.checkpoint_flip.new.self) c.in-Ok-Behind.field-0-is
    (c.in-Ok-Behind.ensures.flipped can.0 can.1 step) in
    behind.1 (may_flip (value_of old.core) can.1 chunk.number chunk.piece (writer_of old) (writer_of mid) c.in-Ok.ensures.whole told
    (omega (arith, c.in-Ok.ensures.number, can.4.made, can.4.shown.shown.made, all_handed past_of can.0 can.1 can.2 can.3 old can.4 c.requires.all)))

pub returns-in-Ok-Flipped-clause-moves : goal.returns-in-Ok-Flipped-clause-moves
returns-in-Ok-Flipped-clause-moves g c =
    let past_of = g.D.Device.past_of in
    let failures = g.D.Device.failures in
    let old = c.args.self.now in
    let laws : CopyLaws past_of old = record {
      txns = c.copy_whole.ensures.sound;
      shown = c.each_list.ensures.shown;
      one = c.one_copy.ensures;
      page = c.next_pieces.ensures.page;
      entries = c.next_pieces.ensures.entries;
    } in
    let chunk = c.in-Ok.chunk in
    let can = c.requires.runs in
    let mid : EngineParts g.row.D.Denot g.row.A.Denot = record old { writer = c.checkpoint_step.new.self } in
    let told : IsStepReply chunk.number chunk.piece Taken (writer_of old) (writer_of mid) =
    subst (λ (r : StepReply). IsStepReply chunk.number chunk.piece r (writer_of old) c.checkpoint_step.new.self) c.in-Ok-Taken.field-0-is
    c.in-Ok-Taken.ensures.stepped in
    let first : MovesOn past_of old mid = moves_at past_of old mid refl refl
    (λ run handed s k is. c.checkpoint_step.ensures.writer run handed is.writer
    (whole_is past_of old laws c.requires.sound chunk.number chunk.piece c.in-Ok.ensures.number c.in-Ok.ensures.whole run handed s k is))
    c.checkpoint_step.ensures.images (omega (arith, c.checkpoint_step.ensures.kept))
    refl in
    let step : IsWriter past_of can.0 can.1 (writer_of mid) =
    c.checkpoint_step.ensures.writer can.0 can.1 can.4.writer
    (whole_is past_of old laws c.requires.sound chunk.number chunk.piece c.in-Ok.ensures.number c.in-Ok.ensures.whole can.0 can.1 can.2 can.3 can.4) in
    let new : EngineParts g.row.D.Denot g.row.A.Denot = record old { writer = c.checkpoint_flip.new.self } in
    let flipped : IsFlipReply can.1 (Flipped c.in-Ok-Flipped.number) (writer_of mid) (writer_of new) =
    subst (λ (r : FlipReply). IsFlipReply can.1 r (writer_of mid) c.checkpoint_flip.new.self) c.in-Ok-Flipped.field-0-is
    (c.in-Ok-Flipped.ensures.flipped can.0 can.1 step) in
    moves_then past_of old mid new first (moves_by past_of mid new refl refl c.checkpoint_flip.ensures.writer c.checkpoint_flip.ensures.images
    (omega (arith, flipped.0, flipped.1)) refl)

pub returns-in-Ok-Flipped-clause-answer : goal.returns-in-Ok-Flipped-clause-answer
returns-in-Ok-Flipped-clause-answer g c =
    let past_of = g.D.Device.past_of in
    let failures = g.D.Device.failures in
    let old = c.args.self.now in
    let laws : CopyLaws past_of old = record {
      txns = c.copy_whole.ensures.sound;
      shown = c.each_list.ensures.shown;
      one = c.one_copy.ensures;
      page = c.next_pieces.ensures.page;
      entries = c.next_pieces.ensures.entries;
    } in
    let chunk = c.in-Ok.chunk in
    let can = c.requires.runs in
    let mid : EngineParts g.row.D.Denot g.row.A.Denot = record old { writer = c.checkpoint_step.new.self } in
    let step : IsWriter past_of can.0 can.1 (writer_of mid) =
    c.checkpoint_step.ensures.writer can.0 can.1 can.4.writer
    (whole_is past_of old laws c.requires.sound chunk.number chunk.piece c.in-Ok.ensures.number c.in-Ok.ensures.whole can.0 can.1 can.2 can.3 can.4) in
    let told : IsStepReply chunk.number chunk.piece Taken (writer_of old) (writer_of mid) =
    subst (λ (r : StepReply). IsStepReply chunk.number chunk.piece r (writer_of old) c.checkpoint_step.new.self) c.in-Ok-Taken.field-0-is
    c.in-Ok-Taken.ensures.stepped in
    let new : EngineParts g.row.D.Denot g.row.A.Denot = record old { writer = c.checkpoint_flip.new.self } in
    let flipped : IsFlipReply can.1 (Flipped c.in-Ok-Flipped.number) (writer_of mid) (writer_of new) =
    subst (λ (r : FlipReply). IsFlipReply can.1 r (writer_of mid) c.checkpoint_flip.new.self) c.in-Ok-Flipped.field-0-is
    (c.in-Ok-Flipped.ensures.flipped can.0 can.1 step) in (
      all_well past_of failures old new c.requires.all can refl refl (c.checkpoint_flip.ensures.writer can.0 can.1 step)
          (omega (arith, c.checkpoint_step.ensures.kept, flipped.0, flipped.1))
          (omega (arith, c.checkpoint_step.ensures.later, c.checkpoint_flip.ensures.later)) c.requires.sound c.in-Ok-Flipped.ensures.sound.1
          (c.in-Ok-Flipped.ensures.quiet ∙ c.in-Ok-Taken.ensures.quiet),
      flipped.0,
      whole_current old new (value_of old.core) (writer_of mid) can.1 chunk.number c.in-Ok-Flipped.number chunk.piece c.in-Ok.ensures.whole told flipped
          c.requires.given_up flipped.5.copying-is
          (none_unwritten past_of can.0 can.1 new (c.checkpoint_flip.ensures.writer can.0 can.1 step)
          (omega (
            arith,
            whole_synced old new (value_of old.core)
                (writer_of mid) can.1 chunk.number c.in-Ok-Flipped.number chunk.piece c.in-Ok.ensures.whole told flipped,
            c.in-Ok.ensures.number,
            can.4.made,
            can.4.shown.shown.made,
            can.4.writer.made,
          )) c.requires.all),
    )

pub returns-in-Err-checkpoint_flip-clause-moves : goal.returns-in-Err-checkpoint_flip-clause-moves
returns-in-Err-checkpoint_flip-clause-moves g c =
    let past_of = g.D.Device.past_of in
    let failures = g.D.Device.failures in
    let old = c.args.self.now in
    let laws : CopyLaws past_of old = record {
      txns = c.copy_whole.ensures.sound;
      shown = c.each_list.ensures.shown;
      one = c.one_copy.ensures;
      page = c.next_pieces.ensures.page;
      entries = c.next_pieces.ensures.entries;
    } in
    let chunk = c.in-Ok.chunk in
    let can = c.requires.runs in
    let mid : EngineParts g.row.D.Denot g.row.A.Denot = record old { writer = c.checkpoint_step.new.self } in
    let told : IsStepReply chunk.number chunk.piece Taken (writer_of old) (writer_of mid) =
    subst (λ (r : StepReply). IsStepReply chunk.number chunk.piece r (writer_of old) c.checkpoint_step.new.self) c.in-Ok-Taken.field-0-is
    c.in-Ok-Taken.ensures.stepped in
    let first : MovesOn past_of old mid = moves_at past_of old mid refl refl
    (λ run handed s k is. c.checkpoint_step.ensures.writer run handed is.writer
    (whole_is past_of old laws c.requires.sound chunk.number chunk.piece c.in-Ok.ensures.number c.in-Ok.ensures.whole run handed s k is))
    c.checkpoint_step.ensures.images (omega (arith, c.checkpoint_step.ensures.kept))
    refl in
    let new : EngineParts g.row.D.Denot g.row.A.Denot = record old { writer = c.checkpoint_flip.new.self } in
    moves_then past_of old mid new first (moves_by past_of mid new refl refl c.checkpoint_flip.ensures.writer c.checkpoint_flip.ensures.images
    (omega (arith, c.in-Err-checkpoint_flip.ensures.kept)) refl)

pub returns-in-Err-checkpoint_flip-clause-answer : goal.returns-in-Err-checkpoint_flip-clause-answer
returns-in-Err-checkpoint_flip-clause-answer g c =
    let past_of = g.D.Device.past_of in
    let failures = g.D.Device.failures in
    let old = c.args.self.now in
    let laws : CopyLaws past_of old = record {
      txns = c.copy_whole.ensures.sound;
      shown = c.each_list.ensures.shown;
      one = c.one_copy.ensures;
      page = c.next_pieces.ensures.page;
      entries = c.next_pieces.ensures.entries;
    } in
    let chunk = c.in-Ok.chunk in
    let can = c.requires.runs in
    let mid : EngineParts g.row.D.Denot g.row.A.Denot = record old { writer = c.checkpoint_step.new.self } in
    let step : IsWriter past_of can.0 can.1 (writer_of mid) =
    c.checkpoint_step.ensures.writer can.0 can.1 can.4.writer
    (whole_is past_of old laws c.requires.sound chunk.number chunk.piece c.in-Ok.ensures.number c.in-Ok.ensures.whole can.0 can.1 can.2 can.3 can.4) in
    let new : EngineParts g.row.D.Denot g.row.A.Denot = record old { writer = c.checkpoint_flip.new.self } in
    failed_later past_of failures old mid new c.requires.all can refl refl (c.checkpoint_flip.ensures.writer can.0 can.1 step)
    (omega (arith, c.checkpoint_step.ensures.kept, c.in-Err-checkpoint_flip.ensures.kept))
    (omega (arith, c.checkpoint_step.ensures.later, c.checkpoint_flip.ensures.later)) c.in-Err-checkpoint_flip.error c.requires.sound
    c.in-Ok-Taken.ensures.sound.1 c.in-Ok-Taken.ensures.quiet c.in-Err-checkpoint_flip.ensures.err

pub returns-in-Err-clause-around : goal.returns-in-Err-clause-around
returns-in-Err-clause-around g c = none_copied_around g.D.Device.past_of c.args.self.now

pub returns-in-Err-checkpoint_step-clause-around : goal.returns-in-Err-checkpoint_step-clause-around
returns-in-Err-checkpoint_step-clause-around g c = let old = c.args.self.now in
    half_copied g.D.Device.past_of (copying_of old) (writer.halves_of (writer_of old)) (device_of old)
    (writer.device_of c.checkpoint_step.new.self) c.checkpoint_step.ensures.around

pub returns-in-Ok-Flipped-clause-around : goal.returns-in-Ok-Flipped-clause-around
returns-in-Ok-Flipped-clause-around g c =
    let past_of = g.D.Device.past_of in
    let old = c.args.self.now in
    let laws : CopyLaws past_of old = record {
      txns = c.copy_whole.ensures.sound;
      shown = c.each_list.ensures.shown;
      one = c.one_copy.ensures;
      page = c.next_pieces.ensures.page;
      entries = c.next_pieces.ensures.entries;
    } in
    let chunk = c.in-Ok.chunk in
    let mid : EngineParts g.row.D.Denot g.row.A.Denot = record old { writer = c.checkpoint_step.new.self } in
    let told : IsStepReply chunk.number chunk.piece Taken (writer_of old) (writer_of mid) =
    subst (λ (r : StepReply). IsStepReply chunk.number chunk.piece r (writer_of old) c.checkpoint_step.new.self) c.in-Ok-Taken.field-0-is
    c.in-Ok-Taken.ensures.stepped in
    let first : MovesOn past_of old mid = moves_at past_of old mid refl refl
    (λ run handed s k is. c.checkpoint_step.ensures.writer run handed is.writer
    (whole_is past_of old laws c.requires.sound chunk.number chunk.piece c.in-Ok.ensures.number c.in-Ok.ensures.whole run handed s k is))
    c.checkpoint_step.ensures.images (omega (arith, c.checkpoint_step.ensures.kept))
    refl in
    let new : EngineParts g.row.D.Denot g.row.A.Denot = record old { writer = c.checkpoint_flip.new.self } in
    copies_then past_of old mid new (can_run_on past_of old mid first c.requires.runs) c.in-Ok-Taken.ensures.sound.1 told.1.1.1
    (half_copied past_of (copying_of old) (writer.halves_of (writer_of old)) (device_of old) (device_of mid) c.checkpoint_step.ensures.around)
    (flip_copied past_of (copying_of old) (writer.halves_of (writer_of mid)) (device_of mid) (device_of new) c.checkpoint_flip.ensures.around)

pub returns-in-Err-checkpoint_flip-clause-around : goal.returns-in-Err-checkpoint_flip-clause-around
returns-in-Err-checkpoint_flip-clause-around g c =
    let past_of = g.D.Device.past_of in
    let old = c.args.self.now in
    let laws : CopyLaws past_of old = record {
      txns = c.copy_whole.ensures.sound;
      shown = c.each_list.ensures.shown;
      one = c.one_copy.ensures;
      page = c.next_pieces.ensures.page;
      entries = c.next_pieces.ensures.entries;
    } in
    let chunk = c.in-Ok.chunk in
    let mid : EngineParts g.row.D.Denot g.row.A.Denot = record old { writer = c.checkpoint_step.new.self } in
    let told : IsStepReply chunk.number chunk.piece Taken (writer_of old) (writer_of mid) =
    subst (λ (r : StepReply). IsStepReply chunk.number chunk.piece r (writer_of old) c.checkpoint_step.new.self) c.in-Ok-Taken.field-0-is
    c.in-Ok-Taken.ensures.stepped in
    let first : MovesOn past_of old mid = moves_at past_of old mid refl refl
    (λ run handed s k is. c.checkpoint_step.ensures.writer run handed is.writer
    (whole_is past_of old laws c.requires.sound chunk.number chunk.piece c.in-Ok.ensures.number c.in-Ok.ensures.whole run handed s k is))
    c.checkpoint_step.ensures.images (omega (arith, c.checkpoint_step.ensures.kept))
    refl in
    let new : EngineParts g.row.D.Denot g.row.A.Denot = record old { writer = c.checkpoint_flip.new.self } in
    copies_then past_of old mid new (can_run_on past_of old mid first c.requires.runs) c.in-Ok-Taken.ensures.sound.1 told.1.1.1
    (half_copied past_of (copying_of old) (writer.halves_of (writer_of old)) (device_of old) (device_of mid) c.checkpoint_step.ensures.around)
    (flip_copied past_of (copying_of old) (writer.halves_of (writer_of mid)) (device_of mid) (device_of new) c.checkpoint_flip.ensures.around)
