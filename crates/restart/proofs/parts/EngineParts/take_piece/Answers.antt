use Rattle.std.proofs.Common.{◌≡◌, ◌<◌, ◌≤◌, ◌∙◌, refl, sym, ap, arith, subst, inl}
use Rattle.record_values.specs.GeometryValue.{GeometryValue}
use Rattle.store_image_model.specs.Places.{place_behind}
use Rattle.store_writer.specs.Parts as writer
use Rattle.store_writer.specs.Writer.{IsStepReply}
use Rattle.store_writer.specs.declared.copying.Copying.TheVariants.{GivenUp, Steps}
use Rattle.store_writer.specs.declared.writer.StepReply.{StepReply}
use Rattle.store_writer.specs.declared.writer.StepReply.TheVariants.{StartAgain, Taken}
use Rattle.restart.specs.Copies.{copies_left}
use Rattle.restart.specs.declared.parts.EngineParts.{EngineParts}
use Rattle.restart.specs.Parts.{copying_of, core_of, device_of, horizon_of, writer_of}
use Rattle.restart.proofs.Copied.{CopyLaws, cannot_take, fewer_now, one_left, piece_is, takes_piece}
use Rattle.restart.proofs.CopiesAround.{half_copied, none_copied_around}
use Rattle.restart.proofs.CopyAnswers.{all_well, copy_failed, none_copied, piece_due}
use Rattle.restart.proofs.Fewer.{fewer_given_up}
use Rattle.restart.proofs.Flushing.{stays}
use Rattle.restart.proofs.Moving.{moves_at}
use Rattle.restart.proofs.parts.EngineParts.take_piece.Goals as goal

pub checkpoint_step-requires : goal.checkpoint_step-requires
checkpoint_step-requires g c =
    let past_of = g.D.Device.past_of in
    let old = c.args.self.now in
    let laws : CopyLaws past_of old = record {
      txns = c.copy_step.ensures.sound;
      shown = c.each_list.ensures.shown;
      one = c.one_copy.ensures;
      page = c.next_pieces.ensures.page;
      entries = c.next_pieces.ensures.entries;
    } in
    let can = c.requires.runs in (
      can.0,
      can.1,
      can.4.writer,
      piece_is past_of old laws c.requires.sound c.in-Ok.chunk.number c.args.place c.in-Ok.chunk.piece c.in-Ok.ensures.number
          c.requires.next c.in-Ok.ensures.piece can.0 can.1 can.2 can.3 can.4,
    )

pub returns-in-Err-clause-moves : goal.returns-in-Err-clause-moves
returns-in-Err-clause-moves g c = stays g.D.Device.past_of g.D.Device.failures c.args.self.now

pub returns-in-Err-clause-answer : goal.returns-in-Err-clause-answer
returns-in-Err-clause-answer g c = none_copied g.D.Device.failures c.args.self.now c.in-Err.error c.in-Err.ensures.no_memory c.requires.sound
    (piece_due (copying_of c.args.self.now) c.args.place c.requires.next)

pub returns-in-Ok-Taken-clause-moves : goal.returns-in-Ok-Taken-clause-moves
returns-in-Ok-Taken-clause-moves g c =
    let past_of = g.D.Device.past_of in
    let old = c.args.self.now in
    let laws : CopyLaws past_of old = record {
      txns = c.copy_step.ensures.sound;
      shown = c.each_list.ensures.shown;
      one = c.one_copy.ensures;
      page = c.next_pieces.ensures.page;
      entries = c.next_pieces.ensures.entries;
    } in
    let chunk = c.in-Ok.chunk in
    let new : EngineParts g.row.D.Denot g.row.A.Denot = record old { writer = c.checkpoint_step.new.self } in
    let told : IsStepReply chunk.number chunk.piece Taken (writer_of old) (writer_of new) =
    subst (λ (r : StepReply). IsStepReply chunk.number chunk.piece r (writer_of old) c.checkpoint_step.new.self) c.in-Ok-Taken.field-0-is
    c.in-Ok-Taken.ensures.stepped in
    moves_at past_of old new refl refl
    (λ run handed s k is. c.checkpoint_step.ensures.writer run handed is.writer
    (piece_is past_of old laws c.requires.sound chunk.number c.args.place chunk.piece c.in-Ok.ensures.number c.requires.next c.in-Ok.ensures.piece run handed
    s k is))
    c.checkpoint_step.ensures.images
    (omega (arith, c.checkpoint_step.ensures.kept))
    refl

pub returns-in-Ok-Taken-clause-answer : goal.returns-in-Ok-Taken-clause-answer
returns-in-Ok-Taken-clause-answer g c =
    let past_of = g.D.Device.past_of in
    let old = c.args.self.now in
    let laws : CopyLaws past_of old = record {
      txns = c.copy_step.ensures.sound;
      shown = c.each_list.ensures.shown;
      one = c.one_copy.ensures;
      page = c.next_pieces.ensures.page;
      entries = c.next_pieces.ensures.entries;
    } in
    let chunk = c.in-Ok.chunk in
    let can = c.requires.runs in
    let new : EngineParts g.row.D.Denot g.row.A.Denot = record old { writer = c.checkpoint_step.new.self } in
    let after = c.checkpoint_step.ensures.writer can.0 can.1 can.4.writer
    (piece_is past_of old laws c.requires.sound chunk.number c.args.place chunk.piece c.in-Ok.ensures.number c.requires.next c.in-Ok.ensures.piece can.0
    can.1 can.2 can.3 can.4) in
    let grows : horizon_of old ≤ horizon_of new = omega (arith, c.checkpoint_step.ensures.kept) in
    let told : IsStepReply chunk.number chunk.piece Taken (writer_of old) (writer_of new) =
    subst (λ (r : StepReply). IsStepReply chunk.number chunk.piece r (writer_of old) c.checkpoint_step.new.self) c.in-Ok-Taken.field-0-is
    c.in-Ok-Taken.ensures.stepped in
    let behind : new.writer.copying ≡ Steps (place_behind old.geometry.pages chunk.piece) =
    told.1.3 ∙ ap (λ (x : GeometryValue). Steps (place_behind x.pages chunk.piece)) (can.4.writer.geometry-is ∙ sym can.4.geometry) in (
      all_well past_of g.D.Device.failures old new c.requires.all can refl refl after grows c.checkpoint_step.ensures.later c.requires.sound
          c.in-Ok-Taken.ensures.sound.1 c.in-Ok-Taken.ensures.quiet,
      takes_piece old new chunk.number c.args.place chunk.piece c.in-Ok.ensures.number c.requires.next c.in-Ok.ensures.piece told
          behind c.checkpoint_step.ensures.kept,
      fewer_now past_of old new laws c.requires.sound chunk.number c.args.place chunk.piece c.in-Ok.ensures.number c.in-Ok.ensures.piece
          c.requires.next can told behind refl refl,
    )

pub returns-in-Ok-StartAgain-clause-moves : goal.returns-in-Ok-StartAgain-clause-moves
returns-in-Ok-StartAgain-clause-moves g c =
    let past_of = g.D.Device.past_of in
    let old = c.args.self.now in
    let laws : CopyLaws past_of old = record {
      txns = c.copy_step.ensures.sound;
      shown = c.each_list.ensures.shown;
      one = c.one_copy.ensures;
      page = c.next_pieces.ensures.page;
      entries = c.next_pieces.ensures.entries;
    } in
    let chunk = c.in-Ok.chunk in
    let new : EngineParts g.row.D.Denot g.row.A.Denot = record old { writer = c.checkpoint_step.new.self } in
    let told : IsStepReply chunk.number chunk.piece StartAgain (writer_of old) (writer_of new) =
    subst (λ (r : StepReply). IsStepReply chunk.number chunk.piece r (writer_of old) c.checkpoint_step.new.self) c.in-Ok-StartAgain.field-0-is
    c.in-Ok-StartAgain.ensures.stepped in
    moves_at past_of old new refl refl
    (λ run handed s k is. c.checkpoint_step.ensures.writer run handed is.writer
    (piece_is past_of old laws c.requires.sound chunk.number c.args.place chunk.piece c.in-Ok.ensures.number c.requires.next c.in-Ok.ensures.piece run handed
    s k is))
    c.checkpoint_step.ensures.images
    (omega (arith, c.checkpoint_step.ensures.kept))
    refl

pub returns-in-Ok-StartAgain-clause-answer : goal.returns-in-Ok-StartAgain-clause-answer
returns-in-Ok-StartAgain-clause-answer g c =
    let past_of = g.D.Device.past_of in
    let old = c.args.self.now in
    let laws : CopyLaws past_of old = record {
      txns = c.copy_step.ensures.sound;
      shown = c.each_list.ensures.shown;
      one = c.one_copy.ensures;
      page = c.next_pieces.ensures.page;
      entries = c.next_pieces.ensures.entries;
    } in
    let chunk = c.in-Ok.chunk in
    let can = c.requires.runs in
    let new : EngineParts g.row.D.Denot g.row.A.Denot = record old { writer = c.checkpoint_step.new.self } in
    let after = c.checkpoint_step.ensures.writer can.0 can.1 can.4.writer
    (piece_is past_of old laws c.requires.sound chunk.number c.args.place chunk.piece c.in-Ok.ensures.number c.requires.next c.in-Ok.ensures.piece can.0
    can.1 can.2 can.3 can.4) in
    let grows : horizon_of old ≤ horizon_of new = omega (arith, c.checkpoint_step.ensures.kept) in
    let told : IsStepReply chunk.number chunk.piece StartAgain (writer_of old) (writer_of new) =
    subst (λ (r : StepReply). IsStepReply chunk.number chunk.piece r (writer_of old) c.checkpoint_step.new.self) c.in-Ok-StartAgain.field-0-is
    c.in-Ok-StartAgain.ensures.stepped in
    let given : new.writer.copying ≡ GivenUp = ap (λ w. writer.copying_of w) told.0 in (
      all_well past_of g.D.Device.failures old new c.requires.all can refl refl after grows c.checkpoint_step.ensures.later c.requires.sound
          c.in-Ok-StartAgain.ensures.sound.1 c.in-Ok-StartAgain.ensures.quiet,
      inl (cannot_take old new chunk.number c.args.place chunk.piece c.requires.next c.in-Ok.ensures.piece told),
      given,
      subst (λ n. n < copies_left old) (sym (one_left new given))
          (fewer_given_up old.geometry (core_of old).last (writer.image_of (writer_of old)) old.writer.copying c.args.place c.requires.next),
    )

pub returns-in-Err-checkpoint_step-clause-moves : goal.returns-in-Err-checkpoint_step-clause-moves
returns-in-Err-checkpoint_step-clause-moves g c =
    let past_of = g.D.Device.past_of in
    let old = c.args.self.now in
    let laws : CopyLaws past_of old = record {
      txns = c.copy_step.ensures.sound;
      shown = c.each_list.ensures.shown;
      one = c.one_copy.ensures;
      page = c.next_pieces.ensures.page;
      entries = c.next_pieces.ensures.entries;
    } in
    let chunk = c.in-Ok.chunk in
    let new : EngineParts g.row.D.Denot g.row.A.Denot = record old { writer = c.checkpoint_step.new.self } in
    moves_at past_of old new refl refl
    (λ run handed s k is. c.checkpoint_step.ensures.writer run handed is.writer
    (piece_is past_of old laws c.requires.sound chunk.number c.args.place chunk.piece c.in-Ok.ensures.number c.requires.next c.in-Ok.ensures.piece run handed
    s k is))
    c.checkpoint_step.ensures.images
    (omega (arith, c.checkpoint_step.ensures.kept))
    refl

pub returns-in-Err-checkpoint_step-clause-answer : goal.returns-in-Err-checkpoint_step-clause-answer
returns-in-Err-checkpoint_step-clause-answer g c =
    let past_of = g.D.Device.past_of in
    let old = c.args.self.now in
    let laws : CopyLaws past_of old = record {
      txns = c.copy_step.ensures.sound;
      shown = c.each_list.ensures.shown;
      one = c.one_copy.ensures;
      page = c.next_pieces.ensures.page;
      entries = c.next_pieces.ensures.entries;
    } in
    let chunk = c.in-Ok.chunk in
    let can = c.requires.runs in
    let new : EngineParts g.row.D.Denot g.row.A.Denot = record old { writer = c.checkpoint_step.new.self } in
    let after = c.checkpoint_step.ensures.writer can.0 can.1 can.4.writer
    (piece_is past_of old laws c.requires.sound chunk.number c.args.place chunk.piece c.in-Ok.ensures.number c.requires.next c.in-Ok.ensures.piece can.0
    can.1 can.2 can.3 can.4) in
    let grows : horizon_of old ≤ horizon_of new = omega (arith, c.checkpoint_step.ensures.kept) in
    copy_failed past_of g.D.Device.failures old new c.requires.all can refl refl after grows c.checkpoint_step.ensures.later c.in-Err-checkpoint_step.error
    c.requires.sound c.in-Err-checkpoint_step.ensures.err

pub returns-in-Err-clause-around : goal.returns-in-Err-clause-around
returns-in-Err-clause-around g c = none_copied_around g.D.Device.past_of c.args.self.now

pub returns-in-Ok-Taken-clause-around : goal.returns-in-Ok-Taken-clause-around
returns-in-Ok-Taken-clause-around g c = let old = c.args.self.now in
    half_copied g.D.Device.past_of (copying_of old) (writer.halves_of (writer_of old)) (device_of old)
    (writer.device_of c.checkpoint_step.new.self) c.checkpoint_step.ensures.around

pub returns-in-Ok-StartAgain-clause-around : goal.returns-in-Ok-StartAgain-clause-around
returns-in-Ok-StartAgain-clause-around g c = let old = c.args.self.now in
    half_copied g.D.Device.past_of (copying_of old) (writer.halves_of (writer_of old)) (device_of old)
    (writer.device_of c.checkpoint_step.new.self) c.checkpoint_step.ensures.around

pub returns-in-Err-checkpoint_step-clause-around : goal.returns-in-Err-checkpoint_step-clause-around
returns-in-Err-checkpoint_step-clause-around g c = let old = c.args.self.now in
    half_copied g.D.Device.past_of (copying_of old) (writer.halves_of (writer_of old)) (device_of old)
    (writer.device_of c.checkpoint_step.new.self) c.checkpoint_step.ensures.around
