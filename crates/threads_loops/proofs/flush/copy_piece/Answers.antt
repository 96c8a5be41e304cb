use Rattle.std.proofs.Common.{◌∙◌, ap, sym}
use Rattle.std.proofs.lemmas.Result.{err_from_is_err_and, on_ok_weaker}
use Rattle.store_writer.specs.Copying.{next_place}
use Rattle.store_writer.specs.Parts.{halves_of}
use Rattle.threads_loops.proofs.Rounds.{copied_by_taking, due_by_taking, next_there, piece_due, stands_due}
use Rattle.threads_loops.proofs.Through.{through_none, through_taking, through_then}
use Rattle.threads_loops.proofs.flush.copy_piece.Goals as goal

pub copy_step-copied-requires-clause-sound : goal.copy_step-copied-requires-clause-sound
copy_step-copied-requires-clause-sound g c = sym c.has_failed.ensures ∙ c.if-has_failed.false

pub copy_step-copied-requires-clause-due : goal.copy_step-copied-requires-clause-due
copy_step-copied-requires-clause-due g c = piece_due c.args.place c.args.part.now.writer c.requires.due

pub take_chunk-requires-clause-chunk : goal.take_chunk-requires-clause-chunk
take_chunk-requires-clause-chunk g c = c.in_ok-chunk.ensures.chunk

pub take_chunk-requires-clause-next : goal.take_chunk-requires-clause-next
take_chunk-requires-clause-next g c = next_there _ _ c.args.place c.in_ok-chunk.chunk.piece _
    (c.in_ok-chunk.ensures.piece (halves_of c.args.part.now.writer).geometry)
    (ap next_place c.copy_step-copied.ensures.takes.copying ∙ c.requires.due)

pub take_chunk-requires-clause-late : goal.take_chunk-requires-clause-late
take_chunk-requires-clause-late g c = due_by_taking _ _ c.copy_step-copied.ensures.takes c.requires.late

pub returns-then-has_failed : goal.returns-then-has_failed
returns-then-has_failed g c = record {
  through = through_none g.D.Device.past_of g.D.Device.failures g.B.Group.site.opened c.args.part.now;
  copying = stands_due c.args.part.now c.requires.late;
  image = tt;
}

pub returns-in_err-chunk : goal.returns-in_err-chunk
returns-in_err-chunk g c =
    let old = c.args.part.now in
    let new = c.copy_step-copied.new.self in
    let takes = c.copy_step-copied.ensures.takes in
    let p = err_from_is_err_and c.from_residual.result c.from_residual.ensures.1 in
    rw p.1 (record {
      through = through_taking g.D.Device.past_of g.D.Device.failures g.B.Group.site.opened old new takes;
      copying = stands_due new (due_by_taking old new takes c.requires.late);
      image = tt;
    })

pub returns : goal.returns
returns g c =
    let past_of = g.D.Device.past_of in
    let failures = g.D.Device.failures in
    let o = g.B.Group.site.opened in
    let old = c.args.part.now in
    let mid = c.copy_step-copied.new.self in
    let new = c.take_chunk.new.part in
    let takes = c.copy_step-copied.ensures.takes in
    let is = c.take_chunk.ensures in
    record {
      through = through_then past_of failures o old mid new (through_taking past_of failures o old mid takes) is.through;
      copying = is.copying;
      image = on_ok_weaker c.take_chunk.result (copied_by_taking old mid takes new) is.image;
    }
