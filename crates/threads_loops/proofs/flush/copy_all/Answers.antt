use Rattle.std.proofs.Common.{◌∙◌}
use Rattle.std.proofs.lemmas.Result.{err_from_is_err_and, on_ok_weaker}
use Rattle.store_writer.specs.Parts.{halves_of}
use Rattle.threads_loops.proofs.Rounds.{all_of, copied_by_taking, due_by_taking, next_whole, stands_due, whole_behind}
use Rattle.threads_loops.proofs.Through.{through_taking, through_then}
use Rattle.threads_loops.proofs.flush.copy_all.Goals as goal

pub take_chunk-requires-clause-chunk : goal.take_chunk-requires-clause-chunk
take_chunk-requires-clause-chunk g c = c.in_ok-chunk.ensures.chunk

pub take_chunk-requires-clause-next : goal.take_chunk-requires-clause-next
take_chunk-requires-clause-next g c = next_whole c.in_ok-chunk.chunk.piece _
    (all_of _ _ c.in_ok-chunk.chunk.piece (c.in_ok-chunk.ensures.whole (halves_of c.args.part.now.writer).geometry))
    (c.copy_whole-copied.ensures.takes.copying ∙ c.requires.given_up)

pub take_chunk-requires-clause-late : goal.take_chunk-requires-clause-late
take_chunk-requires-clause-late g c = due_by_taking _ _ c.copy_whole-copied.ensures.takes c.requires.late

pub returns-in_err-chunk : goal.returns-in_err-chunk
returns-in_err-chunk g c =
    let old = c.args.part.now in
    let new = c.copy_whole-copied.new.self in
    let takes = c.copy_whole-copied.ensures.takes in
    let due = due_by_taking old new takes c.requires.late in
    let p = err_from_is_err_and c.from_residual.result c.from_residual.ensures.1 in
    rw p.1 (record {
      through = through_taking g.D.Device.past_of g.D.Device.failures g.B.Group.site.opened old new takes;
      copying = stands_due new due;
      image = tt;
      late = due;
      whole = tt;
    })

pub returns : goal.returns
returns g c =
    let past_of = g.D.Device.past_of in
    let failures = g.D.Device.failures in
    let o = g.B.Group.site.opened in
    let old = c.args.part.now in
    let mid = c.copy_whole-copied.new.self in
    let new = c.take_chunk.new.part in
    let takes = c.copy_whole-copied.ensures.takes in
    let is = c.take_chunk.ensures in
    let all = all_of _ _ c.in_ok-chunk.chunk.piece (c.in_ok-chunk.ensures.whole (halves_of old.writer).geometry) in
    record {
      through = through_then past_of failures o old mid new (through_taking past_of failures o old mid takes) is.through;
      copying = is.copying;
      image = on_ok_weaker c.take_chunk.result (copied_by_taking old mid takes new) is.image;
      late = is.late;
      whole = on_ok_weaker c.take_chunk.result (whole_behind mid.writer new.writer c.in_ok-chunk.chunk.piece all) is.behind;
    }
