use Rattle.std.proofs.lemmas.Result.{err_from_is_err_and}
use Rattle.threads_loops.specs.Copying.{IsDue}
use Rattle.threads_loops.specs.Through.{Calls}
use Rattle.threads_loops.proofs.Rounds.{copied_behind, copying_behind, due_behind, stands_due}
use Rattle.threads_loops.proofs.Through.{by_step, through_call}
use Rattle.threads_loops.proofs.flush.take_chunk.Goals as goal

pub returns-in_err-take_piece : goal.returns-in_err-take_piece
returns-in_err-take_piece g c =
    let past_of = g.D.Device.past_of in
    let failures = g.D.Device.failures in
    let o = g.B.Group.site.opened in
    let old = c.args.part.now in
    let new = c.take_piece.new.self in
    let is = c.take_piece.ensures in
    let call : Calls past_of g.D.Device.marks failures o old new = by_step past_of failures o old new is.publishes is.images is.later c.args.chunk.number
    c.args.chunk.piece c.take_piece.result c.requires.chunk c.requires.next c.requires.late is.stepped is.sound is.err is.kept is.left is.quiet in
    let due : IsDue new = due_behind old new failures c.args.chunk.number c.args.chunk.piece c.take_piece.result is.stepped is.err c.requires.late in
    let p = err_from_is_err_and c.from_residual.result c.from_residual.ensures.1 in
    rw p.1 (record {
      through = through_call past_of failures o old new call;
      copying = stands_due new due;
      image = tt;
      late = due;
      behind = tt;
    })

pub returns : goal.returns
returns g c =
    let past_of = g.D.Device.past_of in
    let failures = g.D.Device.failures in
    let o = g.B.Group.site.opened in
    let old = c.args.part.now in
    let new = c.take_piece.new.self in
    let is = c.take_piece.ensures in
    let call : Calls past_of g.D.Device.marks failures o old new = by_step past_of failures o old new is.publishes is.images is.later c.args.chunk.number
    c.args.chunk.piece c.take_piece.result c.requires.chunk c.requires.next c.requires.late is.stepped is.sound is.err is.kept is.left is.quiet in
    let due : IsDue new = due_behind old new failures c.args.chunk.number c.args.chunk.piece c.take_piece.result is.stepped is.err c.requires.late in
    record {
      through = through_call past_of failures o old new call;
      copying = stands_due new due;
      image = copied_behind old new failures c.args.chunk.number c.args.chunk.piece c.in_ok-take_piece.field-0 c.in_ok-take_piece.ensures.stepped;
      late = due;
      behind = copying_behind old new c.args.chunk.number c.args.chunk.piece c.in_ok-take_piece.field-0 c.in_ok-take_piece.ensures.stepped;
    }
