use Rattle.std.proofs.Common.{◌≡◌, Ok, false, ap, arith, ◌∙◌}
use Rattle.store_image_model.specs.declared.chunk.Piece.{Piece}
use Rattle.store_image_model.specs.declared.chunk.Piece.TheVariants.{Page}
use Rattle.store_writer.specs.Parts.{device_of, has_failed, synced_of}
use Rattle.store_writer.specs.declared.writer.StepReply.TheVariants.{Taken}
use Rattle.threads_flusher.specs.Part.{last_handed}
use Rattle.threads_loops.specs.Through.{Calls}
use Rattle.threads_loops.proofs.Rounds.{copied_behind, due_behind}
use Rattle.threads_loops.proofs.Through.{by_step, through_call}
use Rattle.threads_loops.proofs.flush.pass_one.Goals as goal

pub returns-clause-passed : goal.returns-clause-passed
returns-clause-passed g c passes =
    let past_of = g.D.Device.past_of in
    let failures = g.D.Device.failures in
    let o = g.B.Group.site.opened in
    let old = c.args.part.now in
    let new = c.pass_page.new.self in
    let is = c.pass_page.ensures in
    let passed = is.passed passes in
    let (page, rows, next, chunk, told) = is.taken passes in
    let number = last_handed o old in
    let piece : Piece g.row.A.Denot = Page page rows in
    let sound : has_failed old.writer ≡ false = (is.when.0 passes).0 in
    let call : Calls past_of g.D.Device.marks failures o old new = by_step past_of failures o old new (is.publishes passes) (is.images passes)
    (omega (arith, ap (λ w. failures (device_of w)) passed.9)) number piece (Ok Taken) chunk next c.requires.late told
    (sound, ap (λ w. has_failed w) passed.9 ∙ sound) tt (ap (λ w. synced_of w) passed.9) tt (ap (λ w. failures (device_of w)) passed.9) in
    record {
      through = through_call past_of failures o old new call;
      late = due_behind old new failures number piece (Ok Taken) told tt c.requires.late;
      copied = copied_behind old new failures number piece Taken told;
      device = ap (λ w. device_of w) passed.9;
    }
