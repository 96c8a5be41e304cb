use Rattle.std.proofs.Common.{◌∙◌}
use Rattle.std.proofs.lemmas.Result.{err_from_is_err_and, on_ok_weaker}
use Rattle.threads_loops.specs.Through.{PassesThrough}
use Rattle.threads_loops.proofs.Rounds.{image_from, stands_by_taking, wanted_by_taking}
use Rattle.threads_loops.proofs.Through.{through_taking, through_then}
use Rattle.threads_loops.proofs.flush.round.Goals as goal

pub copy_some-requires : goal.copy_some-requires
copy_some-requires g c = record {
  copying = c.write.ensures.copying (stands_by_taking _ _ c.take_records-looked.ensures.takes c.requires.copying);
}

pub returns-in_err-write : goal.returns-in_err-write
returns-in_err-write g c =
    let past_of = g.D.Device.past_of in
    let failures = g.D.Device.failures in
    let o = g.B.Group.site.opened in
    let old = c.args.part.now in
    let got = c.take_records-looked.new.part in
    let new = c.write.new.part in
    let takes = c.take_records-looked.ensures.takes in
    let is = c.write.ensures in
    let p = err_from_is_err_and c.from_residual.result c.from_residual.ensures.1 in
    rw p.1 (record {
      through = through_then past_of failures o old got new (through_taking past_of failures o old got takes) is.through;
      copying = is.copying (stands_by_taking old got takes c.requires.copying);
      image = tt;
    })

pub returns : goal.returns
returns g c =
    let past_of = g.D.Device.past_of in
    let failures = g.D.Device.failures in
    let o = g.B.Group.site.opened in
    let old = c.args.part.now in
    let got = c.take_records-looked.new.part in
    let mid = c.write.new.part in
    let new = c.copy_some.new.part in
    let takes = c.take_records-looked.ensures.takes in
    let through : PassesThrough past_of g.D.Device.marks failures o old mid = through_then past_of failures o old got mid
    (through_taking past_of failures o old got takes) c.write.ensures.through in
    record {
      through = through_then past_of failures o old mid new through c.copy_some.ensures.through;
      copying = c.copy_some.ensures.copying;
      image = on_ok_weaker c.copy_some.result (λ image wanted. image_from old mid new (c.write.ensures.half ∙ takes.got.halves)
          (image (c.in_ok-write.ensures.image (wanted_by_taking old got takes wanted)))) c.copy_some.ensures.image;
    }
