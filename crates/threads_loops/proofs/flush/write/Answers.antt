use Rattle.std.proofs.Common.{refl, sym, ◌∙◌}
use Rattle.threads_flusher.specs.Part.{last_handed}
use Rattle.threads_loops.specs.Through.{Calls}
use Rattle.threads_loops.proofs.Rounds.{full_by_flush, image_by_flush, none_by_flush, nothing_not_full, stands_by_flush}
use Rattle.threads_loops.proofs.Through.{by_flush, through_call, through_none}
use Rattle.threads_loops.proofs.flush.write.Goals as goal

pub returns-then-synced-last_handed : goal.returns-then-synced-last_handed
returns-then-synced-last_handed g c = record {
  through = through_none g.D.Device.past_of g.D.Device.failures g.B.Group.site.opened c.args.part.now;
  copying = λ stood. stood;
  half = refl;
  place = refl;
  image = λ wanted. wanted;
  none = λ _. ((refl, refl), sym c.synced.ensures ∙ c.if-synced-last_handed.true ∙ c.last_handed.ensures);
  full = λ is. absurd (nothing_not_full is);
}

pub returns : goal.returns
returns g c =
    let past_of = g.D.Device.past_of in
    let failures = g.D.Device.failures in
    let o = g.B.Group.site.opened in
    let old = c.args.part.now in
    let new = c.flush-flushed.new.self in
    let is = c.flush-flushed.ensures in
    let call : Calls past_of g.D.Device.marks failures o old new = by_flush past_of failures o old new is.publishes is.images is.later c.flush-flushed.result
    is.around.halves-are is.flushed is.sound is.err is.kept is.left is.quiet is.copying is.image in
    record {
      through = through_call past_of failures o old new call;
      copying = stands_by_flush old new failures is.around.halves-are is.copying c.flush-flushed.result is.flushed is.sound is.err;
      half = is.around.halves-are;
      place = is.copying;
      image = image_by_flush old new failures is.around.halves-are is.copying c.flush-flushed.result is.flushed;
      none = none_by_flush old new is.publishes.handed (last_handed o old) c.flush-flushed.result is.flushed is.nothing;
      full = full_by_flush old new is.publishes.handed c.flush-flushed.result is.flushed;
    }
