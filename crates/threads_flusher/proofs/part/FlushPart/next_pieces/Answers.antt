use Rattle.std.proofs.Common.{map, subst}
use Rattle.threads_flusher.specs.Images.{TakesNext}
use Rattle.threads_flusher.specs.Part.{flush_value, last_handed, publication_of, run_of}
use Rattle.threads_flusher.proofs.part.FlushPart.next_pieces.Goals as goal

pub returns : goal.returns
returns g c =
    let o = g.B.Group.site.opened in
    let is = c.self.invariant.2 in
    let inside = c.self.inside in
    let f = flush_value inside.popper.records inside.held.items inside.writer inside.view (map (publication_of g.D.Device.past_of) inside.publications.items) in
    subst (TakesNext o) c.self.view_is
    (record {
      page = λ page rows sound at now i there. c.next_pieces.ensures.page (run_of o f)
          (last_handed o f) page rows is.writer sound is.writer.small at now i there;
      entries = λ above entries sound at now i there. c.next_pieces.ensures.entries (run_of o f)
          (last_handed o f) above entries is.writer sound is.writer.small at now i there;
    })
