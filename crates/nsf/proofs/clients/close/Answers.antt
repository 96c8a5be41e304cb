use Rattle.std.proofs.Common.{ap, arith, ◌∙◌}
use Rattle.std.proofs.Math.Logic.{∥∥₁_map}
use Rattle.store_writer.specs.Parts.{halves_of}
use Rattle.nsf.proofs.Published.{newest_kept}
use Rattle.threads_flusher.specs.Part.{popped_by}
use Rattle.nsf_core.specs.Value.{value_of}
use Rattle.nsf.proofs.clients.close.Goals as goal

pub returns-in-Ok-clause-leaves : goal.returns-in-Ok-clause-leaves
returns-in-Ok-clause-leaves g c = rw c.into_device.ensures (record {
  geometry = (halves_of c.args.parts.flush.writer).geometry;
  pages = c.stands.ensures.pages;
  places = c.stands.ensures.places;
  popped = popped_by c.args.parts.flush;
  some = newest_kept _ (g.D.Device.past_of c.in-Ok.closed.device) c.args.parts.flush.publications c.args.parts.flush.published.horizon
      c.stands.ensures.newest c.in-Ok.ensures.published;
  newest = c.stands.ensures.newest;
  published = c.in-Ok.ensures.published;
  all = ∥∥₁_map c.in-Ok.ensures.closed (λ h. record {
    commits = h.commits;
    of_seats = h.of_seats;
    core = value_of c.in-Ok.closed.core;
    left = h.of_core;
    gives = h.gives;
  });
})

pub returns-in-Err-clause-leaves : goal.returns-in-Err-clause-leaves
returns-in-Err-clause-leaves g c = record {
  geometry = (halves_of c.args.parts.flush.writer).geometry;
  pages = c.stands.ensures.pages;
  places = c.stands.ensures.places;
  popped = popped_by c.args.parts.flush;
  some = newest_kept _ (g.D.Device.past_of c.in-Err.device) c.args.parts.flush.publications c.args.parts.flush.published.horizon
      c.stands.ensures.newest c.in-Err.ensures.still;
  newest = c.stands.ensures.newest;
  published = c.in-Err.ensures.still;
  all = tt;
}

pub returns-in-Err-clause-why : goal.returns-in-Err-clause-why
returns-in-Err-clause-why g c = c.in-Err.ensures.err

pub returns-in-Ok-clause-goes : goal.returns-in-Ok-clause-goes
returns-in-Ok-clause-goes g c = rw c.into_device.ensures (record { later = c.in-Ok.ensures.images.later; kept = c.in-Ok.ensures.images.kept })

pub returns-in-Err-clause-goes : goal.returns-in-Err-clause-goes
returns-in-Err-clause-goes g c = record { later = c.in-Err.ensures.left.later; kept = c.in-Err.ensures.left.kept }

pub returns-in-Ok-clause-quiet : goal.returns-in-Ok-clause-quiet
returns-in-Ok-clause-quiet g c = ap g.D.Device.failures c.into_device.ensures ∙ c.in-Ok.ensures.quiet

pub returns-in-Ok-clause-later : goal.returns-in-Ok-clause-later
returns-in-Ok-clause-later g c = omega (arith, c.in-Ok.ensures.quiet, ap g.D.Device.failures c.into_device.ensures)
