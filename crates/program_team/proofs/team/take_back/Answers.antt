use Rattle.std.proofs.Common.{List, subst, sym, ◌∙◌}
use Rattle.store_writer.specs.Parts.{halves_of, synced_of}
use Rattle.shared.specs.Seats.{SeatValue}
use Rattle.threads_flusher.specs.Part.{popped_by}
use Rattle.threads_lifetime.specs.Gathered.{AreAllSeats}
use Rattle.program_team.proofs.Surviving.{all_kept}
use Rattle.program_team.proofs.team.take_back.Goals as goal

pub close-device-requires : goal.close-device-requires
close-device-requires g c = record {
  seats = subst (λ (seats : List SeatValue). AreAllSeats g.B.Group.site.seats seats)
      (sym (c.with_seats-parts.ensures.seats ∙ c.in-Ok.ensures.seats)) c.requires.seats;
}

pub returns : goal.returns
returns g c = λ image crash.
    let parts = c.with_seats-parts.result in
    all_kept (λ w. w.seat) (λ w. w.acks.items) (λ w. w.acknowledged.items) c.args.writers.items c.args.last
    parts.seats.items c.in-Ok.gathered.acks.items c.in-Ok.gathered.acknowledged.items
    (c.with_seats-parts.ensures.seats ∙ c.in-Ok.ensures.seats) c.in-Ok.ensures.acks c.in-Ok.ensures.acknowledged
    g.B.Group.site.opened (halves_of parts.flush.writer).geometry (popped_by parts.flush) (synced_of parts.flush.writer) image
    c.close-device.ensures.acked c.requires.told (c.close-device.ensures.some image crash)
