use Rattle.std.proofs.Common.{◌≡◌, ◌∙◌, ◌≤◌, IfErr, OnOk, false, ap, length, refl, subst, sym}
use Rattle.std.proofs.lemmas.List.{length-map}
use Rattle.store_writer.specs.Parts.{device_of, has_failed}
use Rattle.threads_lifetime.specs.Gathered.{AreAllSeats}
use Rattle.nsf.specs.Serving.{HasRoom, IsLaterPast, LeavesCommits, WhyRestUnwritten}
use Rattle.nsf.proofs.Orders.{left_so, marks_are}
use Rattle.nsf.proofs.clients.end.Goals as goal

pub parted-room-requires : goal.parted-room-requires
parted-room-requires g c =
    let len = c.settle_chairs.ensures.len in
    record {
      clients = subst (HasRoom c.args.room.clients) (sym len) c.requires.room;
      seats = subst (HasRoom c.args.room.seats) (sym len) c.requires.places;
      marks = subst (HasRoom c.args.room.marks) (sym len) c.requires.marks;
    }

pub close-device-requires : goal.close-device-requires
close-device-requires g c = let z = g.B.Group.site in
    record { seats = subst (AreAllSeats z.seats) (sym c.parted-room.ensures.seats) (c.settle_chairs.ensures.all z.seats c.requires.seats) }

pub returns : goal.returns
returns g c =
    let past_of = g.D.Device.past_of in
    let failures = g.D.Device.failures in
    let (device, written) = c.close-device.result in
    let settled = c.settle_chairs.ensures in
    let parts = c.parted-room.ensures in
    let done = c.close-device.ensures in
    let seats = c.parted-room.result.seats.items in
    let chairs = c.settle_chairs.new.chairs in
    record {
      leaves = (
        seats,
        left_so (λ d. d.seat) seats chairs.items c.args.ended.clients.items parts.seats settled.seats,
        subst (λ f. LeavesCommits past_of g.B.Group.site.opened seats f.publications f.published.horizon device written) settled.same done.leaves,
        parts.marks ∙ marks_are (λ d. d.seat) seats chairs.items parts.seats,
      );
      goes = subst (λ f. IsLaterPast (past_of (device_of f.writer)) (past_of device)) settled.same done.goes;
      seen = settled.seen;
      marked = settled.marked;
      why = subst (λ f. IfErr written (WhyRestUnwritten (has_failed f.writer) (failures (device_of f.writer)) (failures device))) settled.same done.why;
      sound = subst (λ f. OnOk written (has_failed f.writer ≡ false)) settled.same done.sound;
      quiet = subst (λ f. OnOk written (failures device ≡ failures (device_of f.writer))) settled.same done.quiet;
      later = subst (λ f. failures (device_of f.writer) ≤ failures device) settled.same done.later;
      built = refl;
      clients = c.parted-room.result.clients.ok.0 ∙ (ap length parts.clients ∙ (length-map chairs.items (λ d. d.client) ∙ (sym chairs.ok.0 ∙ settled.len)));
      order = parts.clients ∙ settled.clients;
    }
