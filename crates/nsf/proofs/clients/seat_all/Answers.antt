use Rattle.std.proofs.Common.{List, ap, arith, inl, inr, map, refl, subst, sym, ◌++◌, ◌∙◌, ◌≤◌}
use Rattle.std.proofs.lemmas.List.Elements.{All-weaker}
use Rattle.threads_lifetime.specs.Gathered.{AreAllSeats}
use Rattle.shared.specs.Seats.{SeatValue}
use Rattle.sector_device.specs.DevicePast.{LeavesOnly}
use Rattle.store_writer.specs.Parts.{device_of, has_failed, synced_of}
use Rattle.threads_flusher.specs.Part.{IsKept, IsSafeSince, Publication}
use Rattle.threads_lifetime.specs.Closing.{GivesSome}
use Rattle.nsf.specs.Serving.{HasRoom, HaveWorked, IsLaterPast, TellsBuild}
use Rattle.nsf.proofs.Orders.{all_left, all_new, all_worked, each_left, new_session, new_unused}
use Rattle.nsf.proofs.Published.{behind_first, since_first, since_newest}
use Rattle.nsf.proofs.Refusals.{quiet_since, unwritten_since}
use Rattle.nsf.proofs.clients.seat_all.Goals as goal

pub end-requires : goal.end-requires
end-requires g c =
    let z = g.B.Group.site in
    let len = sym c.in-Ok-run_all.ensures.len in
    record {
      seats =
          all_left (λ d. d.seat) z.seats c.in-Ok.chairs c.in-Ok-run_all.ended.clients
          (subst (λ (items : List SeatValue). AreAllSeats z.seats items) (sym c.in-Ok.ensures.seats)
          (all_new z.board z.seats c.args.parts.seats.items c.requires.seats))
          c.in-Ok-run_all.ensures.len (λ k d within. (c.in-Ok-run_all.ensures.seats k d within).number);
      room = subst (HasRoom c.in-Ok.room.clients) len c.in-Ok.ensures.room;
      places = subst (HasRoom c.in-Ok.room.seats) len c.in-Ok.ensures.places;
      marks = subst (HasRoom c.in-Ok.room.marks) len c.in-Ok.ensures.marks;
    }

pub returns-in-Ok-run_all : goal.returns-in-Ok-run_all
returns-in-Ok-run_all g c =
    let ended = c.end.ensures in
    record {
      leaves =
          let works = g.C.Client.works in
          let past_of = g.D.Device.past_of in
          let z = g.B.Group.site in
          let o = z.opened in
          let w = c.args.parts.flush.writer in
          let mid = c.in-Ok-run_all.ended.flush in
          let floor = mid.published.horizon in
          let going = c.in-Ok-run_all.ensures.going in
          let new = c.requires.flush in
          let left = ended.leaves in
          let leaves = left.2 in
          let publications = going.publications ∙ ap (λ l. l ++ going.since) new.publications in
          let before : IsLaterPast (past_of (device_of w)) (past_of (device_of mid.writer)) =
          record { later = going.images.later; kept = going.images.kept } in (
            record {
              seats = left.0;
              publications = mid.publications;
              floor = floor;
              leaves = leaves;
              since =
                  subst (λ n. LeavesOnly (past_of (device_of w)) (past_of c.end.result.device)
                  (λ image. ∥ GivesSome o leaves.geometry left.0 leaves.popped n image ∥₁)) new.synced
                  (since_first (λ n image. ∥ GivesSome o leaves.geometry left.0 leaves.popped n image ∥₁) (past_of (device_of w))
                  (past_of (device_of mid.writer)) (past_of c.end.result.device) mid.publications going.since (synced_of w)
                  publications leaves.published before ended.goes);
              worked =
                  subst (λ (clients : List _). HaveWorked works floor clients c.end.result.clients.items left.0) c.in-Ok.ensures.order
                  (subst (λ (after : List _). HaveWorked works floor (map (λ d. d.client) c.in-Ok.chairs.items) after left.0) (sym ended.order)
                  (all_worked (λ d. d.client) (λ d. d.seat) works floor c.in-Ok.chairs c.in-Ok-run_all.ended.clients left.0 c.in-Ok-run_all.ensures.len
                  left.1 (new_session (λ d. d.seat) z.board z.seats c.args.parts.seats.items c.in-Ok.chairs.items c.in-Ok.ensures.seats c.requires.seats)
                  (new_unused (λ d. d.seat) z.board z.seats c.args.parts.seats.items c.in-Ok.chairs.items c.in-Ok.ensures.seats c.requires.seats)
                  c.in-Ok-run_all.ensures.worked ended.seen));
              behind = behind_first (synced_of w) (past_of (device_of w)).moment mid.publications going.since publications going.behind;
              marked = each_left (λ d. d.seat) (IsSafeSince g.D.Device.marks mid.publications) c.in-Ok-run_all.ended.clients.items left.0 left.1 ended.marked;
            },
            left.3,
            record {
              was = device_of mid.writer;
              shows = (c.device.result, c.see-seen.ensures, c.device.ensures);
              before = before;
              since = since_newest (λ n image. ∥ GivesSome o leaves.geometry left.0 leaves.popped n image ∥₁) (past_of (device_of mid.writer))
                  (past_of c.end.result.device) mid.publications floor leaves.newest
                  (All-weaker (IsKept past_of o mid) (λ (p : Publication). p.moment ≤ (past_of (device_of mid.writer)).moment) (λ p kept. kept.1.later)
                  mid.publications c.stands.ensures.kept)
                  leaves.published ended.goes;
            },
          );
      told = subst (TellsBuild g.B.Group.site.opened) (sym ended.built) c.in-Ok-run_all.ensures.told;
      why =
          let failures = g.D.Device.failures in
          let old = c.args.parts.flush.writer in
          let mid = c.in-Ok-run_all.ended.flush.writer in
          let going = c.in-Ok-run_all.ensures.going in
          unwritten_since (has_failed old) (has_failed mid) (failures (device_of old)) (failures (device_of mid)) (failures c.end.result.device)
          c.requires.flush.sound going.later going.counted going.quiet c.end.result.written ended.why ended.later;
      quiet =
          let failures = g.D.Device.failures in
          let mid = c.in-Ok-run_all.ended.flush.writer in
          quiet_since (has_failed mid) (failures (device_of c.args.parts.flush.writer)) (failures (device_of mid)) (failures c.end.result.device)
          c.in-Ok-run_all.ensures.going.quiet c.end.result.written ended.sound ended.quiet;
      later = omega (arith, c.in-Ok-run_all.ensures.going.later, ended.later);
      clients = ended.clients ∙ c.in-Ok-run_all.ensures.len ∙ c.in-Ok.ensures.clients;
      refused = tt;
    }

pub returns-in-Err-run_all : goal.returns-in-Err-run_all
returns-in-Err-run_all g c = record {
  leaves = tt;
  told = tt;
  why = tt;
  quiet = tt;
  later = tt;
  clients = tt;
  refused = (inr refl, c.let_go.ensures.device ∙ ap (λ f. device_of f.writer) c.in-Err-run_all.ensures.back);
}

pub returns-in-Err : goal.returns-in-Err
returns-in-Err g c = record {
  leaves = tt;
  told = tt;
  why = tt;
  quiet = tt;
  later = tt;
  clients = tt;
  refused = (inl refl, c.let_go-in-Err.ensures.device);
}
