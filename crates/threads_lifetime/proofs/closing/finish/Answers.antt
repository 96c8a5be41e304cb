use Rattle.std.proofs.Common.{◌≡◌, ◌≤◌, ◌∙◌, ℕ, IfSome, List, arith, length, map, ap, refl, subst, sym, take}
use Rattle.nsf_core.specs.Value.{value_of}
use Rattle.locked_core.specs.Locked.{LockedValue, locked_of}
use Rattle.threads_sessions.specs.Values.{CommitValue}
use Rattle.shared.specs.Seats.{SeatValue}
use Rattle.threads_register.specs.Register.{AreAllCommits}
use Rattle.store_writer.specs.Parts.{device_of, halves_of, synced_of}
use Rattle.threads_flusher.specs.Part.{FlushValue, popped_by}
use Rattle.threads_lifetime.specs.Gathered.{sessions_of}
use Rattle.threads_lifetime.specs.Written.{WritesOn}
use Rattle.threads_lifetime.proofs.Ending.{book_is, closed_at_end, failed_at_end, horizon_closed, kept_at_end, left_at_end}
use Rattle.threads_lifetime.proofs.closing.finish.Goals as goal

pub returns-in-Ok : goal.returns-in-Ok
returns-in-Ok g c =
    let past_of = g.D.Device.past_of in
    let failures = g.D.Device.failures in
    let z = g.B.Group.site in
    let old = c.args.parts.flush in
    let f = c.close.new.flush in
    let seats = c.args.parts.seats.items in
    let under = c.close.new.locked in
    let l = locked_of under in
    let first = (locked_of c.into_parts-locked.result.0).book in
    let same = c.close.ensures.book ∙ ap (λ (x : LockedValue). x.book) c.compare_all.ensures.same in
    let book = book_is z.seats first l.book under.book.items seats under.seats refl same c.requires.seats c.compare_all.ensures.seen in
    let popped : popped_by old ≡ take (length (popped_by old)) l.pushed =
    subst (λ (x : FlushValue _ _). popped_by x ≡ take (length (popped_by x)) l.pushed) c.settle_all.ensures.same c.close.ensures.popped in
    let writes : WritesOn past_of failures z.opened old f =
    subst (λ (x : FlushValue _ _). WritesOn past_of failures z.opened x f) c.settle_all.ensures.same c.close.ensures.writes in
    let core = c.into_parts-core.ensures.core in
    let is = c.in-Ok.ensures in
    let last = c.each_hold.ensures.last in
    let device = c.into_parts-device.ensures.device in
    let from = subst (λ (ss : List SeatValue). IfSome c.in-Ok.commits (λ v. (count : ℕ) (all : AreAllCommits (sessions_of ss) count)
    → v.items ≡ map (λ (e : ℕ × CommitValue). e.1) all.commits)) c.compare_all.ensures.seats is.gathered in
    record {
      closed = closed_at_end past_of failures z.opened seats l book under.shared
          (popped_by old) popped old f writes c.into_parts-device.result.0 device
          (value_of c.into_parts-core.result.0) core is.none_waits
          last c.each_hold.ensures.cells is.all is.synced c.into_parts-device.ensures.images c.in-Ok.commits from;
      given = is.given;
      horizon = c.synced-horizon.ensures ∙ horizon_closed past_of z.opened seats l book under.shared (popped_by old) popped
          (value_of c.into_parts-core.result.0) core is.none_waits last (halves_of f.writer).geometry f.handed (synced_of f.writer) is.all is.synced;
      acks = λ k ack within. omega (arith, c.settle_all.ensures.reached k ack within, writes.rises, c.synced-horizon.ensures);
      acked = c.settle_all.ensures.reached;
      images = left_at_end past_of failures z.opened seats l book under.shared
          (popped_by old) popped old f writes c.into_parts-device.result.0 device c.close.ensures.beginning;
      left = tt;
      published = kept_at_end past_of failures z.opened seats l book under.shared
          (popped_by old) popped old f writes c.into_parts-device.result.0 device c.stands.ensures c.close.ensures.beginning;
      still = tt;
      reached = c.settle_all.ensures.horizon;
      sound = writes.stays is.sound;
      quiet = ap failures device ∙ writes.quiet is.sound;
      err = tt;
      later = tt;
    }

pub returns-in-Err : goal.returns-in-Err
returns-in-Err g c =
    let past_of = g.D.Device.past_of in
    let failures = g.D.Device.failures in
    let z = g.B.Group.site in
    let old = c.args.parts.flush in
    let f = c.close.new.flush in
    let seats = c.args.parts.seats.items in
    let under = c.close.new.locked in
    let l = locked_of under in
    let first = (locked_of c.into_parts-locked.result.0).book in
    let same = c.close.ensures.book ∙ ap (λ (x : LockedValue). x.book) c.compare_all.ensures.same in
    let book = book_is z.seats first l.book under.book.items seats under.seats refl same c.requires.seats c.compare_all.ensures.seen in
    let popped : popped_by old ≡ take (length (popped_by old)) l.pushed =
    subst (λ (x : FlushValue _ _). popped_by x ≡ take (length (popped_by x)) l.pushed) c.settle_all.ensures.same c.close.ensures.popped in
    let writes : WritesOn past_of failures z.opened old f =
    subst (λ (x : FlushValue _ _). WritesOn past_of failures z.opened x f) c.settle_all.ensures.same c.close.ensures.writes in
    let device = c.into_parts-rest.ensures.device in
    record {
      closed = tt;
      given = tt;
      horizon = tt;
      acks = tt;
      acked = c.settle_all.ensures.reached;
      images = tt;
      left = left_at_end past_of failures z.opened seats l book under.shared
          (popped_by old) popped old f writes c.into_parts-rest.result.0 device c.close.ensures.beginning;
      published = tt;
      still = kept_at_end past_of failures z.opened seats l book under.shared
          (popped_by old) popped old f writes c.into_parts-rest.result.0 device c.stands.ensures c.close.ensures.beginning;
      reached = c.settle_all.ensures.horizon;
      sound = tt;
      quiet = tt;
      err = failed_at_end past_of failures z.opened seats l book under.shared
          (popped_by old) popped old f writes c.into_parts-rest.result.0 device c.in-Err.error c.told-why.result c.in-Err.ensures.err
          c.told-why.ensures.failed c.told-why.ensures.sound;
      later = subst (λ d. failures (device_of old.writer) ≤ failures d) (sym device) writes.later;
    }
