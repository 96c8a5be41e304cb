use Rattle.std.proofs.Common.{arith, sym, subst, ◌∙◌, ◌≤◌, ℕ, IfSome}
use Rattle.store_writer.specs.Parts.{device_of, halves_of, has_failed, synced_of}
use Rattle.nsf.specs.Part.{popped_by}
use Rattle.headline.specs.Seats.{IsUnwritten}
use Rattle.headline.proofs.Opened.{held, held_all, refused_so}
use Rattle.headline.proofs.closed.finish_and_open.Goals as goal

pub returns-in-Ok-clause-holds : goal.returns-in-Ok-clause-holds
returns-in-Ok-clause-holds g c =
    let flush = c.args.parts.flush in
    held g.D.Device.past_of g.B.Group.site.opened (halves_of flush.writer).geometry c.args.parts.seats.items (popped_by flush)
    (synced_of flush.writer) c.finish_device-device.result.0 c.stop_now.new.self c.stop_now.ensures.found
    c.finish_device-device.ensures.some c.one_answer.ensures.geometry c.one_answer.ensures.given c.args.acks.items
    c.finish_device-device.ensures.acked c.in-Ok.engine c.in-Ok.ensures.opened

pub returns-in-Ok-clause-whole : goal.returns-in-Ok-clause-whole
returns-in-Ok-clause-whole g c = λ none.
    let flush = c.args.parts.flush in
    held_all g.D.Device.past_of g.B.Group.site.opened.given.table (halves_of flush.writer).geometry c.args.parts.seats.items
    c.finish_device-device.result.0 c.stop_now.new.self c.stop_now.ensures.found (c.finish_device-device.ensures.all none) c.one_answer.ensures.given
    c.in-Ok.engine c.in-Ok.ensures.opened

pub returns-in-Ok-clause-unwritten : goal.returns-in-Ok-clause-unwritten
returns-in-Ok-clause-unwritten g c =
    let w = c.args.parts.flush.writer in
    subst (λ (now : ℕ). IfSome c.finish_device-device.result.1 (IsUnwritten (has_failed w) (g.D.Device.failures (device_of w)) now))
    (sym (c.in-Ok.ensures.quiet ∙ c.stop_now.ensures.failures)) c.finish_device-device.ensures.why

pub returns-in-Err-clause-refused : goal.returns-in-Err-clause-refused
returns-in-Err-clause-refused g c =
    let flush = c.args.parts.flush in
    let f = g.D.Device.failures in
    let low : f (device_of flush.writer) ≤ f c.stop_now.new.self = omega (arith, c.finish_device-device.ensures.later, c.stop_now.ensures.failures) in
    refused_so g.D.Device.past_of g.B.Group.site.opened (halves_of flush.writer).geometry c.args.parts.seats.items (popped_by flush)
    (synced_of flush.writer) c.finish_device-device.result.0 c.stop_now.new.self c.stop_now.ensures.found
    c.finish_device-device.ensures.some c.one_answer.ensures.readable f (f (device_of flush.writer)) low c.in-Err.refused.1 c.in-Err.refused.0
    c.in-Err.ensures.refused

pub returns-in-Err-clause-later : goal.returns-in-Err-clause-later
returns-in-Err-clause-later g c =
    omega (arith, c.finish_device-device.ensures.later, c.stop_now.ensures.failures, c.in-Err.ensures.refused.later)
