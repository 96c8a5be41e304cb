use Rattle.std.proofs.Common.{◌≡◌, ◌≤◌, length, take, vec_capacity}
use Rattle.restart.specs.Lawful.{AreLawful}
use Rattle.restart.specs.Store.{Past, IsAt, GoesOn, AreServed, KeepsAround, KeepsSectors, HaveNoCopy}
use Rattle.restart.proofs.engine.Engine.run.Given as goal

abbrev pub invariant-loop-event : goal.invariant-loop-event
invariant-loop-event g l =
    let past_of = g.D.Device.past_of in
    record {
      even : length l.replies.items ≡ l.event-index;
      room : length l.events ≤ vec_capacity l.replies;
      lawful : AreLawful g.D.Device.failures (take l.event-index l.events) l.replies.items l.fn.self l.self;
      served : (past : Past _) → IsAt past_of past l.fn.self
          → AreServed past_of g.D.Device.failures past (take l.event-index l.events) l.replies.items l.fn.self l.self;
      around : HaveNoCopy (take l.event-index l.events) → KeepsAround past_of l.fn.self l.self;
      sectors : KeepsSectors past_of l.fn.self l.self;
      ran : (past : Past _) → IsAt past_of past l.fn.self → GoesOn past_of past (take l.event-index l.events) l.replies.items l.fn.self l.self;
    }
