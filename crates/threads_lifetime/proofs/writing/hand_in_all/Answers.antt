use Rattle.std.proofs.Common.{◌≡◌, ◌+◌, ◌++◌, ◌∙◌, [], Err, ap, length, refl, sym}
use Rattle.std.proofs.lemmas.Result.{err_from_is_err_and}
use Rattle.locked_core.specs.Locked.{LockedValue, locked_of}
use Rattle.store_writer.specs.Parts.{halves_of}
use Rattle.threads_flusher.specs.Part.{FlushValue, popped_by}
use Rattle.threads_lifetime.proofs.Going.{took_in, took_more, took_then}
use Rattle.threads_lifetime.proofs.Taking.{begins_all, begins_as, begins_by, begins_more, begins_under}
use Rattle.threads_lifetime.proofs.writing.hand_in_all.Goals as goal

-- ---- before the rounds

pub returns-in_err-hand_in : goal.returns-in_err-hand_in
returns-in_err-hand_in g c =
    let old = c.args.flush.now in
    let new = c.hand_in.new.self in
    let before = locked_of c.args.locked.now in
    let now = locked_of c.hand_in.new.locked in
    let is = c.hand_in.ensures in
    let pushed = ap (λ (l : LockedValue). l.pushed) is.locked in
    let p = err_from_is_err_and c.from_residual.result c.from_residual.ensures.1 in
    rw (p.1 ∙ ap Err p.2) (record {
      taken = took_in old new c.hand_in.result is.published is.handed is.got is.kept is.still;
      beginning = begins_by old new before.pushed now.pushed c.hand_in.result is.handed is.kept is.beginning pushed;
      popped = begins_under (popped_by old) before.pushed now.pushed pushed is.beginning;
      all = tt;
      none_waits = tt;
      book = ap (λ (l : LockedValue). l.book) is.locked;
      no_memory = c.in_err-hand_in.ensures.no_memory;
    })

pub returns-then-not-push_outbox : goal.returns-then-not-push_outbox
returns-then-not-push_outbox g c =
    let old = c.args.flush.now in
    let new = c.hand_in.new.self in
    let before = locked_of c.args.locked.now in
    let was = locked_of c.hand_in.new.locked in
    let now = locked_of c.push_outbox.new.self in
    let is = c.hand_in.ensures in
    let hands = c.push_outbox.ensures.pushed in
    let pushed = ap (λ (l : LockedValue). l.pushed) is.locked in
    record {
      taken = took_in old new c.hand_in.result is.published is.handed is.got is.kept is.still;
      beginning = begins_more new.handed was.pushed now.pushed hands.handed
          (begins_by old new before.pushed was.pushed c.hand_in.result is.handed is.kept is.beginning pushed) hands.taken;
      popped = begins_more (popped_by old) was.pushed now.pushed hands.handed
          (begins_under (popped_by old) before.pushed was.pushed pushed is.beginning) hands.taken;
      all = tt;
      none_waits = tt;
      book = c.push_outbox.ensures.book ∙ ap (λ (l : LockedValue). l.book) is.locked;
      no_memory = refl;
    }

pub returns-in_err-chunk : goal.returns-in_err-chunk
returns-in_err-chunk g c =
    let old = c.args.flush.now in
    let new = c.hand_in.new.self in
    let before = locked_of c.args.locked.now in
    let was = locked_of c.hand_in.new.locked in
    let now = locked_of c.push_outbox.new.self in
    let is = c.hand_in.ensures in
    let hands = c.push_outbox.ensures.pushed in
    let pushed = ap (λ (l : LockedValue). l.pushed) is.locked in
    let p = err_from_is_err_and c.from_residual-in_err-chunk.result c.from_residual-in_err-chunk.ensures.1 in
    rw (p.1 ∙ ap Err p.2) (record {
      taken = took_in old new c.hand_in.result is.published is.handed is.got is.kept is.still;
      beginning = begins_more new.handed was.pushed now.pushed hands.handed
          (begins_by old new before.pushed was.pushed c.hand_in.result is.handed is.kept is.beginning pushed) hands.taken;
      popped = begins_more (popped_by old) was.pushed now.pushed hands.handed
          (begins_under (popped_by old) before.pushed was.pushed pushed is.beginning) hands.taken;
      all = tt;
      none_waits = tt;
      book = c.push_outbox.ensures.book ∙ ap (λ (l : LockedValue). l.book) is.locked;
      no_memory = c.in_err-chunk.ensures.no_memory;
    })

-- ---- the rounds

pub loop-init : goal.loop-init
loop-init g c =
    let old = c.args.flush.now in
    let new = c.hand_in.new.self in
    let before = locked_of c.args.locked.now in
    let was = locked_of c.hand_in.new.locked in
    let now = locked_of c.push_outbox.new.self in
    let is = c.hand_in.ensures in
    let hands = c.push_outbox.ensures.pushed in
    let pushed = ap (λ (l : LockedValue). l.pushed) is.locked in
    record {
      taken = took_in old new c.hand_in.result is.published is.handed is.got is.kept is.still;
      begins = begins_more new.handed was.pushed now.pushed hands.handed
          (begins_by old new before.pushed was.pushed c.hand_in.result is.handed is.kept is.beginning pushed) hands.taken;
      popped = begins_more (popped_by old) was.pushed now.pushed hands.handed
          (begins_under (popped_by old) before.pushed was.pushed pushed is.beginning) hands.taken;
      same = refl;
    }

pub loop-preserved : goal.loop-preserved
loop-preserved g c =
    let old = c.args.flush.now in
    let was = c.loop.flush in
    let mid = c.take.new.self in
    let new = c.hand_in-in-loop.new.self in
    let before = locked_of c.loop.locked in
    let now = locked_of c.hand_in-in-loop.new.locked in
    let inv = c.loop.invariant in
    let is = c.hand_in-in-loop.ensures in
    let pushed = ap (λ (l : LockedValue). l.pushed) is.locked in
    record {
      taken = took_then old was new inv.taken (took_then was mid new (took_more was mid _ c.take.ensures.takes.1)
          (took_in mid new c.hand_in-in-loop.result is.published is.handed is.got is.kept is.still));
      begins = begins_by mid new before.pushed now.pushed c.hand_in-in-loop.result is.handed is.kept is.beginning pushed;
      popped = begins_under (popped_by old) before.pushed now.pushed pushed inv.popped;
      same = is.locked ∙ inv.same;
    }

pub returns-in_err-hand_in-2 : goal.returns-in_err-hand_in-2
returns-in_err-hand_in-2 g c =
    let old = c.args.flush.now in
    let was = c.loop.flush in
    let mid = c.take.new.self in
    let new = c.hand_in-in-loop.new.self in
    let before = locked_of c.loop.locked in
    let now = locked_of c.hand_in-in-loop.new.locked in
    let inv = c.loop.invariant in
    let is = c.hand_in-in-loop.ensures in
    let pushed = ap (λ (l : LockedValue). l.pushed) is.locked in
    let p = err_from_is_err_and c.from_residual-in_err-hand_in-2.result c.from_residual-in_err-hand_in-2.ensures.1 in
    rw (p.1 ∙ ap Err p.2) (record {
      taken = took_then old was new inv.taken (took_then was mid new (took_more was mid _ c.take.ensures.takes.1)
          (took_in mid new c.hand_in-in-loop.result is.published is.handed is.got is.kept is.still));
      beginning = begins_by mid new before.pushed now.pushed c.hand_in-in-loop.result is.handed is.kept is.beginning pushed;
      popped = begins_under (popped_by old) before.pushed now.pushed pushed inv.popped;
      all = tt;
      none_waits = tt;
      book = ap (λ (l : LockedValue). l.book) (is.locked ∙ inv.same) ∙ (c.push_outbox.ensures.book ∙ ap (λ (l : LockedValue). l.book) c.hand_in.ensures.locked);
      no_memory = c.in_err-hand_in-2.ensures.no_memory;
    })

pub returns-in_err-take : goal.returns-in_err-take
returns-in_err-take g c =
    let old = c.args.flush.now in
    let was = c.loop.flush in
    let new = c.take.new.self in
    let now = locked_of c.loop.locked in
    let inv = c.loop.invariant in
    let p = err_from_is_err_and c.from_residual-in_err-take.result c.from_residual-in_err-take.ensures.1 in
    rw (p.1 ∙ ap Err p.2) (record {
      taken = took_then old was new inv.taken (took_more was new _ c.take.ensures.takes.1);
      beginning = begins_as was.handed new.handed now.pushed (ap (λ (f : FlushValue _ _). f.handed) c.take.ensures.takes.1) inv.begins;
      popped = inv.popped;
      all = tt;
      none_waits = tt;
      book = ap (λ (l : LockedValue). l.book) inv.same ∙ (c.push_outbox.ensures.book ∙ ap (λ (l : LockedValue). l.book) c.hand_in.ensures.locked);
      no_memory = c.in_err-take.ensures.no_memory;
    })

pub returns-then-all : goal.returns-then-all
returns-then-all g c =
    let was = locked_of c.push_outbox.new.self in
    let now = locked_of c.loop.locked in
    let same : now ≡ was = c.loop.invariant.same in
    let none : was.core.outbox ≡ [] = c.push_outbox.ensures.none_waits.0 c.if-not-push_outbox.false in
    let made : was.core.last ≡ g.B.Group.site.opened.given.last + length (now.pushed ++ now.core.outbox) =
    c.each_hold.ensures.last (halves_of c.loop.flush.writer).geometry
    ∙ sym (ap (λ (l : LockedValue). g.B.Group.site.opened.given.last + length (l.pushed ++ l.core.outbox)) same) in
    record {
      taken = c.loop.invariant.taken;
      beginning = c.loop.invariant.begins;
      popped = c.loop.invariant.popped;
      all = begins_all c.loop.flush.handed now.pushed now.core.outbox g.B.Group.site.opened.given.last _ c.loop.invariant.begins
          (ap (λ (l : LockedValue). l.core.outbox) same ∙ none) (c.in_ok-chunk.ensures.number ∙ made)
          (sym c.last_handed.ensures ∙ c.if-all.true);
      none_waits = ap (λ (l : LockedValue). l.core.outbox) same ∙ none;
      book = ap (λ (l : LockedValue). l.book) same ∙ (c.push_outbox.ensures.book ∙ ap (λ (l : LockedValue). l.book) c.hand_in.ensures.locked);
      no_memory = tt;
    }
