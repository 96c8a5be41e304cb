use Rattle.std.proofs.Common.{All, ◌≤◌, ◌∙◌, ap, arith, map-id, refl, subst, sym}
use Rattle.std.proofs.lemmas.Iterator.Adapters.{YieldsList-from_vec}
use Rattle.std.proofs.lemmas.Iterator.Consumers.{YieldsList-end}
use Rattle.std.proofs.lemmas.List.Elements.{All-nil, All-push}
use Rattle.shared.specs.Seats.{AckValue}
use Rattle.store_writer.specs.Parts.{synced_of}
use Rattle.threads_flusher.specs.Part.{FlushValue}
use Rattle.threads_lifetime.proofs.closing.settle_all.Goals as goal

pub settle-requires : goal.settle-requires
settle-requires g c = record { board = c.requires.board; view = c.into_view.ensures.board ∙ sym c.requires.board }

pub loop-ack-preserved : goal.loop-ack-preserved
loop-ack-preserved g c =
    let was = c.loop-ack.invariant in
    let old = c.args.flush.now in
    let ack = c.in-Some.ack in
    record {
      can = tt;
      finite = tt;
      same = c.settle.ensures.same ∙ was.same;
      horizon = All-push (λ (a : AckValue). a.ticket.«record» ≤ old.published.horizon) c.loop-ack.yielded ack was.horizon
          (omega (arith, c.into_view.ensures.reached, c.settle.ensures.horizon, ap (λ (f : FlushValue _ _). f.published.horizon) was.same));
      reached = All-push (λ (a : AckValue). a.ticket.«record» ≤ synced_of old.writer) c.loop-ack.yielded ack was.reached
          (omega (arith, c.into_view.ensures.reached, c.settle.ensures.synced, ap (λ (f : FlushValue _ _). synced_of f.writer) was.same));
    }

pub loop-ack-init : goal.loop-ack-init
loop-ack-init g c = record {
  can = tt;
  finite = tt;
  same = refl;
  horizon = All-nil (λ (a : AckValue). a.ticket.«record» ≤ c.args.flush.now.published.horizon);
  reached = All-nil (λ (a : AckValue). a.ticket.«record» ≤ synced_of c.args.flush.now.writer);
}

pub returns : goal.returns
returns g c =
    let was = c.loop-ack.invariant in
    let old = c.args.flush.now in
    let gives = c.into_iter-ack-iterator.ensures.into_iter_gives in
    let all = YieldsList-end (YieldsList-from_vec {s = c.into_iter-ack-iterator.result} c.args.acks.items gives.0 (gives.1 ∙ c.args.acks.ok.0))
    c.loop-ack.yielded c.loop-ack.ack-iterator c.loop-ack.yielded_by c.next.result c.next.new.self c.in-None.is c.next.ensures.steps in
    let same = sym (map-id c.loop-ack.yielded) ∙ all.0 in
    record {
      same = was.same;
      horizon = subst (All (λ (a : AckValue). a.ticket.«record» ≤ old.published.horizon)) same was.horizon;
      reached = subst (All (λ (a : AckValue). a.ticket.«record» ≤ synced_of old.writer)) same was.reached;
    }
