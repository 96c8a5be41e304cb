use Rattle.std.proofs.Common.{◌∙◌, refl, sym}
use Rattle.std.proofs.lemmas.Bool.{false≢true}
use Rattle.threads_sessions.specs.Steps.{committed}
use Rattle.shared.proofs.Ready.{ready_active}
use Rattle.shared.proofs.SameSeat.{session_alone}
use Rattle.shared.proofs.shared.Shared.commit_if_ready.Goals as goal

pub returns-then-not-ready : goal.returns-then-not-ready
returns-then-not-ready g c = record {
  unready = λ _. refl;
  served = λ ready. absurd (false≢true (c.if-not-ready.ensures ∙ ready));
  ok = tt;
  refused = refl;
  seat = refl;
}

pub commit-requires : goal.commit-requires
commit-requires g c = λ _. sym c.if-not-ready.ensures

pub returns : goal.returns
returns g c = record {
  unready = λ none. absurd (false≢true (sym none ∙ sym c.if-not-ready.ensures));
  served = λ ready. c.commit.ensures.served (ready_active c.args.seat.now.session c.args.txn ready);
  ok = c.commit.ensures.ok;
  refused = c.commit.ensures.refused;
  seat = session_alone c.commit.result c.args.seat.now c.commit.new.seat (λ ticket.
      committed c.args.seat.now.session c.args.txn ticket) c.commit.ensures.ok c.commit.ensures.refused;
}
