use Rattle.std.proofs.Common.{◌∙◌, refl, sym}
use Rattle.std.proofs.lemmas.Bool.{false≢true}
use Rattle.shared.proofs.Ready.{ready_active}
use Rattle.shared.proofs.shared.Shared.delete_if_ready.Goals as goal

pub returns-then-not-ready : goal.returns-then-not-ready
returns-then-not-ready g c = record {
  unready = λ _. refl;
  served = λ ready. absurd (false≢true (c.if-not-ready.ensures ∙ ready));
  place = tt;
  changed = tt;
  row = tt;
  rest = tt;
  refused = refl;
  seat = refl;
}

pub delete-requires : goal.delete-requires
delete-requires g c = λ _. sym c.if-not-ready.ensures

pub returns : goal.returns
returns g c = record {
  unready = λ none. absurd (false≢true (sym none ∙ sym c.if-not-ready.ensures));
  served = λ ready. c.delete.ensures.served (ready_active c.args.seat.now.session c.args.txn ready);
  place = c.delete.ensures.place;
  changed = c.delete.ensures.changed;
  row = c.delete.ensures.row;
  rest = c.delete.ensures.rest;
  refused = c.delete.ensures.refused;
  seat = c.delete.ensures.seat;
}
