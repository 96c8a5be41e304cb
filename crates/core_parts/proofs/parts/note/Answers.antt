use Rattle.std.proofs.Common.{refl}
use Rattle.std.proofs.lemmas.Result.{err_from_is_err_and}
use Rattle.core_parts.proofs.Marking.{popped}
use Rattle.core_parts.proofs.parts.note.Goals as goal

pub returns-in_err-push_back : goal.returns-in_err-push_back
returns-in_err-push_back g c =
    let p = err_from_is_err_and c.from_residual.result c.from_residual.ensures.1 in
    rw p.1 (record { txns = tt; held = tt; outbox = tt; unchanged = (refl, c.in_err-push_back.ensures.items); no_memory = p.2 })

pub returns-in-Err : goal.returns-in-Err
returns-in-Err g c = record {
  txns = tt;
  held = tt;
  outbox = tt;
  unchanged = (
    c.in-Err.ensures.err,
    popped c.args.outbox.now.items _ _ c.args.made _ c.push_back.new.self.ok.0 c.in_ok-push_back.ensures.items c.pop_back.ensures.rest,
  );
  no_memory = c.in-Err.ensures.accepted c.requires;
}

pub returns : goal.returns
returns g c = record {
  txns = c.in_default.ensures.ok;
  held = c.in_default.ensures.held;
  outbox = c.in_ok-push_back.ensures.items;
  unchanged = tt;
  no_memory = tt;
}
