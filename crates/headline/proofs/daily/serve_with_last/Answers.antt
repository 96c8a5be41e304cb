use Rattle.std.proofs.Common.{◌++◌, ◌∷◌, [], List, is_ok, sym, ap, ◌∙◌, subst, false, true, ◌≡◌, arith}
use Rattle.std.proofs.lemmas.Bool.{false≢true}
use Rattle.restart.specs.declared.event.Reply.{Reply}
use Rattle.headline.proofs.Lawful.{lawful_even}
use Rattle.headline.proofs.daily.serve_with_last.Goals as goal

pub unreachable-requires : goal.unreachable-requires
unreachable-requires g c =
    let even = lawful_even g.D.Device.failures c.args.events.now c.in_ok-first.first.items c.args.engine.now c.run.new.self c.in_ok-first.ensures.lawful in
    let ok = c.append.ensures.succeeds (omega (arith, even, c.in_ok-replies.ensures.exact, c.in_ok-replies.ensures.len, c.in_ok-first.first.ok.0)) in
    let bad : false ≡ true = sym (ap is_ok c.in_default.is) ∙ ok in
    false≢true bad

pub push_reserved-requires : goal.push_reserved-requires
push_reserved-requires g c =
    let even = lawful_even g.D.Device.failures c.args.events.now c.in_ok-first.first.items c.args.engine.now c.run.new.self c.in_ok-first.ensures.lawful in
    omega (
      arith,
      even,
      c.in_ok-replies.ensures.exact,
      c.in_ok-replies.ensures.len,
      c.in_ok-first.first.ok.0,
      c.in-Ok.ensures.len,
      c.append.ensures.capacity,
    )

pub returns-clause-served : goal.returns-clause-served
returns-clause-served g c = record {
  first = c.in_ok-first.first.items;
  reply = c.serve-reply.result;
  all =
      c.push_reserved.ensures.items ∙ ap (λ (l : List (Reply _)). l ++ c.serve-reply.result ∷ [])
      (c.in-Ok.ensures.items ∙ ap (λ (l : List (Reply _)). l ++ c.in_ok-first.first.items) c.in_ok-replies.ensures.items);
  mid = c.run.new.self;
  lawful = c.in_ok-first.ensures.lawful;
  runs = c.in_ok-first.ensures.ran;
  marked = subst (λ d. g.D.Device.marks c.mark-since.result (g.D.Device.past_of d).moment) c.device.ensures.device c.mark-since.ensures;
  lawful_last = c.serve-reply.ensures.lawful;
  serves = c.serve-reply.ensures.serves;
}
