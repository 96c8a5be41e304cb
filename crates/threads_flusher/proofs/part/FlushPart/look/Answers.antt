use Rattle.std.proofs.Common.{Err, refl, sym, ap, subst, ◌∙◌}
use Rattle.std.proofs.lemmas.Result.{err_from_is_err_and}
use Rattle.locked_core.specs.Outbox.{HandsOn}
use Rattle.locked_core.specs.Locked.{LockedValue, locked_of}
use Rattle.threads_flusher.proofs.Pieces.{all_pushed, begins_with}
use Rattle.threads_flusher.proofs.Taking.{same_handed, same_published, took_in, took_more}
use Rattle.threads_flusher.proofs.part.FlushPart.look.Goals as goal

pub returns-in_err-take_to : goal.returns-in_err-take_to
returns-in_err-take_to g c =
    let is = c.in_err-take_to.ensures.takes in
    let p = err_from_is_err_and c.from_residual.result c.from_residual.ensures.1 in
    rw (p.1 ∙ ap Err p.2) (record {
      takes = took_more c.args.self.now c.take_to.new.self is.0 is.1;
      published = same_published c.args.self.now c.take_to.new.self is.0 is.1 _ refl;
      none_held = tt;
      kept = same_handed c.args.self.now c.take_to.new.self is.0 is.1 _ refl;
      beginning = tt;
      all = tt;
      no_memory = c.in_err-take_to.ensures.no_memory;
      pushed = c.push_outbox.ensures.pushed;
      book = c.push_outbox.ensures.book;
    })

pub returns-in_err-hand_in : goal.returns-in_err-hand_in
returns-in_err-hand_in g c =
    let is = c.take_to.ensures.takes in
    let made = c.hand_in.ensures in
    let l = locked_of c.args.locked.now in
    let p = err_from_is_err_and c.from_residual-in_err-hand_in.result c.from_residual-in_err-hand_in.ensures.1 in
    rw (p.1 ∙ ap Err p.2) (record {
      takes = took_in c.args.self.now c.take_to.new.self is.0 is.1 c.hand_in.new.self made.published made.publications made.copying c.hand_in.result
          made.handed made.got made.kept made.still;
      published = same_published c.args.self.now c.take_to.new.self is.0 is.1 c.hand_in.new.self.published made.published;
      none_held = tt;
      kept = same_handed c.args.self.now c.take_to.new.self is.0 is.1 c.hand_in.new.self.handed c.in_err-hand_in.ensures.kept.0;
      beginning = tt;
      all = tt;
      no_memory = c.in_err-hand_in.ensures.no_memory;
      pushed = subst (λ (now : LockedValue). HandsOn l.core now.core l.pushed now.pushed) (sym made.locked) c.push_outbox.ensures.pushed;
      book = ap (λ (now : LockedValue). now.book) made.locked ∙ c.push_outbox.ensures.book;
    })

pub returns : goal.returns
returns g c =
    let is = c.take_to.ensures.takes in
    let made = c.hand_in.ensures in
    let l = locked_of c.args.locked.now in
    let all = all_pushed _ _ _ _ _ c.in_ok-hand_in.ensures.handed.0 made.beginning (c.in_ok-take_to.ensures.all ∙ c.last_pushed-last.ensures)
    (ap (λ (now : LockedValue). now.pushed) made.locked) in
    record {
      takes = took_in c.args.self.now c.take_to.new.self is.0 is.1 c.hand_in.new.self made.published made.publications made.copying c.hand_in.result
          made.handed made.got made.kept made.still;
      published = same_published c.args.self.now c.take_to.new.self is.0 is.1 c.hand_in.new.self.published made.published;
      none_held = c.in_ok-hand_in.ensures.handed.1;
      kept = tt;
      beginning = begins_with _ _ all;
      all = all;
      no_memory = tt;
      pushed = subst (λ (now : LockedValue). HandsOn l.core now.core l.pushed now.pushed) (sym made.locked) c.push_outbox.ensures.pushed;
      book = ap (λ (now : LockedValue). now.book) made.locked ∙ c.push_outbox.ensures.book;
    }
