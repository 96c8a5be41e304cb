use Rattle.std.proofs.Common.{◌≡◌, ◌∙◌, [], ℕ, None, Some, ap, inl, inr, map, refl, subst, sym, true}
use Rattle.std.proofs.Math.Logic.{∥∥₁_map, ∥∥₁_map₂}
use Rattle.locked_core.specs.Locked.{locked_of}
use Rattle.nsf_core.specs.Value.{value_of}
use Rattle.threads_sessions.specs.Halves.{shown}
use Rattle.threads_sessions.specs.Steps.{ended}
use Rattle.threads_sessions.specs.Values.{active_of, is_ready, rows_of, SessionValue}
use Rattle.shared.specs.AtOnce.{change_of, event_of, IsLeft, with_commit}
use Rattle.shared.proofs.AtOnce.{begun_alone, begun_empty, begun_ready, fresh, was_left}
use Rattle.shared.proofs.shared.Shared.make_held.Goals as goal

some_left : (t : ℕ) → Some t ≡ None → ⊥
some_left t e = absurd cc

pub returns-in-Err : goal.returns-in-Err
returns-in-Err g c =
    let was = c.args.locked.now in
    let e = c.in-Err.error in
    let part = c.args.part.now in
    record {
      committed = tt;
      made = tt;
      refused = ∥∥₁_map was.shared (λ all. inl (record {
        core = value_of was.core;
        new = value_of c.begin.new.self.core;
        pushed = was.pusher.records;
        book = map shown was.book.items;
        shared = all;
        here = c.begin.ensures.before;
        served = (value_of c.begin.new.self.core, c.in-Err.ensures.served, refl);
      }));
      nothing_stays = λ none. c.in-Err.ensures.refused;
      left = tt;
      why_left = tt;
      number = c.begin.ensures.number;
    }

pub change_held-requires : goal.change_held-requires
change_held-requires g c =
    let was = c.args.locked.now in
    let part = c.args.part.now in
    let t = c.in-Ok.txn in
    let none : active_of t part.session.active ≡ None = fresh g.B.Group.site.opened (value_of was.core) (value_of c.begin.new.self.core) was.pusher.records
    (map shown was.book.items) part.number part.session c.begin.ensures.before t c.in-Ok.ensures.served was.shared in
    record {
      ready = subst (λ (s : SessionValue). is_ready s t ≡ true) (sym c.in-Ok.ensures.ok) (begun_ready part.session t none);
      empty = subst (λ (s : SessionValue). rows_of t s.active ≡ []) (sym c.in-Ok.ensures.ok) (begun_empty part.session t none);
    }

pub returns-in-Ok-change_held : goal.returns-in-Ok-change_held
returns-in-Ok-change_held g c =
    let was = c.args.locked.now in
    let part = c.args.part.now in
    let t = c.in-Ok.txn in
    let none : active_of t part.session.active ≡ None = fresh g.B.Group.site.opened (value_of was.core) (value_of c.begin.new.self.core) was.pusher.records
    (map shown was.book.items) part.number part.session c.begin.ensures.before t c.in-Ok.ensures.served was.shared in
    let alone : ended c.begin.new.seat.session t ≡ part.session = ap (λ (s : SessionValue). ended s t) c.in-Ok.ensures.ok ∙ begun_alone part.session t none in
    let put = c.in-Ok-change_held.made in
    record {
      committed = c.in-Ok-change_held.ensures.committed
          ∙ ap (λ (s : SessionValue). with_commit s put.ticket (change_of c.args.asked put.rid)) alone;
      made = ∥∥₁_map₂ was.shared c.in-Ok-change_held.ensures.served (λ all s. record {
        txn = t;
        steps = s.0;
        calls = record {
          core = value_of was.core;
          new = value_of c.change_held.new.locked.core;
          pushed = was.pusher.records;
          book = map shown was.book.items;
          shared = all;
          here = c.begin.ensures.before;
          served = (value_of c.begin.new.self.core, c.in-Ok.ensures.served, s.1);
        };
      });
      refused = tt;
      nothing_stays = tt;
      left = tt;
      why_left = tt;
      number = c.change_held.ensures.number ∙ c.begin.ensures.number;
    }

pub clear_held-requires : goal.clear_held-requires
clear_held-requires g c = c.in-Err-change_held.ensures.left.active

pub returns-in-Ok-clear_held : goal.returns-in-Ok-clear_held
returns-in-Ok-clear_held g c =
    let was = c.args.locked.now in
    let part = c.args.part.now in
    let t = c.in-Ok.txn in
    let none : active_of t part.session.active ≡ None = fresh g.B.Group.site.opened (value_of was.core) (value_of c.begin.new.self.core) was.pusher.records
    (map shown was.book.items) part.number part.session c.begin.ensures.before t c.in-Ok.ensures.served was.shared in
    let alone : ended c.begin.new.seat.session t ≡ part.session = ap (λ (s : SessionValue). ended s t) c.in-Ok.ensures.ok ∙ begun_alone part.session t none in
    record {
      committed = tt;
      made = tt;
      refused = ∥∥₁_map₂ was.shared c.in-Err-change_held.ensures.refused (λ all r. inr (
        t,
        r.0,
        r.1,
        record {
          core = value_of was.core;
          new = value_of c.change_held.new.locked.core;
          pushed = was.pusher.records;
          book = map shown was.book.items;
          shared = all;
          here = c.begin.ensures.before;
          served = (value_of c.begin.new.self.core, c.in-Ok.ensures.served, r.2);
        },
      ));
      nothing_stays = λ _. c.in-Ok-clear_held.ensures.cleared ∙ (c.in-Err-change_held.ensures.left.others ∙ alone);
      left = tt;
      why_left = tt;
      number = c.clear_held.ensures.number ∙ (c.change_held.ensures.number ∙ c.begin.ensures.number);
    }

pub returns-in-Err-clear_held : goal.returns-in-Err-clear_held
returns-in-Err-clear_held g c =
    let was = c.args.locked.now in
    let part = c.args.part.now in
    let t = c.in-Ok.txn in
    let none : active_of t part.session.active ≡ None = fresh g.B.Group.site.opened (value_of was.core) (value_of c.begin.new.self.core) was.pusher.records
    (map shown was.book.items) part.number part.session c.begin.ensures.before t c.in-Ok.ensures.served was.shared in
    let alone : ended c.begin.new.seat.session t ≡ part.session = ap (λ (s : SessionValue). ended s t) c.in-Ok.ensures.ok ∙ begun_alone part.session t none in
    record {
      committed = tt;
      made = tt;
      refused = ∥∥₁_map₂ was.shared c.in-Err-change_held.ensures.refused (λ all r. inr (
        t,
        r.0,
        r.1,
        record {
          core = value_of was.core;
          new = value_of c.change_held.new.locked.core;
          pushed = was.pusher.records;
          book = map shown was.book.items;
          shared = all;
          here = c.begin.ensures.before;
          served = (value_of c.begin.new.self.core, c.in-Ok.ensures.served, r.2);
        },
      ));
      nothing_stays = λ none. absurd (some_left t none);
      left = subst (λ (s : SessionValue). IsLeft s t c.clear_held.new.part.session) (c.in-Err-change_held.ensures.left.others ∙ alone)
          c.in-Err-clear_held.ensures.left;
      why_left = was_left g.B.Group.site.opened part.number part.session (event_of c.args.asked) t c.in-Err-change_held.error c.in-Err-clear_held.field-0
          (value_of was.core) (value_of c.begin.new.self.core) (locked_of c.change_held.new.locked).core (value_of c.clear_held.new.locked.core)
          was.pusher.records (map shown was.book.items) was.shared c.begin.ensures.before c.in-Ok.ensures.served c.in-Err-change_held.ensures.refused
          c.in-Err-clear_held.ensures.served;
      number = c.clear_held.ensures.number ∙ (c.change_held.ensures.number ∙ c.begin.ensures.number);
    }
