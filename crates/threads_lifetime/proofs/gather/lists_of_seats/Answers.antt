use Rattle.std.proofs.Common.{List, ap, map-id, ◌∙◌, sym, ◌++◌, ◌∷◌, []}
use Rattle.std.proofs.lemmas.Iterator.Adapters.{YieldsList-from_vec}
use Rattle.std.proofs.lemmas.Iterator.Consumers.{YieldsList-end}
use Rattle.std.proofs.lemmas.Result.{err_from_is_err_and}
use Rattle.threads_sessions.specs.Values.{CommitValue, SessionValue}
use Rattle.shared.specs.Seats.{SeatValue}
use Rattle.std.specs.Prelude.{reverse}
use Rattle.std.specs.declared.vec.Vec.{Vec}
use Rattle.threads_lifetime.specs.Gathered.{commits_of, lists_of, sessions_of}
use Rattle.threads_lifetime.proofs.Lists.{map_more}
use Rattle.threads_lifetime.proofs.gather.lists_of_seats.Goals as goal

pub loop-seat-preserved : goal.loop-seat-preserved
loop-seat-preserved g c =
    let was = c.loop-seat.invariant in
    let commits = c.reversed.ensures in record {
      can = tt;
      finite = tt;
      lists =
          ap lists_of c.in_ok-push.ensures.items
          ∙ (map_more (λ (v : Vec CommitValue _). reverse v.items) c.loop-seat.lists.items c.reversed.result
          ∙ ((λ i. was.lists i ++ commits i ∷ [])
          ∙ sym (ap commits_of (map_more (λ (s : SeatValue). s.session) c.loop-seat.yielded c.in-Some.seat)
          ∙ map_more (λ (s : SessionValue). s.commits) (sessions_of c.loop-seat.yielded) c.in-Some.seat.session)));
    }

pub returns-in_err-lists : goal.returns-in_err-lists
returns-in_err-lists g c =
    let p = err_from_is_err_and c.from_residual.result c.from_residual.ensures.1 in
    rw p.1 (record { lists = tt; no_memory = p.2 })

pub returns-in_err-push : goal.returns-in_err-push
returns-in_err-push g c =
    let p = err_from_is_err_and c.from_residual-in_err-push.result c.from_residual-in_err-push.ensures.1 in
    rw p.1 (record { lists = tt; no_memory = p.2 })

pub loop-seat-init : goal.loop-seat-init
loop-seat-init g c = record { can = tt; finite = tt; lists = ap lists_of c.in_ok-lists.ensures.items }

pub returns : goal.returns
returns g c =
    let gives = c.into_iter-seat-iterator.ensures.into_iter_gives in
    let all = YieldsList-end (YieldsList-from_vec {s = c.into_iter-seat-iterator.result} c.args.seats.items gives.0 (gives.1 ∙ c.args.seats.ok.0))
    c.loop-seat.yielded c.loop-seat.seat-iterator c.loop-seat.yielded_by c.next.result c.next.new.self c.in-None.is c.next.ensures.steps in
    record {
      lists = c.loop-seat.invariant.lists ∙ ap (λ (l : List SeatValue). commits_of (sessions_of l)) (sym (map-id c.loop-seat.yielded) ∙ all.0);
      no_memory = tt;
    }
