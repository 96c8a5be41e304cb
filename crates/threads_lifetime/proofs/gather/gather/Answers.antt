use Rattle.std.proofs.Common.{refl, ap, ◌∙◌, sym, arith, length, ◌+◌, ◌≡◌}
use Rattle.std.proofs.lemmas.Result.{err_from_is_err_and}
use Rattle.threads_lifetime.specs.Gathered.{lists_of}
use Rattle.threads_lifetime.proofs.Lists.{set_count}
use Rattle.threads_lifetime.proofs.Gathering.{moved, none_left, one_more, starts}
use Rattle.threads_lifetime.proofs.gather.gather.Goals as goal

pub loop-init : goal.loop-init
loop-init g c = λ book count is all.
    moved _ _ _ _ _ _ _ all.commits refl refl (sym c.new-gathered.ensures.items)
    (starts _ (lists_of c.args.lists.items) book count all (omega (arith, c.new-gathered.ensures.len)) is)

pub loop-preserved : goal.loop-preserved
loop-preserved g c =
    let t = c.in-Some-take_next.ensures.some in
    let same : length (lists_of c.take_next.new.lists.items) ≡ length (lists_of c.loop.lists.items) = ap length t.left
    ∙ set_count (lists_of c.loop.lists.items) t.k t.rest in
    λ book count is all.
    moved _ _ _ _ _ _ _ all.commits (sym same) (omega (arith, c.len.ensures, c.in_ok-push-in-Some-take_next.ensures.len))
    (sym c.in_ok-push-in-Some-take_next.ensures.items)
    (one_more _ _ _ _ c.loop.gathered.items all.commits _
    (moved _ _ _ _ _ _ _ all.commits refl (omega (arith, c.len.ensures)) refl (c.loop.invariant book count is all)) t)

pub returns-in_err-push-in-Some-take_next : goal.returns-in_err-push-in-Some-take_next
returns-in_err-push-in-Some-take_next g c =
    let p = err_from_is_err_and c.from_residual.result c.from_residual.ensures.1 in
    rw p.1 (record { ok = tt; no_memory = p.2 })

pub returns-in-None-take_next : goal.returns-in-None-take_next
returns-in-None-take_next g c = record {
  ok = λ book count is all.
      none_left (c.len.result + 1) (lists_of c.loop.lists.items) c.loop.gathered.items all.commits
      (moved _ _ _ _ _ _ _ all.commits refl (omega (arith, c.len.ensures)) refl (c.loop.invariant book count is all)) c.in-None-take_next.ensures.none;
  no_memory = tt;
}
