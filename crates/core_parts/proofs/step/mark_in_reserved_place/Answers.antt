use Rattle.std.proofs.Common.{ap, arith, refl, subst, ◌∙◌, ◌≡◌}
use Rattle.std.proofs.lemmas.Result.{err_from_is_err_and}
use Rattle.std.specs.Prelude.{Ok}
use Rattle.marked_index.specs.declared.index.Stepped.TheVariants.{Added, Found}
use Rattle.core_parts.proofs.Marking.{HasMarked, has_marked, has_put, popped, uses_none, uses_one}
use Rattle.core_parts.proofs.step.mark_in_reserved_place.Goals as goal
use Rattle.core_parts.proofs.step.mark_in_reserved_place.Goals.{in-Live, in-Marked}

pub returns-in_err-push_back : goal.returns-in_err-push_back
returns-in_err-push_back g c =
    let p = err_from_is_err_and c.from_residual.result c.from_residual.ensures.1 in
    rw p.1 (record { used = tt; index = tt; outbox = tt; unchanged = (refl, c.in_err-push_back.ensures.items); no_memory = p.2 })

pub txn_put-stepped-requires : goal.txn_put-stepped-requires
txn_put-stepped-requires g c = record { place = λ absent. omega (arith, c.requires, uses_one _ absent) }

pub txn_mark-stepped-requires : goal.txn_mark-stepped-requires
txn_mark-stepped-requires g c = record { place = λ absent. omega (arith, c.requires, uses_one _ absent) }

pub returns-in-Ok-Added : goal.returns-in-Ok-Added
returns-in-Ok-Added g c =
    let i = c.args.index.now in
    let put : HasMarked i c.match-mark.index c.args.pair.now c.args.mark c.match-mark.stepped =
    elim c.match-mark.branch [
      | in-Live w ↦
          let e = w.txn_put-stepped.ensures in
          rw (w.index-is, w.stepped-is, w.in-Live.is) (has_put i _ _ _ e.added e.no_memory e.unchanged e.ok)
      | in-Marked w ↦
          let e = w.txn_mark-stepped.ensures in
          rw (w.index-is, w.stepped-is, w.in-Marked.is) (has_marked i _ _ _ e.added e.no_memory e.unchanged e.ok)
    ] in
    let met : c.in-Ok-Added.field-0 ≡ Added = (rw c.in-Ok-Added.is at c.in-Ok-Added.field-0-is) in
    let is : c.match-mark.stepped ≡ Ok Added = c.in-Ok-Added.is ∙ ap Ok met in
    let done = subst (HasMarked i c.match-mark.index c.args.pair.now c.args.mark) is put in
    record { used = uses_one _ (done.added.0 refl); index = done.ok; outbox = c.in_ok-push_back.ensures.items; unchanged = tt; no_memory = tt }

pub returns-in-Ok-Found : goal.returns-in-Ok-Found
returns-in-Ok-Found g c =
    let i = c.args.index.now in
    let put : HasMarked i c.match-mark.index c.args.pair.now c.args.mark c.match-mark.stepped =
    elim c.match-mark.branch [
      | in-Live w ↦
          let e = w.txn_put-stepped.ensures in
          rw (w.index-is, w.stepped-is, w.in-Live.is) (has_put i _ _ _ e.added e.no_memory e.unchanged e.ok)
      | in-Marked w ↦
          let e = w.txn_mark-stepped.ensures in
          rw (w.index-is, w.stepped-is, w.in-Marked.is) (has_marked i _ _ _ e.added e.no_memory e.unchanged e.ok)
    ] in
    let met : c.in-Ok-Found.field-0 ≡ Found = (rw c.in-Ok-Found.is at c.in-Ok-Found.field-0-is) in
    let is : c.match-mark.stepped ≡ Ok Found = c.in-Ok-Found.is ∙ ap Ok met in
    let done = subst (HasMarked i c.match-mark.index c.args.pair.now c.args.mark) is put in
    record { used = uses_none _ done.added.1; index = done.ok; outbox = c.in_ok-push_back.ensures.items; unchanged = tt; no_memory = tt }

pub returns-in-Err : goal.returns-in-Err
returns-in-Err g c =
    let i = c.args.index.now in
    let put : HasMarked i c.match-mark.index c.args.pair.now c.args.mark c.match-mark.stepped =
    elim c.match-mark.branch [
      | in-Live w ↦
          let e = w.txn_put-stepped.ensures in
          rw (w.index-is, w.stepped-is, w.in-Live.is) (has_put i _ _ _ e.added e.no_memory e.unchanged e.ok)
      | in-Marked w ↦
          let e = w.txn_mark-stepped.ensures in
          rw (w.index-is, w.stepped-is, w.in-Marked.is) (has_marked i _ _ _ e.added e.no_memory e.unchanged e.ok)
    ] in
    let done = subst (HasMarked i c.match-mark.index c.args.pair.now c.args.mark) c.in-Err.is put in
    record {
      used = tt;
      index = tt;
      outbox = tt;
      unchanged = (
        done.unchanged,
        popped c.args.outbox.now.items c.push_back.new.self.items c.pop_back.new.self.items c.args.made c.push_back.new.self.len
            c.push_back.new.self.ok.0 c.in_ok-push_back.ensures.items c.pop_back.ensures.rest,
      );
      no_memory = done.no_memory;
    }
