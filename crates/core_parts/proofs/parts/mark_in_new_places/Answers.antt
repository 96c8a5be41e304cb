use Rattle.std.proofs.Common.{ap, arith, refl, sym, ◌+◌, ◌∙◌, ◌≡◌}
use Rattle.std.specs.FinMap.{get}
use Rattle.marked_index.specs.Index.{IndexValue, IsAbsent, pledges_used}
use Rattle.core_parts.proofs.Marking.{by_mark, few_used, new_marked, released, uses_none, uses_one}
use Rattle.core_parts.proofs.parts.mark_in_new_places.Goals as goal

pub unreachable-requires : goal.unreachable-requires
unreachable-requires g c = omega (arith, c.requires, c.in_default.ensures.full.0 refl)

pub txn_mark-requires : goal.txn_mark-requires
txn_mark-requires g c =
    let pledged : c.pledge.new.self.pledged ≡ c.args.index.now.pledged + 4 = ap (λ (i : IndexValue). i.pledged) c.in-Ok.ensures.ok in
    record { place = λ absent. omega (arith, pledged) }

pub release-requires : goal.release-requires
release-requires g c =
    let pledged : c.pledge.new.self.pledged ≡ c.args.index.now.pledged + 4 = ap (λ (i : IndexValue). i.pledged) c.in-Ok.ensures.ok in
    let same : c.txn_mark.new.self.pledged ≡ c.pledge.new.self.pledged = ap (λ (i : IndexValue). i.pledged) c.in-Err.ensures.unchanged in
    omega (arith, pledged, same)

pub returns-in-Ok-Added : goal.returns-in-Ok-Added
returns-in-Ok-Added g c =
    let i = c.args.index.now in
    let p = c.args.pair.now in
    let absent : IsAbsent i.entries p = ap (λ (w : IndexValue). get w.entries p) (sym c.in-Ok.ensures.ok)
    ∙ c.in-Ok-Added.ensures.added.0 (cc c.in-Ok-Added.field-0-is) in
    let one : 1 ≡ pledges_used (get i.entries p) = uses_one _ absent in
    record {
      left = omega (arith, one);
      ok = new_marked i _ c.in-Ok.ensures.ok _ p (few_used _) (by_mark _ _ p c.in-Ok-Added.ensures.ok);
      no_memory = tt;
      unchanged = tt;
    }

pub returns-in-Ok-Found : goal.returns-in-Ok-Found
returns-in-Ok-Found g c =
    let i = c.args.index.now in
    let p = c.args.pair.now in
    let none : 0 ≡ pledges_used (get i.entries p) = uses_none _ (λ absent. cc (
      c.in-Ok-Found.field-0-is,
      c.in-Ok-Found.ensures.added.1 (ap (λ (w : IndexValue). get w.entries p) c.in-Ok.ensures.ok ∙ absent),
    )) in
    record {
      left = omega (arith, none);
      ok = new_marked i _ c.in-Ok.ensures.ok _ p (few_used _) (by_mark _ _ p c.in-Ok-Found.ensures.ok);
      no_memory = tt;
      unchanged = tt;
    }

pub returns-in-Err : goal.returns-in-Err
returns-in-Err g c = record {
  left = tt;
  ok = tt;
  no_memory = c.in-Err.ensures.no_memory.0;
  unchanged = released c.args.index.now _ c.in-Ok.ensures.ok _ _ c.in-Err.ensures.unchanged c.release.ensures;
}
