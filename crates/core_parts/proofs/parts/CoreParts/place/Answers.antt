use Rattle.std.proofs.Common.{None, ap, ◌≡◌, ◌≢◌}
use Rattle.std.specs.FinMap.{get}
use Rattle.std.specs.Prelude.{Err, Ok, OnErr, Result}
use Rattle.record_values.specs.declared.error.Error.{Error}
use Rattle.marked_index.specs.Index.{IndexValue, IsAbsent}
use Rattle.marked_index.specs.declared.index.Built.TheVariants.{Placed}
use Rattle.core_parts.specs.Parts.{parts_of}
use Rattle.core_parts.proofs.Building.{put_back, put_there}
use Rattle.core_parts.proofs.parts.CoreParts.place.Goals as goal

on_err : {T : Type 0} (r : Result T Error) {P : Type 0} → P → OnErr r P
on_err (Ok x) p = tt
on_err (Err e) p = p

pub returns-in-Rejected-clause-put : goal.returns-in-Rejected-clause-put
returns-in-Rejected-clause-put g c =
    let there : get c.args.self.now.index.entries c.args.pair ≢ None = λ absent. let placed : c.in_ok-build_put.field-0 ≡ Placed =
    c.in_ok-build_put.ensures.placed.1 absent in absurd (cc (c.in-Rejected.is, placed)) in (
      there,
      ap (λ (i : IndexValue). record (parts_of c.args.self.now) { index = i })
          (put_there c.args.self.now.index _ c.args.pair there c.in_ok-build_put.ensures.ok),
    )

pub returns-in_err-record_placed-in-Placed-clause-unchanged : goal.returns-in_err-record_placed-in-Placed-clause-unchanged
returns-in_err-record_placed-in-Placed-clause-unchanged g c =
    let absent : IsAbsent c.args.self.now.index.entries c.args.pair = c.in_ok-build_put.ensures.placed.0 c.in-Placed.is in
    on_err c.from_residual-in_err-record_placed-in-Placed.result
    (put_back (parts_of c.args.self.now) _ _ c.args.pair absent c.in_ok-build_put.ensures.ok c.in_err-record_placed-in-Placed.ensures.taken_out)
