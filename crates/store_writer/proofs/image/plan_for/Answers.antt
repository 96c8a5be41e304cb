use Rattle.std.proofs.Common.{◌≡◌, ℕ, List, drop, Err, sym, ap, subst, ◌∙◌, arith}
use Rattle.std.proofs.lemmas.Option.{none-some, same_Some}
use Rattle.std.proofs.lemmas.Result.{err_from_is_err_and}
use Rattle.records.specs.RecordValue.{RecordValue}
use Rattle.record_values.specs.GeometryValue.{GeometryValue}
use Rattle.gate_log.specs.Group.{FitsGroup, IsGroup}
use Rattle.store_writer.specs.declared.image.NewImage.{NewImage}
use Rattle.store_writer.proofs.Underway.{last_fit, rest_is}
use Rattle.store_writer.proofs.image.plan_for.Goals as goal

pub returns-in_default : goal.returns-in_default
returns-in_default g c = record { planned = λ i it. absurd (none-some i (sym c.in_default.is ∙ it)); no_memory = tt }

pub returns-then-group-below : goal.returns-then-group-below
returns-then-group-below g c = record {
  planned = λ i it.
      let same : c.in-Some.image ≡ i = same_Some _ _ (sym c.in-Some.is ∙ it) in
      omega (arith, c.if-group-below.true, c.saturating_sub-below.ensures, ap (λ (x : NewImage). x.base) same);
  no_memory = tt;
}

pub returns-then-from-open_slots : goal.returns-then-from-open_slots
returns-then-from-open_slots g c = record {
  planned = (
    c.in-Some.image,
    c.in-Some.is,
    omega (arith, c.if-group-below.false, c.saturating_sub-below.ensures),
    omega (arith, c.if-from-open_slots.true, c.from.ensures, c.open_slots.ensures.value, ap (λ (x : GeometryValue). x.slots) c.geometry.view_is),
  );
  no_memory = tt;
}

pub spell-requires : goal.spell-requires
spell-requires g c =
    let group = c.args.group.now in
    let k = c.saturating_sub-below.result in
    subst FitsGroup (sym (rest_is k group)) (last_fit group k c.requires (omega (arith, c.if-group-below.false)))

pub returns-in_err-body : goal.returns-in_err-body
returns-in_err-body g c =
    let p = err_from_is_err_and c.from_residual.result c.from_residual.ensures.1 in
    rw (p.1 ∙ ap Err p.2) (record { planned = tt; no_memory = c.in_err-body.ensures.no_memory })

pub returns : goal.returns
returns g c =
    let group = c.args.group.now in
    let k = c.saturating_sub-below.result in
    record {
      planned = (
        c.in-Some.image,
        c.in-Some.is,
        omega (arith, c.if-group-below.false, c.saturating_sub-below.ensures),
        omega (arith, c.if-from-open_slots.false, c.from.ensures, c.open_slots.ensures.value, ap (λ (x : GeometryValue). x.slots) c.geometry.view_is),
        subst (λ (n : ℕ). IsGroup (drop n group) c.in_ok-body.body.items) c.saturating_sub-below.ensures
            (subst (λ (l : List RecordValue). IsGroup l c.in_ok-body.body.items) (rest_is k group) c.in_ok-body.ensures.ok),
      );
      no_memory = tt;
    }
