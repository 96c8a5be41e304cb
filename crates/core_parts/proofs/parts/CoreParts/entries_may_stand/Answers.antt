use Rattle.std.proofs.Common.{Option, refl, subst, sym, ◌∙◌}
use Rattle.std.proofs.lemmas.Bool.{false≢true}
use Rattle.record_values.specs.declared.pair.Mark.{Mark}
use Rattle.record_values.specs.declared.pair.Pair.{Pair}
use Rattle.marked_index.specs.Above.{IsLeastAbove}
use Rattle.core_parts.specs.Opening.{MayStand}
use Rattle.core_parts.specs.Parts.{parts_of}
use Rattle.core_parts.specs.View.{CoreValue}
use Rattle.core_parts.proofs.Walked.{all_checked, fewer_left, none_checked, one_checked}
use Rattle.core_parts.proofs.parts.CoreParts.entries_may_stand.Goals as goal

pub loop-entry-init : goal.loop-entry-init
loop-entry-init g c = let v : CoreValue = parts_of c.args.self.now in none_checked v.index.entries (MayStand v)

pub returns-then-not-may_stand : goal.returns-then-not-may_stand
returns-then-not-may_stand g c =
    let v : CoreValue = parts_of c.args.self.now in
    let least = subst (λ (o : Option (Pair × Mark)). IsLeastAbove v.index.entries c.loop-entry.last o)
    {x = c.entry_above.result} c.in-Some.is c.entry_above.ensures in (
      λ is. absurd (false≢true is),
      λ each. sym c.if-not-may_stand.true ∙ c.may_stand.ensures.1 (each c.in-Some.entry.0 c.in-Some.entry.1 least.1),
    )

pub loop-entry-smaller : goal.loop-entry-smaller
loop-entry-smaller g c =
    let v : CoreValue = parts_of c.args.self.now in
    let least = subst (λ (o : Option (Pair × Mark)). IsLeastAbove v.index.entries c.loop-entry.last o)
    {x = c.entry_above.result} c.in-Some.is c.entry_above.ensures in
    fewer_left v.index.entries c.loop-entry.last c.in-Some.entry least

pub loop-entry-preserved : goal.loop-entry-preserved
loop-entry-preserved g c =
    let v : CoreValue = parts_of c.args.self.now in
    let least = subst (λ (o : Option (Pair × Mark)). IsLeastAbove v.index.entries c.loop-entry.last o)
    {x = c.entry_above.result} c.in-Some.is c.entry_above.ensures in
    one_checked v.index.entries (MayStand v) c.loop-entry.last c.loop-entry.invariant c.in-Some.entry least (c.may_stand.ensures.0 c.if-not-may_stand.false)

pub returns : goal.returns
returns g c =
    let v : CoreValue = parts_of c.args.self.now in
    let none = subst (λ (o : Option (Pair × Mark)). IsLeastAbove v.index.entries c.loop-entry.last o) c.in_default.is c.entry_above.ensures in
    (λ _. all_checked v.index.entries (MayStand v) c.loop-entry.last c.loop-entry.invariant none, λ _. refl)
