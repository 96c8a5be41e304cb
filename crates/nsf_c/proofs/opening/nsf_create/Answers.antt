use Rattle.std.proofs.Common.{rules, subst, IfErr, IfOk}
use Rattle.record_values.specs.GeometryValue.{GeometryValue, IsGeometry}
use Rattle.nsf_c.specs.Calls.{IsMade, IsNotMade, IsOpenedOn}
use Rattle.nsf_c.specs.Unopened.{IsUnmade}
use Rattle.nsf_c.proofs.Opened.{not_made, put_is, put_is_not}
use Rattle.nsf_c.proofs.opening.nsf_create.Goals as goal

pub returns-in-Ok-clause-made : goal.returns-in-Ok-clause-made
returns-in-Ok-clause-made c =
    let made = subst (λ (g : GeometryValue). IfOk c.make.result (λ held. IsOpenedOn (IsMade g) held.value.store)) c.in-Ok.ensures.ok c.make.ensures.ok in
    put_is (IsOpenedOn (IsMade (record { pages = c.args.pages; entries = c.args.entries; slots = c.args.slots }))) c.make.result c.put_opened.result
    c.put_opened.new.handle.value c.put_opened.ensures.ok c.put_opened.ensures.err made

pub returns-in-Ok-clause-refused : goal.returns-in-Ok-clause-refused
returns-in-Ok-clause-refused c =
    let asked : GeometryValue = record { pages = c.args.pages; entries = c.args.entries; slots = c.args.slots } in
    let within : IsGeometry asked = search rules in
    let unmade = subst (λ (g : GeometryValue). IfErr c.make.result (IsUnmade g)) c.in-Ok.ensures.ok c.make.ensures.err in
    put_is_not (IsUnmade asked) (IsNotMade asked) c.make.result c.put_opened.result c.put_opened.new.handle.value c.put_opened.ensures.ok
    c.put_opened.ensures.err unmade (λ e. not_made asked e within)
