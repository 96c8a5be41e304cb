use Rattle.std.proofs.Common.{arith, inl, inr, sym}
use Rattle.std.proofs.lemmas.Bool.{cases_lt}
use Rattle.csv.specs.Records.{fields_of}
use Rattle.program_rows.proofs.RowLemmas.{no_field, none_past}
use Rattle.program_rows.proofs.columns.column_named.Goals as goal

pub loop-field-smaller : goal.loop-field-smaller
loop-field-smaller c = let within = c.in-Some.ensures.place.0 in omega (arith, within)

pub returns-clause-none : goal.returns-clause-none
returns-clause-none c = λ _ m is.
    let fields = fields_of c.args.header.now in
    elim (cases_lt m c.loop-field.column) [
      | inl before ↦ c.loop-field.invariant m before is
      | inr past ↦ no_field fields m c.args.name.now (none_past fields c.loop-field.column m (sym c.in_default.ensures.value) past) is
    ]
