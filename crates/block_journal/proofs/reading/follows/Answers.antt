use Rattle.std.proofs.Common.{ℕ, ◌+◌, Option, ◌∙◌, ap}
use Rattle.std.proofs.lemmas.Bool.{eqb-true, eqb-false}
use Rattle.block_journal.specs.Opening.{first_entries}
use Rattle.block_journal.proofs.Opening.{first_is, first_none}
use Rattle.block_journal.proofs.reading.follows.Goals as goal

pub returns-in-Some : goal.returns-in-Some
returns-in-Some c = record {
  first = λ is entries. ap (λ (b : Option ℕ). first_entries c.args.number b entries) c.in-Some.is
      ∙ first_is c.args.number c.in-Some.n entries (eqb-true (c.in-Some.n + 1) c.args.number is);
  none = λ is entries. ap (λ (b : Option ℕ). first_entries c.args.number b entries) c.in-Some.is
      ∙ first_none c.args.number c.in-Some.n entries (eqb-false (c.in-Some.n + 1) c.args.number is);
}
