use Rattle.std.proofs.Common.{ap, sym, Some, ◌∙◌}
use Rattle.std.specs.Cmp.Lexicographic.{other_text}
use Rattle.store_image_parts.specs.Spelling.{head}
use Rattle.store_image_parts.specs.Reading.{head_at}
use Rattle.store_image_parts.proofs.Again.{head_read_again, not_none, value_is}
use Rattle.store_image_parts.proofs.head.read_head.Goals as goal

pub returns-in_default-clause-again : goal.returns-in_default-clause-again
returns-in_default-clause-again c = λ value fits same.
    absurd (not_none head_at c.args.bytes.now (head value) value c.head_of.result c.head_of.ensures.read same (head_read_again value fits) c.in_default.is)

pub returns-then-eq-clause-again : goal.returns-then-eq-clause-again
returns-then-eq-clause-again c = λ value fits same.
    ap Some (value_is head_at c.args.bytes.now (head value) value c.head_of.result c.head_of.ensures.read same
    (head_read_again value fits) c.in-Some.found c.in-Some.is)

pub returns-else-eq-clause-again : goal.returns-else-eq-clause-again
returns-else-eq-clause-again c = λ value fits same.
    let is = value_is head_at c.args.bytes.now (head value) value c.head_of.result c.head_of.ensures.read same
    (head_read_again value fits) c.in-Some.found c.in-Some.is in
    absurd (other_text _ _ (sym c.if-eq.false ∙ c.eq.ensures) (c.spell_head.ensures.spelled ∙ ap head is ∙ sym same))
