use Rattle.std.proofs.Common.{◌≡◌, true, false, List, ℕ, ap, sym, Some, ◌∙◌, arith}
use Rattle.store_image_parts.specs.Spelling.{item_in}
use Rattle.store_image_parts.specs.Reading.{are_zeros, item_at}
use Rattle.store_image_parts.proofs.Again.{item_read_again, behind_item, not_none, value_is, rest_is, read_as}
use Rattle.store_image_parts.proofs.Takes.{item_is}
use Rattle.store_image_parts.proofs.item.read_item_in.Goals as goal

pub returns-in_default-clause-again : goal.returns-in_default-clause-again
returns-in_default-clause-again c = λ value fits same.
    absurd (not_none (item_at c.args.version) c.args.bytes.now (item_in c.args.version value) value c.item_of.result c.item_of.ensures same
    (item_read_again c.args.version value fits) c.in_default.is)

pub returns-then-are_zeros-clause-found : goal.returns-then-are_zeros-clause-found
returns-then-are_zeros-clause-found c =
    let y = c.in-Some.found in
    (item_is c.args.version c.args.bytes.now y.0 y.1.now (λ i. omega (arith, c.type_inv.bytes i)) c.requires
    (read_as (item_at c.args.version) c.args.bytes.now c.item_of.result y c.item_of.ensures c.in-Some.is) (sym c.are_zeros.ensures ∙ c.if-are_zeros.true)).0

pub returns-then-are_zeros-clause-fits : goal.returns-then-are_zeros-clause-fits
returns-then-are_zeros-clause-fits c =
    let y = c.in-Some.found in
    (item_is c.args.version c.args.bytes.now y.0 y.1.now (λ i. omega (arith, c.type_inv.bytes i)) c.requires
    (read_as (item_at c.args.version) c.args.bytes.now c.item_of.result y c.item_of.ensures c.in-Some.is) (sym c.are_zeros.ensures ∙ c.if-are_zeros.true)).1

pub returns-then-are_zeros-clause-again : goal.returns-then-are_zeros-clause-again
returns-then-are_zeros-clause-again c = λ value fits same.
    ap Some (value_is (item_at c.args.version) c.args.bytes.now (item_in c.args.version value) value c.item_of.result c.item_of.ensures same
    (item_read_again c.args.version value fits) c.in-Some.found c.in-Some.is)

pub returns-else-are_zeros-clause-again : goal.returns-else-are_zeros-clause-again
returns-else-are_zeros-clause-again c = λ value fits same.
    let y = c.in-Some.found in
    let rest = rest_is (item_at c.args.version) c.args.bytes.now (item_in c.args.version value) value c.item_of.result c.item_of.ensures same
    (item_read_again c.args.version value fits) y c.in-Some.is in
    let bad : false ≡ true = sym c.if-are_zeros.false ∙ c.are_zeros.ensures ∙ ap are_zeros rest ∙ behind_item c.args.version value fits in
    absurd (cc)
