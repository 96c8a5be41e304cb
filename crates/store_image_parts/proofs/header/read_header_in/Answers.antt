use Rattle.std.proofs.Common.{◌≡◌, true, false, List, ℕ, ap, sym, Some, ◌∙◌, arith}
use Rattle.store_image_parts.specs.Spelling.{header_in}
use Rattle.store_image_parts.specs.Reading.{are_zeros, header_at}
use Rattle.store_image_parts.proofs.Again.{header_read_again, behind_header, not_none, value_is, rest_is, read_as}
use Rattle.store_image_parts.proofs.Takes.{header_is}
use Rattle.store_image_parts.specs.declared.header.Header.{Header}
use Rattle.store_image_parts.proofs.header.read_header_in.Goals as goal

pub returns-in_default-clause-again : goal.returns-in_default-clause-again
returns-in_default-clause-again c = λ value fits same.
    absurd (not_none (header_at c.args.version) c.args.bytes.now (header_in c.args.version value) value c.header_of.result c.header_of.ensures same
    (header_read_again c.args.version value fits) c.in_default.is)

pub returns-then-found-gt-LAST_NUMBER-clause-again : goal.returns-then-found-gt-LAST_NUMBER-clause-again
returns-then-found-gt-LAST_NUMBER-clause-again c = λ value fits same.
    let is = value_is (header_at c.args.version) c.args.bytes.now (header_in c.args.version value) value c.header_of.result c.header_of.ensures same
    (header_read_again c.args.version value fits) c.in-Some.found c.in-Some.is in
    absurd (omega (arith, c.if-found-gt-LAST_NUMBER.true, ap (λ (h : Header). h.base) is, fits.base))

pub returns-then-are_zeros-clause-found : goal.returns-then-are_zeros-clause-found
returns-then-are_zeros-clause-found c =
    let y = c.in-Some.found in
    (header_is c.args.version c.args.bytes.now y.0 y.1.now c.fits-bytes c.told-bytes
    (read_as (header_at c.args.version) c.args.bytes.now c.header_of.result y c.header_of.ensures c.in-Some.is) (sym c.are_zeros.ensures
    ∙ c.if-are_zeros.true)).0

pub returns-then-are_zeros-clause-fits : goal.returns-then-are_zeros-clause-fits
returns-then-are_zeros-clause-fits c =
    let y = c.in-Some.found in
    let is = header_is c.args.version c.args.bytes.now y.0 y.1.now c.fits-bytes c.told-bytes
    (read_as (header_at c.args.version) c.args.bytes.now c.header_of.result y c.header_of.ensures c.in-Some.is) (sym c.are_zeros.ensures
    ∙ c.if-are_zeros.true) in
    record { life = is.1; base = omega (arith, c.if-found-gt-LAST_NUMBER.false); entries = is.2 }

pub returns-then-are_zeros-clause-again : goal.returns-then-are_zeros-clause-again
returns-then-are_zeros-clause-again c = λ value fits same.
    ap Some (value_is (header_at c.args.version) c.args.bytes.now (header_in c.args.version value) value c.header_of.result c.header_of.ensures same
    (header_read_again c.args.version value fits) c.in-Some.found c.in-Some.is)

pub returns-else-are_zeros-clause-again : goal.returns-else-are_zeros-clause-again
returns-else-are_zeros-clause-again c = λ value fits same.
    let y = c.in-Some.found in
    let rest = rest_is (header_at c.args.version) c.args.bytes.now (header_in c.args.version value) value c.header_of.result c.header_of.ensures same
    (header_read_again c.args.version value fits) y c.in-Some.is in
    let bad : false ≡ true = sym c.if-are_zeros.false ∙ c.are_zeros.ensures ∙ ap are_zeros rest ∙ behind_header c.args.version value fits in
    absurd (cc)
