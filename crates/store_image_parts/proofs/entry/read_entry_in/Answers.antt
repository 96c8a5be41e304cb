use Rattle.std.proofs.Common.{ap, Some, arith}
use Rattle.store_image_parts.specs.Spelling.{entry_in}
use Rattle.store_image_parts.specs.Reading.{entry_at}
use Rattle.store_image_parts.proofs.Again.{entry_read_again, not_none, value_is, read_as}
use Rattle.store_image_parts.proofs.Takes.{entry_is}
use Rattle.store_image_parts.proofs.entry.read_entry_in.Goals as goal

pub returns-in_default-clause-again : goal.returns-in_default-clause-again
returns-in_default-clause-again c = λ value fits same.
    absurd (not_none (entry_at c.args.version) c.args.bytes.now (entry_in c.args.version value) value c.entry_of.result c.entry_of.ensures same
    (entry_read_again c.args.version value fits) c.in_default.is)

pub returns-clause-found : goal.returns-clause-found
returns-clause-found c =
    let y = c.in-Some.found in
    (entry_is c.args.version c.args.bytes.now y.0 y.1.now (λ i. omega (arith, c.type_inv.bytes i)) c.requires
    (read_as (entry_at c.args.version) c.args.bytes.now c.entry_of.result y c.entry_of.ensures c.in-Some.is)).0

pub returns-clause-fits : goal.returns-clause-fits
returns-clause-fits c =
    let y = c.in-Some.found in
    (entry_is c.args.version c.args.bytes.now y.0 y.1.now (λ i. omega (arith, c.type_inv.bytes i)) c.requires
    (read_as (entry_at c.args.version) c.args.bytes.now c.entry_of.result y c.entry_of.ensures c.in-Some.is)).1

pub returns-clause-again : goal.returns-clause-again
returns-clause-again c = λ value fits same. ap Some
    (value_is (entry_at c.args.version) c.args.bytes.now (entry_in c.args.version value) value c.entry_of.result c.entry_of.ensures same
    (entry_read_again c.args.version value fits) c.in-Some.found c.in-Some.is)
