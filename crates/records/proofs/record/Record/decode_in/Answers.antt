use Rattle.std.proofs.Common.{◌≡◌, true, sym, subst, ◌∙◌}
use Rattle.records.specs.Spelling.{FitsIn}
use Rattle.records.proofs.Wide.{same_record}
use Rattle.records.proofs.record.Record.decode_in.Goals as goal

pub returns-else-fits_in-clause-none : goal.returns-else-fits_in-clause-none
returns-else-fits_in-clause-none c = λ r rest good is.
    let same = same_record c.args.version c.args.bytes.now c.in_ok-found.found.1 c.in_ok-found.found.0 r rest
    c.in_ok-found.ensures.found c.in_ok-found.ensures.fits good is in
    let yes : c.fits_in.result ≡ true = c.fits_in.ensures.1 (subst (FitsIn c.args.version) (sym same) good) in
    absurd (let bad = sym c.if-fits_in.false ∙ yes in cc)
