use Rattle.program_rows.proofs.Outcomes.{match_of}
use Rattle.program_rows.proofs.reading.columns_in.Goals as goal

pub returns-in-None : goal.returns-in-None
returns-in-None c =
    rw c.in-None.is (match_of c.default_columns.result _ _ c.default_columns.ensures.found c.default_columns.ensures.lacking)

pub returns-in-Some : goal.returns-in-Some
returns-in-Some c =
    let found = match_of c.columns_named.result _ _ c.columns_named.ensures.found c.columns_named.ensures.lacking in
    rw c.in-Some.is (rw (c.as_bytes.ensures.value, c.as_bytes-in-Some.ensures.value) at found)
