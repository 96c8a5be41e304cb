use Rattle.std.proofs.Common.{ℕ, true, List, Option, None, Some, Err}
use Rattle.csv.specs.declared.reader.Reader.{Reader}
use Rattle.program_quotes.specs.declared.source.Watched.{Watched}
use Rattle.program_rows.specs.Reading.{AreChosen, IsNoHeader, ReadsOne}
use Rattle.program_rows.specs.declared.columns.HeaderError.{HeaderError}
use Rattle.program_rows.specs.declared.columns.HeaderError.TheVariants.{Missing, NoBody, NoKey, NoNames, OpenQuote, TooLong}
use Rattle.program_rows.specs.declared.error.TextError.TheVariants.{Header}
use Rattle.program_rows.specs.declared.reading.ColumnNames.{ColumnNames}
use Rattle.program_rows.proofs.ReadLemmas.{unread}
use Rattle.program_rows.proofs.reading.read_header.Goals as goal

-- a header that was read isn't missing, nor left open, nor too long
missing : (names : Option ColumnNames) (header : List (List ℕ)) → AreChosen header names (Err Missing) → ⊥
missing None header h = h
missing (Some names) header h = h

left_open : (names : Option ColumnNames) (header : List (List ℕ)) → AreChosen header names (Err OpenQuote) → ⊥
left_open None header h = h
left_open (Some names) header h = h

too_long : (names : Option ColumnNames) (header : List (List ℕ)) → AreChosen header names (Err TooLong) → ⊥
too_long None header h = h
too_long (Some names) header h = h

lacks : {R : Type 0} (remaining : R → Option (List ℕ)) (names : Option ColumnNames) (header : List (List ℕ)) (old new : Reader (Watched R))
    (e : HeaderError) → ReadsOne remaining true header old new → AreChosen header names (Err e) → IsNoHeader remaining names (Header e) old new
lacks remaining names header old new Missing reads chosen = absurd (missing names header chosen)
lacks remaining names header old new NoKey reads chosen = (header, reads, chosen)
lacks remaining names header old new NoBody reads chosen = (header, reads, chosen)
lacks remaining names header old new NoNames reads chosen = (header, reads, chosen)
lacks remaining names header old new OpenQuote reads chosen = absurd (left_open names header chosen)
lacks remaining names header old new TooLong reads chosen = absurd (too_long names header chosen)

pub returns-in-Ok : goal.returns-in-Ok
returns-in-Ok g c =
    let came = rw c.in-Ok-Record.field-0-is at c.in-Ok-Record.ensures.came in
    record { read = λ plain. (came plain, c.in-Ok.ensures); refused = tt }

pub returns-in-Ok-End : goal.returns-in-Ok-End
returns-in-Ok-End g c =
    let came = rw c.in-Ok-End.field-0-is at c.in-Ok-End.ensures.came in
    record { read = tt; refused = λ plain. (_, came plain) }

pub returns-in-Ok-Cut : goal.returns-in-Ok-Cut
returns-in-Ok-Cut g c =
    let came = rw c.in-Ok-Cut.field-0-is at c.in-Ok-Cut.ensures.came in
    record { read = tt; refused = came }

pub returns-in-Ok-TooLong : goal.returns-in-Ok-TooLong
returns-in-Ok-TooLong g c =
    let came = rw c.in-Ok-TooLong.field-0-is at c.in-Ok-TooLong.ensures.came in
    record { read = tt; refused = came }

pub returns-in-Err-columns_in : goal.returns-in-Err-columns_in
returns-in-Err-columns_in g c =
    let came = rw c.in-Ok-Record.field-0-is at c.in-Ok-Record.ensures.came in
    record {
      read = tt;
      refused = λ plain. lacks g.R.Read.remaining c.args.names _ _ _ c.in-Err-columns_in.error (came plain) c.in-Err-columns_in.ensures;
    }

pub returns-in-Err-clause-refused : goal.returns-in-Err-clause-refused
returns-in-Err-clause-refused g c = λ plain.
    unread g.R.Read.remaining c.args.names c.args.reader.now c.read_record.new.reader c.in-Err.error c.in-Err.ensures.failed
    c.in-Err.ensures.whole
