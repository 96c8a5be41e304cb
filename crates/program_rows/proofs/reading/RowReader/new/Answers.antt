use Rattle.std.proofs.Common.{◌∙◌, ap, Err, rules}
use Rattle.std.proofs.lemmas.Result.{err_from_is_err_and}
use Rattle.csv.specs.Records.{fields_of}
use Rattle.program_rows.proofs.reading.RowReader.new.Goals as goal

pub returns-in_err-columns-clause-refused : goal.returns-in_err-columns-clause-refused
returns-in_err-columns-clause-refused g c =
    let p = err_from_is_err_and c.from_residual.result c.from_residual.ensures.1 in
    rw (p.1 ∙ ap Err p.2) (record {
      first = c.plain_reader-reader.result;
      begins = c.plain_reader-reader.ensures;
      last = c.read_header.new.reader;
      refused = c.in_err-columns.ensures.refused c.plain_reader-reader.ensures.plain;
    })

pub returns-clause-begins : goal.returns-clause-begins
returns-clause-begins g c =
    let read = c.in_ok-columns.ensures.read c.plain_reader-reader.ensures.plain in
    record {
      first = c.plain_reader-reader.result;
      begins = c.plain_reader-reader.ensures;
      header = fields_of c.read_header.new.record;
      reads = read.0;
      columns = read.1;
      fields = search rules;
    }
