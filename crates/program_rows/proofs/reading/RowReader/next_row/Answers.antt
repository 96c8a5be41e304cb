use Rattle.std.proofs.Common.{◌≡◌, inl, inr, Result, Ok, Err, refl}
use Rattle.program_rows.specs.declared.error.TextError.{TextError}
use Rattle.program_rows.specs.declared.reading.Came.{Came}
use Rattle.program_rows.specs.declared.reading.Came.TheVariants.{Cut, End, Record, TooLong}
use Rattle.program_rows.proofs.reading.RowReader.next_row.Goals as goal

refused_not : (e : TextError) (came : Came) → Path (Result Came TextError) (Err e) (Ok came) → ⊥
refused_not e came is = cc

cut_not_end : (came : Came) → came ≡ Cut → Path (Result Came TextError) (Ok came) (Ok End) → ⊥
cut_not_end came cut is = cc

long_not_end : (came : Came) → came ≡ TooLong → Path (Result Came TextError) (Ok came) (Ok End) → ⊥
long_not_end came long is = cc

record_not_end : (came : Came) → came ≡ Record → Path (Result Came TextError) (Ok came) (Ok End) → ⊥
record_not_end came found is = cc

pub returns-in-Err : goal.returns-in-Err
returns-in-Err g c =
    let done = c.in-Err.ensures in
    record { gives = tt; fails = done.fails; whole = done.whole; ended = λ was. absurd (refused_not _ _ (done.ended was).0); columns = refl; fields = refl }

pub returns-in-Ok-End : goal.returns-in-Ok-End
returns-in-Ok-End g c =
    let done = c.in-Ok-End.ensures in
    let came = rw c.in-Ok-End.field-0-is at done.came in
    record { gives = λ plain. (_, came plain); fails = tt; whole = tt; ended = λ was. (refl, (done.ended was).1); columns = refl; fields = refl }

pub returns-in-Ok-Cut : goal.returns-in-Ok-Cut
returns-in-Ok-Cut g c =
    let done = c.in-Ok-Cut.ensures in
    let came = rw c.in-Ok-Cut.field-0-is at done.came in
    record {
      gives = λ plain. inr (inl (refl, came plain));
      fails = tt;
      whole = tt;
      ended = λ was. absurd (cut_not_end _ c.in-Ok-Cut.field-0-is (done.ended was).0);
      columns = refl;
      fields = refl;
    }

pub returns-in-Ok-TooLong : goal.returns-in-Ok-TooLong
returns-in-Ok-TooLong g c =
    let done = c.in-Ok-TooLong.ensures in
    let came = rw c.in-Ok-TooLong.field-0-is at done.came in
    record {
      gives = λ plain. inr (inr (refl, came plain));
      fails = tt;
      whole = tt;
      ended = λ was. absurd (long_not_end _ c.in-Ok-TooLong.field-0-is (done.ended was).0);
      columns = refl;
      fields = refl;
    }

pub returns-in-Ok-Record : goal.returns-in-Ok-Record
returns-in-Ok-Record g c =
    let done = c.in-Ok-Record.ensures in
    let came = rw c.in-Ok-Record.field-0-is at done.came in
    record {
      gives = λ plain. inl (_, came plain, c.row_under.ensures);
      fails = tt;
      whole = tt;
      ended = λ was. absurd (record_not_end _ c.in-Ok-Record.field-0-is (done.ended was).0);
      columns = refl;
      fields = refl;
    }
