-- What reads of a source, and of records, come to.
use Rattle.std.proofs.Common.{◌∙◌, ap, Bool, Err, false, IfErr, IfOk, inl, List, None, Ok, OnErr, OnOk, Option, refl, Result, Some, subst, sym, true}
use Rattle.std.proofs.Common.{◌≡◌, ℕ}
use Rattle.std.proofs.lemmas.Bool.{false≢true}
use Rattle.std.specs.Prelude.{◌==◌, ◌&&◌, if◌then◌else◌, not, option_map}
use Rattle.csv.specs.Reading.{buffered_of, default_config, ExplainsRead, has_failed, is_flexible, pending_of, reader_source, reader_state}
use Rattle.csv.specs.Reading.{ReadRecord, ReadsNext, source_of, stops_reader, strip_bom, took_first}
use Rattle.csv.specs.declared.error.ErrorKind.{ErrorKind}
use Rattle.csv.specs.declared.error.ErrorKind.TheVariants as kind
use Rattle.csv.specs.declared.parser.Config.{Config}
use Rattle.csv.specs.declared.reader.Reader.{Reader}
use Rattle.program_rows.specs.Reading.{bytes_of, CameTo, IsCutOrLong, IsNoHeader, IsPlain, IsReadError, IsWhole, ReadsOne}
use Rattle.program_rows.specs.declared.error.TextError.{TextError}
use Rattle.program_rows.specs.declared.error.TextError.TheVariants as text
use Rattle.program_rows.specs.declared.reading.Came.{Came}
use Rattle.program_rows.specs.declared.reading.Came.TheVariants.{Cut, End, Record, TooLong}
use Rattle.program_rows.specs.declared.reading.ColumnNames.{ColumnNames}
use Rattle.program_quotes.specs.declared.source.Watched.{Watched}

-- behind its first read a reader reads from its buffer on
stands : {S : Type 0} (rem : S → Option (List ℕ)) (new : Reader S) → new.bom_checked ≡ true → pending_of (rem new.rdr) new ≡ source_of rem new
stands rem new checked =
    ap (λ (b : Bool). if has_failed new then None else (if not b && (new.at == 0) && (new.filled == 0) then option_map strip_bom (rem new.rdr)
    else buffered_of (rem new.rdr) new)) (sym checked)

module _ {R : Type 0} (remaining : R → Option (List ℕ)) where
  -- a read of a plain reader
  pub reads_one : (found : Bool) (fields : List (List ℕ)) (old new : Reader (Watched R)) → IsPlain old
      → ReadRecord (bytes_of remaining) old new found fields → is_flexible new ≡ is_flexible old → took_first new ≡ true
      → ReadsOne remaining found fields old new
  reads_one found fields old new plain reads flexible first =
      let rem = bytes_of remaining in
      let marked = subst (λ (cfg : Config). ReadsNext cfg (reader_state old) (source_of rem old) (pending_of (rem new.rdr) new) found fields
      (reader_state new)) plain.marks reads.0 in
      record {
        next = subst (λ (left : Option (List ℕ)). ReadsNext default_config (reader_state old) (source_of rem old) left found fields (reader_state new))
            (stands rem new reads.1) marked;
        goes_on = record {
          marks = reads.2 ∙ plain.marks;
          untrimmed = reads.3 ∙ plain.untrimmed;
          flexible = flexible ∙ plain.flexible;
          ready = inl first;
        };
      }

  -- a text that ended inside a quote, or has too long a record
  pub cut_short : (came : Result Came TextError) (fields : List (List ℕ)) (old new : Reader (Watched R))
      → IfOk came (IsCutOrLong (reader_source new)) → (IsPlain old → has_failed new ≡ true)
      → IfOk came (λ c. IsPlain old → CameTo remaining c fields old new)
  cut_short (Ok Cut) fields old new h ended = λ plain. record { in_quote = h; ended = ended plain }
  cut_short (Ok TooLong) fields old new h ended = λ plain. record { long = h; ended = ended plain }
  cut_short (Ok Record) fields old new h ended = absurd h
  cut_short (Ok End) fields old new h ended = absurd h
  cut_short (Err e) fields old new h ended = tt

  -- what couldn't be read
  pub unread : (names : Option ColumnNames) (old new : Reader (Watched R)) (e : TextError) → IsReadError e → IsWhole (reader_source new)
      → IsNoHeader remaining names e old new
  unread names old new (text.Header e) h whole = absurd h
  unread names old new (text.Io e) h whole = whole
  unread names old new text.NoMemory h whole = whole

-- An error of a read that takes records of any length stops the reader.
pub stops : {S : Type 0} (rem : S → Option (List ℕ)) (old new : Reader S) (e : ErrorKind) → is_flexible old ≡ true → ExplainsRead rem old new false e
    → stops_reader e ≡ true
stops rem old new (kind.Io e) flexible h = refl
stops rem old new kind.OutOfMemory flexible h = refl
stops rem old new (kind.UnequalLengths pos expected len) flexible h = absurd (false≢true (sym h.0 ∙ flexible))
stops rem old new (kind.Utf8 pos err) flexible h = absurd (false≢true h.0)
stops rem old new (kind.Serialize why) flexible h = absurd h
stops rem old new (kind.Deserialize pos err) flexible h = absurd h
