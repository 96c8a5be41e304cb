-- Rows and the fields that give them.
use Rattle.std.proofs.Common.{Bool, Err, List, None, Ok, Some, [], ap, arith, false, length, nat_lt, refl, suc, true, zero, ℕ, ◌<◌, ◌∙◌, ◌∷◌, ◌≡◌, ◌≤◌}
use Rattle.std.proofs.lemmas.Bool.{le-ltb, lt-ltb}
use Rattle.std.specs.Prelude.{if◌then◌else◌}
use Rattle.csv.specs.Records.{field_at}
use Rattle.record_values.specs.declared.key.TheConstants.{BODY_MAX, KEY_MAX}
use Rattle.record_values.specs.declared.row.Row.{Row}
use Rattle.program_rows.specs.declared.rows.RowError.TheVariants.{BodyTooLong, KeyTooLong}
use Rattle.program_rows.specs.Rows.{fields_of_row, row_with}

module _ (key body : List ℕ) where
  pub fits : length key ≤ KEY_MAX → length body ≤ BODY_MAX → row_with (Some key) (Some body) ≡ Ok (record { key = key; body = body })
  fits one other =
      ap (λ b. if b then Err KeyTooLong else (if nat_lt BODY_MAX (length body) then Err BodyTooLong else Ok (record { key = key; body = body })))
      (le-ltb KEY_MAX (length key) one)
      ∙ ap (λ b. if b then Err BodyTooLong else Ok (record { key = key; body = body })) (le-ltb BODY_MAX (length body) other)

  pub long_key : KEY_MAX < length key → row_with (Some key) (Some body) ≡ Err KeyTooLong
  long_key long = ap (λ b. if b then Err KeyTooLong else (if nat_lt BODY_MAX (length body) then Err BodyTooLong else Ok (record { key = key; body = body })))
      (lt-ltb KEY_MAX (length key) long)

  pub long_body : length key ≤ KEY_MAX → BODY_MAX < length body → row_with (Some key) (Some body) ≡ Err BodyTooLong
  long_body one long =
      ap (λ b. if b then Err KeyTooLong else (if nat_lt BODY_MAX (length body) then Err BodyTooLong else Ok (record { key = key; body = body })))
      (le-ltb KEY_MAX (length key) one)
      ∙ ap (λ b. if b then Err BodyTooLong else Ok (record { key = key; body = body })) (lt-ltb BODY_MAX (length body) long)

  -- what is given has these fields
  pub gives : (row : Row) → row_with (Some key) (Some body) ≡ Ok row → fields_of_row row ≡ key ∷ body ∷ []
  gives row = by (nat_lt KEY_MAX (length key)) (nat_lt BODY_MAX (length body))
    where
      by : (a b : Bool) → (if a then Err KeyTooLong else (if b then Err BodyTooLong else Ok (record { key = key; body = body }))) ≡ Ok row
          → fields_of_row row ≡ key ∷ body ∷ []
      by true b is = absurd cc
      by false true is = absurd cc
      by false false is = let same : ◌≡◌ {A = Row} row (record { key = key; body = body }) = cc in ap fields_of_row same

-- behind the first place without a field there is none
pub none_past : (fields : List (List ℕ)) (i m : ℕ) → field_at fields i ≡ None → i ≤ m → field_at fields m ≡ None
unfolding field_at
none_past [] i m none le = refl
none_past (f ∷ fields) zero m none le = absurd cc
none_past (f ∷ fields) (suc i) zero none le = absurd (omega (arith, le))
none_past (f ∷ fields) (suc i) (suc m) none le = none_past fields i m none (omega (arith, le))

pub no_field : (fields : List (List ℕ)) (m : ℕ) (f : List ℕ) → field_at fields m ≡ None → field_at fields m ≡ Some f → ⊥
no_field fields m f none some = absurd cc
