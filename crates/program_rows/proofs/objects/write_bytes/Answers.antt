use Rattle.std.proofs.Common.{◌≡◌, Bool, false, refl, true}
use Rattle.std.proofs.lemmas.Str.{IsUtf8-from_is_utf8, is_utf8-from_IsUtf8}
use Rattle.program_rows.proofs.objects.write_bytes.Goals as goal

is_false : (b : Bool) → (b ≡ true → ⊥) → b ≡ false
is_false true h = absurd (h refl)
is_false false h = refl

pub returns-in-Ok-clause-written : goal.returns-in-Ok-clause-written
returns-in-Ok-clause-written c =
    let text = c.in-Ok.ensures.cases in
    rw (is_utf8-from_IsUtf8 c.args.bytes.now text.1) (rw text.0 at c.write_text.ensures.written)

pub returns-in-Err-clause-written : goal.returns-in-Err-clause-written
returns-in-Err-clause-written c =
    let bytes = c.args.bytes.now in
    rw (is_false _ (λ is. c.in-Err.ensures.cases.0 (IsUtf8-from_is_utf8 bytes is))) c.write_digits.ensures.written
