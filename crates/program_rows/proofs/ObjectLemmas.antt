-- The object of a row gives the row.
use Rattle.std.proofs.Common.{Bool, List, Ok, [], ap, codes, false, refl, sym, true, ℕ, ◌++◌, ◌∙◌, ◌∷◌, ◌≡◌, ◌≢◌}
use Rattle.std.specs.Prelude.{if◌then◌else◌}
use Rattle.std.specs.Str.{is_utf8}
use Rattle.hex.proofs.HexLemmas.{decode_of-encode_lower}
use Rattle.hex.specs.Hex.{IsBytes, decode_of, encode_lower}
use Rattle.json.specs.Print.{ArePrintable, print}
use Rattle.json.specs.Lex.{tokens}
use Rattle.json.specs.Token.{Token, begin_object, end_object, key, string}
use Rattle.json.proofs.Printed.Tokens.{tokens-print}
use Rattle.record_values.specs.declared.row.Row.{Row}
use Rattle.program_rows.specs.Objects.{json_of_row, member, members_of_row, object_of_row}

abbrev name_by : Bool → (name hex_name : List ℕ) → List ℕ
name_by true name hex_name = name
name_by false name hex_name = hex_name

abbrev text_by : Bool → List ℕ → List ℕ
text_by true bytes = bytes
text_by false bytes = encode_lower bytes

-- the six tokens of an object
abbrev six : (b c : Bool) → Row → List Token
six b c row =
    begin_object ∷ key (name_by b (codes "key") (codes "key_hex")) ∷ string (text_by b row.key)
    ∷ key (name_by c (codes "body") (codes "body_hex")) ∷ string (text_by c row.body) ∷ end_object ∷ []

object-six : (row : Row) → object_of_row row ≡ six (is_utf8 row.key) (is_utf8 row.body) row
object-six row = by (is_utf8 row.key) (is_utf8 row.body)
  where
    by : (b c : Bool)
        → begin_object ∷ (((if b then key (codes "key") ∷ string row.key ∷ [] else key (codes "key_hex") ∷ string (encode_lower row.key) ∷ [])
        ++ (if c then key (codes "body") ∷ string row.body ∷ [] else key (codes "body_hex") ∷ string (encode_lower row.body) ∷ []))
        ++ end_object ∷ []) ≡ six b c row
    by true true = refl
    by true false = refl
    by false true = refl
    by false false = refl

six-printable : (b c : Bool) (row : Row) → ArePrintable (six b c row)
unfolding ArePrintable
six-printable b c row = (tt, (tt, (tt, (tt, (tt, (tt, tt))))))

pub printable : (row : Row) → ArePrintable (object_of_row row)
printable row = rw (object-six row) (six-printable (is_utf8 row.key) (is_utf8 row.body) row)

pub read_back : (row : Row) → tokens (print (object_of_row row)) ≡ object_of_row row
read_back row = tokens-print (object_of_row row) (printable row)

encoded : (a b : List ℕ) → IsBytes a → IsBytes b → encode_lower a ≡ encode_lower b → a ≡ b
encoded a b one other is =
    let same : ◌≡◌ (Ok a) (Ok b) = sym (decode_of-encode_lower a one) ∙ ap decode_of is ∙ decode_of-encode_lower b other in cc

-- two texts under one name are of the same bytes
text-apart : (name hex_name a b : List ℕ) → name ≢ hex_name → IsBytes a → IsBytes b → (p q : Bool)
    → name_by p name hex_name ≡ name_by q name hex_name → text_by p a ≡ text_by q b → a ≡ b
text-apart name hex_name a b other one two true true names texts = texts
text-apart name hex_name a b other one two true false names texts = absurd (other names)
text-apart name hex_name a b other one two false true names texts = absurd (other (sym names))
text-apart name hex_name a b other one two false false names texts = encoded a b one two texts

same_row : (row other : Row) → row.key ≡ other.key → row.body ≡ other.body → row ≡ other
same_row row other keys bodies =
    ap (λ (x : List ℕ). record { key = x; body = row.body }) keys ∙ ap (λ (x : List ℕ). record { key = other.key; body = x }) bodies

-- two objects of six tokens are of one row
six-apart : (p q p' q' : Bool) (row other : Row) → IsBytes row.key → IsBytes row.body → IsBytes other.key → IsBytes other.body
    → six p q row ≡ six p' q' other → row ≡ other
six-apart p q p' q' row other k b k' b' is =
    let names : name_by p (codes "key") (codes "key_hex") ≡ name_by p' (codes "key") (codes "key_hex") = cc in
    let texts : text_by p row.key ≡ text_by p' other.key = cc in
    let names' : name_by q (codes "body") (codes "body_hex") ≡ name_by q' (codes "body") (codes "body_hex") = cc in
    let texts' : text_by q row.body ≡ text_by q' other.body = cc in
    same_row row other
    (text-apart _ _ row.key other.key (λ e. absurd cc) k k' p p' names texts)
    (text-apart _ _ row.body other.body (λ e. absurd cc) b b' q q' names' texts')

-- what stands before the same last byte
before_last : (xs ys : List ℕ) (n : ℕ) → xs ++ n ∷ [] ≡ ys ++ n ∷ [] → xs ≡ ys
before_last [] [] n is = refl
before_last [] (y ∷ []) n is = absurd cc
before_last [] (y ∷ z ∷ ys) n is = absurd cc
before_last (x ∷ []) [] n is = absurd cc
before_last (x ∷ z ∷ xs) [] n is = absurd cc
before_last (x ∷ xs) (y ∷ ys) n is =
    let heads : x ≡ y = cc in
    let tails : xs ++ n ∷ [] ≡ ys ++ n ∷ [] = cc in
    let rest = before_last xs ys n tails in cc

pub apart : (row other : Row) → IsBytes row.key → IsBytes row.body → IsBytes other.key → IsBytes other.body
    → json_of_row row ≡ json_of_row other → row ≡ other
unfolding json_of_row
apart row other k b k' b' is =
    let texts = before_last (print (object_of_row row)) (print (object_of_row other)) 10 is in
    let objects : object_of_row row ≡ object_of_row other = sym (read_back row) ∙ ap tokens texts ∙ read_back other in
    six-apart (is_utf8 row.key) (is_utf8 row.body) (is_utf8 other.key) (is_utf8 other.body) row other k b k' b'
    (sym (object-six row) ∙ objects ∙ object-six other)
