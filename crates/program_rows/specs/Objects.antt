-- A row as an object of JSON.
use Rattle.std.specs.Prelude.{List, [], codes, if◌then◌else◌, ℕ, ◌++◌, ◌∷◌}
use Rattle.std.specs.Str.{is_utf8}
use Rattle.hex.specs.Hex.{encode_lower}
use Rattle.json.specs.Print.{print}
use Rattle.json.specs.Token.{Token, begin_object, end_object, key, string}
use Rattle.record_values.specs.declared.row.Row.{Row}

-- a member: bytes that are UTF-8 as a text, and others as hexadecimal digits, under the other name
abbrev pub member : (name hex_name bytes : List ℕ) → List Token
member name hex_name bytes =
    if is_utf8 bytes then key name ∷ string bytes ∷ [] else key hex_name ∷ string (encode_lower bytes) ∷ []

abbrev pub members_of_row : Row → List Token
members_of_row row = member (codes "key") (codes "key_hex") row.key ++ member (codes "body") (codes "body_hex") row.body

abbrev pub object_of_row : Row → List Token
object_of_row row = begin_object ∷ (members_of_row row ++ end_object ∷ [])

-- the line of a row: its object, and a line feed
unfoldable pub json_of_row : Row → List ℕ
json_of_row row = print (object_of_row row) ++ 10 ∷ []
