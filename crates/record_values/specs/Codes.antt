-- Codes of the values, for types whose value is a map of them.
use Rattle.std.specs.Prelude.{◌≡◌, ℕ, Bool, true, false, List}
use Rattle.std.proofs.Common.{refl}
use Rattle.std.specs.Coded.{Coded, code_by, coded×, coded_ℕ, coded_bool, coded_list}
use Rattle.record_values.specs.Values.{Place}
use Rattle.record_values.specs.declared.row.Row.{Row}
use Rattle.record_values.specs.declared.pair.Pair.{Pair}
use Rattle.record_values.specs.declared.pair.Mark.{Mark}
use Rattle.record_values.specs.declared.pair.Mark.TheVariants.{Live, Marked}

-- how the logic stores a place
abbrev pub coded_rid : Coded Place
coded_rid = code_by (ℕ × ℕ) (coded× coded_ℕ coded_ℕ) (λ r. (r.page, r.slot)) (λ p. record { page = p.0; slot = p.1 })
    (λ _. refl)

-- how it stores a pair
abbrev pub coded_pair : Coded Pair
coded_pair = code_by (List ℕ × Place) (coded× (coded_list coded_ℕ) coded_rid) (λ p. (p.key, p.rid)) (λ p.
    record { key = p.0; rid = p.1 }) (λ _. refl)

-- how it stores a row
abbrev pub coded_row : Coded Row
coded_row = code_by (List ℕ × List ℕ) (coded× (coded_list coded_ℕ) (coded_list coded_ℕ)) (λ r. (r.key, r.body)) (λ p.
    record { key = p.0; body = p.1 }) (λ _. refl)

-- a mark as a flag
abbrev is_live : Mark → Bool
is_live Live = true
is_live Marked = false

-- a flag as a mark
abbrev mark_of : Bool → Mark
mark_of true = Live
mark_of false = Marked

-- there and back is the same mark
abbrev mark_back : (m : Mark) → mark_of (is_live m) ≡ m
mark_back Live = refl
mark_back Marked = refl

-- how it stores a mark
abbrev pub coded_mark : Coded Mark
coded_mark = code_by Bool coded_bool is_live mark_of mark_back
