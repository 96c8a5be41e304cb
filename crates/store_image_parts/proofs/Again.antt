-- What was spelled is read again.
use Rattle.std.proofs.Common.{◌≡◌, ℕ, suc, ◌+◌, ◌*◌, ◌-◌, ◌≤◌, true, false, ltb, eqb, List, [], ◌∷◌, ◌++◌, length, take, drop, Option, Some, None, refl, sym}
use Rattle.std.proofs.Common.{ap, subst, ◌∙◌, append_assoc, arith, length-append, append-nil, Bor}
use Rattle.std.proofs.lemmas.Bool.{le-ltb, ne_eqb}
use Rattle.std.proofs.lemmas.List.{take_at, drop_at}
use Rattle.std.specs.Option.{option_map}
use Rattle.record_values.specs.Version.{key_max, body_max}
use Rattle.record_values.specs.declared.version.Version.{Version}
use Rattle.record_values.specs.declared.row.Row.{Row}
use Rattle.record_values.specs.declared.pair.Pair.{Pair}
use Rattle.record_values.specs.declared.pair.Mark.{Mark}
use Rattle.record_values.specs.declared.pair.Mark.TheVariants.{Live, Marked}
use Rattle.records.specs.declared.change.Rows.{Rows}
use Rattle.records.specs.declared.change.Rows.TheVariants.{Inserted, Deleted, Updated}
use Rattle.records.specs.Spelling.{u16, u32, u64, rid, old_row, new_row, PairFitsIn, RowsFitIn}
use Rattle.records.specs.Reading.{byte_at, rows_of}
use Rattle.records.proofs.Steps.{some_is}
use Rattle.records.proofs.Fields.{u16_again, u32_again, u64_again, rid_again}
use Rattle.model.specs.declared.life.Life.{Life}
use Rattle.model.specs.declared.life.Life.TheVariants.{Absent, Building, Complete}
use Rattle.store_image_parts.specs.declared.head.Head.{Head}
use Rattle.store_image_parts.specs.declared.header.Header.{Header}
use Rattle.store_image_parts.specs.declared.item.UndoItem.{UndoItem}
use Rattle.store_image_parts.specs.Spelling.{zeros, padded, row_size, pair_size, item_size, row_in, pair_in, mark, entry_in, head, item_in, highest_in, life_in}
use Rattle.store_image_parts.specs.Spelling.{header_in, RowFitsInIfSome, HeadFits, HeadFitsIfSome, ItemFitsIn, PairFitsInIfSome, LifeFitsIn, HeaderFitsIn}
use Rattle.store_image_parts.specs.Reading.{are_zeros, skipped, padded_at, row_at, pair_at, highest_at, life_at, header_at, head_at, item_at, entry_at}
use Rattle.store_image_parts.proofs.Bytes.{length-zeros}
use Rattle.store_image_parts.proofs.Zeros.{zeros_tested}

pub padded_again : (max : ℕ) (x rest : List ℕ) → length x ≤ max → padded_at max (padded max x ++ rest) ≡ Some (x, rest)
unfolding padded_at byte_at
padded_again max x rest le =
    let z : List ℕ = zeros (max - length x) in
    let size : length (x ++ z) ≡ max = omega (arith, le, length-append {A = ℕ} x z, length-zeros (max - length x)) in
    let low : ltb max (length x) ≡ false = le-ltb _ _ le in
    let long : ltb (length ((x ++ z) ++ rest)) max ≡ false = le-ltb _ _ (omega (arith, size, length-append {A = ℕ} (x ++ z) rest)) in
    let front : take (length x) ((x ++ z) ++ rest) ≡ x = ap (take (length x)) (append_assoc x z rest) ∙ take_at x (z ++ rest) (length x) refl in
    let behind : drop (length x) ((x ++ z) ++ rest) ≡ z ++ rest = ap (drop (length x)) (append_assoc x z rest) ∙ drop_at x (z ++ rest) (length x) refl in
    let padding : are_zeros (take (max - length x) (drop (length x) ((x ++ z) ++ rest))) ≡ true =
    ap (λ (t : List ℕ). are_zeros (take (max - length x) t)) behind ∙ ap are_zeros (take_at z rest (max - length x) (length-zeros (max - length x)))
    ∙ zeros_tested (max - length x) in
    rw (low, long, padding, front, drop_at (x ++ z) rest max size) refl

pub skipped_again : (count : ℕ) (rest : List ℕ) → skipped count (zeros count ++ rest) ≡ Some rest
unfolding skipped
skipped_again count rest =
    let long : ltb (length (zeros count ++ rest)) count ≡ false = le-ltb _ _ (omega (arith, length-zeros count, length-append {A = ℕ} (zeros count) rest)) in
    let tested : are_zeros (take count (zeros count ++ rest)) ≡ true = ap are_zeros (take_at (zeros count) rest count (length-zeros count))
    ∙ zeros_tested count in
    rw (long, tested, drop_at (zeros count) rest count (length-zeros count)) refl

zeros_more : (n : ℕ) → zeros (suc n) ≡ 0 ∷ zeros n
unfolding zeros
zeros_more n = refl

pub zeros_cons : (n : ℕ) → 1 ≤ n → zeros n ≡ 0 ∷ zeros (n - 1)
zeros_cons n some = ap zeros (let e : n ≡ suc (n - 1) = omega (arith, some) in e) ∙ zeros_more (n - 1)

no_row : (v : Version) (rest : List ℕ) → row_at v (0 ∷ (zeros (row_size v - 1) ++ rest)) ≡ Some (None, rest)
unfolding row_at byte_at
no_row v rest = rw (skipped_again (row_size v - 1) rest) refl

some_row : (v : Version) (r : Row) (rest : List ℕ) → RowFitsInIfSome v (Some r)
    → row_at v (1 ∷ (padded (key_max v) r.key ++ (padded (body_max v) r.body ++ rest))) ≡ Some (Some r, rest)
unfolding row_at byte_at
some_row v r rest fits = rw (padded_again (key_max v) r.key (padded (body_max v) r.body ++ rest) fits.key, padded_again (body_max v) r.body rest fits.body) refl

pub row_again : (v : Version) (o : Option Row) (rest : List ℕ) → RowFitsInIfSome v o → row_at v (row_in v o ++ rest) ≡ Some (o, rest)
row_again v None rest fits = ap (λ (t : List ℕ). row_at v (t ++ rest)) (zeros_cons (row_size v) (omega arith)) ∙ no_row v rest
row_again v (Some r) rest fits = ap (λ (t : List ℕ). row_at v (1 ∷ t)) (append_assoc (padded (key_max v) r.key) (padded (body_max v) r.body) rest)
    ∙ some_row v r rest fits

pub pair_again : (v : Version) (p : Pair) (rest : List ℕ) → PairFitsIn v p → pair_at v (pair_in v p ++ rest) ≡ Some (p, rest)
unfolding pair_at
pair_again v p rest fits = ap (pair_at v) (append_assoc (padded (key_max v) p.key) (rid p.rid) rest)
    ∙ rw (padded_again (key_max v) p.key (rid p.rid ++ rest) fits.key, rid_again p.rid rest fits.rid) refl

no_highest : (v : Version) (rest : List ℕ) → highest_at v (0 ∷ (zeros (pair_size v) ++ rest)) ≡ Some (None, rest)
unfolding highest_at byte_at
no_highest v rest = rw (skipped_again (pair_size v) rest) refl

some_highest : (v : Version) (p : Pair) (rest : List ℕ) → PairFitsIn v p → highest_at v (1 ∷ (pair_in v p ++ rest)) ≡ Some (Some p, rest)
unfolding highest_at byte_at
some_highest v p rest fits = rw (pair_again v p rest fits) refl

pub highest_again : (v : Version) (o : Option Pair) (rest : List ℕ) → PairFitsInIfSome v o → highest_at v (highest_in v o ++ rest) ≡ Some (o, rest)
highest_again v None rest fits = ap (λ (t : List ℕ). highest_at v (t ++ rest)) (zeros_cons (1 + pair_size v) (omega arith)
    ∙ ap (λ (n : ℕ). 0 ∷ zeros n) (let e : 1 + pair_size v - 1 ≡ pair_size v = omega arith in e)) ∙ no_highest v rest
highest_again v (Some p) rest fits = some_highest v p rest fits

pub life_again : (v : Version) (l : Life) (rest : List ℕ) → LifeFitsIn v l → life_at v (life_in v l ++ rest) ≡ Some (l, rest)
unfolding life_at byte_at
life_again v Absent rest fits = rw (skipped_again (1 + pair_size v) rest) refl
life_again v (Building p) rest fits = rw (highest_again v p rest fits) refl
life_again v Complete rest fits = rw (skipped_again (1 + pair_size v) rest) refl

pub header_front : (v : Version) (h : Header) (rest : List ℕ) → HeaderFitsIn v h
    → header_at v (life_in v h.life ++ (u64 h.base ++ (u32 h.entries ++ rest))) ≡ Some (h, rest)
unfolding header_at
header_front v h rest fits = rw (
  life_again v h.life (u64 h.base ++ (u32 h.entries ++ rest)) fits.life,
  u64_again h.base (u32 h.entries ++ rest) (omega (arith, fits.base)),
  u32_again h.entries rest fits.entries,
) refl

abbrev pub IsReadAgain : {X : Type 0} → (List ℕ → Option (X × List ℕ)) → List ℕ → X → Type 0
IsReadAgain at bytes x = (rest : List ℕ) × (at bytes ≡ Some (x, rest))

unfoldable pub header_read_again : (v : Version) (h : Header) → HeaderFitsIn v h → IsReadAgain (header_at v) (header_in v h) h
header_read_again v h fits =
    let z : List ℕ = zeros (512 - length (life_in v h.life ++ (u64 h.base ++ u32 h.entries))) in (
      z,
      ap (header_at v) (append_assoc (life_in v h.life) (u64 h.base ++ u32 h.entries) z
          ∙ ap (λ (t : List ℕ). life_in v h.life ++ t) (append_assoc (u64 h.base) (u32 h.entries) z)) ∙ header_front v h z fits,
    )

pub behind_header : (v : Version) (h : Header) (fits : HeaderFitsIn v h) → are_zeros (header_read_again v h fits).0 ≡ true
unfolding header_read_again
behind_header v h fits = zeros_tested (512 - length (life_in v h.life ++ (u64 h.base ++ u32 h.entries)))

head_front : (h : Head) (rest : List ℕ) → HeadFits h → head_at (u64 h.txn ++ (u16 h.changes ++ rest)) ≡ Some (Some h, rest)
unfolding head_at
head_front h rest fits =
    let few : ltb 64 h.changes ≡ false = le-ltb _ _ fits.changes in
    let begun : eqb h.txn 0 ≡ false = ne_eqb h.txn 0 (λ none. omega (arith, none, fits.txn.0)) in
    rw (u64_again h.txn (u16 h.changes ++ rest) fits.txn.1, u16_again h.changes rest (omega (arith, fits.changes)), begun, few) refl

no_head : (rest : List ℕ) → head_at (u64 0 ++ (u16 0 ++ rest)) ≡ Some (None, rest)
unfolding head_at
no_head rest = rw (u64_again 0 (u16 0 ++ rest) (omega arith), u16_again 0 rest (omega arith)) refl

zeros_head : zeros 32 ≡ u64 0 ++ (u16 0 ++ zeros 22)
unfolding zeros u64 u16
zeros_head = refl

pub head_read_again : (o : Option Head) → HeadFitsIfSome o → IsReadAgain head_at (head o) o
head_read_again None fits = (zeros 22, ap head_at zeros_head ∙ no_head (zeros 22))
head_read_again (Some h) fits =
    let z : List ℕ = zeros (32 - length (u64 h.txn ++ u16 h.changes)) in
    (z, ap head_at (append_assoc (u64 h.txn) (u16 h.changes) z) ∙ head_front h z fits)

both_rows : (rows : Rows) → rows_of (old_row rows) (new_row rows) ≡ Some rows
both_rows (Inserted new) = refl
both_rows (Deleted old) = refl
both_rows (Updated old new) = refl

old_fits : (v : Version) (rows : Rows) → RowsFitIn v rows → RowFitsInIfSome v (old_row rows)
old_fits v (Inserted new) fits = tt
old_fits v (Deleted old) fits = fits
old_fits v (Updated old new) fits = fits.0

new_fits : (v : Version) (rows : Rows) → RowsFitIn v rows → RowFitsInIfSome v (new_row rows)
new_fits v (Inserted new) fits = fits
new_fits v (Deleted old) fits = tt
new_fits v (Updated old new) fits = fits.1

pub item_front : (v : Version) (i : UndoItem) (rest : List ℕ) → ItemFitsIn v i
    → item_at v (1 ∷ (rid i.rid ++ (row_in v (old_row i.rows) ++ (row_in v (new_row i.rows) ++ rest)))) ≡ Some (i, rest)
unfolding item_at byte_at
item_front v i rest fits = rw (
  rid_again i.rid (row_in v (old_row i.rows) ++ (row_in v (new_row i.rows) ++ rest)) fits.rid,
  row_again v (old_row i.rows) (row_in v (new_row i.rows) ++ rest) (old_fits v i.rows fits.rows),
  row_again v (new_row i.rows) rest (new_fits v i.rows fits.rows),
  both_rows i.rows,
) refl

unfoldable pub item_read_again : (v : Version) (i : UndoItem) → ItemFitsIn v i → IsReadAgain (item_at v) (item_in v i) i
item_read_again v i fits =
    let a : List ℕ = row_in v (old_row i.rows) in
    let b : List ℕ = row_in v (new_row i.rows) in
    let z : List ℕ = zeros (item_size v - length (1 ∷ (rid i.rid ++ (a ++ b)))) in (
      z,
      ap (λ (t : List ℕ). item_at v (1 ∷ t)) (append_assoc (rid i.rid) (a ++ b) z ∙ ap (λ (t : List ℕ). rid i.rid ++ t) (append_assoc a b z))
          ∙ item_front v i z fits,
    )

pub behind_item : (v : Version) (i : UndoItem) (fits : ItemFitsIn v i) → are_zeros (item_read_again v i fits).0 ≡ true
unfolding item_read_again
behind_item v i fits = zeros_tested (item_size v - length (1 ∷ (rid i.rid ++ (row_in v (old_row i.rows) ++ row_in v (new_row i.rows)))))

entry_front : (v : Version) (p : Pair) (m : Mark) → PairFitsIn v p → entry_at v (pair_in v p ++ mark m ∷ []) ≡ Some ((p, m), [])
unfolding entry_at byte_at
entry_front v p Live fits = rw (pair_again v p (1 ∷ []) fits) refl
entry_front v p Marked fits = rw (pair_again v p (2 ∷ []) fits) refl

pub entry_read_again : (v : Version) (e : Pair × Mark) → PairFitsIn v e.0 → IsReadAgain (entry_at v) (entry_in v e) e
entry_read_again v (p, m) fits = ([], entry_front v p m fits)

pub row_read_again : (v : Version) (o : Option Row) → RowFitsInIfSome v o → IsReadAgain (row_at v) (row_in v o) o
row_read_again v o fits = ([], ap (row_at v) (sym (append-nil (row_in v o))) ∙ row_again v o [] fits)

-- ---- what a reader concludes, of what it found at the front of some bytes

abbrev IsNone : {A : Type 0} → Option A → Type 0
IsNone None = Unit {0}
IsNone (Some x) = ⊥

no_value : {A : Type 0} (r : Option A) (x : A) → r ≡ None → ¬ (r ≡ Some x)
no_value r x none some = subst IsNone (sym none ∙ some) tt

-- a value, and the bytes behind it
abbrev front : {X : Type 0} → X × Bor (List ℕ) → X × List ℕ
front y = (y.0, y.1.now)

pub read_as : {X : Type 0} (at : List ℕ → Option (X × List ℕ)) (bytes : List ℕ) (found : Option (X × Bor (List ℕ))) (y : X × Bor (List ℕ))
    → option_map front found ≡ at bytes → found ≡ Some y → at bytes ≡ Some (y.0, y.1.now)
read_as at bytes found y read is = sym read ∙ ap (option_map front) is

module _ {X : Type 0} (at : List ℕ → Option (X × List ℕ)) (bytes text : List ℕ) (x : X) (found : Option (X × Bor (List ℕ)))
    (read : option_map front found ≡ at bytes) (same : bytes ≡ text) (again : IsReadAgain at text x) where
  both : option_map front found ≡ Some (x, again.0)
  both = read ∙ ap at same ∙ again.1

  -- something is found at a spelling
  pub not_none : ¬ (found ≡ None)
  not_none none = no_value (option_map front found) (x, again.0) (ap (option_map front) none) both

  -- it is the value
  pub value_is : (y : X × Bor (List ℕ)) → found ≡ Some y → y.0 ≡ x
  value_is y is = ap (λ (p : X × List ℕ). p.0) (some_is (y.0, y.1.now) (x, again.0) (sym (ap (option_map front) is) ∙ both))

  -- and what is behind it is known
  pub rest_is : (y : X × Bor (List ℕ)) → found ≡ Some y → y.1.now ≡ again.0
  rest_is y is = ap (λ (p : X × List ℕ). p.1) (some_is (y.0, y.1.now) (x, again.0) (sym (ap (option_map front) is) ∙ both))
