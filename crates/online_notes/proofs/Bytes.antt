-- Spellings of pairs and notes, and what they spell.
use Rattle.std.proofs.Common.{List, None, Option, Some, [], ap, arith, cond, drop, get_or, length, length-append}
use Rattle.std.proofs.Common.{nat_eq, refl, sym, take, take-append-drop, ℕ, ◌+◌, ◌++◌, ◌<◌, ◌∙◌, ◌^◌, ◌∷◌, ◌≡◌}
use Rattle.std.specs.Int.{from_be_bytes, w16, w32}
use Rattle.std.proofs.lemmas.Nat.{be_bytes_2, be_bytes_4, from_be_bytes-to_be_bytes_2, from_be_bytes-to_be_bytes_4}
use Rattle.online_model.specs.declared.life.Life.TheVariants.{Building, Complete}
use Rattle.online_model.specs.declared.note.Note.{Note}
use Rattle.online_model.specs.declared.note.Note.TheVariants.{EntryIs, LifeIs}
use Rattle.online_notes.specs.Spelling.{IsWritable, IsWritablePair, bytes_of, page_bytes, pair_bytes, slot_bytes}
use Rattle.record_values.specs.declared.pair.Mark.TheVariants.{Live, Marked}
use Rattle.record_values.specs.declared.pair.Pair.{Pair}

page_length : (n : ℕ) → length (page_bytes n) ≡ 4
unfolding page_bytes
page_length n = refl

slot_length : (n : ℕ) → length (slot_bytes n) ≡ 2
unfolding slot_bytes
slot_length n = refl

pub pair_length : (p : Pair) → length (pair_bytes p) ≡ 6 + length p.key
pair_length p = omega (
  arith,
  length-append (page_bytes p.rid.page) (slot_bytes p.rid.slot ++ p.key),
  length-append (slot_bytes p.rid.slot) p.key,
  page_length p.rid.page,
  slot_length p.rid.slot,
)

after_page : (n : ℕ) (xs : List ℕ) → drop 4 (page_bytes n ++ xs) ≡ xs
unfolding page_bytes
after_page n xs = refl

up_to_page : (n : ℕ) (xs : List ℕ) → take 4 (page_bytes n ++ xs) ≡ page_bytes n
unfolding page_bytes
up_to_page n xs = refl

after_slot : (n : ℕ) (xs : List ℕ) → drop 2 (slot_bytes n ++ xs) ≡ xs
unfolding slot_bytes
after_slot n xs = refl

up_to_slot : (n : ℕ) (xs : List ℕ) → take 2 (slot_bytes n ++ xs) ≡ slot_bytes n
unfolding slot_bytes
up_to_slot n xs = refl

page_back : (n : ℕ) → n < 2 ^ 32 → from_be_bytes w32 (page_bytes n) ≡ n
unfolding page_bytes
page_back n h = from_be_bytes-to_be_bytes_4 n h

slot_back : (n : ℕ) → n < 2 ^ 16 → from_be_bytes w16 (slot_bytes n) ≡ n
unfolding slot_bytes
slot_back n h = from_be_bytes-to_be_bytes_2 n h

pub page_same : (bs : List ℕ) (n : ℕ) → length bs ≡ 4 → ((i : ℕ) → get_or bs i 0 < 256) → n ≡ from_be_bytes w32 bs → page_bytes n ≡ bs
unfolding page_bytes
page_same bs n l range e = be_bytes_4 bs n l range e

pub slot_same : (bs : List ℕ) (n : ℕ) → length bs ≡ 2 → ((i : ℕ) → get_or bs i 0 < 256) → n ≡ from_be_bytes w16 bs → slot_bytes n ≡ bs
unfolding slot_bytes
slot_same bs n l range e = be_bytes_2 bs n l range e

-- ---- bytes that spell a pair
rest_is : (bs : List ℕ) (p : Pair) → bs ≡ pair_bytes p → drop 4 bs ≡ slot_bytes p.rid.slot ++ p.key
rest_is bs p e = ap (drop 4) e ∙ after_page p.rid.page (slot_bytes p.rid.slot ++ p.key)

small_slot : (p : Pair) → IsWritablePair p → p.rid.slot < 2 ^ 16
small_slot p w = omega (arith, w.slot)

pub slot_is : (bs rest slot : List ℕ) (p : Pair) → IsWritablePair p → bs ≡ pair_bytes p → rest ≡ drop 4 bs → slot ≡ take 2 rest
    → from_be_bytes w16 slot ≡ p.rid.slot
slot_is bs rest slot p w e r s =
    ap (from_be_bytes w16) (s ∙ ap (take 2) (r ∙ rest_is bs p e) ∙ up_to_slot p.rid.slot p.key) ∙ slot_back p.rid.slot (small_slot p w)

pub key_is : (bs rest key : List ℕ) (p : Pair) → bs ≡ pair_bytes p → rest ≡ drop 4 bs → key ≡ drop 2 rest → key ≡ p.key
key_is bs rest key p e r k = k ∙ ap (drop 2) (r ∙ rest_is bs p e) ∙ after_slot p.rid.slot p.key

page_is : (bs : List ℕ) (p : Pair) → IsWritablePair p → bs ≡ pair_bytes p → from_be_bytes w32 (take 4 bs) ≡ p.rid.page
page_is bs p w e =
    ap (from_be_bytes w32) (ap (take 4) e ∙ up_to_page p.rid.page (slot_bytes p.rid.slot ++ p.key)) ∙ page_back p.rid.page w.page

pub spelled : (bs page rest slot key k : List ℕ) (n m : ℕ) → page ≡ take 4 bs → rest ≡ drop 4 bs → slot ≡ take 2 rest → key ≡ drop 2 rest
    → page_bytes n ≡ page → slot_bytes m ≡ slot → k ≡ key
    → bs ≡ pair_bytes (record { key = k; rid = record { page = n; slot = m } })
spelled bs page rest slot key k n m p r s t pages slots kk =
    let whole : take 4 bs ++ drop 4 bs ≡ bs = take-append-drop 4 bs in
    let rest_whole : take 2 rest ++ drop 2 rest ≡ rest = take-append-drop 2 rest in
    sym whole ∙ ap (λ xs. xs ++ drop 4 bs) (sym p ∙ sym pages) ∙ ap (λ xs. page_bytes n ++ xs)
    (sym r ∙ sym rest_whole ∙ ap (λ xs. xs ++ drop 2 rest) (sym s ∙ sym slots) ∙ ap (λ xs. slot_bytes m ++ xs) (sym t ∙ sym kk))

-- ---- one spelling, one note
pair_once : (p q : Pair) → IsWritablePair p → IsWritablePair q → pair_bytes p ≡ pair_bytes q → p ≡ q
pair_once p q v w e =
    let page = sym (page_is (pair_bytes p) p v refl) ∙ page_is (pair_bytes p) q w e in
    let slot = sym (slot_is (pair_bytes p) (drop 4 (pair_bytes p)) (take 2 (drop 4 (pair_bytes p))) p v refl refl refl)
    ∙ slot_is (pair_bytes p) (drop 4 (pair_bytes p)) (take 2 (drop 4 (pair_bytes p))) q w e refl refl in
    let key = sym (key_is (pair_bytes p) (drop 4 (pair_bytes p)) (drop 2 (drop 4 (pair_bytes p))) p refl refl refl)
    ∙ key_is (pair_bytes p) (drop 4 (pair_bytes p)) (drop 2 (drop 4 (pair_bytes p))) q e refl refl in
    λ i. record { key = key i; rid = record { page = page i; slot = slot i } }

-- what a note sets, and of which pair
abbrev kind : Note → ℕ
kind (EntryIs p (Some Live)) = 1
kind (EntryIs p (Some Marked)) = 2
kind (EntryIs p None) = 3
kind (LifeIs (Building (Some p))) = 4
kind (LifeIs (Building None)) = 5
kind (LifeIs Complete) = 6

abbrev pair_in : Note → Option Pair
pair_in (EntryIs p mark) = Some p
pair_in (LifeIs (Building highest)) = highest
pair_in (LifeIs Complete) = None

abbrev rest_of : Option Pair → List ℕ
rest_of None = []
rest_of (Some p) = pair_bytes p

abbrev IsWritableIf : Option Pair → Type 0
IsWritableIf None = Unit {0}
IsWritableIf (Some p) = IsWritablePair p

abbrev entry_for : Option Pair → Note → (Pair → Note) → Note
entry_for None other f = other
entry_for (Some p) other f = f p

abbrev note_from : ℕ → Option Pair → Note
note_from k o = cond (nat_eq k 1) (entry_for o (LifeIs Complete) (λ p. EntryIs p (Some Live)))
    (cond (nat_eq k 2) (entry_for o (LifeIs Complete) (λ p. EntryIs p (Some Marked)))
    (cond (nat_eq k 3) (entry_for o (LifeIs Complete) (λ p. EntryIs p None))
    (cond (nat_eq k 6) (LifeIs Complete) (LifeIs (Building o)))))

note_back : (n : Note) → note_from (kind n) (pair_in n) ≡ n
note_back (EntryIs p (Some Live)) = refl
note_back (EntryIs p (Some Marked)) = refl
note_back (EntryIs p None) = refl
note_back (LifeIs (Building (Some p))) = refl
note_back (LifeIs (Building None)) = refl
note_back (LifeIs Complete) = refl

bytes_are : (n : Note) → bytes_of n ≡ kind n ∷ rest_of (pair_in n)
bytes_are (EntryIs p (Some Live)) = refl
bytes_are (EntryIs p (Some Marked)) = refl
bytes_are (EntryIs p None) = refl
bytes_are (LifeIs (Building (Some p))) = refl
bytes_are (LifeIs (Building None)) = refl
bytes_are (LifeIs Complete) = refl

writable_if : (n : Note) → IsWritable n → IsWritableIf (pair_in n)
writable_if (EntryIs p mark) w = w
writable_if (LifeIs (Building (Some p))) w = w
writable_if (LifeIs (Building None)) w = tt
writable_if (LifeIs Complete) w = tt

not_empty : (p : Pair) → [] ≡ pair_bytes p → ⊥
not_empty p e = absurd (omega (arith, ap length e, pair_length p))

rest_once : (a b : Option Pair) → IsWritableIf a → IsWritableIf b → rest_of a ≡ rest_of b → a ≡ b
rest_once None None v w e = refl
rest_once None (Some q) v w e = absurd (not_empty q e)
rest_once (Some p) None v w e = absurd (not_empty p (sym e))
rest_once (Some p) (Some q) v w e = ap Some (pair_once p q v w e)

same_head : (a b : ℕ) (xs ys : List ℕ) → a ∷ xs ≡ b ∷ ys → a ≡ b
same_head a b xs ys e = cc

same_tail : (a b : ℕ) (xs ys : List ℕ) → a ∷ xs ≡ b ∷ ys → xs ≡ ys
same_tail a b xs ys e = cc

pub note_once : (m n : Note) → IsWritable m → IsWritable n → bytes_of m ≡ bytes_of n → m ≡ n
note_once m n v w e =
    let both = sym (bytes_are m) ∙ e ∙ bytes_are n in
    let kinds = same_head (kind m) (kind n) (rest_of (pair_in m)) (rest_of (pair_in n)) both in
    let pairs = rest_once (pair_in m) (pair_in n) (writable_if m v) (writable_if n w)
    (same_tail (kind m) (kind n) (rest_of (pair_in m)) (rest_of (pair_in n)) both) in
    sym (note_back m) ∙ ap (λ k. note_from k (pair_in m)) kinds ∙ ap (note_from (kind n)) pairs ∙ note_back n
