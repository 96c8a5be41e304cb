-- What was read is spelled so.
use Rattle.std.proofs.Common.{◌≡◌, ℕ, zero, suc, ◌+◌, ◌*◌, ◌-◌, ◌≤◌, ◌<◌, ◌^◌, true, cond, ltb, eqb, List, [], ◌∷◌, ◌++◌, length, take, drop, Option, Some}
use Rattle.std.proofs.Common.{None, refl, sym, ap, subst, ◌∙◌, append_assoc, arith, length-append, append-nil, length-take-le, length-drop, take-append-drop}
use Rattle.std.proofs.Common.{inl, inr}
use Rattle.std.specs.Prelude.{slice_range}
use Rattle.std.proofs.lemmas.Bool.{ltb-false, eqb-true}
use Rattle.std.proofs.Math.Seq.{take-add}
use Rattle.byteorder.specs.Numbers.{length-bytes_high_first}
use Rattle.record_values.specs.Version.{key_max, body_max}
use Rattle.record_values.specs.declared.version.Version.{Version}
use Rattle.record_values.specs.Values.{Place}
use Rattle.record_values.specs.declared.row.Row.{Row}
use Rattle.record_values.specs.declared.pair.Pair.{Pair}
use Rattle.record_values.specs.declared.pair.Mark.{Mark}
use Rattle.record_values.specs.declared.pair.Mark.TheVariants.{Live, Marked}
use Rattle.records.specs.Spelling.{u16, u32, u64, rid, old_row, new_row, PairFitsIn}
use Rattle.records.specs.declared.change.Rows.{Rows}
use Rattle.records.specs.declared.change.Rows.TheVariants.{Inserted, Deleted, Updated}
use Rattle.records.specs.Spelling.{RowsFitIn}
use Rattle.records.specs.Reading.{◌>>=◌, byte_at, rid_at, u32_at, u64_at, rows_of}
use Rattle.model.specs.declared.life.Life.{Life}
use Rattle.model.specs.declared.life.Life.TheVariants.{Absent, Building, Complete}
use Rattle.store_image_parts.specs.declared.header.Header.{Header}
use Rattle.store_image_parts.specs.declared.item.UndoItem.{UndoItem}
use Rattle.store_image_parts.specs.Spelling.{filled, item_in, highest_in, life_in, header_in, ItemFitsIn, PairFitsInIfSome, LifeFitsIn, HeaderFitsIn}
use Rattle.store_image_parts.specs.Reading.{item_at, highest_at, life_at, header_at}
use Rattle.records.proofs.Steps.{bind_some, passed_not, passed, chosen, by_kind, some, some_is, Takes, Takes-then}
use Rattle.record_values.proofs.Bytes.{IsBytes, IsBytes-drop, IsBytes-rest}
use Rattle.records.proofs.Steps.{Takes-cons}
use Rattle.records.proofs.Fields.{rid_takes, u32_takes, u64_takes}
use Rattle.store_image_parts.specs.Spelling.{zeros, padded, row_size, pair_size, item_size, entry_size, row_in, pair_in, mark, entry_in, RowFitsInIfSome}
use Rattle.store_image_parts.specs.Reading.{are_zeros, skipped, padded_at, row_at, pair_at, entry_at}
use Rattle.store_image_parts.proofs.Again.{zeros_cons}
use Rattle.store_image_parts.proofs.Bytes.{length-zeros}
use Rattle.store_image_parts.proofs.Zeros.{zeros_found}

-- ---- fields

byte_takes : (bytes : List ℕ) (b : ℕ) (rest : List ℕ) → IsBytes bytes → byte_at bytes ≡ Some (b, rest) → Takes bytes (b ∷ []) rest
unfolding byte_at
byte_takes [] b rest fits e = absurd cc
byte_takes (n ∷ bs) b rest fits e = subst (λ (p : ℕ × List ℕ). Takes (n ∷ bs) (p.0 ∷ []) p.1) (some_is (n, bs) (b, rest) e)
    (record { parts = refl; rest_fits = IsBytes-rest n bs fits })

skipped_takes : (count : ℕ) (bytes rest : List ℕ) → IsBytes bytes → skipped count bytes ≡ Some rest → Takes bytes (zeros count) rest
unfolding skipped
skipped_takes count bytes rest fits e =
    let g = passed_not (ltb (length bytes) count) (cond (are_zeros (take count bytes)) (Some (drop count bytes)) None) rest e in
    let z = passed (are_zeros (take count bytes)) (Some (drop count bytes)) rest g.1 in
    let long : length (take count bytes) ≡ count = length-take-le count bytes (ltb-false _ _ g.0) in
    let front : take count bytes ≡ zeros count = zeros_found (take count bytes) z.0 ∙ ap zeros long in
    subst (λ (t : List ℕ). Takes bytes (zeros count) t) (some_is (drop count bytes) rest z.1)
    (record { parts = sym (take-append-drop count bytes) ∙ ap (λ (t : List ℕ). t ++ drop count bytes) front; rest_fits = IsBytes-drop count bytes fits })

padded_takes : (max : ℕ) (bytes x rest : List ℕ) → IsBytes bytes → padded_at max bytes ≡ Some (x, rest) → Takes bytes (padded max x) rest × (length x ≤ max)
unfolding padded_at byte_at
padded_takes max [] x rest fits e = absurd cc
padded_takes max (n ∷ bs) x rest fits e =
    let found : Option (List ℕ × List ℕ) = Some (take n bs, drop max bs) in
    let tested = are_zeros (slice_range bs n max) in
    let g = passed_not (ltb max n) (cond (ltb (length bs) max) None (cond tested found None)) (x, rest) e in
    let h = passed_not (ltb (length bs) max) (cond tested found None) (x, rest) g.1 in
    let z = passed tested found (x, rest) h.1 in
    let low : n ≤ max = ltb-false _ _ g.0 in
    let long : max ≤ length bs = ltb-false _ _ h.0 in
    let len : length (take n bs) ≡ n = length-take-le n bs (omega (arith, low, long)) in
    let size : length (slice_range bs n max) ≡ max - n = length-take-le (max - n) (drop n bs) (omega (arith, low, long, length-drop n bs)) in
    let same : length (slice_range bs n max) ≡ max - length (take n bs) = omega (arith, size, len) in
    let padding : slice_range bs n max ≡ zeros (max - length (take n bs)) = zeros_found (slice_range bs n max) z.0 ∙ ap zeros same in
    let front : take max bs ≡ take n bs ++ zeros (max - length (take n bs)) =
    ap (λ (k : ℕ). take k bs) (let k : max ≡ n + (max - n) = omega (arith, low) in k) ∙ take-add n (max - n) bs ∙ ap (λ (t : List ℕ). take n bs ++ t) padding in
    let whole : n ∷ bs ≡ padded max (take n bs) ++ drop max bs =
    ap (λ (k : ℕ). k ∷ bs) (sym len) ∙ ap (λ (t : List ℕ). length (take n bs) ∷ t) (sym (take-append-drop max bs)
    ∙ ap (λ (t : List ℕ). t ++ drop max bs) front) in
    subst (λ (p : List ℕ × List ℕ). Takes (n ∷ bs) (padded max p.0) p.1 × (length p.0 ≤ max)) (some_is (take n bs, drop max bs) (x, rest) z.1)
    (record { parts = whole; rest_fits = IsBytes-drop max bs (IsBytes-rest n bs fits) }, omega (arith, len, low))

-- ---- rows

abbrev present : Version → List ℕ → Option (Option Row × List ℕ)
present v bytes = padded_at (key_max v) bytes >>= λ key. padded_at (body_max v) key.1 >>= λ body. Some (Some (record { key = key.0; body = body.0 }), body.1)

present_takes : (v : Version) (bytes : List ℕ) (o : Option Row) (rest : List ℕ) → IsBytes bytes → present v bytes ≡ Some (o, rest)
    → Takes (1 ∷ bytes) (row_in v o) rest × RowFitsInIfSome v o
present_takes v bytes o rest fits e =
    let k = bind_some (padded_at (key_max v) bytes) (λ key. padded_at (body_max v) key.1 >>= λ body.
    Some (Some (record { key = key.0; body = body.0 }), body.1)) (o, rest) e in
    let b = bind_some (padded_at (body_max v) k.0.1) (λ body. Some (Some (record { key = k.0.0; body = body.0 }), body.1)) (o, rest) k.2 in
    let first = padded_takes (key_max v) bytes k.0.0 k.0.1 fits k.1 in
    let second = padded_takes (body_max v) k.0.1 b.0.0 b.0.1 first.0.rest_fits b.1 in
    let made : Row = record { key = k.0.0; body = b.0.0 } in
    subst (λ (x : Option Row × List ℕ). Takes (1 ∷ bytes) (row_in v x.0) x.1 × RowFitsInIfSome v x.0) (some_is (Some made, b.0.1) (o, rest) b.2) (
      Takes-cons 1 bytes _ _ (Takes-then bytes (padded (key_max v) k.0.0) k.0.1 (padded (body_max v) b.0.0) b.0.1 first.0 second.0),
      record { key = first.1; body = second.1 },
    )

abbrev no_row : Version → List ℕ → Option (Option Row × List ℕ)
no_row v bytes = skipped (row_size v - 1) bytes >>= λ behind. Some (None, behind)

none_takes : (v : Version) (bytes : List ℕ) (o : Option Row) (rest : List ℕ) → IsBytes bytes → no_row v bytes ≡ Some (o, rest)
    → Takes (0 ∷ bytes) (row_in v o) rest × RowFitsInIfSome v o
none_takes v bytes o rest fits e =
    let s = bind_some (skipped (row_size v - 1) bytes) (λ behind. Some (None, behind)) (o, rest) e in
    let t = skipped_takes (row_size v - 1) bytes s.0 fits s.1 in
    subst (λ (x : Option Row × List ℕ). Takes (0 ∷ bytes) (row_in v x.0) x.1 × RowFitsInIfSome v x.0) (some_is (None, s.0) (o, rest) s.2) (
      subst (λ (text : List ℕ). Takes (0 ∷ bytes) text s.0) (sym (zeros_cons (row_size v) (omega arith))) (Takes-cons 0 bytes (zeros (row_size v - 1)) s.0 t),
      tt,
    )

pub row_takes : (v : Version) (bytes : List ℕ) (o : Option Row) (rest : List ℕ) → IsBytes bytes → row_at v bytes ≡ Some (o, rest)
    → Takes bytes (row_in v o) rest × RowFitsInIfSome v o
unfolding row_at byte_at
row_takes v [] o rest fits e = absurd cc
row_takes v (t ∷ bytes) o rest fits e =
    let bytes_fit = IsBytes-rest t bytes fits in
    elim (chosen (eqb t 0) (no_row v bytes) (cond (eqb t 1) (present v bytes) None) (Some (o, rest)) e) [
      | inl h ↦ subst (λ (k : ℕ). Takes (k ∷ bytes) (row_in v o) rest × RowFitsInIfSome v o) (sym (eqb-true t 0 h.0)) (none_takes v bytes o rest bytes_fit h.1)
      | inr h ↦
          let one = passed (eqb t 1) (present v bytes) (o, rest) h.1 in
          subst (λ (k : ℕ). Takes (k ∷ bytes) (row_in v o) rest × RowFitsInIfSome v o) (sym (eqb-true t 1 one.0)) (present_takes v bytes o rest bytes_fit one.1)
    ]

-- ---- entries

pair_takes : (v : Version) (bytes : List ℕ) (p : Pair) (rest : List ℕ) → IsBytes bytes → pair_at v bytes ≡ Some (p, rest) → Takes bytes (pair_in v p) rest
    × PairFitsIn v p
unfolding pair_at
pair_takes v bytes p rest fits e =
    let k = bind_some (padded_at (key_max v) bytes) (λ key. rid_at key.1 >>= λ place. Some (record { key = key.0; rid = place.0 }, place.1)) (p, rest) e in
    let r = bind_some (rid_at k.0.1) (λ place. Some (record { key = k.0.0; rid = place.0 }, place.1)) (p, rest) k.2 in
    let first = padded_takes (key_max v) bytes k.0.0 k.0.1 fits k.1 in
    let second = rid_takes k.0.1 r.0.0 r.0.1 first.0.rest_fits r.1 in
    let made : Pair = record { key = k.0.0; rid = r.0.0 } in
    subst (λ (x : Pair × List ℕ). Takes bytes (pair_in v x.0) x.1 × PairFitsIn v x.0) (some_is (made, r.0.1) (p, rest) r.2)
    (Takes-then bytes (padded (key_max v) k.0.0) k.0.1 (rid r.0.0) r.0.1 first.0 second.0, record { key = first.1; rid = second.1 })

-- the mark of an entry
abbrev with_mark : Pair → ℕ × List ℕ → Option ((Pair × Mark) × List ℕ)
with_mark p tag = cond (eqb tag.0 1) (Some ((p, Live), tag.1)) (cond (eqb tag.0 2) (Some ((p, Marked), tag.1)) None)

marked_takes : (v : Version) (bytes : List ℕ) (p : Pair) (tag : ℕ) (m : Mark) (behind : List ℕ) (e : Pair × Mark) (rest : List ℕ)
    → Takes bytes (pair_in v p ++ tag ∷ []) behind → PairFitsIn v p → tag ≡ mark m
    → some {A = (Pair × Mark) × List ℕ} ((p, m), behind) ≡ some (e, rest) → Takes bytes (entry_in v e) rest × PairFitsIn v e.0
marked_takes v bytes p tag m behind e rest takes fits is there =
    subst (λ (x : (Pair × Mark) × List ℕ). Takes bytes (entry_in v x.0) x.1 × PairFitsIn v x.0.0) (some_is ((p, m), behind) (e, rest) there)
    (subst (λ (k : ℕ). Takes bytes (pair_in v p ++ k ∷ []) behind) is takes, fits)

pub entry_takes : (v : Version) (bytes : List ℕ) (e : Pair × Mark) (rest : List ℕ) → IsBytes bytes → entry_at v bytes ≡ Some (e, rest)
    → Takes bytes (entry_in v e) rest × PairFitsIn v e.0
unfolding entry_at
entry_takes v bytes e rest fits read =
    let p = bind_some (pair_at v bytes) (λ p. byte_at p.1 >>= λ tag. with_mark p.0 tag) (e, rest) read in
    let t = bind_some (byte_at p.0.1) (λ tag. with_mark p.0.0 tag) (e, rest) p.2 in
    let first = pair_takes v bytes p.0.0 p.0.1 fits p.1 in
    let both = Takes-then bytes (pair_in v p.0.0) p.0.1 (t.0.0 ∷ []) t.0.1 first.0 (byte_takes p.0.1 t.0.0 t.0.1 first.0.rest_fits t.1) in
    let live : Option ((Pair × Mark) × List ℕ) = Some ((p.0.0, Live), t.0.1) in
    let marked : Option ((Pair × Mark) × List ℕ) = Some ((p.0.0, Marked), t.0.1) in
    elim (chosen (eqb t.0.0 1) live (cond (eqb t.0.0 2) marked None) (Some (e, rest)) t.2) [
      | inl h ↦ marked_takes v bytes p.0.0 t.0.0 Live t.0.1 e rest both first.1 (eqb-true t.0.0 1 h.0) h.1
      | inr h ↦
          let two = passed (eqb t.0.0 2) marked (e, rest) h.1 in
          marked_takes v bytes p.0.0 t.0.0 Marked t.0.1 e rest both first.1 (eqb-true t.0.0 2 two.0) two.1
    ]

-- ---- undo items

rows_are : (old new : Option Row) (rows : Rows) → rows_of old new ≡ Some rows → (old_row rows ≡ old) × (new_row rows ≡ new)
rows_are None None rows e = absurd cc
rows_are None (Some new) rows e = subst (λ (r : Rows). (old_row r ≡ None) × (new_row r ≡ Some new)) (some_is (Inserted new) rows e) (refl, refl)
rows_are (Some old) None rows e = subst (λ (r : Rows). (old_row r ≡ Some old) × (new_row r ≡ None)) (some_is (Deleted old) rows e) (refl, refl)
rows_are (Some old) (Some new) rows e = subst (λ (r : Rows). (old_row r ≡ Some old) × (new_row r ≡ Some new)) (some_is (Updated old new) rows e) (refl, refl)

rows_fit : (v : Version) (rows : Rows) → RowFitsInIfSome v (old_row rows) → RowFitsInIfSome v (new_row rows) → RowsFitIn v rows
rows_fit v (Inserted new) old_fits new_fits = new_fits
rows_fit v (Deleted old) old_fits new_fits = old_fits
rows_fit v (Updated old new) old_fits new_fits = (old_fits, new_fits)

-- the bytes of an item, without the zeros behind them
abbrev pub item_text : Version → UndoItem → List ℕ
item_text v i = 1 ∷ (rid i.rid ++ (row_in v (old_row i.rows) ++ row_in v (new_row i.rows)))

abbrev item_made : ℕ → Place → Rows → List ℕ → Option (UndoItem × List ℕ)
item_made tag place rows behind = cond (eqb tag 1) (Some (record { rid = place; rows = rows }, behind)) None

pub item_takes : (v : Version) (bytes : List ℕ) (i : UndoItem) (rest : List ℕ) → IsBytes bytes → item_at v bytes ≡ Some (i, rest)
    → Takes bytes (item_text v i) rest × ItemFitsIn v i
unfolding item_at
item_takes v bytes i rest fits read =
    let t = bind_some (byte_at bytes) (λ tag. rid_at tag.1 >>= λ place. row_at v place.1 >>= λ old. row_at v old.1 >>= λ new. rows_of old.0 new.0 >>= λ rows.
    item_made tag.0 place.0 rows new.1) (i, rest) read in
    let p = bind_some (rid_at t.0.1) (λ place. row_at v place.1 >>= λ old. row_at v old.1 >>= λ new. rows_of old.0 new.0 >>= λ rows.
    item_made t.0.0 place.0 rows new.1) (i, rest) t.2 in
    let o = bind_some (row_at v p.0.1) (λ old. row_at v old.1 >>= λ new. rows_of old.0 new.0 >>= λ rows. item_made t.0.0 p.0.0 rows new.1) (i, rest) p.2 in
    let n = bind_some (row_at v o.0.1) (λ new. rows_of o.0.0 new.0 >>= λ rows. item_made t.0.0 p.0.0 rows new.1) (i, rest) o.2 in
    let r = bind_some (rows_of o.0.0 n.0.0) (λ rows. item_made t.0.0 p.0.0 rows n.0.1) (i, rest) n.2 in
    let made : UndoItem = record { rid = p.0.0; rows = r.0 } in
    let one = passed (eqb t.0.0 1) (Some (made, n.0.1)) (i, rest) r.2 in
    let tag = byte_takes bytes t.0.0 t.0.1 fits t.1 in
    let place = rid_takes t.0.1 p.0.0 p.0.1 tag.rest_fits p.1 in
    let old = row_takes v p.0.1 o.0.0 o.0.1 place.0.rest_fits o.1 in
    let new = row_takes v o.0.1 n.0.0 n.0.1 old.0.rest_fits n.1 in
    let are = rows_are o.0.0 n.0.0 r.0 r.1 in
    let rows = Takes-then p.0.1 (row_in v o.0.0) o.0.1 (row_in v n.0.0) n.0.1 old.0 new.0 in
    let behind = Takes-then t.0.1 (rid p.0.0) p.0.1 (row_in v o.0.0 ++ row_in v n.0.0) n.0.1 place.0 rows in
    let whole = Takes-then bytes (t.0.0 ∷ []) t.0.1 (rid p.0.0 ++ (row_in v o.0.0 ++ row_in v n.0.0)) n.0.1 tag behind in
    let text : t.0.0 ∷ (rid p.0.0 ++ (row_in v o.0.0 ++ row_in v n.0.0)) ≡ item_text v made =
    ap (λ (k : ℕ). k ∷ (rid p.0.0 ++ (row_in v o.0.0 ++ row_in v n.0.0))) (eqb-true t.0.0 1 one.0)
    ∙ ap (λ (x : Option Row). 1 ∷ (rid p.0.0 ++ (row_in v x ++ row_in v n.0.0))) (sym are.0)
    ∙ ap (λ (x : Option Row). 1 ∷ (rid p.0.0 ++ (row_in v (old_row r.0) ++ row_in v x))) (sym are.1) in
    subst (λ (x : UndoItem × List ℕ). Takes bytes (item_text v x.0) x.1 × ItemFitsIn v x.0) (some_is (made, n.0.1) (i, rest) one.1) (
      subst (λ (x : List ℕ). Takes bytes x n.0.1) text whole,
      record {
        rid = place.1;
        rows = rows_fit v r.0 (subst (RowFitsInIfSome v) (sym are.0) old.1) (subst (RowFitsInIfSome v) (sym are.1) new.1);
      },
    )

-- ---- the header

abbrev no_highest : Version → List ℕ → Option (Option Pair × List ℕ)
no_highest v bytes = skipped (pair_size v) bytes >>= λ rest. Some (None, rest)

abbrev some_highest : Version → List ℕ → Option (Option Pair × List ℕ)
some_highest v bytes = pair_at v bytes >>= λ p. Some (Some p.0, p.1)

none_highest_takes : (v : Version) (bytes : List ℕ) (o : Option Pair) (rest : List ℕ) → IsBytes bytes → no_highest v bytes ≡ Some (o, rest)
    → Takes (0 ∷ bytes) (highest_in v o) rest × PairFitsInIfSome v o
none_highest_takes v bytes o rest fits e =
    let s = bind_some (skipped (pair_size v) bytes) (λ behind. Some (None, behind)) (o, rest) e in
    let t = skipped_takes (pair_size v) bytes s.0 fits s.1 in
    subst (λ (x : Option Pair × List ℕ). Takes (0 ∷ bytes) (highest_in v x.0) x.1 × PairFitsInIfSome v x.0) (some_is (None, s.0) (o, rest) s.2) (
      subst (λ (text : List ℕ). Takes (0 ∷ bytes) text s.0)
          (sym (zeros_cons (1 + pair_size v) (omega arith) ∙ ap (λ (n : ℕ). 0 ∷ zeros n) (let e : 1 + pair_size v - 1 ≡ pair_size v = omega arith in e)))
          (Takes-cons 0 bytes (zeros (pair_size v)) s.0 t),
      tt,
    )

some_highest_takes : (v : Version) (bytes : List ℕ) (o : Option Pair) (rest : List ℕ) → IsBytes bytes → some_highest v bytes ≡ Some (o, rest)
    → Takes (1 ∷ bytes) (highest_in v o) rest × PairFitsInIfSome v o
some_highest_takes v bytes o rest fits e =
    let p = bind_some (pair_at v bytes) (λ p. Some (Some p.0, p.1)) (o, rest) e in
    let t = pair_takes v bytes p.0.0 p.0.1 fits p.1 in
    subst (λ (x : Option Pair × List ℕ). Takes (1 ∷ bytes) (highest_in v x.0) x.1 × PairFitsInIfSome v x.0) (some_is (Some p.0.0, p.0.1) (o, rest) p.2)
    (Takes-cons 1 bytes (pair_in v p.0.0) p.0.1 t.0, t.1)

highest_takes : (v : Version) (bytes : List ℕ) (o : Option Pair) (rest : List ℕ) → IsBytes bytes → highest_at v bytes ≡ Some (o, rest)
    → Takes bytes (highest_in v o) rest × PairFitsInIfSome v o
unfolding highest_at byte_at
highest_takes v [] o rest fits e = absurd cc
highest_takes v (t ∷ bytes) o rest fits e =
    let bytes_fit = IsBytes-rest t bytes fits in
    elim (chosen (eqb t 0) (no_highest v bytes) (cond (eqb t 1) (some_highest v bytes) None) (Some (o, rest)) e) [
      | inl h ↦ subst (λ (k : ℕ). Takes (k ∷ bytes) (highest_in v o) rest
          × PairFitsInIfSome v o) (sym (eqb-true t 0 h.0)) (none_highest_takes v bytes o rest bytes_fit h.1)
      | inr h ↦
          let one = passed (eqb t 1) (some_highest v bytes) (o, rest) h.1 in
          subst (λ (k : ℕ). Takes (k ∷ bytes) (highest_in v o) rest
          × PairFitsInIfSome v o) (sym (eqb-true t 1 one.0)) (some_highest_takes v bytes o rest bytes_fit one.1)
    ]

abbrev life_alone : Version → Life → List ℕ → Option (Life × List ℕ)
life_alone v l bytes = skipped (1 + pair_size v) bytes >>= λ rest. Some (l, rest)

abbrev life_built : Version → List ℕ → Option (Life × List ℕ)
life_built v bytes = highest_at v bytes >>= λ h. Some (Building h.0, h.1)

alone_takes : (v : Version) (k : ℕ) (alone : Life) (bytes : List ℕ) (l : Life) (rest : List ℕ) → IsBytes bytes → life_in v alone ≡ k ∷ highest_in v None
    → LifeFitsIn v alone → life_alone v alone bytes ≡ Some (l, rest) → Takes (k ∷ bytes) (life_in v l) rest × LifeFitsIn v l
alone_takes v k alone bytes l rest fits spelled good e =
    let s = bind_some (skipped (1 + pair_size v) bytes) (λ behind. Some (alone, behind)) (l, rest) e in
    let t = skipped_takes (1 + pair_size v) bytes s.0 fits s.1 in
    subst (λ (x : Life × List ℕ). Takes (k ∷ bytes) (life_in v x.0) x.1 × LifeFitsIn v x.0) (some_is (alone, s.0) (l, rest) s.2)
    (subst (λ (text : List ℕ). Takes (k ∷ bytes) text s.0) (sym spelled) (Takes-cons k bytes (zeros (1 + pair_size v)) s.0 t), good)

built_takes : (v : Version) (bytes : List ℕ) (l : Life) (rest : List ℕ) → IsBytes bytes → life_built v bytes ≡ Some (l, rest)
    → Takes (1 ∷ bytes) (life_in v l) rest × LifeFitsIn v l
built_takes v bytes l rest fits e =
    let h = bind_some (highest_at v bytes) (λ h. Some (Building h.0, h.1)) (l, rest) e in
    let t = highest_takes v bytes h.0.0 h.0.1 fits h.1 in
    subst (λ (x : Life × List ℕ). Takes (1 ∷ bytes) (life_in v x.0) x.1 × LifeFitsIn v x.0) (some_is (Building h.0.0, h.0.1) (l, rest) h.2)
    (Takes-cons 1 bytes (highest_in v h.0.0) h.0.1 t.0, t.1)

life_takes : (v : Version) (bytes : List ℕ) (l : Life) (rest : List ℕ) → IsBytes bytes → life_at v bytes ≡ Some (l, rest) → Takes bytes (life_in v l) rest
    × LifeFitsIn v l
unfolding life_at byte_at
life_takes v [] l rest fits e = absurd cc
life_takes v (t ∷ bytes) l rest fits e =
    let bytes_fit = IsBytes-rest t bytes fits in
    let at : (n : ℕ) → Takes (n ∷ bytes) (life_in v l) rest × LifeFitsIn v l → t ≡ n → Takes (t ∷ bytes) (life_in v l) rest
    × LifeFitsIn v l = λ n taken is. subst (λ (k : ℕ). Takes (k ∷ bytes) (life_in v l) rest × LifeFitsIn v l) (sym is) taken in
    by_kind t 0 (λ is e. at 0 (alone_takes v 0 Absent bytes l rest bytes_fit refl tt e) is) (
    by_kind t 1 (λ is e. at 1 (built_takes v bytes l rest bytes_fit e) is) (
    by_kind t 2 (λ is e. at 2 (alone_takes v 2 Complete bytes l rest bytes_fit refl tt e) is)
    (λ e. absurd cc))) e

abbrev pub header_text : Version → Header → List ℕ
header_text v h = life_in v h.life ++ (u64 h.base ++ u32 h.entries)

pub record HasHeader (v : Version) (bytes : List ℕ) (h : Header) (rest : List ℕ) : Type 0 where
  pub taken : Takes bytes (header_text v h) rest
  pub life : LifeFitsIn v h.life
  pub entries : h.entries < 2 ^ 32

pub header_takes : (v : Version) (bytes : List ℕ) (h : Header) (rest : List ℕ) → IsBytes bytes → header_at v bytes ≡ Some (h, rest) → HasHeader v bytes h rest
unfolding header_at
header_takes v bytes h rest fits read =
    let l = bind_some (life_at v bytes) (λ life. u64_at life.1 >>= λ base. u32_at base.1 >>= λ entries.
    Some (record { life = life.0; base = base.0; entries = entries.0 }, entries.1)) (h, rest) read in
    let b = bind_some (u64_at l.0.1) (λ base. u32_at base.1 >>= λ entries. Some (record { life = l.0.0; base = base.0; entries = entries.0 }, entries.1)) (
      h,
      rest,
    ) l.2 in
    let n = bind_some (u32_at b.0.1) (λ entries. Some (record { life = l.0.0; base = b.0.0; entries = entries.0 }, entries.1)) (h, rest) b.2 in
    let made : Header = record { life = l.0.0; base = b.0.0; entries = n.0.0 } in
    let life = life_takes v bytes l.0.0 l.0.1 fits l.1 in
    let base = u64_takes l.0.1 b.0.0 b.0.1 life.0.rest_fits b.1 in
    let count = u32_takes b.0.1 n.0.0 n.0.1 base.0.rest_fits n.1 in
    let numbers = Takes-then l.0.1 (u64 b.0.0) b.0.1 (u32 n.0.0) n.0.1 base.0 count.0 in
    subst (λ (x : Header × List ℕ). HasHeader v bytes x.0 x.1) (some_is (made, n.0.1) (h, rest) n.2)
    (record { taken = Takes-then bytes (life_in v l.0.0) l.0.1 (u64 b.0.0 ++ u32 n.0.0) n.0.1 life.0 numbers; life = life.1; entries = count.1 })

-- ---- zeros behind

pub filled_is : (size : ℕ) (bytes text rest : List ℕ) → bytes ≡ text ++ rest → length bytes ≡ size → are_zeros rest ≡ true → bytes ≡ filled size text
filled_is size bytes text rest parts long tested =
    let left : length rest ≡ size - length text = omega (arith, ap length parts, long, length-append {A = ℕ} text rest) in
    parts ∙ ap (λ (t : List ℕ). text ++ t) (zeros_found rest tested ∙ ap zeros left)

pub item_is : (v : Version) (bytes : List ℕ) (i : UndoItem) (rest : List ℕ) → IsBytes bytes → length bytes ≡ item_size v → item_at v bytes ≡ Some (i, rest)
    → are_zeros rest ≡ true → (bytes ≡ item_in v i) × ItemFitsIn v i
item_is v bytes i rest fits size read tested =
    let taken = item_takes v bytes i rest fits read in
    (filled_is (item_size v) bytes (item_text v i) rest taken.0.parts size tested, taken.1)

pub header_is : (v : Version) (bytes : List ℕ) (h : Header) (rest : List ℕ) → IsBytes bytes → length bytes ≡ 512 → header_at v bytes ≡ Some (h, rest)
    → are_zeros rest ≡ true → (bytes ≡ header_in v h) × LifeFitsIn v h.life × (h.entries < 2 ^ 32)
header_is v bytes h rest fits size read tested =
    let taken = header_takes v bytes h rest fits read in
    (filled_is 512 bytes (header_text v h) rest taken.taken.parts size tested, taken.life, taken.entries)

-- ---- nothing is left behind

nothing_left : (bytes text rest : List ℕ) → bytes ≡ text ++ rest → length bytes ≡ length text → bytes ≡ text
nothing_left bytes text [] is size = is ∙ append-nil text
nothing_left bytes text (b ∷ rest) is size =
    let more : length (b ∷ rest) ≡ suc (length rest) = refl in
    absurd (omega (arith, ap length is, size, length-append {A = ℕ} text (b ∷ rest), more))

length-padded : (max : ℕ) (x : List ℕ) → length x ≤ max → length (padded max x) ≡ suc max
length-padded max x low = ap suc (let e : length (x ++ zeros (max - length x))
    ≡ max = omega (arith, low, length-append {A = ℕ} x (zeros (max - length x)), length-zeros (max - length x)) in e)

length-rid : (r : Place) → length (rid r) ≡ 6
unfolding u16 u32
length-rid r = omega (arith, length-append {A = ℕ} (u32 r.page) (u16 r.slot), length-bytes_high_first 4 r.page, length-bytes_high_first 2 r.slot)

length-row : (v : Version) (o : Option Row) → RowFitsInIfSome v o → length (row_in v o) ≡ row_size v
length-row v None fits = length-zeros (row_size v)
length-row v (Some r) fits = ap suc (let e : length (padded (key_max v) r.key ++ padded (body_max v) r.body) ≡ 2 + key_max v + body_max v = omega (
  arith,
  length-append {A = ℕ} (padded (key_max v) r.key) (padded (body_max v) r.body),
  length-padded (key_max v) r.key fits.key,
  length-padded (body_max v) r.body fits.body,
) in e) ∙ (let e : suc (2 + key_max v + body_max v) ≡ row_size v = omega arith in e)

length-entry : (v : Version) (e : Pair × Mark) → PairFitsIn v e.0 → length (entry_in v e) ≡ entry_size v
length-entry v (p, m) fits = let one : length (mark m ∷ []) ≡ 1 = refl in omega (
  arith,
  one,
  length-append {A = ℕ} (pair_in v p) (mark m ∷ []),
  length-append {A = ℕ} (padded (key_max v) p.key) (rid p.rid),
  length-padded (key_max v) p.key fits.key,
  length-rid p.rid,
)

pub row_is : (v : Version) (bytes : List ℕ) (o : Option Row) (rest : List ℕ) → IsBytes bytes → length bytes ≡ row_size v → row_at v bytes ≡ Some (o, rest)
    → (bytes ≡ row_in v o) × RowFitsInIfSome v o
row_is v bytes o rest fits size read =
    let taken = row_takes v bytes o rest fits read in
    (nothing_left bytes (row_in v o) rest taken.0.parts (size ∙ sym (length-row v o taken.1)), taken.1)

pub entry_is : (v : Version) (bytes : List ℕ) (e : Pair × Mark) (rest : List ℕ) → IsBytes bytes → length bytes ≡ entry_size v
    → entry_at v bytes ≡ Some (e, rest) → (bytes ≡ entry_in v e) × PairFitsIn v e.0
entry_is v bytes e rest fits size read =
    let taken = entry_takes v bytes e rest fits read in
    (nothing_left bytes (entry_in v e) rest taken.0.parts (size ∙ sym (length-entry v e taken.1)), taken.1)
