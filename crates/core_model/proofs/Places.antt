-- Entries and reserved places stay within the geometry.
use Rattle.std.proofs.Common.{Bool, None, Option, Some, ap, arith, cond, false, inl, inr, is_some, refl, subst, sym, true, ℕ, ◌+◌, ◌-◌, ◌<◌, ◌∙◌, ◌≡◌, ◌≢◌, ◌≤◌}
use Rattle.std.proofs.Common.{◌⊎◌}
use Rattle.std.specs.Cmp.{nat_cmp_total}
use Rattle.std.specs.FinMap.{entries, get, insert, len, len-empty, len-insert, len-remove, nat_cmp-IsAntisymmetric, remove}
use Rattle.std.specs.Ordering.{nat_cmp}
use Rattle.records.specs.ChangeValue.{ChangeValue}
use Rattle.record_values.specs.Maps.{get-set_at_other, get-set_at_same, pair_exact, set_at}
use Rattle.record_values.specs.Orders.{pair_cmp, pair_cmp_total}
use Rattle.records.specs.Spelling.{new_row, old_row}
use Rattle.record_values.specs.Values.{Place}
use Rattle.record_values.specs.declared.pair.Mark.{Mark}
use Rattle.record_values.specs.declared.pair.Mark.TheVariants.{Live, Marked}
use Rattle.record_values.specs.declared.pair.Pair.{Pair}
use Rattle.record_values.specs.declared.row.Row.{Row}
use Rattle.record_values.specs.KeyActions.{after_action}
use Rattle.model.specs.Table.{Table}
use Rattle.record_values.specs.Entries.{Index}
use Rattle.record_values.specs.declared.key_action.KeyAction.TheVariants.{BuildPut}
use Rattle.core_model.proofs.Cells.{pair_decided}
use Rattle.core_model.proofs.Frames.{nat_decided, same_some, txn_apart, txn_here}
use Rattle.core_model.proofs.Latest.{Gone, gone_is, not_none}
use Rattle.core_model.proofs.Orders.{update_apart, update_here}
use Rattle.core_model.proofs.Sums.{left_apart, reserved_apart, reserved_insert, reserved_left, reserved_now}
use Rattle.core_model.specs.Changes.{Changes, Unchanged, gone, new_pair, old_pair, ◌▹◌}
use Rattle.core_model.specs.Invariants.{HasPlaces, IsHolderOf, lacking, lacks}
use Rattle.core_model.specs.States.{Active, Made, NewMarked, OldMarked, OldSet, Phase, RowSet, State}
use Rattle.core_model.specs.Steps.{Attempt, Begin, CanAttempt, CanClean, Checkpoint, Clean, Commit, Create, Drop, End, Finish, HasFreePlaces, IsEnabled, Keep}
use Rattle.core_model.specs.Steps.{Next, Start, MachineStep, Take, Undo, Wrap, after, all_reserved, attempted, carried_on, is_indexed, left, new_txn, places_of}
use Rattle.core_model.specs.Steps.{reserved, row_made, row_undone, started, txn_at, undoing, undone, undone_first, update, with_change, with_entry, with_phase}
use Rattle.core_model.specs.Steps.{with_places, with_txn, without_newest}

-- ---- an entry is set

lacks_one : (entries : Index) (o : Option Pair) → lacks entries o ≤ 1
lacks_one entries None = omega arith
lacks_one entries (Some p) = at_most (is_some (get entries p))
  where
    at_most : (b : Bool) → cond b 0 1 ≤ 1
    at_most true = omega arith
    at_most false = omega arith

abbrev none_there : Option Mark → ℕ
none_there o = cond (is_some o) 0 1

module _ (entries : Index) (mark : Mark) where
  set_one : (b : Bool) (n : ℕ) → cond b n (n + 1) ≡ n + cond b 0 1
  set_one true n = omega arith
  set_one false n = omega arith

  pub grown_by : (o : Option Pair) → len (with_entry entries o mark) ≡ len entries + lacks entries o
  grown_by None = no_more (len entries)
    where
      no_more : (n : ℕ) → n ≡ n + 0
      no_more n = omega arith
  grown_by (Some p) = len-insert pair_cmp_total entries p mark ∙ set_one (is_some (get entries p)) (len entries)

  none_lacking : (o : Option Pair) → lacks (with_entry entries o mark) o ≡ 0
  none_lacking None = refl
  none_lacking (Some p) = ap none_there (get-set_at_same pair_exact entries p (Some mark))

  same_lacks : (p q : Pair) → (q ≡ p) ⊎ (q ≢ p) → lacks (set_at entries p (Some mark)) (Some q) ≤ lacks entries (Some q)
  same_lacks p q (inl same) = rw (ap (λ w. lacks (set_at entries p (Some mark)) (Some w)) same ∙ none_lacking (Some p)) (omega arith)
  same_lacks p q (inr n) = rw (ap none_there (get-set_at_other pair_exact entries p (Some mark) q n)) (omega arith)

  pub fewer_lacking : (o q : Option Pair) → lacks (with_entry entries o mark) q ≤ lacks entries q
  fewer_lacking None q = omega arith
  fewer_lacking (Some p) None = omega arith
  fewer_lacking (Some p) (Some q) = same_lacks p q (pair_decided q p)

pub lacking_less : (indexed : Bool) (entries other : Index) → ((q : Option Pair) → lacks other q ≤ lacks entries q) → (cs : Changes)
    → lacking indexed other cs ≤ lacking indexed entries cs
lacking_less indexed entries other less Unchanged = omega arith
lacking_less indexed entries other less (older ▹ c) =
    let old : lacks other (old_pair indexed c) ≤ lacks entries (old_pair indexed c) = less (old_pair indexed c) in
    let new : lacks other (new_pair indexed c) ≤ lacks entries (new_pair indexed c) = less (new_pair indexed c) in
    let rest : lacking indexed other older ≤ lacking indexed entries older = lacking_less indexed entries other less older in
    omega (arith, old, new, rest)

module _ (indexed : Bool) (entries : Index) (mark : Mark) (c : ChangeValue) (older : Changes) where
  -- the pair of a change is set
  pub set_old : lacking indexed (with_entry entries (old_pair indexed c) mark) (older ▹ c) + lacks entries (old_pair indexed c) ≤ lacking indexed entries
      (older ▹ c)
  set_old =
      let e' = with_entry entries (old_pair indexed c) mark in
      let old : lacks e' (old_pair indexed c) ≡ 0 = none_lacking entries mark (old_pair indexed c) in
      let new : lacks e' (new_pair indexed c) ≤ lacks entries (new_pair indexed c) = fewer_lacking entries mark (old_pair indexed c) (new_pair indexed c) in
      let rest : lacking indexed e' older ≤ lacking indexed entries older =
      lacking_less indexed entries e' (fewer_lacking entries mark (old_pair indexed c)) older in
      omega (arith, old, new, rest)

  pub set_new : lacking indexed (with_entry entries (new_pair indexed c) mark) (older ▹ c) + lacks entries (new_pair indexed c) ≤ lacking indexed entries
      (older ▹ c)
  set_new =
      let e' = with_entry entries (new_pair indexed c) mark in
      let old : lacks e' (old_pair indexed c) ≤ lacks entries (old_pair indexed c) = fewer_lacking entries mark (new_pair indexed c) (old_pair indexed c) in
      let new : lacks e' (new_pair indexed c) ≡ 0 = none_lacking entries mark (new_pair indexed c) in
      let rest : lacking indexed e' older ≤ lacking indexed entries older =
      lacking_less indexed entries e' (fewer_lacking entries mark (new_pair indexed c)) older in
      omega (arith, old, new, rest)

  pub set_last : lacking indexed (with_entry entries (old_pair indexed c) mark) older + lacks entries (old_pair indexed c) ≤ lacking indexed entries (older ▹ c)
  set_last =
      let e' = with_entry entries (old_pair indexed c) mark in
      let rest : lacking indexed e' older ≤ lacking indexed entries older =
      lacking_less indexed entries e' (fewer_lacking entries mark (old_pair indexed c)) older in
      omega (arith, rest)

-- the places that a change reserves are enough for its pairs
enough_for : (indexed : Bool) (entries : Index) (c : ChangeValue) → lacks entries (old_pair indexed c) + lacks entries (new_pair indexed c) ≤ places_of indexed
enough_for false entries c = omega arith
enough_for true entries c =
    let old : lacks entries (old_pair true c) ≤ 1 = lacks_one entries (old_pair true c) in
    let new : lacks entries (new_pair true c) ≤ 1 = lacks_one entries (new_pair true c) in
    omega (arith, old, new)

one_txn : (s : State) (t : ℕ) (x : Active) (u : ℕ) (y : Active) → with_txn s t x u ≡ Some y → ((u ≡ t) × (y.changes ≡ x.changes))
    ⊎ ((u ≢ t) × (s.txns u ≡ Some y))
one_txn s t x u y e = elim (nat_decided u t) [
  | inl same ↦ inl (same, ap (λ (z : Active). z.changes) (same_some e (ap (with_txn s t x) same ∙ txn_here s t x)))
  | inr n ↦ inr (n, sym (txn_apart s t x u n) ∙ e)
]

module _ (s : State) (p : HasPlaces s) (t : ℕ) (cs : Changes) (more : ℕ) (entries' : Index) (n : ℕ)
    (grown : len entries' ≡ len s.entries + n) (less : (q : Option Pair) → lacks entries' q ≤ lacks s.entries q)
    (paid : lacking (is_indexed s.life) entries' cs + n ≤ reserved s.pledges t + more) (room : len s.entries + all_reserved s.pledges + more ≤ s.places) where
  abbrev now : ℕ
  now = reserved s.pledges t + more - (len entries' - len s.entries)

  uses_fits : len entries' + all_reserved (with_places s t more entries') ≤ s.places
  uses_fits =
      let sums : all_reserved (insert s.pledges t now) + reserved s.pledges t ≡ all_reserved s.pledges + now = reserved_insert s.pledges t now in
      omega (arith, sums, grown, paid, room)

  here_enough : lacking (is_indexed s.life) entries' cs ≤ now
  here_enough = omega (arith, grown, paid)

  uses_enough : (u : ℕ) (y : Active) → ((u ≡ t) × (y.changes ≡ cs)) ⊎ ((u ≢ t) × (s.txns u ≡ Some y))
      → lacking (is_indexed s.life) entries' y.changes ≤ reserved (with_places s t more entries') u
  uses_enough u y (inl mine) = rw (mine.1, reserved_now s.pledges t now u mine.0) here_enough
  uses_enough u y (inr other) =
      let before : lacking (is_indexed s.life) s.entries y.changes ≤ reserved s.pledges u = p.enough u y other.1 in
      let after : lacking (is_indexed s.life) entries' y.changes ≤ lacking (is_indexed s.life) s.entries y.changes =
      lacking_less (is_indexed s.life) s.entries entries' less y.changes in
      rw (reserved_apart s.pledges t now u other.0) (omega (arith, before, after))

-- the state after such a step
record Uses (s s' : State) (t : ℕ) (cs : Changes) (more n : ℕ) : Type 0 where
  pub life : s'.life ≡ s.life
  pub places : s'.places ≡ s.places
  pub pledges : s'.pledges ≡ with_places s t more s'.entries
  pub txns : (u : ℕ) (y : Active) → s'.txns u ≡ Some y → ((u ≡ t) × (y.changes ≡ cs)) ⊎ ((u ≢ t) × (s.txns u ≡ Some y))
  pub grown : len s'.entries ≡ len s.entries + n
  pub less : (q : Option Pair) → lacks s'.entries q ≤ lacks s.entries q
  pub paid : lacking (is_indexed s.life) s'.entries cs + n ≤ reserved s.pledges t + more

uses_places : (s s' : State) (t : ℕ) (cs : Changes) (more n : ℕ) → HasPlaces s → Uses s s' t cs more n
    → len s.entries + all_reserved s.pledges + more ≤ s.places → HasPlaces s'
uses_places s s' t cs more n p u room = record {
  fits = rw (u.pledges, u.places) (uses_fits s p t cs more s'.entries n u.grown u.less u.paid room);
  enough = λ w y e. rw (u.pledges, u.life) (uses_enough s p t cs more s'.entries n u.grown u.less u.paid room w y (u.txns w y e));
}

no_more : (n : ℕ) → n ≡ n + 0
no_more n = omega arith

room_by : (b : Bool) (n m : ℕ) → (b ≡ true → n + places_of true ≤ m) → n ≤ m → n + places_of b ≤ m
room_by true n m h k = h refl
room_by false n m h k = omega (arith, k)

-- ---- the first step of a change
module _ (s : State) (p : HasPlaces s) (t : ℕ) (x : Active) (c : ChangeValue) (active : s.txns t ≡ Some x) (room : HasFreePlaces s) where
  more : ℕ
  more = places_of (is_indexed s.life)

  abbrev begun : Option Pair → State
  begun o = record (started s t x c o) { pledges = with_places s t (places_of (is_indexed s.life)) (started s t x c o).entries }

  start_paid : lacking (is_indexed s.life) s.entries (x.changes ▹ c) ≤ reserved s.pledges t + places_of (is_indexed s.life)
  start_paid =
      let pairs : lacks s.entries (old_pair (is_indexed s.life) c) + lacks s.entries (new_pair (is_indexed s.life) c) ≤ places_of (is_indexed s.life) =
      enough_for (is_indexed s.life) s.entries c in
      let rest : lacking (is_indexed s.life) s.entries x.changes ≤ reserved s.pledges t = p.enough t x active in
      omega (arith, pairs, rest)

  start_room : len s.entries + all_reserved s.pledges + places_of (is_indexed s.life) ≤ s.places
  start_room = room_by (is_indexed s.life) (len s.entries + all_reserved s.pledges) s.places room p.fits

  start_uses : (o : Option Pair) → old_pair (is_indexed s.life) c ≡ o → Uses s (begun o) t (x.changes ▹ c) (places_of (is_indexed s.life)) (lacks s.entries o)
  start_uses (Some q) e = record {
    life = refl;
    places = refl;
    pledges = refl;
    txns = one_txn s t (with_change x c OldMarked);
    grown = grown_by s.entries Marked (Some q);
    less = fewer_lacking s.entries Marked (Some q);
    paid =
        let set : lacking (is_indexed s.life) (with_entry s.entries (Some q) Marked) (x.changes ▹ c) + lacks s.entries (Some q) ≤ lacking
        (is_indexed s.life) s.entries (x.changes ▹ c) =
        subst (λ (o : Option Pair). lacking (is_indexed s.life) (with_entry s.entries o Marked) (x.changes ▹ c) + lacks s.entries o ≤ lacking
        (is_indexed s.life) s.entries (x.changes ▹ c)) e (set_old (is_indexed s.life) s.entries Marked c x.changes) in
        let paid : lacking (is_indexed s.life) s.entries (x.changes ▹ c) ≤ reserved s.pledges t + places_of (is_indexed s.life) = start_paid in
        omega (arith, set, paid);
  }
  start_uses None e = record {
    life = refl;
    places = refl;
    pledges = refl;
    txns = one_txn s t (with_change x c (row_made (new_pair (is_indexed s.life) c)));
    grown = no_more (len s.entries);
    less = λ q. omega arith;
    paid = let paid : lacking (is_indexed s.life) s.entries (x.changes ▹ c) ≤ reserved s.pledges t + places_of (is_indexed s.life) = start_paid in
        omega (arith, paid);
  }

  start_places : (o : Option Pair) → old_pair (is_indexed s.life) c ≡ o → HasPlaces (begun o)
  start_places o e = uses_places s (begun o) t (x.changes ▹ c) (places_of (is_indexed s.life)) (lacks s.entries o) p (start_uses o e) start_room

-- ---- its later steps, and those that take it back
module _ (s : State) (p : HasPlaces s) (t : ℕ) (x : Active) (active : s.txns t ≡ Some x) where
  abbrev used : State → State
  used m = record m { pledges = with_places s t 0 m.entries }

  later_room : len s.entries + all_reserved s.pledges + 0 ≤ s.places
  later_room = let fits : len s.entries + all_reserved s.pledges ≤ s.places = p.fits in omega (arith, fits)

  paid_before : (cs : Changes) → x.changes ≡ cs → lacking (is_indexed s.life) s.entries cs + 0 ≤ reserved s.pledges t + 0
  paid_before cs e =
      let enough : lacking (is_indexed s.life) s.entries cs ≤ reserved s.pledges t =
      subst (λ cs. lacking (is_indexed s.life) s.entries cs ≤ reserved s.pledges t) e (p.enough t x active) in
      omega (arith, enough)

  -- a step that sets no entry
  row_places : (rows : Table) (x' : Active) (cs : Changes) → x.changes ≡ cs → x'.changes ≡ cs
      → HasPlaces (used (record s { rows = rows; txns = with_txn s t x' }))
  row_places rows x' cs e e' = uses_places s _ t cs 0 0 p (record {
    life = refl;
    places = refl;
    pledges = refl;
    txns = λ u y k. elim (one_txn s t x' u y k) [ inl mine ↦ inl (mine.0, mine.1 ∙ e') | inr n ↦ inr n ];
    grown = no_more (len s.entries);
    less = λ q. omega arith;
    paid = paid_before cs e;
  }) later_room

  older_paid : (c : ChangeValue) (older : Changes) → x.changes ≡ older ▹ c → lacking (is_indexed s.life) s.entries older + 0 ≤ reserved s.pledges t + 0
  older_paid c older e = let all : lacking (is_indexed s.life) s.entries (older ▹ c) + 0 ≤ reserved s.pledges t + 0 = paid_before (older ▹ c) e in
      omega (arith, all)

  popped_places : (rows : Table) (c : ChangeValue) (older : Changes) → x.changes ≡ older ▹ c
      → HasPlaces (used (record s { rows = rows; txns = with_txn s t (without_newest older) }))
  popped_places rows c older e = uses_places s _ t older 0 0 p (record {
    life = refl;
    places = refl;
    pledges = refl;
    txns = one_txn s t (without_newest older);
    grown = no_more (len s.entries);
    less = λ q. omega arith;
    paid = older_paid c older e;
  }) later_room

  nothing_places : HasPlaces (used s)
  nothing_places = uses_places s _ t x.changes 0 0 p (record {
    life = refl;
    places = refl;
    pledges = refl;
    txns = λ u y k. elim (nat_decided u t) [
      | inl same ↦ inl (same, ap (λ (z : Active). z.changes) (same_some k (ap s.txns same ∙ active)))
      | inr n ↦ inr (n, k)
    ];
    grown = no_more (len s.entries);
    less = λ q. omega arith;
    paid = paid_before x.changes refl;
  }) later_room

  -- a step that sets the entry of this pair
  entry_places : (o : Option Pair) (mark : Mark) (x' : Active) (cs : Changes) → x'.changes ≡ cs
      → lacking (is_indexed s.life) (with_entry s.entries o mark) cs + lacks s.entries o ≤ reserved s.pledges t
      → HasPlaces (used (record s { entries = with_entry s.entries o mark; txns = with_txn s t x' }))
  entry_places o mark x' cs e' paid = uses_places s _ t cs 0 (lacks s.entries o) p (record {
    life = refl;
    places = refl;
    pledges = refl;
    txns = λ u y k. elim (one_txn s t x' u y k) [ inl mine ↦ inl (mine.0, mine.1 ∙ e') | inr n ↦ inr n ];
    grown = grown_by s.entries mark o;
    less = fewer_lacking s.entries mark o;
    paid = omega (arith, paid);
  }) later_room

  module _ (c : ChangeValue) (older : Changes) (e : x.changes ≡ older ▹ c) where
    all_paid : lacking (is_indexed s.life) s.entries (older ▹ c) ≤ reserved s.pledges t
    all_paid = subst (λ cs. lacking (is_indexed s.life) s.entries cs ≤ reserved s.pledges t) e (p.enough t x active)

    new_places : (o : Option Pair) → new_pair (is_indexed s.life) c ≡ o → (mark : Mark) (x' : Active) → x'.changes ≡ older ▹ c
        → HasPlaces (used (record s { entries = with_entry s.entries o mark; txns = with_txn s t x' }))
    new_places o k mark x' e' = entry_places o mark x' (older ▹ c) e' (
        let set : lacking (is_indexed s.life) (with_entry s.entries o mark) (older ▹ c) + lacks s.entries o ≤ lacking (is_indexed s.life) s.entries
        (older ▹ c) =
        subst (λ (o : Option Pair). lacking (is_indexed s.life) (with_entry s.entries o mark) (older ▹ c) + lacks s.entries o ≤ lacking
        (is_indexed s.life) s.entries (older ▹ c)) k (set_new (is_indexed s.life) s.entries mark c older) in
        let all : lacking (is_indexed s.life) s.entries (older ▹ c) ≤ reserved s.pledges t = all_paid in
        omega (arith, set, all)
        )

    old_places : HasPlaces (used (record s {
      entries = with_entry s.entries (old_pair (is_indexed s.life) c) Live;
      txns = with_txn s t (without_newest older);
    }))
    old_places = entry_places (old_pair (is_indexed s.life) c) Live (without_newest older) older refl (
        let set : lacking (is_indexed s.life) (with_entry s.entries (old_pair (is_indexed s.life) c) Live) older + lacks s.entries
        (old_pair (is_indexed s.life) c) ≤ lacking (is_indexed s.life) s.entries (older ▹ c) =
        set_last (is_indexed s.life) s.entries Live c older in
        let all : lacking (is_indexed s.life) s.entries (older ▹ c) ≤ reserved s.pledges t = all_paid in
        omega (arith, set, all)
        )

    left_places : (o : Option Pair) → HasPlaces (used (record s { rows = set_at s.rows c.rid (old_row c.rows); txns = with_txn s t (row_undone x older o) }))
    left_places None = popped_places (set_at s.rows c.rid (old_row c.rows)) c older e
    left_places (Some q) = row_places (set_at s.rows c.rid (old_row c.rows)) (undoing x OldSet) (older ▹ c) e e

    first_places : (b : Bool) (o : Option Pair) → new_pair (is_indexed s.life) c ≡ o → HasPlaces (used (undone_first s t x c older b o))
    first_places b (Some q) k = new_places (Some q) k Marked (undoing x (NewMarked b)) e
    first_places b None k = left_places (old_pair (is_indexed s.life) c)

  next_places : (cs : Changes) → x.changes ≡ cs → (phase : Phase) → HasPlaces (used (carried_on s t x cs phase))
  next_places Unchanged e phase = nothing_places
  next_places (older ▹ c) e OldMarked = row_places (set_at s.rows c.rid (new_row c.rows)) (with_phase x (row_made (new_pair (is_indexed s.life) c)))
      (older ▹ c) e e
  next_places (older ▹ c) e RowSet = new_places c older e (new_pair (is_indexed s.life) c) refl Live (with_phase x Made) e
  next_places (older ▹ c) e Made = nothing_places
  next_places (older ▹ c) e (NewMarked b) = nothing_places
  next_places (older ▹ c) e OldSet = nothing_places

  undo_places : (cs : Changes) → x.changes ≡ cs → (phase : Phase) → HasPlaces (used (undone s t x cs phase))
  undo_places Unchanged e phase = row_places s.rows (undoing x phase) Unchanged e e
  undo_places (older ▹ c) e OldMarked = first_places c older e false _ refl
  undo_places (older ▹ c) e RowSet = first_places c older e true _ refl
  undo_places (older ▹ c) e Made = first_places c older e true _ refl
  undo_places (older ▹ c) e (NewMarked b) = left_places c older e (old_pair (is_indexed s.life) c)
  undo_places (older ▹ c) e OldSet = old_places c older e

-- ---- a transaction begins, or leaves
begin_places : (s : State) → HasPlaces s → (t : ℕ) → HasPlaces (record s { txns = with_txn s t new_txn; pledges = insert s.pledges t 0 })
begin_places s p t = record {
  fits =
      let sums : all_reserved (insert s.pledges t 0) + reserved s.pledges t ≡ all_reserved s.pledges + 0 = reserved_insert s.pledges t 0 in
      let fits : len s.entries + all_reserved s.pledges ≤ s.places = p.fits in
      omega (arith, sums, fits);
  enough = λ u y e. elim (one_txn s t new_txn u y e) [
    | inl mine ↦ rw mine.1 (omega arith)
    | inr other ↦ rw (reserved_apart s.pledges t 0 u other.0) (p.enough u y other.1)
  ];
}

gone_places : (s : State) → HasPlaces s → (t : ℕ) (committed : Table) → HasPlaces (record (left s t committed) { pledges = remove s.pledges t })
gone_places s p t committed = record {
  fits =
      let sums : all_reserved (remove s.pledges t) + reserved s.pledges t ≡ all_reserved s.pledges = reserved_left s.pledges t in
      let fits : len s.entries + all_reserved s.pledges ≤ s.places = p.fits in
      omega (arith, sums, fits);
  enough = λ u y e. elim (nat_decided u t) [
    | inl same ↦ absurd (not_none e (ap (update nat_cmp s.txns t None) same ∙ update_here nat_cmp_total s.txns t None))
    | inr n ↦
        let before : lacking (is_indexed s.life) s.entries y.changes ≤ reserved s.pledges u =
        p.enough u y (sym (update_apart nat_cmp-IsAntisymmetric s.txns t None u n) ∙ e) in
        rw (left_apart s.pledges t u n) before
  ];
}

-- ---- the builder and the cleaner
same_places : (s s' : State) → HasPlaces s → s'.entries ≡ s.entries → s'.pledges ≡ s.pledges → s'.places ≡ s.places
    → ((t : ℕ) (x : Active) → s'.txns t ≡ Some x → (s.txns t ≡ Some x) × (is_indexed s'.life ≡ is_indexed s.life)) → HasPlaces s'
same_places s s' p e k l h = record {
  fits = rw (e, k, l) p.fits;
  enough = λ t x a. rw (e, k, (h t x a).1) (p.enough t x (h t x a).0);
}

tried_by : (o : Option Mark) → (mark : Mark) × (after_action BuildPut o ≡ Some mark)
tried_by None = (Live, refl)
tried_by (Some Live) = (Live, refl)
tried_by (Some Marked) = (Marked, refl)

room_for : (o : Option Mark) (n m : ℕ) → (o ≡ None → n < m) → n ≤ m → n + none_there o ≤ m
room_for None n m h k = let less : n < m = h refl in omega (arith, less)
room_for (Some mark) n m h k = omega (arith, k)

attempt_places : (s : State) → HasPlaces s → (p : Pair) → CanAttempt s p → HasPlaces (attempted s p)
attempt_places s h p can =
    let mark : Mark = (tried_by (get s.entries p)).0 in
    let is : after_action BuildPut (get s.entries p) ≡ Some mark = (tried_by (get s.entries p)).1 in
    subst (λ o. HasPlaces (record s { entries = set_at s.entries p o; bound = Some p })) (sym is) (record {
      fits =
          let grown : len (with_entry s.entries (Some p) mark) ≡ len s.entries + lacks s.entries (Some p) = grown_by s.entries mark (Some p) in
          let room : len s.entries + all_reserved s.pledges + lacks s.entries (Some p) ≤ s.places =
          room_for (get s.entries p) (len s.entries + all_reserved s.pledges) s.places can.room h.fits in
          omega (arith, grown, room);
      enough = λ t x a.
          let before : lacking (is_indexed s.life) s.entries x.changes ≤ reserved s.pledges t = h.enough t x a in
          let after : lacking (is_indexed s.life) (with_entry s.entries (Some p) mark) x.changes ≤ lacking (is_indexed s.life) s.entries x.changes =
          lacking_less (is_indexed s.life) s.entries (with_entry s.entries (Some p) mark) (fewer_lacking s.entries mark (Some p)) x.changes in
          omega (arith, before, after);
    })

-- entries of other rows go
module _ (indexed : Bool) (holder : Place → Option ℕ) (t : ℕ) (entries : Index) (p : Pair) (free : holder p.rid ≡ None) where
  other_lacks : (r : Place) (row other : Option Row) (o : Option Pair) → gone indexed r row other ≡ o → holder r ≡ Some t
      → lacks (remove entries p) o ≡ lacks entries o
  other_lacks r row other None e h = refl
  other_lacks r row other (Some q) e h =
      let g : Gone indexed r row q = gone_is indexed r row other q e in
      ap none_there (get-set_at_other pair_exact entries p None q (λ same.
      not_none h (ap holder (sym (ap (λ (w : Pair). w.rid) g.pair)) ∙ ap (λ (w : Pair). holder w.rid) same ∙ free)))

  other_lacking : (cs : Changes) → IsHolderOf holder t cs → lacking indexed (remove entries p) cs ≡ lacking indexed entries cs
  other_lacking Unchanged h = refl
  other_lacking (older ▹ c) h = rw (
    other_lacks c.rid (old_row c.rows) (new_row c.rows) (old_pair indexed c) refl h.0,
    other_lacks c.rid (new_row c.rows) (old_row c.rows) (new_pair indexed c) refl h.0,
    other_lacking older h.1,
  ) refl

fewer_entries : (b : Bool) (n m : ℕ) → cond b (n - 1) n + m ≤ n + m
fewer_entries true n m = omega arith
fewer_entries false n m = omega arith

clean_places : (s : State) → ((t : ℕ) (x : Active) → s.txns t ≡ Some x → IsHolderOf s.holder t x.changes) → HasPlaces s → (p : Pair) → CanClean s p
    → HasPlaces (record s { entries = set_at s.entries p None; cleaned = Some p })
clean_places s i h p can = record {
  fits =
      let shrunk : len (remove s.entries p) ≡ cond (is_some (get s.entries p)) (len s.entries - 1) (len s.entries) = len-remove pair_cmp_total s.entries p in
      let less : cond (is_some (get s.entries p)) (len s.entries - 1) (len s.entries) + all_reserved s.pledges ≤ len s.entries + all_reserved s.pledges =
      fewer_entries (is_some (get s.entries p)) (len s.entries) (all_reserved s.pledges) in
      let fits : len s.entries + all_reserved s.pledges ≤ s.places = h.fits in
      rw shrunk (omega (arith, less, fits));
  enough = λ t x a. rw (other_lacking (is_indexed s.life) s.holder t s.entries p can.free x.changes (i t x a)) (h.enough t x a);
}

-- ---- all steps
pub places_step : (s : State) (e : MachineStep) → ((t : ℕ) (x : Active) → s.txns t ≡ Some x → IsHolderOf s.holder t x.changes) → HasPlaces s → IsEnabled s e
    → HasPlaces (after s e)
places_step s (Begin t) i p a = begin_places s p t
places_step s (Start t c) i p a = start_places s p t (txn_at s t) c a.active a.room _ refl
places_step s (Next t) i p a = next_places s p t (txn_at s t) a.0 (txn_at s t).changes refl (txn_at s t).phase
places_step s (Undo t) i p a = undo_places s p t (txn_at s t) a (txn_at s t).changes refl (txn_at s t).phase
places_step s (End t) i p a = gone_places s p t s.committed
places_step s (Commit t) i p a = gone_places s p t _
places_step s Create i p a = same_places s (after s Create) p refl refl refl (λ t x e. absurd (not_none e (a.1 t)))
places_step s (Take n) i p a = same_places s (after s (Take n)) p refl refl refl (λ t x e. (e, refl))
places_step s (Attempt q) i p a = attempt_places s p q a
places_step s (Checkpoint q) i p a = same_places s (after s (Checkpoint q)) p refl refl refl (λ t x e. (e, sym (ap is_indexed a.0.1)))
places_step s Finish i p a = same_places s (after s Finish) p refl refl refl (λ t x e. (e, sym (ap is_indexed a.building.1)))
places_step s (Clean q) i p a = clean_places s i p q a
places_step s (Keep q) i p a = same_places s (after s (Keep q)) p refl refl refl (λ t x e. (e, refl))
places_step s Wrap i p a = same_places s (after s Wrap) p refl refl refl (λ t x e. (e, refl))
places_step s Drop i p a = record {
  fits =
      let none : len (after s Drop).entries ≡ 0 = len-empty pair_cmp Mark in
      let fits : len s.entries + all_reserved s.pledges ≤ s.places = p.fits in
      rw none (omega (arith, fits));
  enough = λ t x e. absurd (not_none e (a.1 t));
}
