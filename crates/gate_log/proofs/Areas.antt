-- What becomes of an area's groups where sectors change.
use Rattle.std.proofs.Common.{Option, Some, None, MatchOption, ◌≡◌, ◌≢◌, ⊎_elim, ℕ, ◌+◌, ◌*◌, ◌<◌, ◌≤◌, List, [], ◌∷◌, ◌++◌, length, slice_index}
use Rattle.std.proofs.Common.{slice_index_or, take, refl, sym, ap, subst, ◌∙◌, arith, length-append}
use Rattle.std.specs.List.{concat}
use Rattle.std.proofs.lemmas.Bool.{cases_eq, cases_lt}
use Rattle.std.proofs.lemmas.List.{get_or_at, get_or_append_left, ext_get_or, take_more, flat_map_more}
use Rattle.sector_device.specs.Disk.{CrashState, sector}
use Rattle.sector_device.proofs.Sectors.{same_part}
use Rattle.sector_device.specs.Values.{IsMarked}
use Rattle.sector_device.proofs.KnownSectors.{zero_not_marked}
use Rattle.records.specs.RecordValue.{RecordValue}
use Rattle.record_values.specs.declared.version.Version.{Version}
use Rattle.gate_log.specs.Group.{IsGroup, IsGroupIn}
use Rattle.gate_log.proofs.Groups.{one_group}
use Rattle.gate_log.specs.Area.{Area, gate, body, InArea, IsOpen, AreGatesZero, HoldsGroups, HoldsGroupsIn, records_of, IsDamagedIn, IsFirstDamagedSlotIn}

-- two images have the same sectors in a slot
abbrev SameSlot : Area → CrashState → CrashState → ℕ → Type 0
SameSlot area a b i = (k : ℕ) → gate area i ≤ k → k < gate area i + 8 → sector b k ≡ sector a k

same_gate : (area : Area) (a b : CrashState) (i : ℕ) → SameSlot area a b i → sector b (gate area i) ≡ sector a (gate area i)
same_gate area a b i same = same (gate area i) (omega arith) (omega arith)

same_body : (area : Area) (a b : CrashState) (i : ℕ) → length b ≡ length a → SameSlot area a b i → body b (gate area i) ≡ body a (gate area i)
same_body area a b i long same =
    ap concat (same_part b a (gate area i + 1) (gate area i + 8) long (λ k low high. same k (omega arith) high))

module _ (area : Area) (image c : CrashState) (groups : List (List RecordValue)) (long : length c ≡ length image) (held : HoldsGroups area image groups)
    (others : (i : ℕ) → i < area.slots → i ≢ length groups → SameSlot area image c i) where
  opened_there : (i : ℕ) → i < length groups → IsOpen c (gate area i) × IsGroup (slice_index_or groups i []) (body c (gate area i))
  opened_there i lt =
      let same = others i (omega (arith, held.room)) (omega arith) in
      let was = held.opened i lt in (
        ap (λ (s : List ℕ). slice_index s 0) (same_gate area image c i same)
            ∙ was.0,
        subst (IsGroup (slice_index_or groups i [])) (sym (same_body area image c i long same)) was.1,
      )

  closed_there : (i : ℕ) → length groups ≤ i → i ≢ length groups → i < area.slots → ¬ IsOpen c (gate area i)
  closed_there i le other lt is_open =
      held.closed i le lt (ap (λ (s : List ℕ). slice_index s 0) (sym (same_gate area image c i (others i lt other))) ∙ is_open)

  -- the next slot's gate is closed
  pub holds_before : (length groups < area.slots → ¬ IsOpen c (gate area (length groups))) → HoldsGroups area c groups
  holds_before shut = record {
    room = held.room;
    opened = opened_there;
    closed = λ i le lt. ⊎_elim
        (λ same. subst (λ n. ¬ IsOpen c (gate area n)) (sym same) (shut (omega (arith, same))))
        (λ other. closed_there i le other lt)
        (cases_eq i (length groups));
  }

  -- the next slot's gate is open, and its body is a group
  pub holds_after : (records : List RecordValue) → length groups < area.slots → IsOpen c (gate area (length groups))
      → IsGroup records (body c (gate area (length groups))) → HoldsGroups area c (groups ++ records ∷ [])
  holds_after records room is_open group = record {
    room = omega (arith, size);
    opened = λ i lt. ⊎_elim
        (λ same. subst (λ n. IsOpen c (gate area n) × IsGroup (slice_index_or (groups ++ records ∷ []) n []) (body c (gate area n))) (sym same) (
          is_open,
          subst (λ (g : List RecordValue). IsGroup g (body c (gate area (length groups))))
              (sym (get_or_at groups records [] [] (length groups) refl)) group,
        ))
        (λ other.
        let below : i < length groups = omega (arith, lt, size, other) in
        let there = opened_there i below in
        (there.0, subst (λ (g : List RecordValue). IsGroup g (body c (gate area i))) (sym (get_or_append_left groups (records ∷ []) [] i below)) there.1))
        (cases_eq i (length groups));
    closed = λ i le lt. closed_there i (omega (arith, le, size)) (omega (arith, le, size)) lt;
  }
    where
      size : length (groups ++ records ∷ []) ≡ length groups + 1
      size = omega (arith, length-append {A = List RecordValue} groups (records ∷ []))

-- where each gate is a sector of zeros, there is no group
pub holds_none : (area : Area) (image : CrashState) → AreGatesZero area image → HoldsGroups area image []
holds_none area image zeros = record {
  room = omega arith;
  opened = λ slot below. absurd (omega (arith, below));
  closed = λ slot le below is_open. zero_not_marked (subst IsMarked (zeros slot below) is_open);
}

-- what an image holds is told by the sectors of the area
pub holds_same : (area : Area) (image c : CrashState) (groups : List (List RecordValue)) → length c ≡ length image
    → ((n : ℕ) → InArea area n → sector c n ≡ sector image n) → HoldsGroups area image groups → HoldsGroups area c groups
holds_same area image c groups long same held =
    holds_before area image c groups long held
    (λ i lt other k low high. same k (omega (arith, low), omega (arith, high, lt)))
    (λ lt is_open. held.closed (length groups) (omega arith) lt
    (ap (λ (b : List ℕ). slice_index b 0) (sym (same (gate area (length groups)) (omega arith, omega (arith, lt)))) ∙ is_open))

-- an image holds one list of groups at most
pub one_list : (v : Version) (area : Area) (image : CrashState) (a b : List (List RecordValue)) → HoldsGroupsIn v area image a → HoldsGroupsIn v area image b
    → length a ≡ length b
one_list v area image a b p q =
    ⊎_elim
    (λ less. absurd (p.closed (length a) (omega arith) (omega (arith, less, q.room)) (q.opened (length a) less).0))
    (λ le. ⊎_elim
    (λ less. absurd (q.closed (length b) (omega arith) (omega (arith, less, p.room)) (p.opened (length b) less).0))
    (λ ge. omega (arith, le, ge))
    (cases_lt (length b) (length a)))
    (cases_lt (length a) (length b))

-- ---- reading

-- one slot more, whose gate is closed
pub one_closed : (v : Version) (first slot : ℕ) (image : CrashState) (groups : List (List RecordValue))
    → HoldsGroupsIn v (record { first = first; slots = slot }) image groups → ¬ IsOpen image (first + 8 * slot)
    → HoldsGroupsIn v (record { first = first; slots = slot + 1 }) image groups
one_closed v first slot image groups held shut = record {
  room = omega (arith, held.room);
  opened = held.opened;
  closed = λ i le lt. ⊎_elim (λ same. subst (λ n. ¬ IsOpen image (first + 8 * n)) (sym same) shut) (λ other. held.closed i le (omega (arith, lt, other)))
      (cases_eq i slot);
}

-- one slot more, with a group, where all before it are open
pub one_open : (v : Version) (first slot : ℕ) (image : CrashState) (groups : List (List RecordValue)) (records : List RecordValue)
    → HoldsGroupsIn v (record { first = first; slots = slot }) image groups → length groups ≡ slot
    → IsOpen image (first + 8 * slot) → IsGroupIn v records (body image (first + 8 * slot))
    → HoldsGroupsIn v (record { first = first; slots = slot + 1 }) image (groups ++ records ∷ [])
one_open v first slot image groups records held all is_open group = record {
  room = omega (arith, size, all);
  opened = λ i lt. ⊎_elim
      (λ same. subst (λ n. IsOpen image (first + 8 * n) × IsGroupIn v (slice_index_or (groups ++ records ∷ []) n []) (body image (first + 8 * n)))
      (sym (same ∙ all))
      (is_open, subst (λ (g : List RecordValue). IsGroupIn v g (body image (first + 8 * slot))) (sym (get_or_at groups records [] [] slot all)) group))
      (λ other.
      let below : i < length groups = omega (arith, lt, size, other) in
      let there = held.opened i below in (
        there.0,
        subst (λ (g : List RecordValue). IsGroupIn v g (body image (first + 8 * i)))
            (sym (get_or_append_left groups (records ∷ []) [] i below)) there.1,
      ))
      (cases_eq i (length groups));
  closed = λ i le lt. absurd (omega (arith, le, lt, size, all));
}
  where
    size : length (groups ++ records ∷ []) ≡ length groups + 1
    size = omega (arith, length-append {A = List RecordValue} groups (records ∷ []))

-- an open slot that so many open ones are before: the first one is open
pub first_open : (v : Version) (first slot slots : ℕ) (image : CrashState) (groups : List (List RecordValue)) → slot < slots
    → HoldsGroupsIn v (record { first = first; slots = slot }) image groups → length groups ≡ slot → IsOpen image (first + 8 * slot) → (0 < slots)
    × IsOpen image first
first_open v first slot slots image groups inside held all opened = (
  omega (arith, inside),
  ⊎_elim
      (λ some. subst (IsOpen image) (omega arith) (held.opened 0 (omega (arith, some, all))).0)
      (λ none. subst (IsOpen image) (omega (arith, none)) opened)
      (cases_lt 0 slot),
)

-- no slot so far is damaged
pub undamaged : (v : Version) (first slot slots : ℕ) (image : CrashState) (groups : List (List RecordValue))
    → HoldsGroupsIn v (record { first = first; slots = slot }) image groups → (i : ℕ) → i < slot
    → ¬ IsDamagedIn v (record { first = first; slots = slots }) image i
undamaged v first slot slots image groups held i lt damaged = ⊎_elim
    (λ below. ⊎_elim
    (λ shut. shut.2 (held.opened shut.0 (omega (arith, shut.1, below))).0)
    (λ none. none (slice_index_or groups i []) (held.opened i below).1)
    damaged.1)
    (λ le. held.closed i le lt damaged.0)
    (cases_lt i (length groups))

-- the first damaged slot
pub first_damaged : (v : Version) (first slot slots : ℕ) (image : CrashState) (groups : List (List RecordValue)) → slot < slots
    → HoldsGroupsIn v (record { first = first; slots = slot }) image groups → IsDamagedIn v (record { first = first; slots = slots }) image slot
    → IsFirstDamagedSlotIn v (record { first = first; slots = slots }) image (first + 8 * slot)
first_damaged v first slot slots image groups inside held damaged =
    record { slot = slot; inside = inside; gate-is = refl; damaged = damaged; before = undamaged v first slot slots image groups held }

pub none_here : {T : Type 0} (o : Option T) (P : Type 0) (Q : T → Type 0) → o ≡ None → MatchOption o P Q → P
none_here o P Q is h = subst (λ x. MatchOption x P Q) is h

pub some_here : {T : Type 0} (o : Option T) (x : T) (P : Type 0) (Q : T → Type 0) → o ≡ Some x → MatchOption o P Q → Q x
some_here o x P Q is h = subst (λ y. MatchOption y P Q) is h

-- a group that is read in a slot is the one that is held there
pub held_there : (v : Version) (area : Area) (image : CrashState) (groups : List (List RecordValue)) (slot : ℕ) (records : List RecordValue)
    → HoldsGroupsIn v area image groups → slot < length groups → IsGroupIn v records (body image (gate area slot))
    → length records ≡ length (slice_index_or groups slot [])
held_there v area image groups slot records held lt group =
    ap length (one_group v records (slice_index_or groups slot []) (body image (gate area slot)) group (held.opened slot lt).1)

-- the records of one group more
pub records_more : (groups : List (List RecordValue)) (slot : ℕ) → slot < length groups
    → length (records_of (take (slot + 1) groups)) ≡ length (records_of (take slot groups)) + length (slice_index_or groups slot [])
records_more groups slot lt =
    ap (λ (gs : List (List RecordValue)). length (records_of gs)) (take_more groups slot [] lt)
    ∙ ap length (sym (flat_map_more (λ (group : List RecordValue). group) [] (take slot groups) (slice_index_or groups slot [])))
    ∙ length-append (records_of (take slot groups)) (slice_index_or groups slot [])

-- ---- laws

pub one_reading : (v : Version) (area : Area) (image : CrashState) (a b : List (List RecordValue)) → HoldsGroupsIn v area image a → HoldsGroupsIn v area image b
    → a ≡ b
one_reading v area image a b p q =
    let long = one_list v area image a b p q in
    ext_get_or [] a b long (λ i lt. one_group v (slice_index_or a i []) (slice_index_or b i []) (body image (gate area i)) (p.opened i lt).1
    (q.opened i (omega (arith, lt, long))).1)

pub not_damaged : (v : Version) (area : Area) (image : CrashState) (sector : ℕ) (groups : List (List RecordValue)) → IsFirstDamagedSlotIn v area image sector
    → ¬ HoldsGroupsIn v area image groups
not_damaged v area image sector groups first held = undamaged v area.first area.slots area.slots image groups held first.slot first.inside first.damaged

pub one_damage : (v : Version) (area : Area) (image : CrashState) (a b : ℕ) → IsFirstDamagedSlotIn v area image a → IsFirstDamagedSlotIn v area image b → a ≡ b
one_damage v area image a b p q = p.gate-is ∙ ap (gate area) same ∙ sym q.gate-is
  where
    same : p.slot ≡ q.slot
    same = ⊎_elim
        (λ less. absurd (q.before p.slot less p.damaged))
        (λ le. ⊎_elim (λ less. absurd (p.before q.slot less q.damaged)) (λ ge. omega (arith, le, ge)) (cases_lt q.slot p.slot))
        (cases_lt p.slot q.slot)
