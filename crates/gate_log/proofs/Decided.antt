-- An image is read in one way or another: whether bytes are a group is decided, and so slot by slot is where an area is damaged.
use Rattle.std.specs.Prelude.{◌⊎◌}
use Rattle.std.proofs.Common.{◌≡◌, inl, inr, ⊎_elim, ℕ, zero, suc, ◌+◌, ◌-◌, ◌*◌, ◌<◌, ◌≤◌, List, [], ◌∷◌, ◌++◌, length, slice_index, slice_range, take, drop}
use Rattle.std.proofs.Common.{All, refl, sym, ap, subst, ◌∙◌, arith, length-append}
use Rattle.std.specs.List.{concat}
use Rattle.std.proofs.lemmas.Bool.{cases_eq, cases_lt}
use Rattle.std.proofs.lemmas.List.{get_or_append_left, get_or-append_right, drop_at}
use Rattle.std.proofs.lemmas.List.Elements.{All-nil, All-cons, All-head, All-tail}
use Rattle.byteorder.specs.Endian.{big_number}
use Rattle.byteorder.specs.Numbers.{big_from-lt}
use Rattle.sector_device.specs.Disk.{CrashState, sector, IsDiskWhole}
use Rattle.sector_device.specs.declared.values.TheConstants.{MARK}
use Rattle.sector_device.proofs.Sectors.{part_more}
use Rattle.records.specs.RecordValue.{RecordValue}
use Rattle.record_values.specs.declared.version.Version.TheVariants.{Two}
use Rattle.records.specs.Spelling.{spelling, Fits, IsBytes}
use Rattle.records.proofs.Spellings.{one_spelling, begins_or_not}
use Rattle.records.proofs.Numbers.{IsBytes-drop, IsBytes-take}
use Rattle.gate_log.specs.Group.{spellings, header, IsGroup}
use Rattle.gate_log.specs.Steps.{AreSpelled}
use Rattle.gate_log.specs.Area.{Area, body, IsAreaInside, HoldsGroups, IsFirstDamagedSlot}
use Rattle.gate_log.proofs.Groups.{spellings-nil, spellings-cons, none_spelled, more_spelled, header_front, IsParted, parted, from_parts}
use Rattle.gate_log.proofs.Areas.{one_closed, one_open, first_damaged}

-- ---- groups

-- the bytes are so many records, or they are not
abbrev SpelledOr : ℕ → List ℕ → Type 0
SpelledOr count bytes = ((records : List RecordValue) × AreSpelled Two records count bytes)
    ⊎ ((records : List RecordValue) → ¬ AreSpelled Two records count bytes)

-- of no others, if not of the records behind the first one
none_behind : (r : RecordValue) (rest bytes : List ℕ) (n : ℕ) → bytes ≡ spelling r ++ rest → Fits r
    → ((records : List RecordValue) → ¬ AreSpelled Two records n rest) → (records : List RecordValue) → ¬ AreSpelled Two records (suc n) bytes
none_behind r rest bytes n is good none [] are = absurd (omega (arith, are.count-is))
none_behind r rest bytes n is good none (x ∷ xs) are =
    let split = one_spelling r x rest (spellings xs) good (All-head Fits x xs are.each) (sym is ∙ are.spelled ∙ spellings-cons x xs) in
    none xs (record { each = All-tail Fits x xs are.each; count-is = omega (arith, are.count-is); spelled = split.1 })

-- of these, if of the records behind the first one
one_behind : (r : RecordValue) (rest bytes : List ℕ) (n : ℕ) (records : List RecordValue) → bytes ≡ spelling r ++ rest → Fits r → AreSpelled Two records n rest
    → AreSpelled Two (r ∷ records) (suc n) bytes
one_behind r rest bytes n records is good are = record {
  each = All-cons Fits r records good are.each;
  count-is = omega (arith, are.count-is);
  spelled = is ∙ ap (λ (t : List ℕ). spelling r ++ t) are.spelled ∙ sym (spellings-cons r records);
}

spelled_or : (count : ℕ) (bytes : List ℕ) → IsBytes bytes → SpelledOr count bytes
spelled_or zero [] fits = inl ([], record { each = All-nil Fits; count-is = refl; spelled = sym spellings-nil })
spelled_or zero (b ∷ bytes) fits =
    inr (more_spelled Two [] 0 (b ∷ bytes) (b ∷ bytes) (All-nil Fits) refl (ap (λ (t : List ℕ). t ++ (b ∷ bytes)) (sym spellings-nil)) (omega arith))
spelled_or (suc n) bytes fits = ⊎_elim
    (λ begins.
    let r = begins.0 in
    let rest = begins.1 in
    let behind : drop (length (spelling r)) bytes ≡ rest = ap (drop (length (spelling r))) begins.2 ∙ drop_at (spelling r) rest (length (spelling r)) refl in
    ⊎_elim
    (λ more. inl (r ∷ more.0, one_behind r rest bytes n more.0 begins.2 begins.3 more.1))
    (λ none. inr (none_behind r rest bytes n begins.2 begins.3 none))
    (spelled_or n rest (subst IsBytes behind (IsBytes-drop (length (spelling r)) bytes fits))))
    (λ nothing. inr (none_spelled Two [] (suc n) bytes bytes (All-nil Fits) (omega arith) (ap (λ (t : List ℕ). t ++ bytes) (sym spellings-nil)) nothing))
    (begins_or_not bytes fits)

zeros_or : (xs : List ℕ) → All (λ b. b ≡ 0) xs ⊎ ¬ All (λ b. b ≡ 0) xs
zeros_or [] = inl (All-nil (λ b. b ≡ 0))
zeros_or (x ∷ xs) = ⊎_elim
    (λ is. ⊎_elim
    (λ all. inl (All-cons (λ b. b ≡ 0) x xs is all))
    (λ not_all. inr (λ all. not_all (All-tail (λ b. b ≡ 0) x xs all)))
    (zeros_or xs))
    (λ other. inr (λ all. other (All-head (λ b. b ≡ 0) x xs all)))
    (cases_eq x 0)

-- the bytes are a group, or they are not
group_or : (bytes : List ℕ) → length bytes ≡ 3584 → IsBytes bytes → ((records : List RecordValue) × IsGroup records bytes)
    ⊎ ((records : List RecordValue) → ¬ IsGroup records bytes)
group_or bytes long fits = ⊎_elim
    (λ some. ⊎_elim
    (λ short. ⊎_elim
    (λ zeros. ⊎_elim
    (λ spelled. inl (
      spelled.0,
      from_parts Two spelled.0 bytes rest count len long is
          (record { some = some; short = omega (arith, short); are = spelled.1; zeros-are = zeros }),
    ))
    (λ none. inr (λ records group. none records (parts records group).are))
    (spelled_or count (take len rest) (IsBytes-take len rest (IsBytes-drop 4 bytes fits))))
    (λ others. inr (λ records group. others (parts records group).zeros-are))
    (zeros_or (drop len rest)))
    (λ much. inr (λ records group. omega (arith, much, (parts records group).short)))
    (cases_lt len 3581))
    (λ none. inr (λ records group. omega (arith, none, (parts records group).some)))
    (cases_lt 0 count)
  where
    count : ℕ
    count = big_number 2 bytes

    len : ℕ
    len = big_number 2 (drop 2 bytes)

    rest : List ℕ
    rest = drop 4 bytes

    is : bytes ≡ header count len ++ rest
    is = header_front bytes (drop 2 bytes) count len fits (omega (arith, long)) refl refl refl

    parts : (records : List RecordValue) → IsGroup records bytes → IsParted Two records count len (take len rest) (drop len rest)
    parts records group = parted Two records bytes rest count len (big_from-lt 0 2 bytes fits)
        (big_from-lt 0 2 (drop 2 bytes) (IsBytes-drop 2 bytes fits)) is group

-- ---- bodies

IsBytes-append : (xs ys : List ℕ) → IsBytes xs → IsBytes ys → IsBytes (xs ++ ys)
IsBytes-append xs ys p q i = ⊎_elim
    (λ lt. subst (λ (b : ℕ). b < 256) (sym (get_or_append_left xs ys 0 i lt)) (p i))
    (λ le. subst (λ (b : ℕ). b < 256) (sym (get_or-append_right xs ys (length xs) i 0 refl le)) (q (i - length xs)))
    (cases_lt i (length xs))

-- so many sectors, one after the other
record AreJoined (bytes : List ℕ) (n : ℕ) : Type 0 where
  pub size : length bytes ≡ 512 * n
  pub fits : IsBytes bytes

joined : (image : CrashState) (low : ℕ) → IsDiskWhole image → (n : ℕ) → low + n ≤ length image → AreJoined (concat (slice_range image low (low + n))) n
joined image low whole zero room =
    let none : (low + 0) - low ≡ 0 = omega arith in
    subst (λ (m : ℕ). AreJoined (concat (take m (drop low image))) 0) (sym none) (record { size = refl; fits = λ i. omega arith })
joined image low whole (suc n) room =
    let before = joined image low whole n (omega (arith, room)) in
    let last = whole (low + n) (omega (arith, room)) in
    let front : List ℕ = concat (slice_range image low (low + n)) in
    let more = part_more image low n (low + suc n) (omega (arith, room)) (omega arith) in
    subst (λ (b : List ℕ). AreJoined b (suc n)) (sym more)
    (record {
      size = omega (arith, length-append {A = ℕ} front (sector image (low + n)), before.size, last.size);
      fits = IsBytes-append front (sector image (low + n)) before.fits last.are_bytes;
    })

joined_body : (image : CrashState) (n : ℕ) → IsDiskWhole image → n + 8 ≤ length image → AreJoined (body image n) 7
joined_body image n whole room =
    let same : (n + 1) + 7 ≡ n + 8 = omega arith in
    subst (λ (high : ℕ). AreJoined (concat (slice_range image (n + 1) high)) 7) same (joined image (n + 1) whole 7 (omega (arith, room)))

-- ---- areas

module _ (area : Area) (image : CrashState) (whole : IsDiskWhole image) (inside : IsAreaInside area image) where
  -- the first slots hold groups, or the area is damaged
  abbrev ReadOr : ℕ → Type 0
  ReadOr n = ((groups : List (List RecordValue)) × HoldsGroups (record { first = area.first; slots = n }) image groups)
      ⊎ ((s : ℕ) × IsFirstDamagedSlot area image s)

  -- one slot more
  next_slot : (n : ℕ) (groups : List (List RecordValue)) → n < area.slots → HoldsGroups (record { first = area.first; slots = n }) image groups → ReadOr (n + 1)
  next_slot n groups lt held = ⊎_elim
      (λ opened. ⊎_elim
      (λ less. inr (
        _,
        first_damaged Two area.first n area.slots image groups lt held (
          opened,
          inl (length groups, less, held.closed (length groups) (omega arith) less),
        ),
      ))
      (λ all. ⊎_elim
      (λ group. inl (groups ++ group.0 ∷ [], one_open Two area.first n image groups group.0 held (omega (arith, all, held.room)) opened group.1))
      (λ none. inr (_, first_damaged Two area.first n area.slots image groups lt held (opened, inr none)))
      (let there = joined_body image (area.first + 8 * n) whole (omega (arith, lt, inside)) in
      group_or (body image (area.first + 8 * n)) there.size there.fits))
      (cases_lt (length groups) n))
      (λ shut. inl (groups, one_closed Two area.first n image groups held shut))
      (cases_eq (slice_index (sector image (area.first + 8 * n)) 0) MARK)

  read_or : (n : ℕ) → n ≤ area.slots → ReadOr n
  read_or zero le = inl (
    [],
    record {
      room = omega arith;
      opened = λ slot low. absurd (omega (arith, low));
      closed = λ slot low high.
          absurd (omega (arith, high));
    },
  )
  read_or (suc n) le =
      let same : n + 1 ≡ suc n = omega arith in
      ⊎_elim
      (λ held. subst ReadOr same (next_slot n held.0 (omega (arith, le)) held.1))
      (λ damage. inr damage)
      (read_or n (omega (arith, le)))

-- the area holds groups, or it is damaged
pub some_reading : (area : Area) (image : CrashState) → IsDiskWhole image → IsAreaInside area image
    → ((groups : List (List RecordValue)) × HoldsGroups area image groups) ⊎ ((n : ℕ) × IsFirstDamagedSlot area image n)
some_reading area image whole inside = read_or area image whole inside area.slots (omega arith)
