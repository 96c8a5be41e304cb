-- Groups of records, and the bytes that spell them.
use Rattle.std.proofs.Common.{Result, Ok, Err, IfOk, Option, Some, None, MatchOption, ◌≡◌, ℕ, ◌+◌, ◌-◌, ◌^◌, ◌<◌, ◌≤◌, List, [], ◌∷◌, ◌++◌, length, take, drop}
use Rattle.std.proofs.Common.{replicate, All, refl, sym, ap, subst, ◌∙◌, arith, append_assoc, get_or}
use Rattle.std.specs.List.{flat_map}
use Rattle.std.proofs.lemmas.List.{drop-replicate, take_more, nil_from_length, get_or_at, take-append-drop, append-nil, length-append, length-take, length-drop}
use Rattle.std.proofs.lemmas.List.{drop-drop, take_at, drop_at}
use Rattle.std.proofs.lemmas.List.Concat.{flat_map-append}
use Rattle.std.proofs.lemmas.List.Elements.{All-head, All-tail, All-same, All-replicate}
use Rattle.byteorder.specs.Endian.{big_number}
use Rattle.records.specs.RecordValue.{RecordValue}
use Rattle.record_values.specs.declared.version.Version.{Version}
use Rattle.records.specs.Spelling.{spelling, u16, Fits, FitsIn, IsBytes}
use Rattle.records.proofs.Wide.{wide}
use Rattle.records.proofs.Spellings.{one_spelling, spelling_least}
use Rattle.records.proofs.Numbers.{IsBytes-drop, length-u16, u16_front, u16_once}
use Rattle.gate_log.specs.Group.{spellings, header, FitsGroup, IsGroup, IsGroupIn}
use Rattle.gate_log.specs.Steps.{AreSpelled}

pub spellings-nil : spellings [] ≡ []
unfolding spellings
spellings-nil = refl

pub spellings-cons : (r : RecordValue) (rs : List RecordValue) → spellings (r ∷ rs) ≡ spelling r ++ spellings rs
unfolding spellings
spellings-cons r rs = refl

pub spellings-push : (rs : List RecordValue) (r : RecordValue) → spellings (rs ++ r ∷ []) ≡ spellings rs ++ spelling r
unfolding spellings
spellings-push rs r = flat_map-append spelling rs (r ∷ []) ∙ ap (λ (t : List ℕ). flat_map spelling rs ++ t) (append-nil (spelling r))

-- each record takes a byte at least
pub count-spellings : (rs : List RecordValue) → length rs ≤ length (spellings rs)
count-spellings [] = omega arith
count-spellings (r ∷ rs) =
    rw spellings-cons (omega (arith, length-append {A = ℕ} (spelling r) (spellings rs), spelling_least r, count-spellings rs))

-- some of a list of records is told by its spellings
pub same_front : (v : Version) (done rs : List RecordValue) (rest more : List ℕ) → All (FitsIn v) done → All (FitsIn v) rs → length done ≤ length rs
    → spellings done ++ rest ≡ spellings rs ++ more
    → (rs ≡ done ++ drop (length done) rs) × (rest ≡ spellings (drop (length done) rs) ++ more)
same_front v [] rs rest more fits_done fits long e = (refl, rw spellings-nil at e)
same_front v (d ∷ done) [] rest more fits_done fits long e = absurd (omega arith)
same_front v (d ∷ done) (r ∷ rs) rest more fits_done fits long e =
    let parts : spelling d ++ (spellings done ++ rest) ≡ spelling r ++ (spellings rs ++ more) =
    sym (append_assoc (spelling d) (spellings done) rest)
    ∙ ap (λ (t : List ℕ). t ++ rest) (sym (spellings-cons d done))
    ∙ e
    ∙ ap (λ (t : List ℕ). t ++ more) (spellings-cons r rs)
    ∙ append_assoc (spelling r) (spellings rs) more in
    let first = one_spelling d r (spellings done ++ rest) (spellings rs ++ more) (wide v d (All-head (FitsIn v) d done fits_done))
    (wide v r (All-head (FitsIn v) r rs fits)) parts in
    let others = same_front v done rs rest more (All-tail (FitsIn v) d done fits_done) (All-tail (FitsIn v) r rs fits) (omega arith) first.1 in
    (ap (λ (x : RecordValue). x ∷ rs) (sym first.0) ∙ ap (λ (t : List RecordValue). d ∷ t) others.0, others.1)

-- one record more
pub spellings_more : (rs : List RecordValue) (i : ℕ) (r : RecordValue) → i < length rs → r ≡ get_or rs i r
    → spellings (take (i + 1) rs) ≡ spellings (take i rs) ++ spelling r
spellings_more rs i r lt is =
    ap spellings (take_more rs i r lt) ∙ spellings-push (take i rs) (get_or rs i r) ∙ ap (λ (x : RecordValue). spellings (take i rs) ++ spelling x) (sym is)

pub length-header : (count len : ℕ) → length (header count len) ≡ 4
unfolding header
length-header count len = omega (arith, length-append {A = ℕ} (u16 count) (u16 len), length-u16 count, length-u16 len)

-- a header and what it tells of fit into a body
pub fits_body : (records : List RecordValue) (all : List ℕ) → all ≡ header (length records) (length (spellings records)) ++ spellings records
    → length all ≡ 4 + length (spellings records)
fits_body records all is =
    let front : List ℕ = header (length records) (length (spellings records)) in
    ap length is ∙ omega (arith, length-append {A = ℕ} front (spellings records), length-header (length records) (length (spellings records)))

-- what is filled up with zeros is a group
pub group_filled : (records : List RecordValue) (all body : List ℕ) (n : ℕ) → FitsGroup records → All Fits records
    → all ≡ header (length records) (length (spellings records)) ++ spellings records → n ≡ length all → body ≡ all ++ drop n (replicate 3584 0)
    → IsGroup records body
group_filled records all body n room fits is n-is filled =
    let spelled : List ℕ = spellings records in
    let front : List ℕ = header (length records) (length spelled) in
    let size = fits_body records all is in
    let short = room.short in
    let zeros : 3584 - n ≡ 3580 - length spelled = omega (arith, size, short, n-is) in
    record {
      fits = room;
      each = fits;
      spelled = filled
          ∙ ap (λ (t : List ℕ). all ++ t) (drop-replicate n 3584 0)
          ∙ ap (λ (t : List ℕ). t ++ replicate (3584 - n) 0) is
          ∙ ap (λ (m : ℕ). (front ++ spelled) ++ replicate m 0) zeros
          ∙ append_assoc front spelled (replicate (3580 - length spelled) 0);
    }

-- ---- reading

all_zeros : (xs : List ℕ) → All (λ b. b ≡ 0) xs → xs ≡ replicate (length xs) 0
all_zeros [] zeros = refl
all_zeros (x ∷ xs) zeros =
    ap (λ (b : ℕ). b ∷ xs) (All-head (λ b. b ≡ 0) x xs zeros) ∙ ap (λ (t : List ℕ). 0 ∷ t) (all_zeros xs (All-tail (λ b. b ≡ 0) x xs zeros))

-- where the next record can't be read, there are no such records
pub none_spelled : (v : Version) (done : List RecordValue) (count : ℕ) (bytes rest : List ℕ) → All (FitsIn v) done → length done < count
    → bytes ≡ spellings done ++ rest
    → ((r : RecordValue) (more : List ℕ) → FitsIn v r → rest ≡ spelling r ++ more → ⊥) → (records : List RecordValue) → ¬ AreSpelled v records count bytes
none_spelled v done count bytes rest fits less is none records are =
    let split = same_front v done records rest [] fits are.each (omega (arith, less, are.count-is)) (sym is ∙ are.spelled
    ∙ sym (append-nil (spellings records))) in
    next (drop (length done) records) (omega (arith, length-drop (length done) records, less, are.count-is))
    (subst (λ (rs : List RecordValue). All (FitsIn v) rs) split.0 are.each) split.1
  where
    next : (others : List RecordValue) → 1 ≤ length others → All (FitsIn v) (done ++ others) → rest ≡ spellings others ++ [] → ⊥
    next [] long each e = omega (arith, long)
    next (r ∷ others) long each e =
        none r (spellings others ++ []) (subst (FitsIn v) (get_or_at done r others r (length done) refl)
        (each (length done) r (omega (arith, length-append {A = RecordValue} done (r ∷ others), long))))
        (e ∙ ap (λ (t : List ℕ). t ++ []) (spellings-cons r others) ∙ append_assoc (spelling r) (spellings others) [])

-- where something is left, there are none either
pub more_spelled : (v : Version) (done : List RecordValue) (count : ℕ) (bytes rest : List ℕ) → All (FitsIn v) done → length done ≡ count
    → bytes ≡ spellings done ++ rest → 1 ≤ length rest
    → (records : List RecordValue) → ¬ AreSpelled v records count bytes
more_spelled v done count bytes rest fits same is long records are =
    let split = same_front v done records rest [] fits are.each (omega (arith, same, are.count-is)) (sym is ∙ are.spelled
    ∙ sym (append-nil (spellings records))) in
    let none : drop (length done) records ≡ [] = nil_from_length (drop (length done) records)
    (omega (arith, length-drop (length done) records, same, are.count-is)) in
    let empty : rest ≡ [] = split.1 ∙ ap (λ (rs : List RecordValue). spellings rs ++ []) none ∙ ap (λ (t : List ℕ). t ++ []) spellings-nil in
    omega (arith, long, ap length empty)

-- one record more is read
pub step_spelled : (done : List RecordValue) (r : RecordValue) (bytes rest behind : List ℕ) (n : ℕ) → bytes ≡ spellings done ++ rest → take n rest ≡ spelling r
    → behind ≡ drop n rest → bytes ≡ spellings (done ++ r ∷ []) ++ behind
step_spelled done r bytes rest behind n is front back =
    is
    ∙ ap (λ (t : List ℕ). spellings done ++ t) (sym (take-append-drop n rest) ∙ ap (λ (t : List ℕ). t ++ drop n rest) front
    ∙ ap (λ (t : List ℕ). spelling r ++ t) (sym back))
    ∙ sym (append_assoc (spellings done) (spelling r) behind)
    ∙ ap (λ (t : List ℕ). t ++ behind) (sym (spellings-push done r))

pub header_front : (body behind : List ℕ) (count len : ℕ) → IsBytes body → 4 ≤ length body → behind ≡ drop 2 body → count ≡ big_number 2 body
    → len ≡ big_number 2 behind → body ≡ header count len ++ drop 4 body
unfolding header
header_front body behind count len fits long is count-is len-is =
    u16_front body fits (omega arith)
    ∙ ap (λ (t : List ℕ). u16 (big_number 2 body) ++ t) (u16_front (drop 2 body) (IsBytes-drop 2 body fits) (omega (arith, length-drop 2 body)))
    ∙ sym (append_assoc (u16 (big_number 2 body)) (u16 (big_number 2 (drop 2 body))) (drop 2 (drop 2 body)))
    ∙ ap (λ (t : List ℕ). (u16 (big_number 2 body) ++ u16 (big_number 2 (drop 2 body))) ++ t) (drop-drop 2 2 body)
    ∙ ap (λ (n : ℕ). (u16 n ++ u16 (big_number 2 (drop 2 body))) ++ drop 4 body) (sym count-is)
    ∙ ap (λ (n : ℕ). (u16 count ++ u16 n) ++ drop 4 body) (ap (big_number 2) (sym is) ∙ sym len-is)

-- one header is of two numbers
header_once : (a b c d : ℕ) (x y : List ℕ) → a < 2 ^ 16 → b < 2 ^ 16 → c < 2 ^ 16 → d < 2 ^ 16 → header a b ++ x ≡ header c d ++ y → (a ≡ c) × (b ≡ d) × (x ≡ y)
unfolding header
header_once a b c d x y fa fb fc fd e =
    let first = u16_once a c (u16 b ++ x) (u16 d ++ y) fa fc (sym (append_assoc (u16 a) (u16 b) x) ∙ e ∙ append_assoc (u16 c) (u16 d) y) in
    let second = u16_once b d x y fb fd first.1 in
    (first.0, second.0, second.1)

-- what a group's body is made of
pub record IsParted (v : Version) (records : List RecordValue) (count len : ℕ) (spelled zeros : List ℕ) : Type 0 where
  pub some : 1 ≤ count
  pub short : len ≤ 3580
  pub are : AreSpelled v records count spelled
  pub zeros-are : All (λ b. b ≡ 0) zeros

pub parted : (v : Version) (records : List RecordValue) (body rest : List ℕ) (count len : ℕ) → count < 2 ^ 16 → len < 2 ^ 16 → body ≡ header count len ++ rest
    → IsGroupIn v records body → IsParted v records count len (take len rest) (drop len rest)
parted v records body rest count len count_fits len_fits is group =
    let n = length (spellings records) in
    let zeros : List ℕ = replicate (3580 - length (spellings records)) 0 in
    let few = count-spellings records in
    let same = header_once count len (length records) (length (spellings records)) rest (spellings records ++ zeros) count_fits len_fits
    (omega (arith, few, group.fits.short)) (omega (arith, group.fits.short)) (sym is ∙ group.spelled) in
    record {
      some = omega (arith, same.0, group.fits.some);
      short = omega (arith, same.1, group.fits.short);
      are = record { each = group.each; count-is = sym same.0; spelled = ap (take len) same.2 ∙ take_at (spellings records) zeros len (sym same.1) };
      zeros-are = All-same (λ b. b ≡ 0) (drop len rest) zeros (ap (drop len) same.2
          ∙ drop_at (spellings records) zeros len (sym same.1)) (All-replicate (λ b. b ≡ 0) (3580 - length (spellings records)) 0 refl);
    }

pub from_parts : (v : Version) (records : List RecordValue) (body rest : List ℕ) (count len : ℕ) → length body ≡ 3584 → body ≡ header count len ++ rest
    → IsParted v records count len (take len rest) (drop len rest) → IsGroupIn v records body
from_parts v records body rest count len long is parts =
    let size : length rest ≡ 3580 = omega (arith, long, ap length is, length-append {A = ℕ} (header count len) rest, length-header count len) in
    let n : len ≡ length (spellings records) = omega (arith, ap length parts.are.spelled, length-take len rest, size, parts.short) in
    let zeros : drop len rest ≡ replicate (3580 - length (spellings records)) 0 = all_zeros (drop len rest) parts.zeros-are
    ∙ ap (λ (k : ℕ). replicate k 0) (omega (arith, length-drop len rest, size, n)) in
    record {
      fits = record { some = omega (arith, parts.some, parts.are.count-is); short = omega (arith, parts.short, n) };
      each = parts.are.each;
      spelled = is
          ∙ ap (λ (k : ℕ). header k len ++ rest) (sym parts.are.count-is)
          ∙ ap (λ (k : ℕ). header (length records) k ++ rest) n
          ∙ ap (λ (t : List ℕ). header (length records) (length (spellings records)) ++ t) (sym (take-append-drop len rest)
          ∙ ap (λ (t : List ℕ). t ++ drop len rest) parts.are.spelled ∙ ap (λ (t : List ℕ). spellings records ++ t) zeros);
    }

pub found_map : {T E : Type 0} (P Q : Type 0) (R S : T → Type 0) (r : Result (Option T) E) → (P → Q) → ((t : T) → R t → S t) → IfOk r (λ o. MatchOption o P R)
    → IfOk r (λ o. MatchOption o Q S)
found_map P Q R S (Ok (Some t)) f g h = g t h
found_map P Q R S (Ok None) f g h = f h
found_map P Q R S (Err e) f g h = tt

-- a body is of one group
pub one_group : (v : Version) (a b : List RecordValue) (body : List ℕ) → IsGroupIn v a body → IsGroupIn v b body → a ≡ b
one_group v a b body p q =
    let za : List ℕ = replicate (3580 - length (spellings a)) 0 in
    let zb : List ℕ = replicate (3580 - length (spellings b)) 0 in
    let few_a = count-spellings a in
    let few_b = count-spellings b in
    let same = header_once (length a) (length (spellings a)) (length b) (length (spellings b)) (spellings a ++ za) (spellings b ++ zb)
    (omega (arith, few_a, p.fits.short)) (omega (arith, p.fits.short)) (omega (arith, few_b, q.fits.short)) (omega (arith, q.fits.short)) (sym p.spelled
    ∙ q.spelled) in
    let split = same_front v a b za zb p.each q.each (omega (arith, same.0)) same.2 in
    let none : drop (length a) b ≡ [] = nil_from_length (drop (length a) b) (omega (arith, length-drop (length a) b, same.0)) in
    sym (split.0 ∙ ap (λ (t : List RecordValue). a ++ t) none ∙ append-nil a)

-- the front of a list of records is no longer
pub front_shorter : (n : ℕ) (rs : List RecordValue) → length (spellings (take n rs)) ≤ length (spellings rs)
unfolding spellings
front_shorter n rs =
    omega (
      arith,
      length-append {A = ℕ} (spellings (take n rs)) (spellings (drop n rs)),
      ap length (sym (flat_map-append spelling (take n rs) (drop n rs)) ∙ ap spellings (take-append-drop n rs)),
    )

pub length_more : (rs : List RecordValue) (i : ℕ) (r : RecordValue) → i < length rs → r ≡ get_or rs i r
    → length (spellings (take (i + 1) rs)) ≡ length (spellings (take i rs)) + length (spelling r)
length_more rs i r lt is = ap length (spellings_more rs i r lt is) ∙ length-append (spellings (take i rs)) (spelling r)
