-- Superblocks: how they are written and read, and that one is of one geometry.
use Rattle.std.proofs.Common.{◌≡◌, Bool, true, false, cond, ℕ, ◌+◌, ◌-◌, ◌^◌, ◌<◌, ◌≤◌, List}
use Rattle.std.proofs.Common.{[], ◌++◌, length, take, drop, All, refl, sym, ap, subst, ◌∙◌, arith, append_assoc}
use Rattle.std.proofs.Common.{length-append}
use Rattle.std.proofs.lemmas.List.{take_at, drop_at, drop-drop, length-drop, append-nil, nil_from_length, take_all}
use borrow.Rule.Slice.PartMut.{put_mid}
use Rattle.byteorder.specs.Endian.{big_number}
use Rattle.record_values.specs.GeometryValue.{GeometryValue, IsGeometry, is_small}
use Rattle.records.specs.Spelling.{u32, u64, IsBytes}
use Rattle.records.proofs.Numbers.{IsBytes-drop, length-u32, length-u64, u32_front, u64_front, u32_once, u64_once}
use Rattle.flip_image.specs.declared.superblock.TheConstants.{TITLE}
use Rattle.record_values.specs.declared.version.Version.{Version}
use Rattle.record_values.specs.declared.version.Version.TheVariants.{One, Two}
use Rattle.flip_image.specs.Steps.{IsOlderNumber}
use Rattle.flip_image.specs.Store.{title, number_of, CanBeIn, superblock_in, IsSuperblockIn, HasOlderNumber}

-- the title is this number
pub title-is : u64 TITLE ≡ title
unfolding u64 title
title-is = refl

-- a superblock, and some bytes, as numbers
pub superblock-is : (v : Version) (g : GeometryValue) (rest : List ℕ)
    → superblock_in v g ++ rest ≡ u64 TITLE ++ (u32 (number_of v g) ++ (u32 g.pages ++ (u32 g.entries ++ (u32 g.slots ++ rest))))
unfolding superblock_in
superblock-is v g rest =
    append_assoc title (u32 (number_of v g) ++ (u32 g.pages ++ (u32 g.entries ++ u32 g.slots))) rest
    ∙ ap (λ (t : List ℕ). title ++ t) (append_assoc (u32 (number_of v g)) (u32 g.pages ++ (u32 g.entries ++ u32 g.slots)) rest)
    ∙ ap (λ (t : List ℕ). title ++ (u32 (number_of v g) ++ t)) (append_assoc (u32 g.pages) (u32 g.entries ++ u32 g.slots) rest)
    ∙ ap (λ (t : List ℕ). title ++ (u32 (number_of v g) ++ (u32 g.pages ++ t))) (append_assoc (u32 g.entries) (u32 g.slots) rest)
    ∙ ap (λ (t : List ℕ). t ++ (u32 (number_of v g) ++ (u32 g.pages ++ (u32 g.entries ++ (u32 g.slots ++ rest))))) (sym title-is)

length-title : length title ≡ 8
length-title = ap length (sym title-is) ∙ length-u64 TITLE

pub length-superblock : (v : Version) (g : GeometryValue) → length (superblock_in v g) ≡ 24
unfolding superblock_in
length-superblock v g = omega (
  arith,
  length-title,
  length-append {A = ℕ} title (u32 (number_of v g) ++ (u32 g.pages ++ (u32 g.entries ++ u32 g.slots))),
  length-append {A = ℕ} (u32 (number_of v g)) (u32 g.pages ++ (u32 g.entries ++ u32 g.slots)),
  length-append {A = ℕ} (u32 g.pages) (u32 g.entries ++ u32 g.slots),
  length-append {A = ℕ} (u32 g.entries) (u32 g.slots),
  length-u32 (number_of v g),
  length-u32 g.pages,
  length-u32 g.entries,
  length-u32 g.slots,
)

-- bytes that begin with a superblock, with zeros behind it
pub superblock_filled : (v : Version) (g : GeometryValue) (bytes rest : List ℕ) → CanBeIn v g → bytes ≡ superblock_in v g ++ rest
    → All (λ b. b ≡ 0) rest
    → IsSuperblockIn v g bytes
superblock_filled v g bytes rest can is zeros =
    let behind : drop 24 bytes ≡ rest = ap (drop 24) is ∙ drop_at (superblock_in v g) rest 24 (length-superblock v g) in
    record {
      can = can;
      spelled = is ∙ ap (λ (t : List ℕ). superblock_in v g ++ t) (sym behind);
      rest = subst (All (λ b. b ≡ 0)) (sym behind) zeros;
    }

four : (bytes behind : List ℕ) (k n : ℕ) → IsBytes bytes → k + 4 ≤ length bytes → behind ≡ drop k bytes → n ≡ big_number 4 behind
    → drop k bytes ≡ u32 n ++ drop (k + 4) bytes
four bytes behind k n fits long is num =
    u32_front (drop k bytes) (IsBytes-drop k bytes fits) (omega (arith, long, length-drop k bytes))
    ∙ ap (λ (m : ℕ). u32 m ++ drop 4 (drop k bytes)) (sym (num ∙ ap (big_number 4) is))
    ∙ ap (λ (t : List ℕ). u32 n ++ t) (drop-drop 4 k bytes)

-- what is read in front
pub front_is : (bytes one two three more : List ℕ) (t v p e s : ℕ) → IsBytes bytes → 24 ≤ length bytes → one ≡ drop 8 bytes → two ≡ drop 4 one
    → three ≡ drop 4 two → more ≡ drop 4 three
    → t ≡ big_number 8 bytes → v ≡ big_number 4 one → p ≡ big_number 4 two → e ≡ big_number 4 three → s ≡ big_number 4 more
    → bytes ≡ u64 t ++ (u32 v ++ (u32 p ++ (u32 e ++ (u32 s ++ drop 24 bytes))))
front_is bytes one two three more t v p e s fits long is_one is_two is_three is_more is_t is_v is_p is_e is_s =
    let two-is : two ≡ drop 12 bytes = is_two ∙ ap (drop 4) is_one ∙ drop-drop 4 8 bytes in
    let three-is : three ≡ drop 16 bytes = is_three ∙ ap (drop 4) two-is ∙ drop-drop 4 12 bytes in
    let more-is : more ≡ drop 20 bytes = is_more ∙ ap (drop 4) three-is ∙ drop-drop 4 16 bytes in
    u64_front bytes fits (omega arith)
    ∙ ap (λ (n : ℕ). u64 n ++ drop 8 bytes) (sym is_t)
    ∙ ap (λ (x : List ℕ). u64 t ++ x) (four bytes one 8 v fits (omega arith) is_one is_v)
    ∙ ap (λ (x : List ℕ). u64 t ++ (u32 v ++ x)) (four bytes two 12 p fits (omega arith) two-is is_p)
    ∙ ap (λ (x : List ℕ). u64 t ++ (u32 v ++ (u32 p ++ x))) (four bytes three 16 e fits (omega arith) three-is is_e)
    ∙ ap (λ (x : List ℕ). u64 t ++ (u32 v ++ (u32 p ++ (u32 e ++ x)))) (four bytes more 20 s fits (omega arith) more-is is_s)

-- the title is there where its number is read
pub title_there : (bytes rest : List ℕ) (t : ℕ) → t ≡ TITLE → bytes ≡ u64 t ++ rest → take 8 bytes ≡ title
title_there bytes rest t same is = ap (take 8) is ∙ take_at (u64 t) rest 8 (length-u64 t) ∙ ap u64 same ∙ title-is

-- and only there
pub title_told : (bytes rest : List ℕ) (t : ℕ) → t < 2 ^ 64 → bytes ≡ u64 t ++ rest → take 8 bytes ≡ title → t ≡ TITLE
title_told bytes rest t fits is there =
    let same : u64 t ≡ u64 TITLE = sym (ap (take 8) is ∙ take_at (u64 t) rest 8 (length-u64 t)) ∙ there ∙ sym title-is in
    (u64_once t TITLE [] [] fits (omega arith) (ap (λ (x : List ℕ). x ++ []) same)).0

-- a superblock begins with the title
pub titled : (v : Version) (g : GeometryValue) (bytes : List ℕ) → IsSuperblockIn v g bytes → take 8 bytes ≡ title
titled v g bytes is = title_there bytes _ TITLE refl (is.spelled ∙ superblock-is v g (drop 24 bytes))

-- the numbers in front of some bytes are those of a version and a geometry
pub record AreNumbers (v : Version) (g : GeometryValue) (n p e s : ℕ) : Type 0 where
  pub version : n ≡ number_of v g
  pub pages : p ≡ g.pages
  pub entries : e ≡ g.entries
  pub slots : s ≡ g.slots

two_or_three : (b : Bool) → cond b 2 3 < 2 ^ 32
two_or_three true = omega arith
two_or_three false = omega arith

number_fits : (v : Version) (g : GeometryValue) → number_of v g < 2 ^ 32
number_fits One g = omega arith
number_fits Two g = two_or_three (is_small g)

-- the numbers that are read in a superblock are its geometry's
pub numbers_told : (v : Version) (g : GeometryValue) (bytes rest : List ℕ) (t n p e s : ℕ) → t < 2 ^ 64 → n < 2 ^ 32 → p < 2 ^ 32 → e < 2 ^ 32 → s < 2 ^ 32
    → bytes ≡ u64 t ++ (u32 n ++ (u32 p ++ (u32 e ++ (u32 s ++ rest)))) → IsGeometry g → IsSuperblockIn v g bytes → AreNumbers v g n p e s
numbers_told v g bytes rest t n p e s ft fn fp fe fs is limits spelled =
    let both = sym is ∙ spelled.spelled ∙ superblock-is v g (drop 24 bytes) in
    let first = u64_once t TITLE _ _ ft (omega arith) both in
    let second = u32_once n (number_of v g) _ _ fn (number_fits v g) first.1 in
    let third = u32_once p g.pages _ _ fp (omega (arith, limits.most_pages)) second.1 in
    let fourth = u32_once e g.entries _ _ fe (omega (arith, limits.most_entries)) third.1 in
    let fifth = u32_once s g.slots _ _ fs (omega (arith, limits.most_slots)) fourth.1 in
    record { version = second.0; pages = third.0; entries = fourth.0; slots = fifth.0 }

pub same_limits : (v : Version) (g : GeometryValue) (n p e s : ℕ) → AreNumbers v g n p e s → IsGeometry g
    → IsGeometry (record { pages = p; entries = e; slots = s })
same_limits v g n p e s are limits = record {
  some_page = omega (arith, are.pages, limits.some_page);
  most_pages = omega (arith, are.pages, limits.most_pages);
  least_entries = omega (arith, are.entries, limits.least_entries);
  most_entries = omega (arith, are.entries, limits.most_entries);
  least_slots = omega (arith, are.slots, limits.least_slots);
  most_slots = omega (arith, are.slots, limits.most_slots);
}

same_numbers : (g h : GeometryValue) → g.pages ≡ h.pages → g.entries ≡ h.entries → g.slots ≡ h.slots → g ≡ h
same_numbers g h p e s = ap (λ (n : ℕ). record { pages = n; entries = g.entries; slots = g.slots }) p
    ∙ ap (λ (n : ℕ). record { pages = h.pages; entries = n; slots = g.slots }) e
    ∙ ap (λ (n : ℕ). record { pages = h.pages; entries = h.entries; slots = n }) s

-- the numbers that were read are those of the geometry
pub geometry_is : (v : Version) (g : GeometryValue) (n p e s : ℕ) → AreNumbers v g n p e s → record { pages = p; entries = e; slots = s } ≡ g
geometry_is v g n p e s are = same_numbers (record { pages = p; entries = e; slots = s }) g are.pages are.entries are.slots

-- bytes are a superblock of one geometry at most
pub one_geometry : (v : Version) (g h : GeometryValue) (bytes : List ℕ) → IsGeometry g → IsGeometry h → IsSuperblockIn v g bytes → IsSuperblockIn v h bytes
    → g ≡ h
one_geometry v g h bytes lg lh is_g is_h =
    let are = numbers_told v h bytes (drop 24 bytes) TITLE (number_of v g) g.pages g.entries g.slots (omega arith) (number_fits v g)
    (omega (arith, lg.most_pages))
    (omega (arith, lg.most_entries)) (omega (arith, lg.most_slots))
    (is_g.spelled ∙ superblock-is v g (drop 24 bytes)) lh is_h in
    same_numbers g h are.pages are.entries are.slots

-- numbers that were read, with zeros behind them, are a superblock
pub superblock_read : (v : Version) (bytes : List ℕ) (t n p e s : ℕ) (g : GeometryValue)
    → bytes ≡ u64 t ++ (u32 n ++ (u32 p ++ (u32 e ++ (u32 s ++ drop 24 bytes)))) → t ≡ TITLE → n ≡ number_of v g → CanBeIn v g
    → g ≡ record { pages = p; entries = e; slots = s } → All (λ b. b ≡ 0) (drop 24 bytes) → IsSuperblockIn v g bytes
superblock_read v bytes t n p e s g is same one can geometry zeros = superblock_filled v g bytes (drop 24 bytes) can (
    is
    ∙ ap (λ (m : ℕ). u64 m ++ (u32 n ++ (u32 p ++ (u32 e ++ (u32 s ++ drop 24 bytes))))) same
    ∙ ap (λ (m : ℕ). u64 TITLE ++ (u32 m ++ (u32 p ++ (u32 e ++ (u32 s ++ drop 24 bytes))))) (one ∙ ap (number_of v) geometry)
    ∙ sym (superblock-is v (record { pages = p; entries = e; slots = s }) (drop 24 bytes))
    ∙ ap (λ (x : GeometryValue). superblock_in v x ++ drop 24 bytes) (sym geometry)) zeros

-- ---- an older version

-- the number behind the title
number_there : (bytes rest : List ℕ) (t n : ℕ) → bytes ≡ u64 t ++ (u32 n ++ rest) → take 4 (drop 8 bytes) ≡ u32 n
number_there bytes rest t n is = ap (λ (x : List ℕ). take 4 (drop 8 x)) is ∙ ap (take 4) (drop_at (u64 t) (u32 n ++ rest) 8 (length-u64 t))
    ∙ take_at (u32 n) rest 4 (length-u32 n)

-- the number that is read is that of an older version just where that stands behind the title
pub older_there : (v : Version) (bytes rest : List ℕ) (t n : ℕ) → bytes ≡ u64 t ++ (u32 n ++ rest) → IsOlderNumber v n → HasOlderNumber v bytes
older_there One bytes rest t n is older = older
older_there Two bytes rest t n is older = number_there bytes rest t n is ∙ ap u32 older

pub older_told : (v : Version) (bytes rest : List ℕ) (t n : ℕ) → n < 2 ^ 32 → bytes ≡ u64 t ++ (u32 n ++ rest) → HasOlderNumber v bytes → IsOlderNumber v n
older_told One bytes rest t n fits is older = older
older_told Two bytes rest t n fits is older =
    (u32_once n 1 [] [] fits (omega arith) (ap (λ (x : List ℕ). x ++ []) (sym (number_there bytes rest t n is) ∙ older))).0

above_one : (b : Bool) → 1 < cond b 2 3
above_one true = omega arith
above_one false = omega arith

-- a superblock is of no older version
pub not_older : (v : Version) (g : GeometryValue) (bytes : List ℕ) → IsSuperblockIn v g bytes → ¬ HasOlderNumber v bytes
not_older One g bytes is older = older
not_older Two g bytes is older =
    let number : ℕ = number_of Two g in
    let same : number ≡ 1 = older_told Two bytes (u32 g.pages ++ (u32 g.entries ++ (u32 g.slots ++ drop 24 bytes))) TITLE number
    (number_fits Two g) (is.spelled ∙ superblock-is Two g (drop 24 bytes)) older in
    let above : 1 < number = above_one (is_small g) in
    omega (arith, same, above)

-- one of version 1 is older than version 2
pub old_is_older : (g : GeometryValue) (bytes : List ℕ) → IsSuperblockIn One g bytes → HasOlderNumber Two bytes
old_is_older g bytes is = number_there bytes _ TITLE 1 (is.spelled ∙ superblock-is One g (drop 24 bytes))

-- bytes whose part behind a front was changed
pub behind_changed : (a k : ℕ) (xs ys front old : List ℕ) → xs ≡ front ++ old → length front ≡ a → k ≡ length xs - a → put_mid a k xs ys ≡ front ++ ys
behind_changed a k xs ys front old is long room =
    let past : drop k (drop a xs) ≡ [] = nil_from_length (drop k (drop a xs)) (omega (arith, length-drop k (drop a xs), length-drop a xs, room)) in
    ap (λ (t : List ℕ). t ++ (ys ++ drop k (drop a xs))) (ap (take a) is ∙ take_at front old a long)
    ∙ ap (λ (t : List ℕ). front ++ (ys ++ t)) past
    ∙ ap (λ (t : List ℕ). front ++ t) (append-nil ys)

-- the version and the geometry, as two pairs of numbers
pub numbers_written : (v p e s k : ℕ) (old one two : List ℕ) → one ≡ u32 v ++ (u32 p ++ drop 8 old) → two ≡ u32 e ++ (u32 s ++ drop 8 (take k (drop 8 one)))
    → k ≡ length one - 8
    → put_mid 8 k one two ≡ u32 v ++ (u32 p ++ (u32 e ++ (u32 s ++ drop 16 old)))
numbers_written v p e s k old one two is_one is_two room =
    let front : List ℕ = u32 v ++ u32 p in
    let long : length front ≡ 8 = omega (arith, length-append {A = ℕ} (u32 v) (u32 p), length-u32 v, length-u32 p) in
    let one-is : one ≡ front ++ drop 8 old = is_one ∙ sym (append_assoc (u32 v) (u32 p) (drop 8 old)) in
    let rest : drop 8 (take k (drop 8 one)) ≡ drop 16 old =
    ap (drop 8) (take_all k (drop 8 one) (omega (arith, length-drop 8 one, room)) ∙ ap (drop 8) one-is ∙ drop_at front (drop 8 old) 8 long)
    ∙ drop-drop 8 8 old in
    behind_changed 8 k one two front (drop 8 old) one-is long room
    ∙ append_assoc (u32 v) (u32 p) two
    ∙ ap (λ (t : List ℕ). u32 v ++ (u32 p ++ t)) (is_two ∙ ap (λ (t : List ℕ). u32 e ++ (u32 s ++ t)) rest)

-- the title in front of them
pub front_written : (g : GeometryValue) (v k : ℕ) (old one two : List ℕ) → v ≡ number_of Two g → one ≡ u64 TITLE ++ drop 8 old
    → two ≡ u32 v ++ (u32 g.pages ++ (u32 g.entries ++ (u32 g.slots ++ drop 16 (take k (drop 8 one))))) → k ≡ length one - 8
    → put_mid 8 k one two ≡ superblock_in Two g ++ drop 24 old
front_written g v k old one two is_v is_one is_two room =
    let long : length (u64 TITLE) ≡ 8 = length-u64 TITLE in
    let rest : drop 16 (take k (drop 8 one)) ≡ drop 24 old =
    ap (drop 16) (take_all k (drop 8 one) (omega (arith, length-drop 8 one, room)) ∙ ap (drop 8) is_one ∙ drop_at (u64 TITLE) (drop 8 old) 8 long)
    ∙ drop-drop 16 8 old in
    behind_changed 8 k one two (u64 TITLE) (drop 8 old) is_one long room
    ∙ ap (λ (t : List ℕ). u64 TITLE ++ t) (is_two ∙ ap (λ (t : List ℕ). u32 v ++ (u32 g.pages ++ (u32 g.entries ++ (u32 g.slots ++ t)))) rest)
    ∙ ap (λ (n : ℕ). u64 TITLE ++ (u32 n ++ (u32 g.pages ++ (u32 g.entries ++ (u32 g.slots ++ drop 24 old))))) is_v
    ∙ sym (superblock-is Two g (drop 24 old))
