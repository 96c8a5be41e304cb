-- The scans that are read are those that the words spell.
use Rattle.std.specs.Prelude.{codes}
use Rattle.std.proofs.Common.{◌≡◌, ℕ, Bool, true, false, List, [], ◌∷◌, ◌++◌, Option, Some, None, refl, ap, subst, ◌∙◌, inl, inr}
use Rattle.std.specs.Option.{option_map}
use Rattle.std.specs.Fmt.{decimal}
use Rattle.program_script.specs.declared.scan.Scan.{Scan}
use Rattle.program_script.specs.declared.scan.Span.{Span}
use Rattle.program_script.specs.declared.scan.Span.TheVariants.{Between, From, Whole}
use Rattle.program_script.specs.Grammar.{IsByteText}
use Rattle.program_script.specs.Reading.{count_at, only, text_at, ◌>>=◌}
use Rattle.program_script.specs.ReadingScans.{Manner, as_scan, between_at, from_at, in_manner, keys_at, limit_at, manner_at}
use Rattle.program_script.specs.Scans.{SpellLimit, SpellOrder, SpellScan, SpellSpan}
use Rattle.program_script.proofs.Commands.{count_again, count_takes, only_takes}
use Rattle.program_script.proofs.Steps.{bind_some, by_name, mapped, some_is}
use Rattle.program_script.proofs.Texts.{text_again, text_takes}

words_are : (a b : List ℕ) (c d : List (List ℕ)) → a ≡ b → c ≡ d → a ∷ c ≡ b ∷ d
words_are a b c d p q = cc

-- ---- how many pairs

limit_takes : (args : List (List ℕ)) (limit : Option ℕ) → limit_at args ≡ Some limit → SpellLimit args limit
unfolding limit_at
limit_takes [] limit e = subst (SpellLimit []) (some_is None limit e) refl
limit_takes (name ∷ args) limit e =
    by_name name (codes "count") (λ is h.
    let word = bind_some (only args) (λ word. count_at word >>= λ count. Some (Some count)) limit h in
    let count = bind_some (count_at word.0) (λ count. Some (Some count)) limit word.2 in
    let number = count_takes word.0 count.0 count.1 in
    subst (SpellLimit (name ∷ args)) (some_is (Some count.0) limit count.2)
    (words_are name (codes "count") args (decimal count.0 ∷ []) is (only_takes args word.0 word.1 ∙ ap (λ (w : List ℕ). w ∷ []) number.0), number.1))
    (λ h. absurd cc)
    e

limit_again : (args : List (List ℕ)) (limit : Option ℕ) → SpellLimit args limit → limit_at args ≡ Some limit
unfolding limit_at
limit_again args None h = ap limit_at h
limit_again args (Some count) h = ap limit_at h.0 ∙ ap (λ (o : Option ℕ). o >>= λ n. Some (Some n)) (count_again count h.1)

-- ---- in which manner

-- these words give which pair comes first, and how many pairs
abbrev InManner : List (List ℕ) → Manner → Type 0
InManner args m = (order count : List (List ℕ)) × (args ≡ order ++ count) × SpellOrder order m.0 × SpellLimit count m.1

manner_takes : (args : List (List ℕ)) (m : Manner) → manner_at args ≡ Some m → InManner args m
unfolding manner_at
manner_takes [] m e = subst (InManner []) (some_is (false, None) m e) ([], [], refl, refl, refl)
manner_takes (name ∷ args) m e =
    by_name name (codes "back") (λ is h.
    let limit = mapped (λ (limit : Option ℕ). (true, limit)) (limit_at args) m h in
    subst (InManner (name ∷ args)) limit.2
    (codes "back" ∷ [], args, words_are name (codes "back") args args is refl, refl, limit_takes args limit.0 limit.1))
    (λ h.
    let limit = mapped (λ (limit : Option ℕ). (false, limit)) (limit_at (name ∷ args)) m h in
    subst (InManner (name ∷ args)) limit.2 ([], name ∷ args, refl, refl, limit_takes (name ∷ args) limit.0 limit.1))
    e

manner_again : (is_back : Bool) (limit : Option ℕ) (order count : List (List ℕ)) → SpellOrder order is_back → SpellLimit count limit
    → manner_at (order ++ count) ≡ Some (is_back, limit)
unfolding manner_at
manner_again true limit order count h more = ap (λ (ws : List (List ℕ)). manner_at (ws ++ count)) h
    ∙ ap (option_map (λ (limit : Option ℕ). (true, limit))) (limit_again count limit more)
manner_again false None order count h more = ap (λ (ws : List (List ℕ)). manner_at (ws ++ count)) h ∙ ap manner_at more
manner_again false (Some n) order count h more = ap (λ (ws : List (List ℕ)). manner_at (ws ++ count)) h
    ∙ ap manner_at more.0
    ∙ ap (option_map (λ (limit : Option ℕ). (false, limit))) (limit_again (codes "count" ∷ decimal n ∷ []) (Some n) (refl, more.1))

-- a key is neither the word for the order nor that before a count
no_manner : (word key : List ℕ) (rest : List (List ℕ)) → IsByteText word key → manner_at (word ∷ rest) ≡ None
unfolding manner_at limit_at
no_manner word key rest (inl h) = ap (λ (w : List ℕ). manner_at (w ∷ rest)) h.0
no_manner word key rest (inr h) = ap (λ (w : List ℕ). manner_at (w ∷ rest)) h.0

by_manner : {P : Type 0} (o : Option Manner) (span : Span) (other : Option Scan) (s : Scan)
    → ((manner : Manner) → o ≡ Some manner → as_scan span manner ≡ s → P) → (other ≡ Some s → P) → in_manner o span other ≡ Some s → P
by_manner (Some manner) span other s here further e = here manner refl (some_is (as_scan span manner) s e)
by_manner None span other s here further e = further e

-- ---- keys

-- these words give the keys of the scan and its manner
abbrev Spelled : List (List ℕ) → Scan → Type 0
Spelled args s = (keys manner : List (List ℕ)) × (args ≡ keys ++ manner) × SpellSpan keys s.span × InManner manner (s.is_back, s.limit)

between_takes : (word first : List ℕ) (args : List (List ℕ)) (s : Scan) → IsByteText word first → between_at first args ≡ Some s → Spelled (word ∷ args) s
unfolding between_at
between_takes word first [] s spelled e = absurd cc
between_takes word first (next ∷ rest) s spelled e =
    let last = bind_some (text_at next) (λ last. manner_at rest >>= λ manner. Some (as_scan (Between first last) manner)) s e in
    let manner = bind_some (manner_at rest) (λ manner. Some (as_scan (Between first last.0) manner)) s last.2 in
    subst (Spelled (word ∷ next ∷ rest)) (some_is (as_scan (Between first last.0) manner.0) s manner.2)
    (word ∷ next ∷ [], rest, refl, (word, next, refl, spelled, text_takes next last.0 last.1), manner_takes rest manner.0 manner.1)

from_takes : (args : List (List ℕ)) (s : Scan) → from_at args ≡ Some s → Spelled args s
unfolding from_at
from_takes [] s e = absurd cc
from_takes (word ∷ rest) s e =
    let first = bind_some (text_at word) (λ first. in_manner (manner_at rest) (From first) (between_at first rest)) s e in
    let spelled = text_takes word first.0 first.1 in
    by_manner (manner_at rest) (From first.0) (between_at first.0 rest) s
    (λ manner is same. subst (Spelled (word ∷ rest)) same (word ∷ [], rest, refl, (word, refl, spelled), manner_takes rest manner is))
    (between_takes word first.0 rest s spelled)
    first.2

keys_take : (args : List (List ℕ)) (s : Scan) → keys_at args ≡ Some s → Spelled args s
unfolding keys_at
keys_take args s e =
    by_manner (manner_at args) Whole (from_at args) s
    (λ manner is same. subst (Spelled args) same ([], args, refl, refl, manner_takes args manner is))
    (from_takes args s)
    e

keys_again : (span : Span) (m : Manner) (keys manner : List (List ℕ)) → SpellSpan keys span → manner_at manner ≡ Some m
    → keys_at (keys ++ manner) ≡ Some (as_scan span m)
unfolding keys_at from_at between_at
keys_again Whole m keys manner h more =
    ap (λ (ws : List (List ℕ)). keys_at (ws ++ manner)) h
    ∙ ap (λ (o : Option Manner). in_manner o Whole (from_at manner)) more
keys_again (From first) m keys manner h more =
    ap (λ (ws : List (List ℕ)). keys_at (ws ++ manner)) h.1
    ∙ ap (λ (o : Option Manner). in_manner o Whole (from_at (h.0 ∷ manner))) (no_manner h.0 first manner h.2)
    ∙ ap (λ (o : Option (List ℕ)). o >>= λ first. in_manner (manner_at manner) (From first) (between_at first manner)) (text_again h.0 first h.2)
    ∙ ap (λ (o : Option Manner). in_manner o (From first) (between_at first manner)) more
keys_again (Between first last) m keys manner h more =
    ap (λ (ws : List (List ℕ)). keys_at (ws ++ manner)) h.2
    ∙ ap (λ (o : Option Manner). in_manner o Whole (from_at (h.0 ∷ h.1 ∷ manner))) (no_manner h.0 first (h.1 ∷ manner) h.3)
    ∙ ap (λ (o : Option (List ℕ)). o >>= λ first. in_manner (manner_at (h.1 ∷ manner)) (From first) (between_at first (h.1 ∷ manner)))
    (text_again h.0 first h.3)
    ∙ ap (λ (o : Option Manner). in_manner o (From first) (between_at first (h.1 ∷ manner))) (no_manner h.1 last manner h.4)
    ∙ ap (λ (o : Option (List ℕ)). o >>= λ last. manner_at manner >>= λ m. Some (as_scan (Between first last) m)) (text_again h.1 last h.4)
    ∙ ap (λ (o : Option Manner). o >>= λ m. Some (as_scan (Between first last) m)) more

-- ---- behind the name

pub scan_takes : (verb : List ℕ) (args : List (List ℕ)) (s : Scan) → verb ≡ codes "scan" → keys_at args ≡ Some s → SpellScan (verb ∷ args) s
scan_takes verb args s is e =
    let t = keys_take args s e in
    let m = t.4 in
    (t.0, m.0, m.1, words_are verb (codes "scan") args (t.0 ++ (m.0 ++ m.1)) is (t.2 ∙ ap (λ (ws : List (List ℕ)). t.0 ++ ws) m.2), t.3, m.3, m.4)

pub scan_again : (words : List (List ℕ)) (s : Scan) → SpellScan words s → (args : List (List ℕ)) × (words ≡ codes "scan" ∷ args) × (keys_at args ≡ Some s)
scan_again words s h = (
  h.0 ++ (h.1 ++ h.2),
  h.3,
  keys_again s.span (s.is_back, s.limit) h.0 (h.1 ++ h.2) h.4 (manner_again s.is_back s.limit h.1 h.2 h.5 h.6),
)
