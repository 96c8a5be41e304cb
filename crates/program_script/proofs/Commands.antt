-- The commands that are read are those that the words spell.
use Rattle.std.specs.Prelude.{codes}
use Rattle.std.proofs.Common.{◌≡◌, ℕ, ◌^◌, ◌<◌, ◌≤◌, ◌&&◌, true, false, cond, ltb, leb, eqb, List, [], ◌∷◌, ◌++◌, Option, Some, None, refl, sym, ap, subst, ◌∙◌}
use Rattle.std.proofs.Common.{arith, inl, inr}
use Rattle.std.specs.Fmt.{decimal}
use Rattle.std.specs.List.{join_with_byte}
use Rattle.std.specs.Option.{option_map}
use Rattle.std.proofs.lemmas.List.Splits.{join_with_byte-slice_split, slice_split_at, slice_split_none}
use Rattle.std.proofs.lemmas.Bool.{ltb-true, lt-ltb, leb-true, le-leb, and_parts, and_from, both_ways}
use Rattle.record_values.specs.Values.{Place}
use Rattle.record_values.specs.declared.rid.TheConstants.{SLOTS_PER_PAGE}
use Rattle.program_script.specs.declared.word.TheConstants.{STEPS_MAX}
use Rattle.program_script.specs.declared.fate.Fate.{Fate}
use Rattle.program_script.specs.declared.fate.Fate.TheVariants.{Old, New, Zero, Gate, Junk}
use Rattle.program_script.specs.declared.command.Command.{Command}
use Rattle.program_script.specs.declared.command.Command.TheVariants.{Begin, Insert, Delete, Update, Step, Undo, End, Commit, Create, Drop, Build, Clean, Flush}
use Rattle.program_script.specs.declared.command.Command.TheVariants.{Image}
use Rattle.program_script.specs.declared.command.Command.TheVariants.{Crash, Get, Find, Dump}
use Rattle.program_script.specs.Grammar.{rid_text, parted_by, words, is_left_out, IsTxn, IsCount, IsRid, fate_name, SpellSteps, Spell, IsLineOf, IsGood}
use Rattle.program_script.specs.Reading.{◌>>=◌, only, first_two, first_three, first_four, number_at, txn_at, count_at, place_at, rid_at, text_at, fate_at}
use Rattle.program_script.specs.Reading.{alone_at}
use Rattle.program_script.specs.Reading.{insert_at, delete_at, update_at, only_txn_at, steps_at, crash_at, get_at, find_at, store_command_at, command_at}
use Rattle.program_script.proofs.Steps.{bind_some, mapped, passed, passed_not, some_is, by_name}
use Rattle.program_script.proofs.Numbers.{number_takes, number_again, no_such_byte}
use Rattle.program_script.proofs.Texts.{text_takes, text_again}

-- ---- words

pub only_takes : (args : List (List ℕ)) (word : List ℕ) → only args ≡ Some word → args ≡ word ∷ []
only_takes [] word e = absurd cc
only_takes (one ∷ []) word e = ap (λ (w : List ℕ). w ∷ []) (some_is one word e)
only_takes (one ∷ more ∷ rest) word e = absurd cc

pub txn_takes : (word : List ℕ) (txn : ℕ) → txn_at word ≡ Some txn → (word ≡ decimal txn) × IsTxn txn
unfolding txn_at
txn_takes word txn e =
    let n = bind_some (number_at word) (λ n. cond (eqb n 0) None (Some n)) txn e in
    let some = passed_not (eqb n.0 0) (Some n.0) txn n.2 in
    let read = number_takes word n.0 n.1 in
    let low : 1 ≤ n.0 = grind (arith, some.0) in
    subst (λ (t : ℕ). (word ≡ decimal t) × IsTxn t) (some_is n.0 txn some.1) (read.0, (low, read.1))

pub txn_again : (txn : ℕ) → IsTxn txn → txn_at (decimal txn) ≡ Some txn
unfolding txn_at
txn_again txn h =
    let some : eqb txn 0 ≡ false = grind (arith, h.0) in
    rw (number_again txn h.1, some) refl

pub count_takes : (word : List ℕ) (count : ℕ) → count_at word ≡ Some count → (word ≡ decimal count) × IsCount count
unfolding count_at
count_takes word count e =
    let n = bind_some (number_at word) (λ n. cond (leb 1 n && leb n STEPS_MAX) (Some n) None) count e in
    let some = passed (leb 1 n.0 && leb n.0 STEPS_MAX) (Some n.0) count n.2 in
    let both = and_parts (leb 1 n.0) (leb n.0 STEPS_MAX) some.0 in
    let read = number_takes word n.0 n.1 in
    subst (λ (c : ℕ). (word ≡ decimal c) × IsCount c) (some_is n.0 count some.1) (read.0, (leb-true _ _ both.0, leb-true _ _ both.1))

pub count_again : (count : ℕ) → IsCount count → count_at (decimal count) ≡ Some count
unfolding count_at
count_again count h =
    let low : leb 1 count ≡ true = le-leb _ _ h.0 in
    let high : leb count STEPS_MAX ≡ true = le-leb _ _ h.1 in
    rw (number_again count (omega (arith, h.1)), low, high) refl

place_takes : (parts : List (List ℕ)) (rid : Place) → place_at parts ≡ Some rid → (parts ≡ decimal rid.page ∷ decimal rid.slot ∷ []) × (rid.page < 2 ^ 32)
    × (rid.slot < SLOTS_PER_PAGE)
place_takes [] rid e = absurd cc
place_takes (first ∷ rest) rid e =
    let p = bind_some (number_at first) (λ page. only rest >>= λ second. number_at second >>= λ slot.
    cond (ltb slot SLOTS_PER_PAGE) (Some (record { page = page; slot = slot })) None) rid e in
    let o = bind_some (only rest) (λ second. number_at second >>= λ slot.
    cond (ltb slot SLOTS_PER_PAGE) (Some (record { page = p.0; slot = slot })) None) rid p.2 in
    let s = bind_some (number_at o.0) (λ slot. cond (ltb slot SLOTS_PER_PAGE) (Some (record { page = p.0; slot = slot })) None) rid o.2 in
    let place : Place = record { page = p.0; slot = s.0 } in
    let low = passed (ltb s.0 SLOTS_PER_PAGE) (Some place) rid s.2 in
    let page = number_takes first p.0 p.1 in
    let slot = number_takes o.0 s.0 s.1 in
    let whole : first ∷ rest ≡ decimal p.0 ∷ decimal s.0 ∷ [] = ap (λ (t : List (List ℕ)). first ∷ t) (only_takes rest o.0 o.1)
    ∙ ap (λ (w : List ℕ). w ∷ o.0 ∷ []) page.0 ∙ ap (λ (w : List ℕ). decimal p.0 ∷ w ∷ []) slot.0 in
    subst (λ (r : Place). (first ∷ rest ≡ decimal r.page ∷ decimal r.slot ∷ []) × (r.page < 2 ^ 32) × (r.slot < SLOTS_PER_PAGE)) (some_is place rid low.1)
    (whole, page.1, ltb-true _ _ low.0)

rid_takes : (word : List ℕ) (rid : Place) → rid_at word ≡ Some rid → (word ≡ rid_text rid) × IsRid rid
unfolding rid_at
rid_takes word rid e =
    let p = place_takes (parted_by 46 word) rid e in
    (sym (join_with_byte-slice_split 46 word) ∙ ap (join_with_byte 46) p.0, (p.1, p.2))

rid_parts : (page slot : ℕ) → page < 2 ^ 32 → slot < 2 ^ 32 → parted_by 46 (decimal page ++ 46 ∷ decimal slot) ≡ decimal page ∷ decimal slot ∷ []
rid_parts page slot p s =
    slice_split_at (λ b. eqb b 46) (decimal page) 46 (decimal slot) (no_such_byte 46 page (omega arith) p) refl
    ∙ ap (λ (t : List (List ℕ)). decimal page ∷ t) (slice_split_none (λ b. eqb b 46) (decimal slot) (no_such_byte 46 slot (omega arith) s))

rid_again : (rid : Place) → IsRid rid → rid_at (rid_text rid) ≡ Some rid
unfolding rid_at
rid_again rid h =
    let low : ltb rid.slot SLOTS_PER_PAGE ≡ true = lt-ltb _ _ h.1 in
    let slot_fits : rid.slot < 2 ^ 32 = omega (arith, h.1) in
    rw (rid_parts rid.page rid.slot h.0 slot_fits, number_again rid.page h.0, number_again rid.slot slot_fits, low) refl

fate_takes : (word : List ℕ) (fate : Fate) → fate_at word ≡ Some fate → word ≡ fate_name fate
fate_takes word fate e =
    by_name word (codes "old") (λ is h. is ∙ ap fate_name (some_is Old fate h))
    (by_name word (codes "new") (λ is h. is ∙ ap fate_name (some_is New fate h))
    (by_name word (codes "zero") (λ is h. is ∙ ap fate_name (some_is Zero fate h))
    (by_name word (codes "a5") (λ is h. is ∙ ap fate_name (some_is Gate fate h))
    (by_name word (codes "junk") (λ is h. is ∙ ap fate_name (some_is Junk fate h)) (λ h. absurd cc)))))
    e

fate_again : (fate : Fate) → fate_at (fate_name fate) ≡ Some fate
fate_again Old = refl
fate_again New = refl
fate_again Zero = refl
fate_again Gate = refl
fate_again Junk = refl

-- ---- commands

abbrev one_word : List ℕ → List (List ℕ)
one_word w = w ∷ []

pub two_take : (args : List (List ℕ)) (two : List ℕ × List ℕ) → first_two args ≡ Some two → args ≡ two.0 ∷ two.1 ∷ []
two_take [] two e = absurd cc
two_take (first ∷ rest) two e =
    let second = bind_some (only rest) (λ second. Some (first, second)) two e in
    ap (λ (t : List (List ℕ)). first ∷ t) (only_takes rest second.0 second.1)
    ∙ ap (λ (t : List ℕ × List ℕ). t.0 ∷ t.1 ∷ []) (some_is (first, second.0) two second.2)

three_take : (args : List (List ℕ)) (three : List ℕ × List ℕ × List ℕ) → first_three args ≡ Some three → args ≡ three.0 ∷ three.1 ∷ three.2 ∷ []
three_take [] three e = absurd cc
three_take (first ∷ rest) three e =
    let two = bind_some (first_two rest) (λ two. Some (first, two.0, two.1)) three e in
    let pair = two.0 in
    ap (λ (t : List (List ℕ)). first ∷ t) (two_take rest pair two.1)
    ∙ ap (λ (t : List ℕ × List ℕ × List ℕ). t.0 ∷ t.1 ∷ t.2 ∷ []) (some_is (first, pair.0, pair.1) three two.2)

pub four_take : (args : List (List ℕ)) (four : List ℕ × List ℕ × List ℕ × List ℕ) → first_four args ≡ Some four → args ≡ four.0 ∷ four.1 ∷ four.2 ∷ four.3 ∷ []
four_take [] four e = absurd cc
four_take (first ∷ rest) four e =
    let three = bind_some (first_three rest) (λ three. Some (first, three.0, three.1, three.2)) four e in
    let triple = three.0 in
    ap (λ (t : List (List ℕ)). first ∷ t) (three_take rest triple three.1)
    ∙ ap (λ (t : List ℕ × List ℕ × List ℕ × List ℕ). t.0 ∷ t.1 ∷ t.2 ∷ t.3 ∷ []) (some_is (first, triple.0, triple.1, triple.2) four three.2)

alone_takes : (verb : List ℕ) (args : List (List ℕ)) (command c : Command) → Spell (verb ∷ []) command → alone_at command args ≡ Some c → Spell (verb ∷ args) c
alone_takes verb [] command c spelled e = subst (Spell (verb ∷ [])) (some_is command c e) spelled
alone_takes verb (word ∷ more) command c spelled e = absurd cc

pub spelled_so : (verb name : List ℕ) (args rest : List (List ℕ)) → verb ≡ name → args ≡ rest → verb ∷ args ≡ name ∷ rest
spelled_so verb name args rest p q = cc

two_are : (a b c d : List ℕ) (rest : List (List ℕ)) → a ≡ b → c ≡ d → a ∷ c ∷ rest ≡ b ∷ d ∷ rest
two_are a b c d rest p q = cc

insert_takes : (verb : List ℕ) (args : List (List ℕ)) (c : Command) → verb ≡ codes "insert" → insert_at args ≡ Some c → Spell (verb ∷ args) c
unfolding insert_at
insert_takes verb args c is e =
    let three = bind_some (first_three args) (λ three. txn_at three.0 >>= λ txn. text_at three.1 >>= λ key. text_at three.2 >>= λ body.
    Some (Insert txn key body)) c e in
    let words = three.0 in
    let txn = bind_some (txn_at words.0) (λ txn. text_at words.1 >>= λ key. text_at words.2 >>= λ body. Some (Insert txn key body)) c three.2 in
    let key = bind_some (text_at words.1) (λ key. text_at words.2 >>= λ body. Some (Insert txn.0 key body)) c txn.2 in
    let body = bind_some (text_at words.2) (λ body. Some (Insert txn.0 key.0 body)) c key.2 in
    let number = txn_takes words.0 txn.0 txn.1 in
    subst (Spell (verb ∷ args)) (some_is (Insert txn.0 key.0 body.0) c body.2) (
      words.1,
      words.2,
      spelled_so verb (codes "insert") args (decimal txn.0 ∷ words.1 ∷ words.2 ∷ []) is (three_take args words three.1
          ∙ ap (λ (w : List ℕ). w ∷ words.1 ∷ words.2 ∷ []) number.0),
      number.1,
      text_takes words.1 key.0 key.1,
      text_takes words.2 body.0 body.1,
    )

delete_takes : (verb : List ℕ) (args : List (List ℕ)) (c : Command) → verb ≡ codes "delete" → delete_at args ≡ Some c → Spell (verb ∷ args) c
unfolding delete_at
delete_takes verb args c is e =
    let two = bind_some (first_two args) (λ two. txn_at two.0 >>= λ txn. rid_at two.1 >>= λ rid. Some (Delete txn rid)) c e in
    let words = two.0 in
    let txn = bind_some (txn_at words.0) (λ txn. rid_at words.1 >>= λ rid. Some (Delete txn rid)) c two.2 in
    let rid = bind_some (rid_at words.1) (λ rid. Some (Delete txn.0 rid)) c txn.2 in
    let number = txn_takes words.0 txn.0 txn.1 in
    let place = rid_takes words.1 rid.0 rid.1 in
    subst (Spell (verb ∷ args)) (some_is (Delete txn.0 rid.0) c rid.2) (
      spelled_so verb (codes "delete") args (decimal txn.0 ∷ rid_text rid.0 ∷ []) is (two_take args words two.1
          ∙ two_are words.0 (decimal txn.0) words.1 (rid_text rid.0) [] number.0 place.0),
      number.1,
      place.1,
    )

update_takes : (verb : List ℕ) (args : List (List ℕ)) (c : Command) → verb ≡ codes "update" → update_at args ≡ Some c → Spell (verb ∷ args) c
unfolding update_at
update_takes verb args c is e =
    let four = bind_some (first_four args) (λ four. txn_at four.0 >>= λ txn. rid_at four.1 >>= λ rid. text_at four.2 >>= λ key. text_at four.3 >>= λ body.
    Some (Update txn rid key body)) c e in
    let words = four.0 in
    let txn = bind_some (txn_at words.0) (λ txn. rid_at words.1 >>= λ rid. text_at words.2 >>= λ key. text_at words.3 >>= λ body.
    Some (Update txn rid key body)) c four.2 in
    let rid = bind_some (rid_at words.1) (λ rid. text_at words.2 >>= λ key. text_at words.3 >>= λ body. Some (Update txn.0 rid key body)) c txn.2 in
    let key = bind_some (text_at words.2) (λ key. text_at words.3 >>= λ body. Some (Update txn.0 rid.0 key body)) c rid.2 in
    let body = bind_some (text_at words.3) (λ body. Some (Update txn.0 rid.0 key.0 body)) c key.2 in
    let number = txn_takes words.0 txn.0 txn.1 in
    let place = rid_takes words.1 rid.0 rid.1 in
    let same = two_are words.0 (decimal txn.0) words.1 (rid_text rid.0) (words.2 ∷ words.3 ∷ []) number.0 place.0 in
    subst (Spell (verb ∷ args)) (some_is (Update txn.0 rid.0 key.0 body.0) c body.2) (
      words.2,
      words.3,
      spelled_so verb (codes "update") args (decimal txn.0 ∷ rid_text rid.0 ∷ words.2 ∷ words.3 ∷ []) is (four_take args words four.1 ∙ same),
      number.1,
      place.1,
      text_takes words.2 key.0 key.1,
      text_takes words.3 body.0 body.1,
    )

pub only_txn_takes : (args : List (List ℕ)) (txn : ℕ) → only_txn_at args ≡ Some txn → (args ≡ decimal txn ∷ []) × IsTxn txn
unfolding only_txn_at
only_txn_takes args txn e =
    let word = bind_some (only args) txn_at txn e in
    let number = txn_takes word.0 txn word.2 in
    (only_takes args word.0 word.1 ∙ ap one_word number.0, number.1)

-- a command of a transaction alone: its name, and the transaction
of_txn_takes : (verb name : List ℕ) (args : List (List ℕ)) (command : ℕ → Command) (c : Command) → verb ≡ name
    → ((words : List (List ℕ)) (txn : ℕ) → words ≡ name ∷ decimal txn ∷ [] → IsTxn txn → Spell words (command txn))
    → option_map command (only_txn_at args) ≡ Some c → Spell (verb ∷ args) c
of_txn_takes verb name args command c is spelled e =
    let txn = mapped command (only_txn_at args) c e in
    let number = only_txn_takes args txn.0 txn.1 in
    subst (Spell (verb ∷ args)) txn.2 (spelled (verb ∷ args) txn.0 (spelled_so verb name args (decimal txn.0 ∷ []) is number.0) number.1)

-- a command that asks for steps: its name, and how many
steps_take : (verb name : List ℕ) (args : List (List ℕ)) (command : ℕ → Command) (c : Command) → verb ≡ name
    → ((words : List (List ℕ)) (count : ℕ) → SpellSteps name words count → Spell words (command count)) → option_map command (steps_at args) ≡ Some c
    → Spell (verb ∷ args) c
unfolding steps_at
steps_take verb name [] command c is spelled e =
    let count = mapped command (steps_at []) c e in
    subst (Spell (verb ∷ [])) count.2 (spelled (verb ∷ []) count.0 (inl (ap one_word is, sym (some_is 1 count.0 count.1))))
steps_take verb name (first ∷ rest) command c is spelled e =
    let count = mapped command (steps_at (first ∷ rest)) c e in
    let word = bind_some (only (first ∷ rest)) count_at count.0 count.1 in
    let number = count_takes word.0 count.0 word.2 in
    subst (Spell (verb ∷ first ∷ rest)) count.2
    (spelled (verb ∷ first ∷ rest) count.0
    (inr (spelled_so verb name (first ∷ rest) (decimal count.0 ∷ []) is (only_takes (first ∷ rest) word.0 word.1 ∙ ap one_word number.0), number.1)))

steps_again : (name : List ℕ) (words : List (List ℕ)) (count : ℕ) → SpellSteps name words count → (args : List (List ℕ)) × (words ≡ name ∷ args)
    × (steps_at args ≡ Some count)
unfolding steps_at
steps_again name words count (inl h) = ([], h.0, ap (λ (n : ℕ). Some n) (sym h.1))
steps_again name words count (inr h) = (decimal count ∷ [], h.0, count_again count h.1)

crash_takes : (verb : List ℕ) (args : List (List ℕ)) (c : Command) → verb ≡ codes "crash" → crash_at args ≡ Some c → Spell (verb ∷ args) c
unfolding crash_at
crash_takes verb args c is e =
    let word = bind_some (only args) (λ word. fate_at word >>= λ fate. Some (Crash fate)) c e in
    let fate = bind_some (fate_at word.0) (λ fate. Some (Crash fate)) c word.2 in
    let name : word.0 ≡ fate_name fate.0 = fate_takes word.0 fate.0 fate.1 in
    subst (Spell (verb ∷ args)) (some_is (Crash fate.0) c fate.2)
    (spelled_so verb (codes "crash") args (fate_name fate.0 ∷ []) is (only_takes args word.0 word.1 ∙ ap one_word name))

get_takes : (verb : List ℕ) (args : List (List ℕ)) (c : Command) → verb ≡ codes "get" → get_at args ≡ Some c → Spell (verb ∷ args) c
unfolding get_at
get_takes verb args c is e =
    let word = bind_some (only args) (λ word. rid_at word >>= λ rid. Some (Get rid)) c e in
    let rid = bind_some (rid_at word.0) (λ rid. Some (Get rid)) c word.2 in
    let place = rid_takes word.0 rid.0 rid.1 in
    subst (Spell (verb ∷ args)) (some_is (Get rid.0) c rid.2)
    (spelled_so verb (codes "get") args (rid_text rid.0 ∷ []) is (only_takes args word.0 word.1 ∙ ap one_word place.0), place.1)

find_takes : (verb : List ℕ) (args : List (List ℕ)) (c : Command) → verb ≡ codes "find" → find_at args ≡ Some c → Spell (verb ∷ args) c
unfolding find_at
find_takes verb args c is e =
    let word = bind_some (only args) (λ word. text_at word >>= λ key. Some (Find key)) c e in
    let key = bind_some (text_at word.0) (λ key. Some (Find key)) c word.2 in
    subst (Spell (verb ∷ args)) (some_is (Find key.0) c key.2)
    (word.0, spelled_so verb (codes "find") args (word.0 ∷ []) is (only_takes args word.0 word.1), text_takes word.0 key.0 key.1)

store_command_takes : (verb : List ℕ) (args : List (List ℕ)) (c : Command) → store_command_at verb args ≡ Some c → Spell (verb ∷ args) c
unfolding store_command_at
store_command_takes verb args c e =
    by_name verb (codes "create") (λ is h. alone_takes verb args Create c (ap one_word is) h)
    (by_name verb (codes "drop") (λ is h. alone_takes verb args Drop c (ap one_word is) h)
    (by_name verb (codes "build") (λ is h. steps_take verb (codes "build") args Build c is (λ words count p. p) h)
    (by_name verb (codes "clean") (λ is h. steps_take verb (codes "clean") args Clean c is (λ words count p. p) h)
    (by_name verb (codes "flush") (λ is h. alone_takes verb args Flush c (ap one_word is) h)
    (by_name verb (codes "image") (λ is h. alone_takes verb args Image c (ap one_word is) h)
    (by_name verb (codes "crash") (crash_takes verb args c)
    (by_name verb (codes "get") (get_takes verb args c)
    (by_name verb (codes "find") (find_takes verb args c)
    (by_name verb (codes "dump") (λ is h. alone_takes verb args Dump c (ap one_word is) h) (λ h. absurd cc))))))))))
    e

pub command_takes : (words : List (List ℕ)) (c : Command) → command_at words ≡ Some c → Spell words c
unfolding command_at
command_takes [] c e = absurd cc
command_takes (verb ∷ args) c e =
    by_name verb (codes "begin") (λ is h. alone_takes verb args Begin c (ap one_word is) h)
    (by_name verb (codes "insert") (insert_takes verb args c)
    (by_name verb (codes "delete") (delete_takes verb args c)
    (by_name verb (codes "update") (update_takes verb args c)
    (by_name verb (codes "step") (λ is h. of_txn_takes verb (codes "step") args Step c is (λ words txn p q. (p, q)) h)
    (by_name verb (codes "undo") (λ is h. of_txn_takes verb (codes "undo") args Undo c is (λ words txn p q. (p, q)) h)
    (by_name verb (codes "end") (λ is h. of_txn_takes verb (codes "end") args End c is (λ words txn p q. (p, q)) h)
    (by_name verb (codes "commit") (λ is h. of_txn_takes verb (codes "commit") args Commit c is (λ words txn p q. (p, q)) h)
    (store_command_takes verb args c))))))))
    e

pub command_again : (words : List (List ℕ)) (c : Command) → Spell words c → command_at words ≡ Some c
unfolding command_at store_command_at insert_at delete_at update_at only_txn_at crash_at get_at find_at
command_again words Begin h = ap command_at h
command_again words (Insert txn key body) h = ap command_at h.2 ∙ rw (txn_again txn h.3, text_again h.0 key h.4, text_again h.1 body h.5) refl
command_again words (Delete txn rid) h = ap command_at h.0 ∙ rw (txn_again txn h.1, rid_again rid h.2) refl
command_again words (Update txn rid key body) h = ap command_at h.2
    ∙ rw (txn_again txn h.3, rid_again rid h.4, text_again h.0 key h.5, text_again h.1 body h.6) refl
command_again words (Step txn) h = ap command_at h.0 ∙ rw (txn_again txn h.1) refl
command_again words (Undo txn) h = ap command_at h.0 ∙ rw (txn_again txn h.1) refl
command_again words (End txn) h = ap command_at h.0 ∙ rw (txn_again txn h.1) refl
command_again words (Commit txn) h = ap command_at h.0 ∙ rw (txn_again txn h.1) refl
command_again words Create h = ap command_at h
command_again words Drop h = ap command_at h
command_again words (Build count) h = let s = steps_again (codes "build") words count h in ap command_at s.1 ∙ ap (λ (o : Option ℕ). option_map Build o) s.2
command_again words (Clean count) h = let s = steps_again (codes "clean") words count h in ap command_at s.1 ∙ ap (λ (o : Option ℕ). option_map Clean o) s.2
command_again words Flush h = ap command_at h
command_again words Image h = ap command_at h
command_again words (Crash fate) h = ap command_at h ∙ rw (fate_again fate) refl
command_again words (Get rid) h = ap command_at h.0 ∙ rw (rid_again rid h.1) refl
command_again words (Find key) h = ap command_at h.1 ∙ rw (text_again h.0 key h.2) refl
command_again words Dump h = ap command_at h

-- no words spell two commands
pub one_command : (words : List (List ℕ)) (c d : Command) → Spell words c → Spell words d → c ≡ d
one_command words c d p q = some_is c d (sym (command_again words c p) ∙ command_again words d q)

-- ---- lines

pub read_line : (line : List ℕ) (command : Command) → Some command ≡ command_at (words line) → IsLineOf line command
read_line line command e = command_takes (words line) command (sym e)

pub bad_line : (line : List ℕ) → is_left_out line ≡ false → None ≡ command_at (words line) → IsGood line → ⊥
bad_line line kept none (inl skipped) = both_ways (is_left_out line) kept skipped
bad_line line kept none (inr (command, is)) = let read = command_again (words line) command is in let bad = none ∙ read in cc
