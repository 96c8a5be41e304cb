use Rattle.std.proofs.Common.{◌≡◌, ◌*◌, ◌+◌, ◌≤◌, ◌<◌, ◌/◌, List, [], ℕ, get_or, length, arith, sym, ap, ◌∙◌}
use Rattle.std.specs.Int.{w64, from_be_bytes}
use Rattle.std.specs.Ordering.{nat_cmp, ordering_then}
use Rattle.record_values.proofs.Words.{nth_chunk, rest_cmp, word, word_cmp, same_word, other_word}
use Rattle.record_values.proofs.short_bytes.order.Goals as goal

pub returns-then-word-other_word : goal.returns-then-word-other_word
returns-then-word-other_word c =
    let some = c.args.some.now in
    let other = c.args.other.now in
    let i = c.loop-i.i in
    let x = c.from_be_bytes-word.result in
    let y = c.from_be_bytes-other_word.result in
    let rest = rest_cmp (i + 1) some other in
    let few : i < length some / 8 = omega (arith, c.loop-i-test.true, c.as_chunks.ensures.front_len) in
    let room : 8 * i + 8 ≤ length some = omega (arith, few) in
    let first_word : x ≡ word i some = c.from_be_bytes-word.ensures
    ∙ ap (from_be_bytes w64) (ap (λ (ps : List (List ℕ)). get_or ps i []) c.as_chunks.ensures.front ∙ nth_chunk 8 (length some / 8) i some [] few) in
    let second_word : y ≡ word i other = c.from_be_bytes-other_word.ensures
    ∙ ap (from_be_bytes w64) (ap (λ (ps : List (List ℕ)). get_or ps i []) c.as_chunks-2.ensures.front
    ∙ nth_chunk 8 (length other / 8) i other [] (omega (arith, few, c.requires))) in
    c.cmp.ensures
    ∙ sym (other_word x y rest c.if-word-other_word.true)
    ∙ ap (λ (k : ℕ). ordering_then (nat_cmp k y) rest) first_word
    ∙ ap (λ (k : ℕ). ordering_then (nat_cmp (word i some) k) rest) second_word
    ∙ sym (word_cmp some other i c.requires room (λ k. omega (arith, c.type_inv.some k)) (λ k. omega (arith, c.type_inv.other k)))
    ∙ sym c.loop-i.invariant

pub loop-i-preserved : goal.loop-i-preserved
loop-i-preserved c =
    let some = c.args.some.now in
    let other = c.args.other.now in
    let i = c.loop-i.i in
    let x = c.from_be_bytes-word.result in
    let y = c.from_be_bytes-other_word.result in
    let rest = rest_cmp (i + 1) some other in
    let few : i < length some / 8 = omega (arith, c.loop-i-test.true, c.as_chunks.ensures.front_len) in
    let room : 8 * i + 8 ≤ length some = omega (arith, few) in
    let first_word : x ≡ word i some = c.from_be_bytes-word.ensures
    ∙ ap (from_be_bytes w64) (ap (λ (ps : List (List ℕ)). get_or ps i []) c.as_chunks.ensures.front ∙ nth_chunk 8 (length some / 8) i some [] few) in
    let second_word : y ≡ word i other = c.from_be_bytes-other_word.ensures
    ∙ ap (from_be_bytes w64) (ap (λ (ps : List (List ℕ)). get_or ps i []) c.as_chunks-2.ensures.front
    ∙ nth_chunk 8 (length other / 8) i other [] (omega (arith, few, c.requires))) in
    c.loop-i.invariant
    ∙ word_cmp some other i c.requires room (λ k. omega (arith, c.type_inv.some k)) (λ k. omega (arith, c.type_inv.other k))
    ∙ sym (ap (λ (k : ℕ). ordering_then (nat_cmp k (word i other)) rest) first_word)
    ∙ sym (ap (λ (k : ℕ). ordering_then (nat_cmp x k) rest) second_word)
    ∙ same_word x y rest c.if-word-other_word.false
