use Rattle.std.proofs.Common.{◌≡◌, ◌==◌, nat_le, nat_lt, ⊎_elim, ◌+◌, ◌*◌, ◌∙◌, ap, sym, arith, length, take}
use Rattle.block_device.specs.Blocks.{block}
use Rattle.block_digest.specs.Digest.{digest}
use Rattle.block_device.specs.Words.{word}
use Rattle.block_batch.specs.declared.head.TheConstants.{TEXT, PLACES_MAX}
use Rattle.block_batch.specs.Batch.{count_in, do_fit, head_digest}
use Rattle.block_batch.proofs.Sealing.{five, not_first, not_second, not_third, not_fourth, not_fifth}
use Rattle.block_batch.proofs.reading.read.Goals as goal
use Rattle.block_batch.proofs.reading.read.Goals.{then-words-digest-via-then-words-digest, then-words-digest-via-else-words-digest+then-not-blocks_fit}

pub blocks_fit-requires : goal.blocks_fit-requires
blocks_fit-requires c = record {
  head = c.words_of-words.ensures;
  few = c.if-count-gt-PLACES_MAX.false;
  room = c.if-count-area.false;
}

pub returns-then-words-ne-TEXT-clause-none : goal.returns-then-words-ne-TEXT-clause-none
returns-then-words-ne-TEXT-clause-none c =
    let area = c.args.area.now in
    let told = c.words_of-words.ensures in
    ⊎_elim
    (λ other. not_first (word (block area 0) 0) TEXT _ (λ same. other (told 0 (omega arith) ∙ same)))
    (λ more. ⊎_elim
    (λ many. not_second _ (count_in area) PLACES_MAX _ (omega (arith, many, told 2 (omega arith))))
    (λ large. not_third _ _ (count_in area) (length area) _ (omega (arith, large, told 2 (omega arith))))
    more)
    c.then-words-ne-TEXT.either

pub returns-then-words-digest-clause-none : goal.returns-then-words-digest-clause-none
returns-then-words-digest-clause-none c =
    let area = c.args.area.now in
    let told = c.words_of-words.ensures in
    let count = told 2 (omega arith) in
    let digested : c.digest.result ≡ head_digest area = c.digest.ensures ∙ ap (λ n. digest (take (8 * (3 + 2 * n)) (block area 0))) count in
    elim c.then-words-digest.branch [
      | then-words-digest-via-then-words-digest w ↦ not_fourth (word (block area 0) 0 == TEXT) (nat_le (count_in area) PLACES_MAX)
          (nat_lt (count_in area) (length area)) (word (block area 0) 511) (head_digest area) (do_fit area (count_in area))
          (λ same. w.if-words-digest.true (told 511 (omega arith) ∙ same ∙ sym digested))
      | then-words-digest-via-else-words-digest+then-not-blocks_fit w ↦ not_fifth (word (block area 0) 0 == TEXT)
          (nat_le (count_in area) PLACES_MAX) (nat_lt (count_in area) (length area)) (word (block area 0) 511 == head_digest area) (do_fit area (count_in area))
          (ap (do_fit area) (sym count) ∙ sym w.blocks_fit.ensures ∙ w.if-not-blocks_fit.true)
    ]

pub returns : goal.returns
returns c =
    let area = c.args.area.now in
    let told = c.words_of-words.ensures in
    let count = told 2 (omega arith) in
    let digested : c.digest.result ≡ head_digest area = c.digest.ensures ∙ ap (λ n. digest (take (8 * (3 + 2 * n)) (block area 0))) count in
    record {
      found = five (word (block area 0) 0) TEXT (count_in area) PLACES_MAX (count_in area) (length area) (word (block area 0) 511) (head_digest area)
          (do_fit area (count_in area)) (sym (told 0 (omega arith)) ∙ c.if-words-ne-TEXT.false) (omega (arith, count, c.if-count-gt-PLACES_MAX.false))
          (omega (arith, count, c.if-count-area.false)) (sym (told 511 (omega arith)) ∙ c.if-words-digest.false ∙ digested)
          (ap (do_fit area) (sym count) ∙ sym c.blocks_fit.ensures ∙ c.if-not-blocks_fit.false);
      number = told 1 (omega arith);
      count = count;
      places = λ i below. told (3 + 2 * i) (omega (arith, below));
      none = tt;
    }
