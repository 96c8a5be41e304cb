use Rattle.std.proofs.Common.{◌∙◌, ◌+◌, ◌*◌, ◌<◌, length, slice_index, slice_set, refl, arith, length-set}
use Rattle.block_batch.specs.declared.head.TheConstants.{TEXT}
use Rattle.block_batch.proofs.Heads.{other, place_more, digest_more, zero_behind}
use Rattle.block_batch.proofs.head.head_of.Goals as goal

pub loop-i-init : goal.loop-i-init
loop-i-init c = record {
  size = refl;
  text = refl;
  number = refl;
  count = refl;
  places = λ k below. absurd (omega (arith, below));
  digests = λ k below. absurd (omega (arith, below));
  rest = λ k from. zero_behind TEXT c.args.number (length c.args.places.now) k (omega (arith, from));
}

pub loop-i-preserved : goal.loop-i-preserved
loop-i-preserved c =
    let so_far = c.loop-i.invariant in
    let words = c.loop-i.words in
    let places = c.args.places.now in
    let digests = c.args.digests.now in
    let i = c.loop-i.i in
    let room : 3 + 2 * i + 1 < length words = omega (arith, so_far.size, c.loop-i-test.true, c.requires.few) in
    record {
      size = length-set (slice_set words (3 + 2 * i) (slice_index places i)) (3 + 2 * i + 1) (slice_index digests i)
          ∙ length-set words (3 + 2 * i) (slice_index places i) ∙ so_far.size;
      text = other words places digests i room 0 (omega arith) (omega arith) ∙ so_far.text;
      number = other words places digests i room 1 (omega arith) (omega arith) ∙ so_far.number;
      count = other words places digests i room 2 (omega arith) (omega arith) ∙ so_far.count;
      places = place_more words places digests i room so_far.places;
      digests = digest_more words places digests i room so_far.digests;
      rest = λ k from. other words places digests i room k (omega (arith, from)) (omega (arith, from)) ∙ so_far.rest k (omega (arith, from));
    }
