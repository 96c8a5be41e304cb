use Rattle.std.proofs.Common.{◌<◌, length, ◌∙◌, arith, length-set}
use Rattle.block_batch.specs.Head.{place_of}
use Rattle.block_journal.proofs.Entries.{places_taken}
use Rattle.block_journal.proofs.gathered.take_places.Goals as goal

pub loop-i-preserved : goal.loop-i-preserved
loop-i-preserved c =
    let so_far = c.loop-i.invariant in
    let places = c.loop-i.places in
    let i = c.loop-i.i in
    let place = c.place.result in
    let room : i < length places = omega (arith, so_far.size, c.loop-i-test.true, c.count-count.ensures, c.requires) in
    record {
      size = length-set places i place ∙ so_far.size;
      places = places_taken places i place room (place_of c.args.head.now) so_far.places c.place.ensures;
    }
