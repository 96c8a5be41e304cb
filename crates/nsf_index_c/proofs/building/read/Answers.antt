use Rattle.std.proofs.lemmas.List.{drop_more, take_more}
use Rattle.nsf_index_c.proofs.Filling.{no_pairs_at, pairs_next}
use Rattle.nsf_index_c.proofs.building.read.Goals as goal

pub returns-in_default-clause-none : goal.returns-in_default-clause-none
returns-in_default-clause-none c = λ page ps are is. absurd (no_pairs_at c.args.pairs.now c.loop-given.given-index _
    (drop_more c.args.pairs.now c.loop-given.given-index _ c.loop-given-test.true) c.in_default.ensures.none ps are)

pub loop-given-preserved : goal.loop-given-preserved
loop-given-preserved c = pairs_next c.args.pairs.now c.loop-given.read.items c.push.new.self.items c.loop-given.given-index _ c.in-Some.pair
    (take_more c.args.pairs.now c.loop-given.given-index _ c.loop-given-test.true) c.loop-given.invariant c.in-Some.ensures.some
    c.in_ok-push.ensures.items
