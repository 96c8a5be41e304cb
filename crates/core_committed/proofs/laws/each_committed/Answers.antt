use Rattle.core_committed.proofs.Marks.{live_committed}
use Rattle.core_committed.proofs.Places.{places_of_key}
use Rattle.core_committed.proofs.Told.{all_live, table}
use Rattle.core_committed.specs.Committed.{committed_index, only}
use Rattle.core_committed.proofs.laws.each_committed.Goals as goal

pub returns-clause-table : goal.returns-clause-table
returns-clause-table c = table

pub returns-clause-never : goal.returns-clause-never
returns-clause-never c = λ v range p shown.
    let seen = (c.each_visible.ensures.each (committed_index v) range p).0 shown in
    (live_committed v p seen.0, seen.1)

pub returns-clause-all : goal.returns-clause-all
returns-clause-all c = λ o can pairs handed v so complete range p pair within.
    (c.each_visible.ensures.each (committed_index v) range p).1 (all_live o can pairs handed v so complete p pair, within)

pub returns-clause-places : goal.returns-clause-places
returns-clause-places c = λ v key.
    places_of_key (committed_index v) key (c.each_visible.ensures.ascending (committed_index v) (only key))
    (λ p shown. ((c.each_visible.ensures.each (committed_index v) (only key) p).0 shown).1)
