use Rattle.std.proofs.Common.{inl, inr}
use Rattle.std.proofs.lemmas.Bool.{false≢true, ltb-true, ltb-false}
use Rattle.block_journal.proofs.Entries.{place_there}
use Rattle.block_journal.proofs.writing.is_due.Goals as goal

pub returns-in-Some : goal.returns-in-Some
returns-in-Some g c =
    let b = c.args.next.now in
    let at = c.in-Some.ensures.found in
    record {
      due = λ is. absurd (false≢true is);
      passed = λ is. inr (place_there b.area.items b.places b.count _ c.args.place at.low at.here);
    }

pub returns-in-None : goal.returns-in-None
returns-in-None g c = record {
  due = λ is. ltb-true c.args.place c.args.shape.kept is;
  passed = λ is. inl (ltb-false c.args.place c.args.shape.kept is);
}
