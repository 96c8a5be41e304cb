use Rattle.std.proofs.Common.{inr, refl, subst}
use Rattle.nsf_index_c.specs.Seen.{Seen}
use Rattle.nsf_index_c.specs.Reading.{TellsPage}
use Rattle.nsf_index_c.proofs.reading.nsf_index_page.Goals as goal

pub returns : goal.returns
returns c = inr (
  c.in-Some.held.value,
  c.in-Some.held.value,
  c.in-Some.ensures.taken,
  c.put.ensures,
  (
    refl,
    subst (λ (v : Seen).
        TellsPage c.page-status.result c.page-status.new.count c.args.cursor.now c.page-status.new.cursor c.args.entries.now
        c.page-status.new.entries v.index)
        c.deref.ensures c.page-status.ensures,
  ),
)
