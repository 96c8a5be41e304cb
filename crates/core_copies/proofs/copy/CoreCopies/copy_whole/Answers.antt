use Rattle.model.specs.Cells.{Cells}
use Rattle.nsf_core.specs.Value.{value_of}
use Rattle.core_copies.proofs.Fitting.{is_whole, known}
use Rattle.core_copies.proofs.copy.CoreCopies.copy_whole.Goals as goal

pub returns-clause-whole : goal.returns-clause-whole
returns-clause-whole g c =
    let v = value_of c.args.self.now in
    let copied : Cells = record {
      rows = c.in_ok-all_rows.field-0;
      entries = c.in_ok-all_entries.field-0;
      pending = c.in_ok-all_lists.field-0;
      life = c.life.result;
    } in
    is_whole v (known v c.stands.ensures.safe c.stands.ensures.rows_inside) c.stands.ensures.sound copied
    c.in_ok-all_rows.ensures.rows c.in_ok-all_entries.ensures.entries c.in_ok-all_lists.ensures.each c.in_ok-all_lists.ensures.few c.life.ensures.life
