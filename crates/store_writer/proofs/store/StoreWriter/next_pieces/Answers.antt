use Rattle.store_writer.proofs.Pieces.{next_page, next_entries}
use Rattle.store_writer.proofs.store.StoreWriter.next_pieces.Goals as goal

pub returns-clause-page : goal.returns-clause-page
returns-clause-page g c = λ run handed page rows is sound small at now.
    next_page g.D.Device.past_of run handed c.args.self.now is sound small page rows at now

pub returns-clause-entries : goal.returns-clause-entries
returns-clause-entries g c = λ run handed above entries is sound small at now.
    next_entries g.D.Device.past_of run handed c.args.self.now is sound small above entries at now
