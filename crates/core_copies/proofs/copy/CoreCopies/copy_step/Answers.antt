use Rattle.std.proofs.Common.{rules}
use Rattle.store_image_model.specs.declared.chunk.CopyPlace.TheVariants as at
use Rattle.nsf_core.specs.Value.{value_of}
use Rattle.core_copies.proofs.Fitting.{are_entries, at_place, is_start, known}
use Rattle.core_copies.proofs.copy.CoreCopies.copy_step.Goals as goal

pub returns-in_ok-lists-in-Start-clause-piece : goal.returns-in_ok-lists-in-Start-clause-piece
returns-in_ok-lists-in-Start-clause-piece g c = λ cells of.
    let v = value_of c.args.self.now in
    at_place v cells _ c.args.place at.Start c.in-Start.is
    (is_start v (known v c.stands.ensures.safe c.stands.ensures.rows_inside) c.stands.ensures.sound c.life-life.result
    c.in_ok-lists-in-Start.lists
    c.life-life.ensures.life c.in_ok-lists-in-Start.ensures.each c.in_ok-lists-in-Start.ensures.few cells of)

pub returns-in_ok-entries-in-Entries-clause-piece : goal.returns-in_ok-entries-in-Entries-clause-piece
returns-in_ok-entries-in-Entries-clause-piece g c = λ cells of.
    let v = value_of c.args.self.now in
    at_place v cells _ c.args.place (at.Entries c.in-Entries.above) c.in-Entries.is
    (are_entries v c.in-Entries.above c.in_ok-entries-in-Entries.entries.items c.in_ok-entries-in-Entries.ensures.entries cells of)

pub returns-in_ok-lists-in-Start-clause-number : goal.returns-in_ok-lists-in-Start-clause-number
returns-in_ok-lists-in-Start-clause-number g c = search rules

pub returns-in_ok-rows-in-Page-clause-number : goal.returns-in_ok-rows-in-Page-clause-number
returns-in_ok-rows-in-Page-clause-number g c = search rules

pub returns-in_ok-entries-in-Entries-clause-number : goal.returns-in_ok-entries-in-Entries-clause-number
returns-in_ok-entries-in-Entries-clause-number g c = search rules
