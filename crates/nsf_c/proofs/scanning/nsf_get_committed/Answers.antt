use Rattle.std.proofs.Common.{◌∙◌, ap, inl, inr}
use Rattle.std.specs.FinMap as map
use Rattle.record_values.specs.Values.{Place}
use Rattle.core_laws.specs.Holds.{committed_rows}
use Rattle.core_parts.specs.View.{CoreValue}
use Rattle.restart.specs.Parts.{core_of}
use Rattle.program_commands.specs.Guarded.{store_of}
use Rattle.program_commands.specs.Store.{engine_of}
use Rattle.program_commands.specs.declared.store.Store.{Store}
use Rattle.nsf_c.specs.Handles.{Disk}
use Rattle.nsf_c.specs.Told.{row_told}
use Rattle.nsf_c.specs.declared.held.Held.{Held}
use Rattle.nsf_c.proofs.scanning.nsf_get_committed.Goals as goal
use Rattle.nsf_c.proofs.scanning.nsf_get_committed.Goals.{in-Ok, in-Err}

pub returns : goal.returns
returns c = (
  c.take-held.result.value,
  c.take-held.ensures.taken,
  c.put.ensures,
  elim c.match-rid_of.branch [
    | in-Ok w ↦
        let core_is = w.core.ensures ∙ ap (λ (s : Store Disk). core_of (engine_of s)) w.store.ensures
        ∙ ap (λ (h : Held). core_of (engine_of (store_of h.store))) w.deref.ensures in
        let row_is = w.get_committed.ensures ∙ ap (λ (v : CoreValue). map.get (committed_rows v) w.in-Ok.rid) core_is
        ∙ ap (λ (rid : Place). map.get (committed_rows (core_of (engine_of (store_of c.take-held.result.value.store)))) rid) w.in-Ok.ensures.ok in
        inl (w.in-Ok.ensures.inside, w.status-is, w.told-is ∙ w.row_told.ensures ∙ ap row_told row_is)
    | in-Err w ↦ inr (w.in-Err.ensures.none.1, w.status-is ∙ w.in-Err.ensures.none.0, w.told-is ∙ w.refused.ensures)
  ],
)
