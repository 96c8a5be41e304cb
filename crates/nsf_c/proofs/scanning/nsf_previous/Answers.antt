use Rattle.std.proofs.Common.{◌∙◌, ap, inl, inr, subst, sym, ℕ}
use Rattle.core_parts.specs.View.{CoreValue}
use Rattle.core_scan.specs.Backward.{IsPageBackOf}
use Rattle.restart.specs.Parts.{core_of}
use Rattle.program_commands.specs.Guarded.{store_of}
use Rattle.program_commands.specs.Store.{engine_of}
use Rattle.program_commands.specs.declared.store.Store.{Store}
use Rattle.nsf_c.specs.Handles.{Disk}
use Rattle.nsf_c.specs.Scans.{IsNoScanBack, TellsPage}
use Rattle.nsf_c.specs.declared.held.Held.{Held}
use Rattle.nsf_c.specs.declared.told.Told.{Told}
use Rattle.nsf_c.proofs.scanning.nsf_previous.Goals as goal
use Rattle.nsf_c.proofs.scanning.nsf_previous.Goals.{in-Ok, in-Err}

pub returns : goal.returns
returns c = (
  c.take-held.result.value,
  c.take-held.ensures.taken,
  c.put.ensures,
  elim c.match-sought_back.branch [
    | in-Ok w ↦
        let core_is = w.core.ensures ∙ ap (λ (s : Store Disk). core_of (engine_of s)) w.store.ensures
        ∙ ap (λ (h : Held). core_of (engine_of (store_of h.store))) w.deref.ensures in
        let sought = w.in-Ok.sought in
        inl (record {
          range = sought.range;
          before = sought.before;
          answer = w.last_of.result;
          begins = w.in-Ok.ensures.begins;
          ends = w.in-Ok.ensures.ends;
          goes_on = w.in-Ok.ensures.ahead;
          uncommitted = w.in-Ok.ensures.uncommitted;
          page = subst (λ (v : CoreValue). IsPageBackOf v.index.entries v.life sought.range sought.before 1 w.last_of.result) core_is
              w.last_of.ensures;
          tells = subst (λ (s : ℕ). TellsPage w.last_of.result s c.match-sought_back.told) (sym w.status-is) (subst (λ (t : Told).
              TellsPage w.last_of.result w.tell-status.result t) (sym w.told-is) w.tell-status.ensures);
        })
    | in-Err w ↦
        let Bad : ℕ → Type 0 = λ n. IsNoScanBack c.args.bounds.now c.args.from.now c.args.to.now c.args.ahead.now n in
        inr (subst Bad (sym w.status-is) w.in-Err.ensures.bad, w.told-is ∙ w.refused.ensures)
  ],
)
