use Rattle.std.proofs.Common.{◌∙◌, ap}
use Rattle.std.specs.FinMap as map
use Rattle.model.specs.declared.life.Life.{Life}
use Rattle.core_parts.specs.Counts.{marked_in}
use Rattle.core_parts.specs.View.{CoreValue}
use Rattle.restart.specs.Parts.{core_of}
use Rattle.program_commands.specs.Guarded.{store_of}
use Rattle.program_commands.specs.Store as serving
use Rattle.program_commands.specs.declared.store.Store.{Store}
use Rattle.nsf_c.specs.Handles.{Disk}
use Rattle.nsf_c.specs.Told.{life_told}
use Rattle.nsf_c.specs.declared.held.Held.{Held}
use Rattle.nsf_c.specs.declared.told.Told.{Told}
use Rattle.nsf_c.proofs.serving_calls.nsf_stat.Goals as goal

pub returns : goal.returns
returns c =
    let core_is = c.core-core.ensures ∙ ap (λ (s : Store Disk). core_of (serving.engine_of s)) c.store.ensures
    ∙ ap (λ (h : Held). core_of (serving.engine_of (store_of h.store))) c.deref.ensures in
    let last = c.last.ensures ∙ ap (λ (v : CoreValue). v.last) core_is in
    let horizon = c.horizon.ensures ∙ ap (λ (s : Store Disk). serving.horizon_of s) c.store-2.ensures
    ∙ ap (λ (h : Held). serving.horizon_of (store_of h.store)) c.deref-2.ensures in
    let attempts = c.attempts.ensures ∙ ap (λ (v : CoreValue). v.attempts) core_is in
    let rows = c.counts-counts.ensures.rows ∙ ap (λ (v : CoreValue). map.len v.heap.rows) core_is in
    let entries = c.counts-counts.ensures.entries ∙ ap (λ (v : CoreValue). map.len v.index.entries) core_is in
    let marked = c.counts-counts.ensures.marked ∙ ap (λ (v : CoreValue). marked_in v.index.entries) core_is in
    let pages = c.pages.ensures.number ∙ ap (λ (v : CoreValue). v.heap.pages) core_is in
    let life = ap (λ (t : Told). t.kind) c.life_told.ensures
    ∙ ap (λ (l : Life). (life_told l).kind) (c.life.ensures.life ∙ ap (λ (v : CoreValue). v.life) core_is) in (
      c.take-held.result.value,
      c.take-held.ensures.taken,
      c.put.ensures,
      λ i.
          record {
            last = last i;
            horizon = horizon i;
            attempts = attempts i;
            rows = rows i;
            entries = entries i;
            marked = marked i;
            pages = pages i;
            life = life i;
          },
    )
