use Rattle.std.proofs.Common.{◌∙◌, ap, subst, IsTrue, ◌↔◌}
use Rattle.core_model.specs.Histories.{CanOpen}
use Rattle.core_parts.specs.View.{CoreValue}
use Rattle.core_parts.specs.Opening.{opened_of}
use Rattle.restart.specs.Parts.{core_of}
use Rattle.program_commands.specs.Guarded.{store_of}
use Rattle.program_commands.specs.Store.{engine_of}
use Rattle.program_commands.specs.declared.store.Store.{Store}
use Rattle.nsf_c.specs.Handles.{Disk}
use Rattle.nsf_c.specs.declared.held.Held.{Held}
use Rattle.nsf_c.proofs.serving_calls.nsf_can_open.Goals as goal

pub returns : goal.returns
returns c =
    let core_is = c.core.ensures ∙ ap (λ (s : Store Disk). core_of (engine_of s)) c.store.ensures
    ∙ ap (λ (h : Held). core_of (engine_of (store_of h.store))) c.deref.ensures in (
      c.take-held.result.value,
      c.take-held.ensures.taken,
      c.put.ensures,
      subst (λ (v : CoreValue). IsTrue c.can_open-is_sound.result ↔ CanOpen (opened_of v)) core_is c.can_open-is_sound.ensures,
    )
