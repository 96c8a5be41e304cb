use Rattle.std.proofs.Common.{ap, inr, refl, ◌∙◌}
use Rattle.nsf_index_c.specs.Seen.{Seen}
use Rattle.nsf_index_c.specs.Reading.{highest_told, life_of}
use Rattle.online_model.specs.declared.life.Life.{Life}
use Rattle.nsf_index_c.proofs.reading.nsf_index_life.Goals as goal

pub returns : goal.returns
returns c = inr (
  c.in-Some.held.value,
  c.in-Some.held.value,
  c.in-Some.ensures.taken,
  c.put.ensures,
  let life_is = c.life-now.ensures ∙ ap (λ (v : Seen). v.index.life) (c.behind-held.view_is ∙ c.deref.ensures) in (
    refl,
    refl,
    c.life_of.ensures ∙ ap life_of life_is,
    c.tell_highest.ensures ∙ ap (λ (l : Life). highest_told l c.args.highest.now) life_is,
  ),
)
