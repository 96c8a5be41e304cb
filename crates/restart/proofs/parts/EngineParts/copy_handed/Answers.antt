use Rattle.std.proofs.Common.{◌≡◌, Some, None, ◌∙◌, sym, ap}
use Rattle.store_image_model.specs.declared.chunk.CopyPlace.{CopyPlace}
use Rattle.store_writer.specs.Copying.{next_place}
use Rattle.store_writer.specs.declared.copying.Copying.TheVariants.{GivenUp, Idle, Steps}
use Rattle.restart.proofs.parts.EngineParts.copy_handed.Goals as goal

idle_not_steps : {P : Type 0} → Idle ≡ Steps None → P
idle_not_steps is = absurd (cc)

place_not_none : {P : Type 0} (place : CopyPlace) → Steps (Some place) ≡ Steps None → P
place_not_none place is = absurd (cc)

given_up_not_steps : {P : Type 0} → GivenUp ≡ Steps None → P
given_up_not_steps is = absurd (cc)

pub copy_piece-requires-clause-next : goal.copy_piece-requires-clause-next
copy_piece-requires-clause-next g c = ap next_place (sym c.copying.ensures ∙ c.in-Idle.is)

pub copy_piece-requires-in-Some-clause-next : goal.copy_piece-requires-in-Some-clause-next
copy_piece-requires-in-Some-clause-next g c = ap next_place (sym c.copying.ensures ∙ c.in-Steps.is ∙ ap Steps c.in-Some.is)

pub returns-in-Idle : goal.returns-in-Idle
returns-in-Idle g c = record {
  moves = c.copy_piece.ensures.moves;
  answer = c.copy_piece.ensures.answer;
  groups = λ steps. idle_not_steps (sym c.in-Idle.is ∙ c.copying.ensures ∙ steps);
  around = c.copy_piece.ensures.around;
}

pub returns-in-Some : goal.returns-in-Some
returns-in-Some g c = record {
  moves = c.copy_piece-in-Some.ensures.moves;
  answer = c.copy_piece-in-Some.ensures.answer;
  groups = λ steps. place_not_none _ (sym (c.in-Steps.is ∙ ap Steps c.in-Some.is) ∙ c.copying.ensures ∙ steps);
  around = c.copy_piece-in-Some.ensures.around;
}

pub returns-in-None : goal.returns-in-None
returns-in-None g c = record {
  moves = c.flip.ensures.moves;
  answer = c.flip.ensures.answer;
  groups = λ _. c.flip.ensures.groups;
  around = c.flip.ensures.around;
}

pub returns-in-GivenUp : goal.returns-in-GivenUp
returns-in-GivenUp g c = record {
  moves = c.copy_all.ensures.moves;
  answer = c.copy_all.ensures.answer;
  groups = λ steps. given_up_not_steps (sym c.in-GivenUp.is ∙ c.copying.ensures ∙ steps);
  around = c.copy_all.ensures.around;
}
