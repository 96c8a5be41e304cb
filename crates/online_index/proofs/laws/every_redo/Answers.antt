use Rattle.std.proofs.Common.{ap, sym, ◌∙◌}
use Rattle.std.specs.FinMap.{empty}
use Rattle.online_index.proofs.Checkpoints.{is_copied, redone_append, saved_run}
use Rattle.online_index.proofs.Redoing.{created_cells, held_cells}
use Rattle.online_index.proofs.laws.every_redo.Goals as goal
use Rattle.online_model.specs.Logs.{Cells, notes_over, redone}

pub returns-clause-created : goal.returns-clause-created
returns-clause-created c = λ b w steps v begun run h.
    ap (λ (x : Cells). redone x (notes_over b steps)) (sym (created_cells b begun))
    ∙ c.any_stop.ensures.redone b w steps run ∙ held_cells v w h

pub returns-clause-copied : goal.returns-clause-copied
returns-clause-copied c = λ b w steps v run h copied is. c.any_stop.ensures.copied b w steps run copied is ∙ held_cells v w h

pub returns-clause-saved : goal.returns-clause-saved
returns-clause-saved c = λ b w steps v life pieces l s h.
    redone_append pieces (notes_over b steps) (record { entries = empty; life = life })
    ∙ c.any_stop.ensures.copied b w steps (saved_run w _ b steps pieces s) _ (is_copied b w steps pieces life s l)
    ∙ held_cells v w h
