-- What was told, redone, gives the entries and the life.
use Rattle.std.proofs.Common.{List, None, Option, Some, [], ◌∷◌, ap, refl, sym, ◌++◌, ◌∙◌, ◌≡◌}
use Rattle.std.specs.FinMap.{get}
use Rattle.record_values.specs.Entries.{Index}
use Rattle.record_values.specs.Maps.{pair_exact, set_at, set_at-get}
use Rattle.record_values.specs.declared.pair.Mark.{Mark}
use Rattle.record_values.specs.declared.pair.Pair.{Pair}
use Rattle.online_model.specs.Logs.{Cells, cells_of, notes_of_attempt, notes_of, notes_over, redone, set_by}
use Rattle.online_model.specs.declared.note.Note.{Note}
use Rattle.online_model.specs.World as step
use Rattle.online_model.specs.World.{Runs, Step, World, after, built, no_step, one_step}

attempt_redone : (w : World) (p : Pair) (o : Option Mark) → get w.entries p ≡ o
    → redone (cells_of w) (notes_of_attempt p o) ≡ cells_of (after w (step.Attempt p))
attempt_redone w p None e = ap (λ (v : Option Mark). record { entries = set_at w.entries p (built v); life = w.life }) (sym e)
attempt_redone w p (Some mark) e =
    ap (λ (m : Index). record { entries = m; life = w.life })
    (sym (ap (set_at w.entries p) (ap (built) e ∙ sym e) ∙ set_at-get pair_exact w.entries p))

pub step_redone : (w : World) (e : Step) → redone (cells_of w) (notes_of w e) ≡ cells_of (after w e)
step_redone w (step.Mark p) = refl
step_redone w (step.Change r key) = refl
step_redone w (step.Put p) = refl
step_redone w (step.TakePage n pairs) = refl
step_redone w (step.Attempt p) = attempt_redone w p (get w.entries p) refl
step_redone w step.Checkpoint = refl
step_redone w step.Finish = refl
step_redone w (step.Clean p) = refl
step_redone w step.Reopen = refl

pub redone_append : (ns ms : List Note) (c : Cells) → redone c (ns ++ ms) ≡ redone (redone c ns) ms
redone_append [] ms c = refl
redone_append (n ∷ ns) ms c = redone_append ns ms (set_by c n)

pub run_redone : (w w' : World) (es : List Step) → Runs w es w' → redone (cells_of w) (notes_over w es) ≡ cells_of w'
run_redone w w' es no_step = refl
run_redone w w' es (one_step e rest enabled r) =
    redone_append (notes_of w e) (notes_over (after w e) rest) (cells_of w)
    ∙ ap (λ c. redone c (notes_over (after w e) rest)) (step_redone w e)
    ∙ run_redone (after w e) w' rest r
