-- What clauses see of a builder without entries, and which worlds it follows.
use Rattle.std.proofs.Common.{refl}
use Rattle.std.specs.Coded.{Coded, code_by, coded_list, coded_ℕ, coded×}
use Rattle.std.specs.Prelude.{List, None, Option, Some, [], length, min, nat_lt, if◌then◌else◌, ℕ, ◌+◌, ◌∷◌}
use Rattle.record_values.specs.Codes.{coded_pair}
use Rattle.record_values.specs.declared.limits.TheConstants.{ATTEMPTS_PER_CHECKPOINT}
use Rattle.record_values.specs.declared.pair.Pair.{Pair}
use Rattle.online_index.specs.Standing.{StandsFor}
use Rattle.online_index.specs.Value.{coded_life, coded_scan}
use Rattle.online_model.specs.World.{Attempt, CanAttempt, Checkpoint, Finish, Step, World, after, highest_of}
use Rattle.online_model.specs.declared.life.Life.{Life}
use Rattle.online_model.specs.declared.life.Life.TheVariants.{Building, Complete}
use Rattle.online_plan.specs.declared.builder.Due.{Due}
use Rattle.online_plan.specs.declared.builder.Due.TheVariants as due
use Rattle.sorted_scan.specs.Scans.{ScanValue, begun, next_of}

-- how far the index is built, what was read and not handed out yet, the pairs that the host is to attempt, in order,
-- and how many it attempted since the last checkpoint
pub record BuilderValue : Type 0 where
  pub life : Life
  pub scan : ScanValue
  pub batch : List Pair
  pub attempts : ℕ

-- a builder that was opened: it begins above the checkpoint
abbrev pub opened : Life → ℕ → BuilderValue
opened life pages = record { life = life; scan = begun (highest_of life) pages; batch = []; attempts = 0 }

-- a checkpoint is due, or not
abbrev pub checkpoint_due : BuilderValue → Option Pair
checkpoint_due v = if nat_lt v.attempts ATTEMPTS_PER_CHECKPOINT then None else v.scan.last

-- what is due once every page was read: to gather the next pairs, or the end
abbrev pub pairs_due : Option Pair → Due
pairs_due None = due.Life Complete
pairs_due (Some p) = due.Gather

abbrev pub page_due : Option ℕ → Option Pair → Due
page_due None next = pairs_due next
page_due (Some page) next = due.Page page

abbrev pub life_due : BuilderValue → Option Pair → Due
life_due v None = page_due v.scan.wanted (next_of v.scan)
life_due v (Some p) = due.Life (Building (Some p))

abbrev pub batch_due : BuilderValue → List Pair → Due
batch_due v [] = life_due v (checkpoint_due v)
batch_due v (p ∷ ps) = due.Batch

-- What is due: nothing once the index is complete; else the batch, if it has a pair; then a checkpoint, if enough pairs
-- were attempted since the last one; then a page; then the next pairs; then the end.
abbrev pub due_of : BuilderValue → Life → Due
due_of v Complete = due.Nothing
due_of v (Building highest) = batch_due v v.batch

-- the step that records this life
abbrev pub step_of : Life → Step
step_of (Building highest) = Checkpoint
step_of Complete = Finish

-- the world after these pairs were attempted, in order
abbrev pub attempted_all : World → List Pair → World
attempted_all w [] = w
attempted_all w (p ∷ ps) = attempted_all (after w (Attempt p)) ps

-- each of these pairs may be attempted once those before it were
abbrev pub CanAttemptAll : World → List Pair → Type 0
CanAttemptAll w [] = Unit {0}
CanAttemptAll w (p ∷ ps) = CanAttempt w p × CanAttemptAll (after w (Attempt p)) ps

-- The builder follows this world, whatever entries it has: the pairs of its batch may be attempted there, and after
-- that what was read and handed out is as the builder has it.
pub record Follows (v : BuilderValue) (w : World) : Type 0 where
  pub may : CanAttemptAll w v.batch
  pub index : StandsFor (record {
    entries = (attempted_all w v.batch).entries;
    capacity = 0;
    life = v.life;
    scan = v.scan;
    attempts = v.attempts;
  }) (attempted_all w v.batch)

-- how many pairs were attempted since the last checkpoint, with those of the batch
abbrev pub attempts_after : BuilderValue → ℕ
attempts_after v = min (v.attempts + length v.batch) ATTEMPTS_PER_CHECKPOINT

-- ---- how the logic stores it
abbrev pub coded_builder : Coded BuilderValue
coded_builder = code_by (Life × (ScanValue × (List Pair × ℕ)))
    (coded× coded_life (coded× coded_scan (coded× (coded_list coded_pair) coded_ℕ)))
    (λ v. (v.life, (v.scan, (v.batch, v.attempts))))
    (λ p. record { life = p.0; scan = p.1.0; batch = p.1.1.0; attempts = p.1.1.1 })
    (λ _. refl)
