-- Every run of the core keeps the invariant, whatever the order of its steps.
use Rattle.std.proofs.Common.{List, None, Some, refl, subst}
use Rattle.model.specs.declared.life.Life.TheVariants.{Building}
use Rattle.core_model.proofs.Builds.{attempt_keeps, checkpoint_keeps, clean_keeps, create_keeps, drop_keeps, finish_keeps, place_keeps, take_keeps}
use Rattle.core_model.proofs.Fits.{fit_step}
use Rattle.core_model.proofs.Txns.{begin_keeps, commit_keeps, end_keeps, next_keeps, start_keeps, undo_keeps}
use Rattle.core_model.specs.Invariants.{Invariant, IsCoherent, IsHeld, Runs, TxnHolds, no_step, one_step}
use Rattle.core_model.specs.States.{Pledges, State}
use Rattle.core_model.specs.Steps.{Attempt, Begin, Checkpoint, Clean, Commit, Create, Drop, End, Finish, IsEnabled, Keep, Next, Start, MachineStep, Take, Undo}
use Rattle.core_model.specs.Steps.{Wrap, after, moved_by, pledges_after, txn_at}

-- the reserved places have no part in the rest
pub other_pledges : (s : State) (k : Pledges) → IsCoherent s → IsCoherent (record s { pledges = k })
other_pledges s k i = record {
  free = i.free;
  held = λ r t e. let h : IsHeld s r t = i.held r t e in record { txn = h.txn; active = h.active; row = h.row; inside = h.inside };
  inside = i.inside;
  txns = λ t x e. let h : TxnHolds s t x = i.txns t x e in record { names = h.names; chained = h.chained; phase = h.phase };
  sound = i.sound;
  visible = λ r row e idle. i.visible r row e (λ h. idle (record { transaction = h.transaction; txn = h.txn; active = h.active; busy = h.busy }));
  empty = i.empty;
  backed = i.backed;
  behind = i.behind;
}

moved_coherent : (s : State) (e : MachineStep) → IsCoherent s → IsEnabled s e → IsCoherent (moved_by s e)
moved_coherent s (Begin t) i a = begin_keeps s i t a
moved_coherent s (Start t c) i a = start_keeps s i t (txn_at s t) c a.active a.ready a.before a.mine a.inside _ refl
moved_coherent s (Next t) i a = next_keeps s i t (txn_at s t) a.0 a.1
moved_coherent s (Undo t) i a = undo_keeps s i t (txn_at s t) a
moved_coherent s (End t) i a = end_keeps s i t (txn_at s t) a.0 a.1
moved_coherent s (Commit t) i a = commit_keeps s i t (txn_at s t) a.0 a.1
moved_coherent s Create i a = create_keeps s i a.0 a.1
moved_coherent s (Take n) i a = take_keeps s i n
moved_coherent s (Attempt p) i a = attempt_keeps s i p a
moved_coherent s (Checkpoint p) i a = subst (λ o. IsCoherent (record s { life = Building o })) a.1 (checkpoint_keeps s i a.0)
moved_coherent s Finish i a = finish_keeps s i a
moved_coherent s (Clean p) i a = clean_keeps s i p a
moved_coherent s (Keep p) i a = place_keeps s i (Some p)
moved_coherent s Wrap i a = place_keeps s i None
moved_coherent s Drop i a = drop_keeps s i a.1

coherent_step : (s : State) (e : MachineStep) → IsCoherent s → IsEnabled s e → IsCoherent (after s e)
coherent_step s e i a = other_pledges (moved_by s e) (pledges_after s e (moved_by s e).entries) (moved_coherent s e i a)

pub step_keeps : (s : State) (e : MachineStep) → Invariant s → IsEnabled s e → Invariant (after s e)
step_keeps s e i a = record { fit = fit_step s e i.fit a; coherent = coherent_step s e i.coherent a }

pub run_keeps : (s s' : State) (es : List MachineStep) → Runs s es s' → Invariant s → Invariant s'
run_keeps s s' es no_step i = i
run_keeps s s' es (one_step e rest enabled r) i = run_keeps (after s e) s' rest r (step_keeps s e i enabled)
