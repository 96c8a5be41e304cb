-- What is left of two answers to one call.
use Rattle.std.proofs.Common.{Bool, None, Option, Some, ap, false, refl, subst, sym, true, ℕ, ◌++◌, ◌∙◌, ◌≡◌, ◌≢◌}
use Rattle.std.specs.Option.{option_map}
use Rattle.record_values.specs.declared.error.Error.{Error}
use Rattle.txn_table.specs.Table.{TxnState, rolls, state_of}
use Rattle.txn_table.specs.declared.progress.Progress.{Progress}
use Rattle.txn_table.specs.declared.progress.Progress.TheVariants.{OwesEntry, OwesRow, Ready, Rolling, UndoesEntry, UndoesRow}
use Rattle.core_model.specs.States.{Active, Made, NewMarked, OldMarked, OldSet, Phase, RowSet, State}
use Rattle.core_model.specs.Events.{Event, Refused, Reply, Standing, standing_after}
use Rattle.core_model.specs.Replies.{after_any}
use Rattle.core_model.specs.Served.{records_by}
use Rattle.core_parts.specs.View.{Answers, AreOne, CoreValue, IsProgressOf, IsSafe, Serves, Shows, ShowsTxn}
use Rattle.core_laws.specs.Alike.{AreAlike, without_rows}
use Rattle.core_laws.proofs.Deciding.{reply_one}

-- ---- what shows one state
abbrev progress_at : Phase → Bool → Progress
progress_at OldMarked rolling = OwesRow
progress_at RowSet rolling = OwesEntry
progress_at Made true = Rolling
progress_at Made false = Ready
progress_at (NewMarked applied) rolling = UndoesRow
progress_at OldSet rolling = UndoesEntry

progress_told : (p : Progress) (phase : Phase) → IsProgressOf p phase → progress_at phase (rolls p) ≡ p
progress_told Ready phase is = ap (λ x. progress_at x false) is
progress_told OwesRow phase is = ap (λ x. progress_at x false) is
progress_told OwesEntry phase is = ap (λ x. progress_at x false) is
progress_told Rolling phase is = ap (λ x. progress_at x true) is
progress_told UndoesRow phase is = ap (λ x. progress_at x true) is.1
progress_told UndoesEntry phase is = ap (λ x. progress_at x true) is

same_active : (a b : Active) → (◌≡◌ {A = Option Active} (Some a) (Some b)) → a ≡ b
same_active a b e = cc

no_active : (a : Active) → (◌≡◌ {A = Option Active} None (Some a)) → ⊥
no_active a e = absurd cc

same_count : (n m : ℕ) → (◌≡◌ {A = Option ℕ} (Some n) (Some m)) → n ≡ m
same_count n m e = cc

txn_one : (x y : TxnState) (a : Active) → ShowsTxn x a → ShowsTxn y a → x.reserved ≡ y.reserved → without_rows x ≡ without_rows y
txn_one x y a f g places =
    let changes : x.changes ≡ y.changes = sym f.changes ∙ g.changes in
    let progress : x.progress ≡ y.progress = sym (progress_told x.progress a.phase f.phase) ∙ ap (progress_at a.phase) (sym f.rolling ∙ g.rolling)
    ∙ progress_told y.progress a.phase g.phase in
    λ i. without_rows (record x { changes = changes i; progress = progress i; reserved = places i })

abbrev places_of : Option TxnState → Option ℕ
places_of o = option_map (λ (x : TxnState). x.reserved) o

txns_one : (o o' : Option TxnState) (a : Option Active) → AreOne o a → AreOne o' a → places_of o ≡ places_of o'
    → option_map without_rows o ≡ option_map without_rows o'
txns_one None None a f g places = refl
txns_one None (Some y) a f g places = absurd (no_active g.0 (sym f ∙ g.1))
txns_one (Some x) None a f g places = absurd (no_active f.0 (sym g ∙ f.1))
txns_one (Some x) (Some y) a f g places =
    let same : f.0 ≡ g.0 = same_active f.0 g.0 (sym f.1 ∙ g.1) in
    ap Some (txn_one x y g.0 (subst (ShowsTxn x) same f.2) g.2 (same_count x.reserved y.reserved places))

shown_alike : (v w : CoreValue) (s : State) (k : Standing) → Shows v s k → Shows w s k → v.outbox ≡ w.outbox → AreAlike v w
shown_alike v w s k f g outbox = record {
  heap = λ i. record { pages = (sym f.pages ∙ g.pages) i; rows = (sym f.rows ∙ g.rows) i };
  index = λ i. record { entries = (sym f.entries ∙ g.entries) i; pledged = (sym f.pledged ∙ g.pledged) i; capacity = (sym f.places ∙ g.places) i };
  life = sym f.life ∙ g.life;
  cleaned = sym f.cleaned ∙ g.cleaned;
  scanned = sym f.bound ∙ g.bound;
  last = sym f.made ∙ g.made;
  tried = sym f.attempts ∙ g.attempts;
  attempts = f.all_attempts ∙ sym g.all_attempts;
  commits = sym f.commits ∙ g.commits;
  outbox = outbox;
  begun = sym f.begun ∙ g.begun;
  active = sym f.active ∙ g.active;
  holder = λ r. sym (f.holder r) ∙ g.holder r;
  txns = λ t. txns_one (state_of t v.txns.active) (state_of t w.txns.active) (s.txns t) (f.txns t) (g.txns t) (sym (f.pledges t) ∙ g.pledges t);
}

-- ---- two answers
module _ (old new next : CoreValue) (e : Event) (reply other : Reply) (safe : IsSafe old) (f : Serves old e reply new) (g : Serves old e other next)
    (n : reply ≢ Refused Error.NoMemory) (m : other ≢ Refused Error.NoMemory) where
  abbrev s : State
  s = safe.state

  abbrev k : Standing
  k = safe.standing

  abbrev a : Answers old s k e reply new
  a = f s k safe.is

  abbrev b : Answers old s k e other next
  b = g s k safe.is

  same : (reply ≡ other) × (a.step ≡ b.step)
  same = reply_one s k safe.is.standing e reply other a.step b.step a.allowed b.allowed n m

  pub answer_reply : reply ≡ other
  answer_reply = same.0

  left : Shows next (after_any s a.step) (standing_after k reply)
  left = subst (λ r. Shows next (after_any s a.step) (standing_after k r)) (sym same.0)
      (subst (λ t. Shows next (after_any s t) (standing_after k other)) (sym same.1) b.shown)

  pub answer_alike : AreAlike new next
  answer_alike = shown_alike new next (after_any s a.step) (standing_after k reply) a.shown left (a.outbox
      ∙ ap (λ t. old.outbox ++ records_by s k.made t) same.1 ∙ sym b.outbox)
