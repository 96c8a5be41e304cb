-- What a step of a change leaves in the state of the core.
use Rattle.std.proofs.Common.{◌≡◌, ◌≢◌, ◌⊎◌, ℕ, Bool, true, false, Option, Some, None, inl, inr, refl, ap, ◌∙◌, subst}
use Rattle.std.specs.FinMap.{get}
use Rattle.records.specs.ChangeValue.{ChangeValue}
use Rattle.record_values.specs.Maps.{get-set_at_other, get-set_at_same, rid_exact}
use Rattle.record_values.specs.Orders.{rid_cmp-IsAntisymmetric, rid_cmp_total}
use Rattle.records.specs.Spelling.{new_row}
use Rattle.record_values.specs.Values.{Place}
use Rattle.record_values.specs.declared.pair.Pair.{Pair}
use Rattle.record_values.specs.declared.row.Row.{Row}
use Rattle.model.specs.declared.write.Write.{Write}
use Rattle.core_model.proofs.Laws.{level, same_some, txn_here, update_apart, update_here}
use Rattle.core_model.specs.Changes.{Changes, Unchanged, latest, new_pair, old_pair, ◌▹◌}
use Rattle.core_model.specs.Histories.{write_of}
use Rattle.core_model.specs.Invariants.{applied_of, Invariant, IsHolderOf, made_of}
use Rattle.core_model.specs.States.{Active, Made, NewMarked, OldMarked, OldSet, Phase, RowSet, State}
use Rattle.core_model.specs.Steps.{after, carried_on, is_applied, is_indexed, Next, row_made, Start, started, txn_at, with_change, with_phase}
use Rattle.threads_register.specs.Agreement.{is_owed, newest_write}

-- the rows at all other places stay, and so do all holders of them; the place is the transaction's, and has the row that it had or the change's; and where no
-- step is owed, the latter
pub record IsStep (s new : State) (t : ℕ) (w : Write) : Type 0 where
  pub rows : (q : Place) → q ≢ w.rid → get new.rows q ≡ get s.rows q
  pub holder : (q : Place) → q ≢ w.rid → new.holder q ≡ s.holder q
  pub mine : new.holder w.rid ≡ Some t
  pub txn : Active
  pub active : new.txns t ≡ Some txn
  pub row : is_owed txn.phase txn.rolling ≡ false → get new.rows w.rid ≡ w.row
  pub kept : (get new.rows w.rid ≡ get s.rows w.rid) ⊎ (get new.rows w.rid ≡ w.row)

-- ---- the first step

module _ (s : State) (t : ℕ) (c : ChangeValue) (going : (txn_at s t).rolling ≡ false) where
  first_with : (o : Option Pair) → IsStep s (started s t (txn_at s t) c o) t (write_of c)
  first_with None = record {
    rows = λ q apart. get-set_at_other rid_exact s.rows c.rid _ q apart;
    holder = λ q apart. update_apart rid_cmp-IsAntisymmetric s.holder c.rid (Some t) q apart;
    mine = update_here rid_cmp_total s.holder c.rid (Some t);
    txn = with_change (txn_at s t) c (row_made (new_pair (is_indexed s.life) c));
    active = txn_here s t _;
    row = λ none. get-set_at_same rid_exact s.rows c.rid _;
    kept = inr (get-set_at_same rid_exact s.rows c.rid _);
  }
  first_with (Some p) = record {
    rows = λ q apart. refl;
    holder = λ q apart. update_apart rid_cmp-IsAntisymmetric s.holder c.rid (Some t) q apart;
    mine = update_here rid_cmp_total s.holder c.rid (Some t);
    txn = with_change (txn_at s t) c OldMarked;
    active = txn_here s t _;
    row = λ none. absurd (owes (txn_at s t).rolling going none);
    kept = inl refl;
  }
    where
      owes : (b : Bool) → b ≡ false → is_owed OldMarked b ≡ false → ⊥
      owes true e none = absurd cc
      owes false e none = absurd cc

  pub first : IsStep s (after s (Start t c)) t (write_of c)
  first =
      let f = first_with (old_pair (is_indexed s.life) c) in
      record { rows = f.rows; holder = f.holder; mine = f.mine; txn = f.txn; active = f.active; row = f.row; kept = f.kept }

-- ---- the steps that follow

module _ (s : State) (holds : Invariant s) (t : ℕ) (active : s.txns t ≡ Some (txn_at s t)) where
  abbrev x : Active
  x = txn_at s t

  latest_here : (c : ChangeValue) (older : Changes) (v : Option Row) → latest (older ▹ c) c.rid v ≡ new_row c.rows
  latest_here c older v = rw (level rid_cmp_total c.rid)

  -- a row that is set is there
  row_there : (older : Changes) (c : ChangeValue) → x.changes ≡ older ▹ c → x.phase ≡ RowSet → s.holder c.rid ≡ Some t → get s.rows c.rid ≡ new_row c.rows
  row_there older c newest phase mine =
      let h = holds.coherent.held c.rid t mine in
      let same : h.txn ≡ x = same_some h.active active in
      h.row
      ∙ (ap (λ (y : Active). latest (made_of y) c.rid (get s.committed c.rid)) same
      ∙ ((λ i. latest (applied_of (newest i) (is_applied (phase i))) c.rid (get s.committed c.rid)) ∙ latest_here c older (get s.committed c.rid)))

  next_with : (cs : Changes) (phase : Phase) → x.changes ≡ cs → x.phase ≡ phase → IsHolderOf s.holder t cs → (phase ≡ OldMarked) ⊎ (phase ≡ RowSet)
      → (w : Write) → newest_write cs ≡ Some w
      → IsStep s (carried_on s t x cs phase) t w
  next_with Unchanged phase changes at names owes w newest = absurd cc
  next_with (older ▹ c) OldMarked changes at names owes w newest = subst (IsStep s (carried_on s t x (older ▹ c) OldMarked) t) (same_some refl newest) (record {
    rows = λ q apart. get-set_at_other rid_exact s.rows c.rid _ q apart;
    holder = λ q apart. refl;
    mine = names.0;
    txn = with_phase x (row_made (new_pair (is_indexed s.life) c));
    active = txn_here s t _;
    row = λ none. get-set_at_same rid_exact s.rows c.rid _;
    kept = inr (get-set_at_same rid_exact s.rows c.rid _);
  })
  next_with (older ▹ c) RowSet changes at names owes w newest = subst (IsStep s (carried_on s t x (older ▹ c) RowSet) t) (same_some refl newest) (record {
    rows = λ q apart. refl;
    holder = λ q apart. refl;
    mine = names.0;
    txn = with_phase x Made;
    active = txn_here s t _;
    row = λ none. row_there older c changes at names.0;
    kept = inl refl;
  })
  next_with (older ▹ c) Made changes at names (inl e) w newest = absurd cc
  next_with (older ▹ c) Made changes at names (inr e) w newest = absurd cc
  next_with (older ▹ c) (NewMarked applied) changes at names (inl e) w newest = absurd cc
  next_with (older ▹ c) (NewMarked applied) changes at names (inr e) w newest = absurd cc
  next_with (older ▹ c) OldSet changes at names (inl e) w newest = absurd cc
  next_with (older ▹ c) OldSet changes at names (inr e) w newest = absurd cc

  pub following : (x.phase ≡ OldMarked) ⊎ (x.phase ≡ RowSet) → (w : Write) → newest_write x.changes ≡ Some w → IsStep s (after s (Next t)) t w
  following owes w newest =
      let f = next_with x.changes x.phase refl refl (holds.fit.txns t x active).names owes w newest in
      record { rows = f.rows; holder = f.holder; mine = f.mine; txn = f.txn; active = f.active; row = f.row; kept = f.kept }
