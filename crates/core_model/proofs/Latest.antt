-- What changes make of a row, and what taking them back gives.
use Rattle.std.proofs.Common.{Bool, None, Option, Some, ap, cond, false, refl, sym, true, ℕ, ◌∙◌, ◌≡◌, ◌≢◌}
use Rattle.std.specs.FinMap.{entries, get, nat_cmp-IsAntisymmetric, slice_cmp-IsAntisymmetric}
use Rattle.records.specs.ChangeValue.{ChangeValue}
use Rattle.record_values.specs.Orders.{rid_cmp-IsAntisymmetric, rid_cmp_total}
use Rattle.records.specs.Spelling.{new_row, old_row}
use Rattle.record_values.specs.Values.{Place}
use Rattle.record_values.specs.declared.pair.Mark.TheVariants.{Marked}
use Rattle.record_values.specs.declared.pair.Pair.{Pair}
use Rattle.record_values.specs.declared.row.Row.{Row}
use Rattle.model.specs.Table.{Table}
use Rattle.record_values.specs.Entries.{Index}
use Rattle.core_model.proofs.Orders.{apart, by_test, level}
use Rattle.core_model.specs.Changes.{Changes, Unchanged, gone, latest, pair_of, same_key, ◌▹◌}
use Rattle.core_model.specs.Invariants.{IsChained, IsHolderOf, IsInPhase, IsPhaseOf}
use Rattle.core_model.specs.States.{Made, NewMarked, OldMarked, OldSet, Phase, RowSet}

pub not_none : {A : Type 0} {a : A} {o : Option A} → o ≡ Some a → o ≡ None → ⊥
not_none p q = absurd (cc)

pub same_key_is : (a b : Row) → same_key a b ≡ true → a.key ≡ b.key
same_key_is a b e = by_test (slice_cmp-IsAntisymmetric nat_cmp-IsAntisymmetric) a.key b.key e

pub record Gone (indexed : Bool) (rid : Place) (row : Option Row) (p : Pair) : Type 0 where
  pub there : indexed ≡ true
  pub of : Row
  pub is : row ≡ Some of
  pub pair : p ≡ pair_of rid of

gone_by : (rid : Place) (row other : Row) (b : Bool) (p : Pair) → cond b None (Some (pair_of rid row)) ≡ Some p → Gone true rid (Some row) p
gone_by rid row other true p e = absurd (not_none e refl)
gone_by rid row other false p e = record { there = refl; of = row; is = refl; pair = cc }

-- the pair that goes is that of the row
pub gone_is : (indexed : Bool) (rid : Place) (row other : Option Row) (p : Pair) → gone indexed rid row other ≡ Some p → Gone indexed rid row p
gone_is false rid row other p e = absurd (not_none e refl)
gone_is true rid None other p e = absurd (not_none e refl)
gone_is true rid (Some row) None p e = record { there = refl; of = row; is = refl; pair = cc }
gone_is true rid (Some row) (Some other) p e = gone_by rid row other (same_key row other) p e

pub record Stays (row : Row) (other : Option Row) : Type 0 where
  pub it : Row
  pub is : other ≡ Some it
  pub key : it.key ≡ row.key

stays_by : (rid : Place) (row other : Row) (b : Bool) → same_key row other ≡ b → cond b None (Some (pair_of rid row)) ≡ None → Stays row (Some other)
stays_by rid row other true t e = record { it = other; is = refl; key = sym (same_key_is row other t) }
stays_by rid row other false t e = absurd (not_none refl e)

-- where no pair goes, the other row has the key
pub stays : (rid : Place) (row : Row) (other : Option Row) → gone true rid (Some row) other ≡ None → Stays row other
stays rid row None e = absurd (not_none refl e)
stays rid row (Some other) e = stays_by rid row other _ refl e

-- changes that name other rows leave this one
pub latest_unnamed : (holder : Place → Option ℕ) (t : ℕ) (cs : Changes) (r : Place) (v : Option Row) → IsHolderOf holder t cs → holder r ≢ Some t
    → latest cs r v ≡ v
latest_unnamed holder t Unchanged r v h n = refl
latest_unnamed holder t (older ▹ c) r v h n =
    rw (apart rid_cmp-IsAntisymmetric r c.rid (λ e. n (ap holder e ∙ h.0))) (latest_unnamed holder t older r v h.1 n)

pub latest_other : (c : ChangeValue) (older : Changes) (q : Place) (v : Option Row) → q ≢ c.rid → latest (older ▹ c) q v ≡ latest older q v
latest_other c older q v n = rw (apart rid_cmp-IsAntisymmetric q c.rid n)

pub latest_here : (c : ChangeValue) (older : Changes) (v : Option Row) → latest (older ▹ c) c.rid v ≡ (new_row c.rows)
latest_here c older v = rw (level rid_cmp_total c.rid)

pub chained_same : (holder : Place → Option ℕ) (t : ℕ) (committed other : Table) → ((r : Place) → holder r ≡ Some t → get other r ≡ get committed r)
    → (cs : Changes) → IsHolderOf holder t cs → IsChained committed cs → IsChained other cs
chained_same holder t committed other same Unchanged h k = tt
chained_same holder t committed other same (older ▹ c) h k =
    (k.0 ∙ ap (latest older c.rid) (sym (same c.rid h.0)), chained_same holder t committed other same older h.1 k.1)

pub holds_more : (holder other : Place → Option ℕ) (t : ℕ) → ((r : Place) → holder r ≡ Some t → other r ≡ Some t) → (cs : Changes) → IsHolderOf holder t cs
    → IsHolderOf other t cs
holds_more holder other t same Unchanged h = tt
holds_more holder other t same (older ▹ c) h = (same c.rid h.0, holds_more holder other t same older h.1)

-- what a phase says of an entry stays, where no entry of its row changes
phase_by : (indexed : Bool) (c : ChangeValue) (entries other : Index) → ((p : Pair) → p.rid ≡ c.rid → get other p ≡ get entries p)
    → (older : Changes) (phase : Phase) (rolling : Bool) → IsPhaseOf indexed entries (older ▹ c) phase rolling
    → IsPhaseOf indexed other (older ▹ c) phase rolling
phase_by indexed c entries other same older OldMarked rolling h =
    record {
      it = h.it;
      is = h.is;
      holds = λ e. same h.it (ap (λ p. p.rid) (gone_is indexed c.rid (old_row c.rows) (new_row c.rows) h.it h.is).pair)
          ∙ h.holds e;
    }
phase_by indexed c entries other same older RowSet rolling h = record { it = h.it; is = h.is; holds = tt }
phase_by indexed c entries other same older Made rolling h = tt
phase_by indexed c entries other same older (NewMarked b) rolling h =
    record { it = h.it; is = h.is; holds = same h.it (ap (λ p. p.rid) (gone_is indexed c.rid (new_row c.rows) (old_row c.rows) h.it h.is).pair) ∙ h.holds }
phase_by indexed c entries other same older OldSet rolling h = record { it = h.it; is = h.is; holds = tt }

pub phase_same : (indexed : Bool) (holder : Place → Option ℕ) (t : ℕ) (entries other : Index)
    → ((p : Pair) → holder p.rid ≡ Some t → get other p ≡ get entries p)
    → (cs : Changes) (phase : Phase) (rolling : Bool) → IsHolderOf holder t cs → IsPhaseOf indexed entries cs phase rolling
    → IsPhaseOf indexed other cs phase rolling
phase_same indexed holder t entries other same Unchanged phase rolling n h = h
phase_same indexed holder t entries other same (older ▹ c) phase rolling n h =
    phase_by indexed c entries other (λ p e. same p (ap holder e ∙ n.0)) older phase rolling h

-- or where what is marked stays marked
kept_by : (indexed : Bool) (c : ChangeValue) (entries other : Index) → ((p : Pair) → get entries p ≡ Some Marked → get other p ≡ Some Marked)
    → (phase : Phase) (rolling : Bool) → IsInPhase indexed entries c phase rolling → IsInPhase indexed other c phase rolling
kept_by indexed c entries other same OldMarked rolling h = record { it = h.it; is = h.is; holds = λ e. same h.it (h.holds e) }
kept_by indexed c entries other same RowSet rolling h = record { it = h.it; is = h.is; holds = tt }
kept_by indexed c entries other same Made rolling h = tt
kept_by indexed c entries other same (NewMarked b) rolling h = record { it = h.it; is = h.is; holds = same h.it h.holds }
kept_by indexed c entries other same OldSet rolling h = record { it = h.it; is = h.is; holds = tt }

pub phase_kept : (indexed : Bool) (entries other : Index) → ((p : Pair) → get entries p ≡ Some Marked → get other p ≡ Some Marked)
    → (cs : Changes) (phase : Phase) (rolling : Bool) → IsPhaseOf indexed entries cs phase rolling → IsPhaseOf indexed other cs phase rolling
phase_kept indexed entries other same Unchanged phase rolling h = h
phase_kept indexed entries other same (older ▹ c) phase rolling h = kept_by indexed c entries other same phase rolling h
