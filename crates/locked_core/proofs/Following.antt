-- What is told of records that follow, and not how, is told whole.
use Rattle.std.proofs.Common.{◌≡◌, ◌≢◌, ◌⊎◌, ℕ, ◌+◌, ◌-◌, ◌<◌, List, [], ◌∷◌, ◌++◌, length, take, Option, None, Some, inl, inr, refl, sym, ap, ◌∙◌, ⊎_elim}
use Rattle.std.proofs.Common.{arith, length-append}
use Rattle.std.proofs.Math.Logic.{∥∥₁_elim, ∥∥₁_map}
use Rattle.std.proofs.Math.Seq.{take-append_seam}
use Rattle.std.proofs.lemmas.Bool.{cases_lt}
use Rattle.std.specs.Coded.{Coded-set, coded_ℕ, coded_list}
use Rattle.std.specs.FinMap.{get, entries}
use mathlib.Core.HLevel.{⊥_prop}
use Rattle.records.specs.ChangeValue.{ChangeValue}
use Rattle.records.specs.RecordValue.{RecordValue}
use Rattle.records.specs.Codes.{coded_change}
use Rattle.record_values.specs.declared.txn.TheConstants.{TXNS_MAX}
use Rattle.records.specs.declared.record.Part.{Part}
use Rattle.records.specs.declared.record.Part.TheVariants.{Slot, OldEntry, NewEntry}
use Rattle.records.specs.declared.record.TxnAction.{TxnAction}
use Rattle.records.specs.declared.record.TxnAction.TheVariants.{Forward, Undo, Commit, End}
use Rattle.records.specs.declared.record.IndexAction.{IndexAction}
use Rattle.records.specs.declared.record.IndexAction.TheVariants.{Create, BuildPlace, BuildCheckpoint, BuildDone, Clean, Drop}
use Rattle.records.specs.declared.record.Action.{Action}
use Rattle.records.specs.declared.record.Action.TheVariants.{OfTxn, OfIndex}
use Rattle.model.specs.declared.life.Life.{Life}
use Rattle.model.specs.declared.life.Life.TheVariants.{Absent, Building, Complete}
use Rattle.model.specs.Cells.{Cells, Pending, list_of, set_by}
use Rattle.model.specs.Following.{AllowsPart, AreFollowing, CanFollowBy, CanFollowIndex, CanFollowTxn, IsAdmitted, IsBuilding, IsLastOf, IsNextOn}

nat_whole : (m n : ℕ) → ∥ m ≡ n ∥₁ → m ≡ n
nat_whole m n t = ∥∥₁_elim t (Coded-set coded_ℕ m n) (λ e. e)

not_whole : {P : Type 0} → ∥ (P → ⊥) ∥₁ → P → ⊥
not_whole t p = ∥∥₁_elim t ⊥_prop (λ n. n p)

below_whole : (m n : ℕ) → ∥ m < n ∥₁ → m < n
below_whole m n t = ⊎_elim (λ l. l) (λ g. absurd (∥∥₁_elim t ⊥_prop (λ l. omega (arith, l, g)))) (cases_lt m n)

same_nat : (m n : ℕ) → (m ≡ n) ⊎ (m ≢ n)
same_nat m n = ⊎_elim (λ l. inr (λ e. omega (arith, l, e))) (λ g. ⊎_elim (λ l. inr (λ e. omega (arith, l, e))) (λ h. inl (omega (arith, g, h))) (cases_lt n m))
    (cases_lt m n)

-- ---- one transaction's record

module _ (changes : List ChangeValue) (c : ChangeValue) where
  earlier_is : (l : IsLastOf changes c) → take (length changes - 1) changes ≡ l.0
  earlier_is l =
      let n : length changes - 1 ≡ length l.0 = omega (arith, ap length l.1, length-append l.0 (c ∷ [])) in
      ap (λ k. take k changes) n ∙ ap (take (length l.0)) l.1 ∙ take-append_seam l.0 (c ∷ [])

  last_whole : ∥ IsLastOf changes c ∥₁ → IsLastOf changes c
  last_whole t = (
    take (length changes - 1) changes,
    ∥∥₁_elim t (Coded-set (coded_list coded_change) _ _) (λ l. l.1 ∙ ap (λ (xs : List ChangeValue). xs ++ c ∷ []) (sym (earlier_is l))),
    ∥∥₁_elim t (Coded-set coded_ℕ _ _) (λ l. l.2 ∙ ap length (sym (earlier_is l))),
  )

  next_whole : ∥ IsNextOn changes c ∥₁ → IsNextOn changes c
  next_whole t = ⊎_elim (λ e. inl e) (λ n. inr (last_whole (∥∥₁_map t (λ x. ⊎_elim (λ e. absurd (n e)) (λ l. l) x)))) (same_nat c.position (length changes))

admitted_whole : (pending : Pending) (txn : ℕ) → ∥ IsAdmitted pending txn ∥₁ → IsAdmitted pending txn
admitted_whole pending txn t = by (get pending txn) refl
  where
    by : (o : Option (List ChangeValue)) → get pending txn ≡ o → IsAdmitted pending txn
    by None none = inr (below_whole (length (entries pending)) TXNS_MAX (∥∥₁_map t (λ x. ⊎_elim (λ some. absurd (some none)) (λ l. l) x)))
    by (Some list) some = inl (λ none. (absurd cc))

part_whole : (life : Life) (part : Part) → ∥ AllowsPart life part ∥₁ → AllowsPart life part
part_whole life Slot t = tt
part_whole life OldEntry t = not_whole t
part_whole life NewEntry t = not_whole t

txn_whole : (pages : ℕ) (cells : Cells) (txn : ℕ) (action : TxnAction) → ∥ CanFollowTxn pages cells txn action ∥₁ → CanFollowTxn pages cells txn action
txn_whole pages cells txn (Forward part c) t = (
  below_whole c.rid.page pages (∥∥₁_map t (λ x. x.0)),
  part_whole cells.life part (∥∥₁_map t (λ x. x.1)),
  next_whole (list_of cells.pending txn) c (∥∥₁_map t (λ x. x.2)),
  admitted_whole cells.pending txn (∥∥₁_map t (λ x. x.3)),
)
txn_whole pages cells txn (Undo part c last) t = (
  below_whole c.rid.page pages (∥∥₁_map t (λ x. x.0)),
  part_whole cells.life part (∥∥₁_map t (λ x. x.1)),
  last_whole (list_of cells.pending txn) c (∥∥₁_map t (λ x. x.2)),
)
txn_whole pages cells txn Commit t = tt
txn_whole pages cells txn End t = tt

-- ---- a record of the index

absent_whole : (life : Life) → ∥ life ≡ Absent ∥₁ → life ≡ Absent
absent_whole Absent t = refl
absent_whole (Building highest) t = absurd (∥∥₁_elim t ⊥_prop (λ e. (absurd cc)))
absent_whole Complete t = absurd (∥∥₁_elim t ⊥_prop (λ e. (absurd cc)))

building_whole : (life : Life) → ∥ IsBuilding life ∥₁ → IsBuilding life
building_whole Absent t = absurd (∥∥₁_elim t ⊥_prop (λ b. let e = b.1 in (absurd cc)))
building_whole (Building highest) t = (highest, refl)
building_whole Complete t = absurd (∥∥₁_elim t ⊥_prop (λ b. let e = b.1 in (absurd cc)))

index_whole : (pages : ℕ) (life : Life) (action : IndexAction) → ∥ CanFollowIndex pages life action ∥₁ → CanFollowIndex pages life action
index_whole pages life Create t = absent_whole life t
index_whole pages life (BuildPlace pair) t = (below_whole pair.rid.page pages (∥∥₁_map t (λ x. x.0)), building_whole life (∥∥₁_map t (λ x. x.1)))
index_whole pages life (BuildCheckpoint pair) t = (below_whole pair.rid.page pages (∥∥₁_map t (λ x. x.0)), building_whole life (∥∥₁_map t (λ x. x.1)))
index_whole pages life BuildDone t = building_whole life t
index_whole pages life (Clean pair) t = (below_whole pair.rid.page pages (∥∥₁_map t (λ x. x.0)), not_whole (∥∥₁_map t (λ x. x.1)))
index_whole pages life Drop t = not_whole t

-- ---- all of them

by_whole : (pages : ℕ) (cells : Cells) (action : Action) → ∥ CanFollowBy pages cells action ∥₁ → CanFollowBy pages cells action
by_whole pages cells (OfTxn txn action) t = txn_whole pages cells txn action t
by_whole pages cells (OfIndex action) t = index_whole pages cells.life action t

pub following_whole : (pages last : ℕ) (cells : Cells) (records : List RecordValue) → ∥ AreFollowing pages last cells records ∥₁
    → AreFollowing pages last cells records
following_whole pages last cells [] t = tt
following_whole pages last cells (r ∷ records) t = (
  record { number = nat_whole _ _ (∥∥₁_map t (λ x. x.0.number)); allowed = by_whole pages cells r.action (∥∥₁_map t (λ x. x.0.allowed)) },
  following_whole pages (last + 1) (set_by cells r.action) records (∥∥₁_map t (λ x. x.1)),
)
