-- Codes of records, whose lists are a set.
use Rattle.std.proofs.Common.{◌≡◌, ◌⊎◌, ℕ, Bool, true, false, Option, None, Some, inl, inr, refl}
use Rattle.std.specs.Coded.{Coded, code_by, coded_bool, coded_option, coded_ℕ, coded×, coded⊎}
use Rattle.records.specs.ChangeValue.{ChangeValue}
use Rattle.records.specs.Codes.{coded_change}
use Rattle.record_values.specs.Codes.{coded_pair}
use Rattle.records.specs.RecordValue.{RecordValue}
use Rattle.record_values.specs.declared.pair.Pair.{Pair}
use Rattle.records.specs.declared.record.Action.{Action}
use Rattle.records.specs.declared.record.Action.TheVariants.{OfIndex, OfTxn}
use Rattle.records.specs.declared.record.IndexAction.{IndexAction}
use Rattle.records.specs.declared.record.IndexAction.TheVariants.{BuildCheckpoint, BuildDone, BuildPlace, Clean, Create, Drop}
use Rattle.records.specs.declared.record.Part.{Part}
use Rattle.records.specs.declared.record.Part.TheVariants.{NewEntry, OldEntry, Slot}
use Rattle.records.specs.declared.record.TxnAction.{TxnAction}
use Rattle.records.specs.declared.record.TxnAction.TheVariants.{Commit, End, Forward, Undo}

abbrev part_in : Part → Option Bool
part_in Slot = None
part_in OldEntry = Some false
part_in NewEntry = Some true

abbrev part_out : Option Bool → Part
part_out None = Slot
part_out (Some false) = OldEntry
part_out (Some true) = NewEntry

abbrev part_back : (p : Part) → part_out (part_in p) ≡ p
part_back Slot = refl
part_back OldEntry = refl
part_back NewEntry = refl

abbrev coded_part : Coded Part
coded_part = code_by (Option Bool) (coded_option coded_bool) part_in part_out part_back

-- a step of a change or of its undo, with whether that is the last of it; or a commit or an end
abbrev txn_in : TxnAction → (Part × (ChangeValue × Option Bool)) ⊎ Bool
txn_in (Forward part change) = inl (part, (change, None))
txn_in (Undo part change last) = inl (part, (change, Some last))
txn_in Commit = inr true
txn_in End = inr false

abbrev step_of : Part → ChangeValue → Option Bool → TxnAction
step_of part change None = Forward part change
step_of part change (Some last) = Undo part change last

abbrev txn_out : (Part × (ChangeValue × Option Bool)) ⊎ Bool → TxnAction
txn_out (inl step) = step_of step.0 step.1.0 step.1.1
txn_out (inr true) = Commit
txn_out (inr false) = End

abbrev txn_back : (a : TxnAction) → txn_out (txn_in a) ≡ a
txn_back (Forward part change) = refl
txn_back (Undo part change last) = refl
txn_back Commit = refl
txn_back End = refl

abbrev coded_txn : Coded TxnAction
coded_txn = code_by ((Part × (ChangeValue × Option Bool))
    ⊎ Bool) (coded⊎ (coded× coded_part (coded× coded_change (coded_option coded_bool))) coded_bool) txn_in txn_out txn_back

-- what is done with a pair, or without one
abbrev index_in : IndexAction → (Pair × Option Bool) ⊎ Option Bool
index_in Create = inr (Some true)
index_in (BuildPlace pair) = inl (pair, None)
index_in (BuildCheckpoint pair) = inl (pair, Some true)
index_in BuildDone = inr (Some false)
index_in (Clean pair) = inl (pair, Some false)
index_in Drop = inr None

abbrev of_pair : Pair → Option Bool → IndexAction
of_pair pair None = BuildPlace pair
of_pair pair (Some true) = BuildCheckpoint pair
of_pair pair (Some false) = Clean pair

abbrev index_out : (Pair × Option Bool) ⊎ Option Bool → IndexAction
index_out (inl both) = of_pair both.0 both.1
index_out (inr (Some true)) = Create
index_out (inr (Some false)) = BuildDone
index_out (inr None) = Drop

abbrev index_back : (a : IndexAction) → index_out (index_in a) ≡ a
index_back Create = refl
index_back (BuildPlace pair) = refl
index_back (BuildCheckpoint pair) = refl
index_back BuildDone = refl
index_back (Clean pair) = refl
index_back Drop = refl

abbrev coded_index : Coded IndexAction
coded_index = code_by ((Pair × Option Bool) ⊎ Option Bool)
    (coded⊎ (coded× coded_pair (coded_option coded_bool)) (coded_option coded_bool)) index_in index_out index_back

abbrev action_in : Action → (ℕ × TxnAction) ⊎ IndexAction
action_in (OfTxn txn action) = inl (txn, action)
action_in (OfIndex action) = inr action

abbrev action_out : (ℕ × TxnAction) ⊎ IndexAction → Action
action_out (inl both) = OfTxn both.0 both.1
action_out (inr action) = OfIndex action

abbrev action_back : (a : Action) → action_out (action_in a) ≡ a
action_back (OfTxn txn action) = refl
action_back (OfIndex action) = refl

abbrev coded_action : Coded Action
coded_action = code_by ((ℕ × TxnAction) ⊎ IndexAction) (coded⊎ (coded× coded_ℕ coded_txn) coded_index) action_in action_out action_back

abbrev pub coded_record : Coded RecordValue
coded_record = code_by (ℕ × Action) (coded× coded_ℕ coded_action) (λ r. (r.number, r.action)) (λ p. record { number = p.0; action = p.1 }) (λ _. refl)
