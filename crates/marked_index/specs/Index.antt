-- What clauses see of the index.
use Rattle.std.specs.Prelude.{◌≡◌, ℕ, ◌+◌, ◌-◌, ◌≤◌, Option, Some, None, refl}
use Rattle.std.specs.Coded.{Coded, code_by, coded×, coded_ℕ}
use Rattle.std.specs.FinMap as map
use Rattle.record_values.specs.Codes.{coded_pair, coded_mark}
use Rattle.record_values.specs.Maps.{set_at}
use Rattle.btree_node.specs.declared.limits.TheConstants.{ENTRIES_MAX}
use Rattle.record_values.specs.declared.pair.Pair.{Pair}
use Rattle.record_values.specs.declared.pair.Mark.{Mark}
use Rattle.record_values.specs.declared.key_action.KeyAction.{KeyAction}
use Rattle.record_values.specs.KeyActions.{after_action}
use Rattle.record_values.specs.Entries.{Index}

-- the entries, how many places are reserved for changes and not used yet, and how many entries there is room for
pub record IndexValue : Type 0 where
  pub entries : Index
  pub pledged : ℕ
  pub capacity : ℕ

-- how the logic stores it
abbrev pub coded_index : Coded IndexValue
coded_index = code_by (Index × (ℕ × ℕ)) (coded× (map.code coded_pair coded_mark) (coded× coded_ℕ coded_ℕ)) (λ v.
    (v.entries, (v.pledged, v.capacity))) (λ p. record { entries = p.0; pledged = p.1.0; capacity = p.1.1 }) (λ _. refl)

-- the entries and the reserved places are within the capacity, and that is what a tree can hold
pub record IsWithinCapacity (v : IndexValue) : Type 0 where
  pub within : map.len v.entries + v.pledged ≤ v.capacity
  pub most : v.capacity ≤ ENTRIES_MAX

-- every place is taken or reserved
abbrev pub IsFull : IndexValue → Type 0
IsFull v = v.capacity ≤ map.len v.entries + v.pledged

-- the pair has no entry
abbrev pub IsAbsent : Index → Pair → Type 0
IsAbsent entries pair = map.get entries pair ≡ None

-- the entries after an action on one of them
abbrev pub entries_after : Index → KeyAction → Pair → Index
entries_after entries action pair = set_at entries pair (after_action action (map.get entries pair))

-- how many reserved places a transaction's action uses: one where there was no entry
abbrev pub pledges_used : Option Mark → ℕ
pledges_used None = 1
pledges_used (Some mark) = 0

-- the index after a transaction's action
abbrev pub after_txn_action : IndexValue → KeyAction → Pair → IndexValue
after_txn_action v action pair = record v {
  entries = entries_after v.entries action pair;
  pledged = v.pledged - pledges_used (map.get v.entries pair);
}
