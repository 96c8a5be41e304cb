-- Changes of the one row that has a key.
use Rattle.std.specs.Prelude.{[], Bool, Err, false, if◌then◌else◌, length, List, nat_le, Ok, Option, Result, true, ℕ}
use Rattle.std.specs.Prelude.{◌∷◌, ◌≡◌, ◌⊎◌}
use Rattle.std.specs.declared.alloc.Global.{Global}
use Rattle.std.specs.declared.vec.Vec.{Vec}
use Rattle.record_values.specs.Values.{Place}
use Rattle.record_values.specs.declared.error.Error.{Error}
use Rattle.record_values.specs.declared.error.Error.TheVariants.{BodyTooLong, KeyTooLong, NoSuchRow}
use Rattle.record_values.specs.declared.key.TheConstants.{BODY_MAX, KEY_MAX}
use Rattle.sector_device.specs.DevicePast.{DevicePast}
use Rattle.restart.specs.declared.event.Event.{Event}
use Rattle.restart.specs.declared.event.Event.TheVariants as event
use Rattle.restart.specs.declared.event.Reply.{Reply}
use Rattle.restart.specs.declared.event.Reply.TheVariants as reply
use Rattle.program_values.specs.declared.answer.Answer.{Answer}
use Rattle.program_values.specs.declared.answer.Answer.TheVariants as answer
use Rattle.program_commands.specs.Answers.{answer_of}
use Rattle.program_commands.specs.Guarded.{ServesGuarded, store_of}
use Rattle.program_commands.specs.Outcomes.{outcome_of}
use Rattle.program_commands.specs.Requested.{Prints}
use Rattle.program_commands.specs.Store.{horizon_of}
use Rattle.program_commands.specs.declared.guarded.GuardedStore.{GuardedStore}
use Rattle.program_commands.specs.declared.keyed.KeyChange.{KeyChange}
use Rattle.program_commands.specs.declared.keyed.KeyChange.TheVariants.{Delete, Update}
use Rattle.program_commands.specs.declared.keyed.KeyRequest.{KeyRequest}
use Rattle.program_commands.specs.declared.outcome.Outcome.{Outcome}

-- what is asked of the row with a key; a key or body that is too long is refused
abbrev pub deletion_asked : ℕ → List ℕ → Result KeyRequest Error
deletion_asked txn key =
    if nat_le (length key) KEY_MAX then Ok (record { txn = txn; key = key; change = Delete }) else Err KeyTooLong

abbrev pub update_asked : ℕ → (old key body : List ℕ) → Result KeyRequest Error
update_asked txn old key body =
    if nat_le (length old) KEY_MAX
    then (if nat_le (length key) KEY_MAX
    then (if nat_le (length body) BODY_MAX
    then Ok (record { txn = txn; key = old; change = Update key body })
    else Err BodyTooLong)
    else Err KeyTooLong)
    else Err KeyTooLong

-- the event that changes the row at a place so
abbrev pub change_of : KeyChange → ℕ → Place → Event
change_of Delete txn rid = event.Delete txn rid
change_of (Update key body) txn rid = event.Update txn rid key body

abbrev pub event_at : KeyRequest → Place → Event
event_at asked rid = change_of asked.change asked.txn rid

-- the one place, or what is answered where there is none, or are several
abbrev pub place_of : Vec Place Global → List Place → Result Place Answer
place_of rids [] = Err (answer.Refused NoSuchRow)
place_of rids (rid ∷ []) = Ok rid
place_of rids (rid ∷ more ∷ rest) = Err (answer.Several rids)

abbrev pub only_place : Vec Place Global → Result Place Answer
only_place rids = place_of rids rids.items

-- the one place that a search found, or what is answered in place of a change
abbrev pub place_found : ℕ → Reply Global → Result Place Answer
place_found horizon (reply.Found rids) = only_place rids
place_found horizon other = Err (answer_of horizon other)

-- whether the reply tells of a step that was made
abbrev pub is_stepped : Reply Global → Bool
is_stepped reply.Stepped = true
is_stepped other = false

-- the reply to a change, from that to its last step: where none was owed any more, the change is made
abbrev pub settled : Reply Global → Reply Global
settled reply.Skipped = reply.Stepped
settled other = other

module _ {D : Type 0} (past_of : D → DevicePast) (failures : D → ℕ) where
  -- behind a step the next one was made, and behind any other reply none
  abbrev pub StepsOn : ℕ → (before after : Reply Global) → GuardedStore D → GuardedStore D → Type 0
  StepsOn txn before after old new =
      ((is_stepped before ≡ true) × ServesGuarded past_of failures (event.Step txn) after old new)
      ⊎ ((is_stepped before ≡ false) × (after ≡ before) × (new ≡ old))

  -- The steps that a change still owes were made, up to a reply that tells of none: no change owes more than two (the
  -- law `each_further_step` of core_laws).
  pub record Settles (txn : ℕ) (final : Reply Global) (old new : GuardedStore D) : Type 0 where
    pub first : Reply Global
    pub second : Reply Global
    pub third : Reply Global
    pub one : GuardedStore D
    pub two : GuardedStore D
    pub first_step : ServesGuarded past_of failures (event.Step txn) first old one
    pub second_step : StepsOn txn first second one two
    pub third_step : StepsOn txn second third two new
    pub final_is : final ≡ settled third

  -- The event was served, and where it made a step of a change, the further ones were made.
  pub record Changes (txn : ℕ) (event : Event) (final : Reply Global) (old new : GuardedStore D) : Type 0 where
    pub begun : Reply Global
    pub mid : GuardedStore D
    pub begins : ServesGuarded past_of failures event begun old mid
    pub ends : ((is_stepped begun ≡ true) × Settles txn final mid new)
        ⊎ ((is_stepped begun ≡ false) × (final ≡ begun) × (new ≡ mid))

  -- Behind a search that found one row, that was changed; else this is the answer, and nothing was done.
  abbrev pub ChangesFound : KeyRequest → Result Place Answer → Answer → GuardedStore D → GuardedStore D → Type 0
  ChangesFound asked (Ok rid) told old new = (final : Reply Global)
      × Changes asked.txn (event_at asked rid) final old new
      × (told ≡ answer_of (horizon_of (store_of new)) final)
  ChangesFound asked (Err refusal) told old new = (told ≡ refusal) × (new ≡ old)

  -- The rows with the key were searched for, and what was asked of the one row was done.
  pub record IsKeyServed (asked : KeyRequest) (told : Answer) (old new : GuardedStore D) : Type 0 where
    pub found : Reply Global
    pub mid : GuardedStore D
    pub searches : ServesGuarded past_of failures (event.Find asked.key) found old mid
    pub changes : ChangesFound asked (place_found (horizon_of (store_of mid)) found) told mid new

  -- And the answer was printed.
  abbrev pub AnswersKey : {W : Type 0} → (W → Option (List ℕ)) → KeyRequest → Outcome → GuardedStore D → GuardedStore D
      → W → W → Type 0
  AnswersKey contents asked outcome old new before after = (told : Answer) × IsKeyServed asked told old new
      × Prints contents told before after × (outcome ≡ outcome_of told)
