-- The rule of the queue, and what each step tells.
use Rattle.std.specs.Prelude.{◌≡◌, ℕ, true, false, List, [], ◌∷◌, ◌++◌}
use mathlib.Core.Option.{some}
use lib.ListN.{get_elem?}
use Rattle.records.specs.RecordValue.{RecordValue}
use Rattle.threads_queue.specs.declared.knowledge.Knowledge.{Knowledge}

-- An end that may push is the one that pushes, and knows what was pushed. One that may pop is the one that pops, and
-- knows what was popped.
pub record Fits (pusher popper : ℕ) (pushed popped : List RecordValue) (place : ℕ) (v : Knowledge) : Type 0 where
  pub of_pusher : v.pushes ≡ true → (place ≡ pusher) × (v.pushed ≡ pushed)
  pub of_popper : v.pops ≡ true → (place ≡ popper) × (v.popped ≡ popped)

-- what was pushed is what was popped and then what the queue holds, in order
pub record IsQueueKept (items : List RecordValue) (ends : List Knowledge) : Type 0 where
  pub pusher : ℕ
  pub popper : ℕ
  pub pushed : List RecordValue
  pub popped : List RecordValue
  pub in_order : pushed ≡ popped ++ items
  pub fits : (place : ℕ) (v : Knowledge) → get_elem? ends place ≡ some v → Fits pusher popper pushed popped place v

-- ---- the ends

-- what is known with both ends: what was pushed, and what was popped
abbrev pub both_ends : List RecordValue → List RecordValue → Knowledge
both_ends pushed popped = record { pushes = true; pops = true; pushed = pushed; popped = popped }

-- what the pushing end knows: what was pushed
abbrev pub push_end : List RecordValue → Knowledge
push_end pushed = record { pushes = true; pops = false; pushed = pushed; popped = [] }

-- what the popping end knows: what was popped
abbrev pub pop_end : List RecordValue → Knowledge
pop_end popped = record { pushes = false; pops = true; pushed = []; popped = popped }

-- an end that was joined to another, or is lent
abbrev pub no_end : Knowledge
no_end = record { pushes = false; pops = false; pushed = []; popped = [] }

-- ---- the steps

-- what holds both ends knows that these wait in the queue
abbrev pub Waits : Knowledge → List RecordValue → Type 0
Waits v items = v.pushes ≡ true → v.pops ≡ true → v.pushed ≡ v.popped ++ items

-- a push adds this record
abbrev pub Pushes : Knowledge → RecordValue → Knowledge → Type 0
Pushes v x w = w ≡ record v { pushed = v.pushed ++ x ∷ [] }

-- what holds both ends learns that the record was the oldest one that waited
pub record Pops (v : Knowledge) (x : RecordValue) (w : Knowledge) : Type 0 where
  pub known : w ≡ record v { popped = v.popped ++ x ∷ [] }
  pub rest : List RecordValue
  pub oldest : Waits v (x ∷ rest)
