-- The rule of the registry: what the halves of one session know of it, and what each step tells.
use Rattle.threads_sessions.specs.Values.{SessionValue, empty_session}
use Rattle.std.specs.Prelude.{◌≡◌, ℕ, ◌+◌, ◌<◌, ◌≤◌, true, false, ◌==◌, if◌then◌else◌, List, [], ◌∷◌}
use mathlib.Core.Option.{some}
use lib.ListN.{get_elem?}
use Rattle.atomic_table.specs.Table.{State, Me, Step}
use Rattle.threads_sessions.specs.declared.knowledge.Knowledge.{Knowledge}

-- the parts that the holder of a token has of the session n
abbrev pub parts_in : ℕ → Knowledge → ℕ
parts_in n v = if (v.number == n) then v.parts else 0

-- and those that all tokens have
abbrev pub parts_of : ℕ → List Knowledge → ℕ
parts_of n [] = 0
parts_of n (v ∷ vs) = parts_in n v + parts_of n vs

-- A part of a session shows the session of its number, also as the one that it took in; the number was given out. What
-- makes halves is one, and has none.
pub record Fits (session_of : ℕ → SessionValue) (maker next place : ℕ) (v : Knowledge) : Type 0 where
  pub of_maker : v.makes ≡ true → (place ≡ maker) × (v.number ≡ next) × (v.parts ≡ 0)
  pub below : 0 < v.parts → v.number < next
  pub shows : 0 < v.parts → v.session ≡ session_of v.number
  pub brought : 0 < v.parts → v.beside ≡ session_of v.number

-- Each number has one session, which all its parts show, and of which there are two at most.
pub record AreHalvesKept (s : State SessionValue Knowledge) : Type 0 where
  pub session_of : ℕ → SessionValue
  pub maker : ℕ
  pub next : ℕ
  pub fits : (place : ℕ) (v : Knowledge) → get_elem? s.views place ≡ some v → Fits session_of maker next place v
  pub two : (n : ℕ) → parts_of n s.views ≤ 2

-- ---- what tokens know

-- a token whose part went to another
abbrev pub nobody : Knowledge
nobody = record { makes = false; number = 0; parts = 0; session = empty_session; beside = empty_session }

-- what the thread knows that makes the table
abbrev pub first_maker : Knowledge
first_maker = record { makes = true; number = 0; parts = 0; session = empty_session; beside = empty_session }

-- the maker, once it gave a number out
abbrev pub next_maker : Knowledge → Knowledge
next_maker v = record v { number = v.number + 1 }

-- both parts of a new session, under the number that the maker gives out
abbrev pub new_session : Knowledge → Knowledge
new_session v = record { makes = false; number = v.number; parts = 2; session = empty_session; beside = empty_session }

-- one of two parts
abbrev pub half_of : Knowledge → Knowledge
half_of v = record v { parts = 1; beside = v.session }

-- a part that has taken another in
abbrev pub joined : Knowledge → Knowledge → Knowledge
joined v w = record v { parts = v.parts + w.parts; beside = w.session }

-- ---- the step

-- a token, with what lies in its hand
abbrev Seated : Type 0
Seated = Me SessionValue Knowledge

-- the two parts showed one session, and show this one from now on
abbrev pub Changes : SessionValue → Step SessionValue → Seated → ℕ → Seated → Type 0
Changes p st m n m' = (m.0.beside ≡ m.0.session) × (m' ≡ (record m.0 { session = p; beside = p }, m.1))

-- the two parts show one session, and nothing changes
abbrev pub Agrees : Step SessionValue → Seated → ℕ → Seated → Type 0
Agrees st m n m' = (m.0.beside ≡ m.0.session) × (m' ≡ m)
