-- The commits of all seats, by number.
use Rattle.std.specs.Prelude.{Bool, false, length, List, map, None, Option, reverse, slice_get, slice_set, Some, ℕ, []}
use Rattle.std.specs.Prelude.{◌==◌, ◌∷◌, ◌≡◌}
use Rattle.std.specs.declared.vec.Vec.{Vec}
use Rattle.threads_register.specs.Register.{AreAllCommits}
use Rattle.threads_sessions.specs.Values.{CommitValue, SessionValue}
use Rattle.shared.specs.Seats.{SeatValue}

-- all seats of a group, each in its place
pub record AreAllSeats (count : ℕ) (seats : List SeatValue) : Type 0 where
  pub counted : length seats ≡ count
  pub each : (k : ℕ) (s : SeatValue) → slice_get seats k ≡ Some s → s.number ≡ k

-- the session of each seat
abbrev pub sessions_of : List SeatValue → List SessionValue
sessions_of seats = map (λ s. s.session) seats

-- These are the commits of all seats, by number: the numbers are 1 to n, each once, and a seat's own commits are in
-- their order.
pub record AreCommitsOf (seats : List SeatValue) (commits : List CommitValue) : Type 0 where
  pub all : AreAllCommits (sessions_of seats) (length commits)
  pub by_number : commits ≡ map (λ c. c.1) all.commits

-- ---- how they are gathered (no public clause cites these)

-- the commits that are left in these vectors, each of which has the last commit first
abbrev pub lists_of : {A : Type 0} → List (Vec CommitValue A) → List (List CommitValue)
lists_of lists = map (λ v. reverse v.items) lists

-- the commits of each session
abbrev pub commits_of : List SessionValue → List (List CommitValue)
commits_of book = map (λ s. s.commits) book

-- whether a commit has this number
abbrev pub is_numbered : ℕ → Option ℕ → Bool
is_numbered n None = false
is_numbered n (Some k) = k == n

-- whether the first commit has this number
abbrev pub heads_with : ℕ → List CommitValue → Bool
heads_with n [] = false
heads_with n (c ∷ cs) = is_numbered n c.ticket.commit

-- a commit is taken off the front of one list
pub record TakesFrom (number : ℕ) (c : CommitValue) (before after : List (List CommitValue)) : Type 0 where
  pub k : ℕ
  pub rest : List CommitValue
  pub there : slice_get before k ≡ Some (c ∷ rest)
  pub left : after ≡ slice_set before k rest
  pub numbered : c.ticket.commit ≡ Some number

-- the session of each of these seats is in the book, at the seat's number
abbrev pub AreSeen : List SessionValue → List SeatValue → Type 0
AreSeen book seats = (k : ℕ) (s : SeatValue) → slice_get seats k ≡ Some s → slice_get book s.number ≡ Some s.session
