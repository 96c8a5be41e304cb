-- The commits of a session as its history has them.
use Rattle.std.specs.Prelude.{◌≡◌, ◌<◌, Bool, true, List, if◌then◌else◌, vec_len, vec_capacity}
use Rattle.threads_sessions.specs.declared.history.History.{History}
use Rattle.threads_sessions.specs.Values.{CommitValue}

-- the commits: in the list where they are kept, and else in the one without bytes
abbrev pub commits_of : {A K : Type 0} → (kept : Bool) → History A K → List CommitValue
commits_of kept h = if kept then h.list.items else h.told.items

-- where they are kept, there is room for one more
abbrev pub HasRoomIf : {A K : Type 0} → (kept : Bool) → History A K → Type 0
HasRoomIf kept h = kept ≡ true → vec_len h.list < vec_capacity h.list
