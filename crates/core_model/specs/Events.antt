-- What is asked of the core, what it answers, and what the answers count.
use Rattle.std.specs.Prelude.{List, Option, ℕ, ◌+◌, ◌-◌}
use Rattle.record_values.specs.Values.{Place}
use Rattle.record_values.specs.declared.error.Error.{Error}
use Rattle.record_values.specs.declared.pair.Pair.{Pair}
use Rattle.record_values.specs.declared.row.Row.{Row}
use Rattle.model.specs.declared.life.Life as life

-- what may be asked of a core: steps of transactions, of the index's life, of builder and cleaner, and readings
pub data Event : Type 0 where
  Begin : Event
  Insert : (t : ℕ) → Row → Event
  Delete : (t : ℕ) → Place → Event
  Update : (t : ℕ) → Place → Row → Event
  Step : (t : ℕ) → Event
  Undo : (t : ℕ) → Event
  End : (t : ℕ) → Event
  Commit : (t : ℕ) → Event
  Create : Event
  Build : Event
  Clean : Event
  Get : Place → Event
  Find : (key : List ℕ) → Event
  Life : Event
  Drop : Event

-- what a step of the builder answers
pub data BuildReply : Type 0 where
  Scanned : (page : ℕ) → BuildReply
  Placed : Pair → BuildReply
  Rejected : Pair → BuildReply
  Marked : Pair → (record_number : ℕ) → BuildReply
  Done : (record_number : ℕ) → BuildReply
  Idle : BuildReply

-- what a step of the cleaner answers
pub data CleanReply : Type 0 where
  Cleaned : Pair → CleanReply
  Kept : Pair → CleanReply
  Wrapped : CleanReply

-- what a core answers; a refusal names its error
pub data Reply : Type 0 where
  Txn : (t : ℕ) → Reply
  Rid : Place → Reply
  Stepped : Reply
  Undone : Reply
  Empty : Reply
  Ended : Reply
  Committed : (record_number : ℕ) → (commit : ℕ) → Reply  -- the ticket of a commit, with its number since the restart
  Ticketed : (record_number : ℕ) → Reply  -- the ticket of a creation, or of a dropping
  Built : BuildReply → Reply
  Cleaner : CleanReply → Reply
  RowIs : Option Row → Reply
  Found : List Place → Reply
  LifeIs : life.Life → Reply
  Skipped : Reply
  Refused : Error → Reply

-- what events and replies alone change
pub record Standing : Type 0 where
  pub made : ℕ  -- the number of the last record made
  pub begun : ℕ  -- the transactions begun since the restart
  pub active : ℕ  -- those of them that have not ended
  pub commits : ℕ  -- the commits since the restart
  pub attempts : ℕ  -- the builder's attempts since its last checkpoint, the creation, the dropping or the restart
  pub all_attempts : ℕ  -- the builder's attempts since the restart
  pub scanned : ℕ  -- the pages that it took in a row since its last attempt, the creation, the dropping or the restart

-- what a step of the builder changes of what is counted
abbrev pub after_build : Standing → BuildReply → Standing
after_build k (Scanned page) = record k { scanned = k.scanned + 1 }
after_build k (Placed p) = record k {
  made = k.made + 1;
  attempts = k.attempts + 1;
  all_attempts = k.all_attempts + 1;
  scanned = 0;
}
after_build k (Rejected p) = record k { attempts = k.attempts + 1; all_attempts = k.all_attempts + 1; scanned = 0 }
after_build k (BuildReply.Marked p n) = record k { made = k.made + 1; attempts = 0 }
after_build k (Done n) = record k { made = k.made + 1 }
after_build k Idle = k

-- what a step of the cleaner changes of it
abbrev pub after_clean : Standing → CleanReply → Standing
after_clean k (Cleaned p) = record k { made = k.made + 1 }
after_clean k (Kept p) = k
after_clean k Wrapped = k

-- what a reply changes of it
abbrev pub standing_after : Standing → Reply → Standing
standing_after k (Txn t) = record k { begun = k.begun + 1; active = k.active + 1 }
standing_after k (Reply.Rid r) = record k { made = k.made + 1 }
standing_after k Stepped = record k { made = k.made + 1 }
standing_after k Undone = record k { made = k.made + 1 }
standing_after k Ended = record k { made = k.made + 1; active = k.active - 1 }
standing_after k (Reply.Committed n c) = record k { made = k.made + 1; active = k.active - 1; commits = k.commits + 1 }
standing_after k (Reply.Ticketed n) = record k { made = k.made + 1; attempts = 0; scanned = 0 }
standing_after k (Built b) = after_build k b
standing_after k (Cleaner c) = after_clean k c
standing_after k Empty = k
standing_after k (RowIs row) = k
standing_after k (Found rids) = k
standing_after k (LifeIs life) = k
standing_after k Skipped = k
standing_after k (Refused error) = k

-- after a restart that read records up to this number
abbrev pub standing_at : ℕ → Standing
standing_at last = record {
  made = last;
  begun = 0;
  active = 0;
  commits = 0;
  attempts = 0;
  all_attempts = 0;
  scanned = 0;
}
