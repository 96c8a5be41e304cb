-- What contracts see of the queue's two ends.
use base.Stored.{Coded, Coded-set, Gv, coded×, coded_ℕ, coded_via}
use Rattle.std.specs.Prelude.{List, ◌≡◌}
use Rattle.atomic_blocks.specs.Laid.{WebId}
use Rattle.atomic_blocks.specs.declared.web.Seat.{Seat}
use Rattle.crossbeam_queue.specs.SegTies.{SegId}
use Rattle.records.specs.RecordValue.{RecordValue}

-- A queue by name, whatever allocator its records are of: which one it is, and its allocator as the logic stores it.
pub record QueueName : Type 0 where
  pub web : WebId
  pub heap : Gv

-- the name of a queue, where its allocator is stored by this code
abbrev pub name_of : {A : Type 0} → Coded A → SegId A → QueueName
name_of c q = record { web = q.web; heap = c.code q.heap }

-- a stored value is stored as itself
abbrev pub coded_stored : Coded Gv
coded_stored = record { code = λ v. v; inj = λ x y p. p }

abbrev coded_name : Coded QueueName
coded_name = coded_via (coded× (coded× coded_ℕ coded_ℕ) coded_stored) (λ (q : QueueName). (q.web, q.heap)) (λ x y e i.
    record { web = (e i).0; heap = (e i).1 })

-- that two names are the same holds in one way
pub name_prop : (q r : QueueName) → IsProp (q ≡ r)
name_prop q r = Coded-set coded_name q r

-- what went through one end of a queue so far, the first of it first
pub record Handed : Type 0 where
  pub queue : QueueName
  pub records : List RecordValue

-- the queue of a pass
abbrev pub queue_of : {S D A : Type 0} → Seat S D A → SegId A
queue_of pass = record { web = pass.web; heap = pass.heap }
