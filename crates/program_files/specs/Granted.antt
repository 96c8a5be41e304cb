-- What a reply tells.
use Rattle.std.specs.Prelude.{Err, Ok, Result}
use Rattle.std.specs.declared.alloc.Global.{Global}
use Rattle.restart.specs.declared.event.Reply.{Reply}
use Rattle.restart.specs.declared.event.Reply.TheVariants as reply
use Rattle.program_files.specs.declared.refused.Refused.{Refused}
use Rattle.program_files.specs.declared.refused.Refused.TheVariants.{Store}

-- it is a refusal of the store, or none
abbrev pub granted_by : Reply Global → Result (Unit {0}) Refused
granted_by (reply.Refused error) = Err (Store error)
granted_by other = Ok tt
