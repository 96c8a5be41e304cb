-- What is printed for the replies of the engine.
use Rattle.std.specs.Prelude.{ℕ, Option, Some, None}
use Rattle.std.specs.declared.alloc.Global.{Global}
use Rattle.record_values.specs.declared.row.Row.{Row}
use Rattle.core_parts.specs.declared.reply.BuildReply.{BuildReply}
use Rattle.core_parts.specs.declared.reply.BuildReply.TheVariants as build
use Rattle.core_parts.specs.declared.reply.CleanReply.{CleanReply}
use Rattle.core_parts.specs.declared.reply.CleanReply.TheVariants as clean
use Rattle.restart.specs.declared.event.Reply.{Reply}
use Rattle.restart.specs.declared.event.Reply.TheVariants as reply
use Rattle.program_values.specs.declared.step.Step.{Step}
use Rattle.program_values.specs.declared.step.Step.TheVariants as step
use Rattle.program_values.specs.declared.answer.Answer.{Answer}
use Rattle.program_values.specs.declared.answer.Answer.TheVariants as answer

-- the row that was looked for, or none
abbrev pub row_answer : Option Row → Answer
row_answer (Some row) = answer.Row row
row_answer None = answer.NoRow

-- a step of the builder, to be printed
abbrev pub build_step_of : BuildReply → Step
build_step_of (build.Scanned page) = step.Scanned page
build_step_of (build.Placed pair) = step.Placed pair
build_step_of (build.Rejected pair) = step.Rejected pair
build_step_of (build.Marked pair ticket) = step.Marked pair ticket.record
build_step_of (build.Done ticket) = step.Completed ticket.record
build_step_of build.Idle = step.Idle

-- a step of the cleaner, to be printed
abbrev pub clean_step_of : CleanReply → Step
clean_step_of (clean.Cleaned pair) = step.Cleaned pair
clean_step_of (clean.Kept pair) = step.Kept pair
clean_step_of clean.Wrapped = step.Wrapped

-- the answer for a reply, where all records up to the horizon are synced
abbrev pub answer_of : ℕ → Reply Global → Answer
answer_of horizon (reply.Txn txn) = answer.Txn txn
answer_of horizon (reply.Rid rid) = answer.Rid rid
answer_of horizon reply.Stepped = answer.Done
answer_of horizon reply.Ended = answer.Done
answer_of horizon reply.Undone = answer.Undone
answer_of horizon reply.Empty = answer.Empty
answer_of horizon (reply.Ticket ticket) = answer.Ticket ticket.record
answer_of horizon (reply.Built built) = answer.Made (build_step_of built)
answer_of horizon (reply.Cleaned cleaned) = answer.Made (clean_step_of cleaned)
answer_of horizon (reply.Horizon number) = answer.Horizon number
answer_of horizon reply.LogFull = answer.Horizon horizon
answer_of horizon reply.Copied = answer.Done
answer_of horizon (reply.Flipped number) = answer.Flipped
answer_of horizon reply.Again = answer.Done
answer_of horizon (reply.Row row) = row_answer row
answer_of horizon (reply.Found rids) = answer.Found rids
answer_of horizon (reply.Life life) = answer.Life life
answer_of horizon reply.Skipped = answer.Skipped
answer_of horizon (reply.Refused error) = answer.Refused error
