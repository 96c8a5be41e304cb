-- What the builder answers.
use Rattle.core_parts.specs.Replies.{ticketed}
use Rattle.core_parts.specs.declared.reply.BuildReply.{BuildReply}
use Rattle.core_model.specs.Events as events
use Rattle.core_parts.specs.declared.reply.BuildReply.TheVariants as reply

-- the reply in the words of the events; a ticket with the number of a commit is none of the builder's
abbrev pub built : BuildReply → events.Reply
built (reply.Scanned page) = events.Built (events.Scanned page)
built (reply.Placed pair) = events.Built (events.Placed pair)
built (reply.Rejected pair) = events.Built (events.Rejected pair)
built (reply.Marked pair ticket) = ticketed (λ n. events.Built (events.BuildReply.Marked pair n)) ticket
built (reply.Done ticket) = ticketed (λ n. events.Built (events.Done n)) ticket
built reply.Idle = events.Built events.Idle
