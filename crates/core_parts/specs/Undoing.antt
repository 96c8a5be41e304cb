-- What taking a change back answers.
use Rattle.core_model.specs.Events.{Reply}
use Rattle.core_parts.specs.declared.reply.Undone.{Undone}
use Rattle.core_parts.specs.declared.reply.Undone.TheVariants as reply

-- the reply in the words of the events
abbrev pub undone_reply : Undone → Reply
undone_reply reply.Step = Reply.Undone
undone_reply reply.Empty = Reply.Empty
