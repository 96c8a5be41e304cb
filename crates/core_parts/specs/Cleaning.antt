-- What the cleaner answers.
use Rattle.core_parts.specs.declared.reply.CleanReply.{CleanReply}
use Rattle.core_model.specs.Events as events
use Rattle.core_parts.specs.declared.reply.CleanReply.TheVariants as reply

-- the reply in the words of the events
abbrev pub cleaner : CleanReply → events.Reply
cleaner (reply.Cleaned pair) = events.Cleaner (events.Cleaned pair)
cleaner (reply.Kept pair) = events.Cleaner (events.Kept pair)
cleaner reply.Wrapped = events.Cleaner events.Wrapped
