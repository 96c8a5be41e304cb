-- What the commands of a script ask for.
use Rattle.std.specs.Prelude.{ℕ, nat_le, List, length, Result, Ok, Err, if◌then◌else◌}
use Rattle.record_values.specs.declared.error.Error.{Error}
use Rattle.record_values.specs.declared.error.Error.TheVariants.{KeyTooLong, BodyTooLong}
use Rattle.record_values.specs.declared.key.TheConstants.{KEY_MAX, BODY_MAX}
use Rattle.sector_device.specs.declared.call.Fate.{Fate}
use Rattle.sector_device.specs.declared.call.Fate.TheVariants as fate
use Rattle.program_script.specs.declared.fate.Fate.TheVariants as named
use Rattle.program_script.specs.declared.fate.Fate as script
use Rattle.program_script.specs.declared.command.Command.{Command}
use Rattle.program_script.specs.declared.command.Command.TheVariants as command
use Rattle.restart.specs.declared.event.Event.TheVariants as event
use Rattle.program_commands.specs.declared.request.Request.{Request}
use Rattle.program_commands.specs.declared.request.Request.TheVariants as request

-- the fate of this name, as the device has it
abbrev pub fate_of : script.Fate → Fate
fate_of named.Old = fate.Old
fate_of named.New = fate.New
fate_of named.Zero = fate.Zero
fate_of named.Gate = fate.Gate
fate_of named.Junk = fate.Junk

-- a request with a key, where the key has no more bytes than it may
abbrev pub with_key : List ℕ → Request → Result Request Error
with_key key asked = if nat_le (length key) KEY_MAX then Ok asked else Err KeyTooLong

-- a request with a row, where key and body have no more bytes than they may; the key is looked at first
abbrev pub with_row : List ℕ → List ℕ → Request → Result Request Error
with_row key body asked =
    if nat_le (length key) KEY_MAX
    then (if nat_le (length body) BODY_MAX then Ok asked else Err BodyTooLong)
    else Err KeyTooLong

-- the request that a command becomes; a key or body that is too long is refused
abbrev pub request_of : Command → Result Request Error
request_of command.Begin = Ok (request.Event event.Begin)
request_of (command.Insert txn key body) = with_row key body (request.Event (event.Insert txn key body))
request_of (command.Delete txn rid) = Ok (request.Event (event.Delete txn rid))
request_of (command.Update txn rid key body) = with_row key body (request.Event (event.Update txn rid key body))
request_of (command.Step txn) = Ok (request.Event (event.Step txn))
request_of (command.Undo txn) = Ok (request.Event (event.Undo txn))
request_of (command.End txn) = Ok (request.Event (event.End txn))
request_of (command.Commit txn) = Ok (request.Event (event.Commit txn))
request_of command.Create = Ok (request.Event event.Create)
request_of command.Drop = Ok (request.Event event.Drop)
request_of (command.Build count) = Ok (request.Build count)
request_of (command.Clean count) = Ok (request.Clean count)
request_of command.Flush = Ok request.Flush
request_of command.Image = Ok request.Image
request_of (command.Crash fate) = Ok (request.Crash (fate_of fate))
request_of (command.Get rid) = Ok (request.Event (event.Get rid))
request_of (command.Find key) = with_key key (request.Event (event.Find key))
request_of command.Dump = Ok request.Dump
