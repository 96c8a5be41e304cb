-- What C is told for a reply of the engine.
use Rattle.std.specs.Prelude.{ℕ, ◌++◌, List, length, drop, replicate, Option, Some, None}
use Rattle.std.specs.declared.alloc.Global.{Global}
use Rattle.record_values.specs.Values.{Place}
use Rattle.record_values.specs.Refusals.{number_of}
use Rattle.record_values.specs.declared.key.TheConstants.{KEY_MAX, BODY_MAX}
use Rattle.record_values.specs.declared.error.Error.{Error}
use Rattle.record_values.specs.declared.error.Error.TheVariants.{Damaged}
use Rattle.record_values.specs.declared.pair.Pair.{Pair}
use Rattle.record_values.specs.declared.row.Row.{Row}
use Rattle.model.specs.declared.life.Life.{Life}
use Rattle.model.specs.declared.life.Life.TheVariants as life
use Rattle.core_parts.specs.declared.reply.BuildReply.{BuildReply}
use Rattle.core_parts.specs.declared.reply.BuildReply.TheVariants as build
use Rattle.core_parts.specs.declared.reply.CleanReply.{CleanReply}
use Rattle.core_parts.specs.declared.reply.CleanReply.TheVariants as clean
use Rattle.restart.specs.declared.event.Reply.{Reply}
use Rattle.restart.specs.declared.event.Reply.TheVariants as reply
use Rattle.nsf_c.specs.declared.told.Told.{Told}

-- the bytes, and zeros behind them
abbrev pub padded : ℕ → List ℕ → List ℕ
padded max bytes = bytes ++ drop (length bytes) (replicate max 0)

-- told of nothing but a kind and a number
abbrev pub plain : ℕ → ℕ → Told
plain k number = record {
  kind = k;
  page = 0;
  number = number;
  slot = 0;
  key_length = 0;
  body_length = 0;
  key = replicate KEY_MAX 0;
  body = replicate BODY_MAX 0;
}

-- told of a place too
abbrev pub placed : ℕ → ℕ → Place → Told
placed k number rid = record (plain k number) { page = rid.page; slot = rid.slot }

-- told of a pair too
abbrev pub paired : ℕ → ℕ → Pair → Told
paired k number pair = record (placed k number pair.rid) { key_length = length pair.key; key = padded KEY_MAX pair.key }

-- told of a row
abbrev pub rowed : ℕ → Row → Told
rowed k row = record (plain k 0) {
  key_length = length row.key;
  body_length = length row.body;
  key = padded KEY_MAX row.key;
  body = padded BODY_MAX row.body;
}

-- what C is told of a step of the builder
abbrev pub built_told : BuildReply → Told
built_told (build.Scanned page) = record (plain 8 0) { page = page }
built_told (build.Placed pair) = paired 9 0 pair
built_told (build.Rejected pair) = paired 10 0 pair
built_told (build.Marked pair ticket) = paired 11 ticket.record pair
built_told (build.Done ticket) = plain 12 ticket.record
built_told build.Idle = plain 13 0

-- of a step of the cleaner
abbrev pub cleaned_told : CleanReply → Told
cleaned_told (clean.Cleaned pair) = paired 14 0 pair
cleaned_told (clean.Kept pair) = paired 15 0 pair
cleaned_told clean.Wrapped = plain 16 0

-- of the index's life
abbrev pub life_told : Life → Told
life_told life.Absent = plain 25 0
life_told (life.Building None) = plain 26 0
life_told (life.Building (Some pair)) = paired 27 0 pair
life_told life.Complete = plain 28 0

-- of a row that was looked for
abbrev pub row_told : Option Row → Told
row_told (Some row) = rowed 22 row
row_told None = plain 23 0

-- the sector that is damaged, and 0 for any other refusal
abbrev pub sector_of : Error → ℕ
sector_of (Damaged sector) = sector
sector_of e = 0

-- of any reply
abbrev pub told_of : Reply Global → Told
told_of (reply.Txn txn) = plain 1 txn
told_of (reply.Rid rid) = placed 2 0 rid
told_of reply.Stepped = plain 3 0
told_of reply.Undone = plain 4 0
told_of reply.Empty = plain 5 0
told_of reply.Ended = plain 6 0
told_of (reply.Ticket ticket) = plain 7 ticket.record
told_of (reply.Built built) = built_told built
told_of (reply.Cleaned cleaned) = cleaned_told cleaned
told_of (reply.Horizon number) = plain 17 number
told_of reply.LogFull = plain 18 0
told_of reply.Copied = plain 19 0
told_of (reply.Flipped number) = plain 20 number
told_of reply.Again = plain 21 0
told_of (reply.Row row) = row_told row
told_of (reply.Found rids) = plain 24 (length rids.items)
told_of (reply.Life life) = life_told life
told_of reply.Skipped = plain 29 0
told_of (reply.Refused e) = plain 0 (sector_of e)

-- what a call answers: the number of the refusal, or 0
abbrev pub status_of : Reply Global → ℕ
status_of (reply.Refused e) = number_of e
status_of other = 0
