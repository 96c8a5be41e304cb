-- The core as a value.
use Rattle.core_parts.specs.View.{CoreValue}
use Rattle.core_parts.specs.declared.parts.CoreParts.{CoreParts}

-- what contracts see of the parts
abbrev pub parts_of : {A : Type 0} → CoreParts A → CoreValue
parts_of c = record {
  heap = c.heap;
  txns = c.txns;
  index = c.index;
  life = c.life;
  scan = c.scan;
  cleaned = c.cleaned;
  last = c.last;
  tried = c.tried;
  attempts = c.attempts;
  commits = c.commits;
  outbox = c.outbox.items;
}
