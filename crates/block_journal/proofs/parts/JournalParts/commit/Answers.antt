use Rattle.std.proofs.Common.{◌≡◌, ◌+◌, true, refl, sym, ◌∙◌, ap}
use Rattle.block_journal.specs.declared.gathered.Gathered.{Gathered}
use Rattle.block_journal.specs.declared.parts.JournalParts.{JournalParts}
use Rattle.block_journal.specs.JournalParts.{value_of}
use Rattle.block_journal.proofs.Committing.{settled_stays}
use Rattle.block_journal.proofs.Parting.{committed_settled, committed_sound, committed_value, failed_sound, failed_value, offered_more}
use Rattle.block_journal.proofs.Results.{from_ok, from_err}
use Rattle.block_journal.proofs.parts.JournalParts.commit.Goals as goal

pub write_batch-requires : goal.write_batch-requires
write_batch-requires g c =
    let sound = c.requires.sound in
    let ready = sound.ready c.requires.good in
    record {
      inside = sound.inside;
      small = sound.small;
      synced = ready.synced;
      last = sound.last;
      next = c.seal.ensures.buffer;
      size = c.seal.ensures.size ∙ sound.next_size;
      sealed = c.seal.ensures.sealed;
    }

pub returns-then-is_err : goal.returns-then-is_err
returns-then-is_err g c =
    let past_of = g.B.Blocks.past_of in
    let p = c.args.self.now in
    let sound = c.requires.sound in
    let seal = c.seal.ensures in
    let n : JournalParts g.row.B.Denot g.row.A.Denot = record {
      below = c.write_batch.new.below;
      shape = p.shape;
      number = p.number;
      last = p.last;
      next = c.seal.new.self;
      offered = c.and-self.result;
      has_failed = true;
      refused = p.refused;
    } in
    let within = c.write_batch.ensures.within in
    let failed = sym c.is_err.ensures.value ∙ c.if-is_err.true in
    let counts = c.write_batch.ensures.counts in
    let value = failed_value past_of p sound c.requires.good c.seal.new.self seal.sealed seal.entries seal.buffer seal.size c.write_batch.new.below within n
    c.and-self.ensures refl in
    record {
      ok = tt;
      settled = tt;
      err = value;
      unsettled = settled_stays past_of (value_of p) (sound.ready c.requires.good) (value_of n)
          (offered_more past_of p sound c.requires.good c.seal.new.self seal.sealed seal.entries seal.buffer seal.size c.write_batch.new.below within n
          c.and-self.ensures) within refl refl;
      within = within;
      back = c.write_batch.ensures.back;
      counts = record { later = counts.later; none = tt; failed = from_err _ _ failed counts.failed };
      sound = failed_sound past_of p sound c.requires.good c.seal.new.self seal.sealed seal.entries seal.buffer seal.size c.write_batch.new.below within n
          c.and-self.ensures refl;
    }

pub returns : goal.returns
returns g c =
    let past_of = g.B.Blocks.past_of in
    let p = c.args.self.now in
    let sound = c.requires.sound in
    let seal = c.seal.ensures in
    let n : JournalParts g.row.B.Denot g.row.A.Denot = record {
      below = c.write_batch.new.below;
      shape = p.shape;
      number = p.number + 1;
      last = c.swap.new.x;
      next = record c.swap.new.y { count = 0 };
      offered = c.and-self.result;
      has_failed = p.has_failed;
      refused = p.refused;
    } in
    let within = c.write_batch.ensures.within in
    let done = sym c.is_err.ensures.value ∙ c.if-is_err.false in
    let written = from_ok _ _ done c.write_batch.ensures.written in
    let counts = c.write_batch.ensures.counts in
    let next : Gathered g.row.A.Denot = record c.swap.new.y { count = 0 } in
    let freed : next ≡ record p.last { count = 0 } = ap (λ (b : Gathered g.row.A.Denot). record b { count = 0 }) c.swap.ensures.y_after in
    record {
      ok = committed_value past_of p sound c.requires.good c.seal.new.self seal.sealed seal.entries seal.buffer seal.size c.write_batch.new.below within n
          c.and-self.ensures c.swap.new.x next refl c.swap.ensures.x_after freed written;
      settled = committed_settled past_of p sound c.requires.good c.seal.new.self seal.sealed seal.entries seal.buffer seal.size
          c.write_batch.new.below within n
          c.and-self.ensures c.swap.new.x next refl c.swap.ensures.x_after freed written;
      err = tt;
      unsettled = tt;
      within = within;
      back = c.write_batch.ensures.back;
      counts = record { later = counts.later; none = from_ok _ _ done counts.none; failed = tt };
      sound = committed_sound past_of p sound c.requires.good c.seal.new.self seal.sealed seal.entries seal.buffer seal.size c.write_batch.new.below within n
          c.and-self.ensures c.swap.new.x next refl c.swap.ensures.x_after freed written (from_ok _ _ done c.write_batch.ensures.synced);
    }
