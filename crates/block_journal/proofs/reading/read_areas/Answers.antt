use Rattle.std.proofs.Common.{◌≡◌, Err, length, sym, ◌∙◌, ap, subst, arith}
use Rattle.std.proofs.lemmas.Result.{err_from_is_err_and}
use Rattle.sector_device.proofs.Counts.{counts_later}
use Rattle.block_device.specs.Blocks.{BlockFile}
use Rattle.block_journal.specs.declared.gathered.Gathered.{Gathered}
use Rattle.block_journal.specs.Layout.{IsInside, found}
use Rattle.block_journal.specs.Gathered.{IsBuffer}
use Rattle.block_journal.specs.Opening.{HasTaken}
use Rattle.block_journal.proofs.OnlyReading.{reads_then}
use Rattle.block_journal.proofs.Recovering.{both_taken, either_way}
use Rattle.block_journal.proofs.Results.{not_none}
use Rattle.block_journal.proofs.reading.read_areas.Goals as goal

pub read_area-requires : goal.read_area-requires
read_area-requires g c = record {
  inside = c.requires.inside;
  small = c.requires.small;
  low = omega arith;
  buffer = c.requires.last;
  size = c.requires.last_size;
  none = c.requires.last_none;
}

pub returns-in_err-first : goal.returns-in_err-first
returns-in_err-first g c =
    let p = err_from_is_err_and c.from_residual.result c.from_residual.ensures.1 in
    let read = c.read_area.ensures in
    rw (p.1 ∙ ap Err p.2) (record {
      taken = tt;
      none = tt;
      last = read.buffer;
      last_size = read.size;
      other = c.requires.other;
      other_size = c.requires.other_size;
      reads = read.reads;
      back = read.back;
      counts = record { later = c.in_err-first.ensures.counts.later; none = tt; failed = c.in_err-first.ensures.counts.failed };
    })

pub read_area-requires-2 : goal.read_area-requires-2
read_area-requires-2 g c = record {
  inside = subst (λ (f : BlockFile). IsInside c.args.shape f.content) (sym c.read_area.ensures.reads.file) c.requires.inside;
  small = c.requires.small;
  low = omega arith;
  buffer = c.requires.other;
  size = c.requires.other_size;
  none = c.requires.other_none;
}

pub returns-in_err-second : goal.returns-in_err-second
returns-in_err-second g c =
    let p = err_from_is_err_and c.from_residual-in_err-second.result c.from_residual-in_err-second.ensures.1 in
    let first = c.read_area.ensures in
    let second = c.read_area-2.ensures in
    let counts = counts_later _ _ _ _ c.in_ok-first.ensures.counts.none c.in_err-second.ensures.counts in
    rw (p.1 ∙ ap Err p.2) (record {
      taken = tt;
      none = tt;
      last = first.buffer;
      last_size = first.size;
      other = second.buffer;
      other_size = second.size;
      reads = reads_then _ _ _ first.reads second.reads;
      back = second.back ∙ first.back;
      counts = record { later = counts.later; none = tt; failed = counts.failed };
    })

pub returns-in-None : goal.returns-in-None
returns-in-None g c =
    let h = g.B.Blocks.past_of in
    let first = c.read_area.ensures in
    let second = c.read_area-2.ensures in
    let counts = counts_later _ _ _ _ c.in_ok-first.ensures.counts.none c.in_ok-second.ensures.counts in
    let none = c.in-None.ensures in
    record {
      taken = tt;
      none = λ is. (
        (subst (λ x. HasTaken (found c.args.shape (h c.args.below.now).file.content 0) 0 c.read_area.new.buffer x) none.0 c.in_ok-first.ensures.taken).0,
        ap (λ (f : BlockFile). found c.args.shape f.content 1) (sym first.reads.file)
            ∙ (subst (λ x. HasTaken (found c.args.shape (h c.read_area.new.below).file.content 1) 1 c.read_area-2.new.buffer x) none.1
            c.in_ok-second.ensures.taken).0,
      );
      last = first.buffer;
      last_size = first.size;
      other = second.buffer;
      other_size = second.size;
      reads = reads_then _ _ _ first.reads second.reads;
      back = second.back ∙ first.back;
      counts = record { later = counts.later; none = counts.none; failed = tt };
    }

pub returns-in-Some : goal.returns-in-Some
returns-in-Some g c =
    let h = g.B.Blocks.past_of in
    let first = c.read_area.ensures in
    let second = c.read_area-2.ensures in
    let counts = counts_later _ _ _ _ c.in_ok-first.ensures.counts.none c.in_ok-second.ensures.counts in
    let order = c.in-Some.order in
    let content = (h c.args.below.now).file.content in
    let there = subst (λ (f : BlockFile). HasTaken (found c.args.shape f.content 1) 1 c.read_area-2.new.buffer c.in_ok-second.second)
    first.reads.file c.in_ok-second.ensures.taken in
    let whole = either_way (λ (b : Gathered g.row.A.Denot). IsBuffer b × (length b.area.items ≡ c.args.shape.area)) order.is_second
    c.read_area.new.buffer c.read_area-2.new.buffer c.arrange.new.last c.arrange.new.other
    (first.buffer, first.size) (second.buffer, second.size) c.arrange.ensures.second c.arrange.ensures.first in
    record {
      taken = both_taken c.args.shape content order c.in_ok-first.first c.in_ok-second.second c.in-Some.ensures
          c.read_area.new.buffer c.read_area-2.new.buffer c.arrange.new.last c.arrange.new.other
          c.in_ok-first.ensures.taken there c.arrange.ensures.second c.arrange.ensures.first;
      none = λ is. absurd (not_none is);
      last = whole.0.0;
      last_size = whole.0.1;
      other = whole.1.0;
      other_size = whole.1.1;
      reads = reads_then _ _ _ first.reads second.reads;
      back = second.back ∙ first.back;
      counts = record { later = counts.later; none = counts.none; failed = tt };
    }
