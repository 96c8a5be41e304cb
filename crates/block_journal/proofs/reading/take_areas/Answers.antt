use Rattle.std.proofs.Common.{◌≡◌, inl, ℕ, Err, sym, ◌∙◌, ap, subst, arith}
use Rattle.std.proofs.lemmas.Result.{err_from_is_err_and}
use Rattle.sector_device.specs.DevicePast.{Rises}
use Rattle.block_device.specs.Blocks.{BlockFile}
use Rattle.block_device.specs.BlocksPast.{BlocksPast}
use Rattle.block_journal.specs.Layout.{IsInside}
use Rattle.block_journal.specs.Journal.{OnlyReads, areas_back}
use Rattle.block_journal.proofs.Recovering.{begins_back, one_back}
use Rattle.block_journal.proofs.Results.{not_none}
use Rattle.block_journal.proofs.reading.take_areas.Goals as goal

pub read_areas-requires : goal.read_areas-requires
read_areas-requires g c = record {
  inside = c.requires.inside;
  small = c.requires.small;
  last = c.requires.last;
  last_size = c.requires.last_size;
  last_none = c.requires.last_none;
  other = c.requires.other;
  other_size = c.requires.other_size;
  other_none = c.requires.other_none;
}

pub returns-in_err-found : goal.returns-in_err-found
returns-in_err-found g c =
    let p = err_from_is_err_and c.from_residual.result c.from_residual.ensures.1 in
    let read = c.read_areas.ensures in
    rw (p.1 ∙ ap Err p.2) (record {
      taken = tt;
      none = tt;
      last = read.last;
      last_size = read.last_size;
      other = read.other;
      other_size = read.other_size;
      reads = read.reads;
      back = tt;
      back_none = tt;
      back_err = record { reads = read.reads; back = inl read.back };
      counts = record { later = c.in_err-found.ensures.counts.later; none = tt; failed = c.in_err-found.ensures.counts.failed };
    })

pub keep_areas-requires : goal.keep_areas-requires
keep_areas-requires g c = record {
  inside = subst (λ (f : BlockFile). IsInside c.args.shape f.content) (sym c.read_areas.ensures.reads.file) c.requires.inside;
  small = c.requires.small;
}

pub returns-in_err-keep_areas-in-Some : goal.returns-in_err-keep_areas-in-Some
returns-in_err-keep_areas-in-Some g c =
    let p = err_from_is_err_and c.from_residual-in_err-keep_areas-in-Some.result c.from_residual-in_err-keep_areas-in-Some.ensures.1 in
    let read = c.read_areas.ensures in
    let kept = c.keep_areas.ensures in
    let start = g.B.Blocks.past_of c.args.below.now in
    let taken = rw c.in-Some.is at c.in_ok-found.ensures.taken in
    let begun = one_back c.args.shape c.in-Some.numbers.0 _ _ _ (ap (λ (h : BlocksPast). h.moment) (sym kept.past))
    read.back c.in_err-keep_areas-in-Some.ensures.back_err in
    rw (p.1 ∙ ap Err p.2) (record {
      taken = tt;
      none = tt;
      last = read.last;
      last_size = read.last_size;
      other = read.other;
      other_size = read.other_size;
      reads = subst (λ (h : BlocksPast). OnlyReads start h) (sym kept.past) read.reads;
      back = tt;
      back_none = tt;
      back_err = begins_back c.args.shape start (g.B.Blocks.past_of c.keep_areas.new.below) c.in-Some.numbers.0 c.in-Some.numbers.1
          c.read_areas.new.last c.read_areas.new.other _ _ taken (subst (λ (h : BlocksPast). OnlyReads start h) (sym kept.past) read.reads) begun;
      counts = record {
        later = omega (arith, read.counts.later, kept.counts.later);
        none = tt;
        failed = subst (λ (a : ℕ). Rises a (g.B.Blocks.failures c.keep_areas.new.below)) c.in_ok-found.ensures.counts.none
            c.in_err-keep_areas-in-Some.ensures.counts.failed;
      };
    })

pub returns-in-None : goal.returns-in-None
returns-in-None g c =
    let read = c.read_areas.ensures in
    let found = c.in_ok-found.ensures in
    record {
      taken = tt;
      none = λ _. found.none c.in-None.is;
      last = read.last;
      last_size = read.last_size;
      other = read.other;
      other_size = read.other_size;
      reads = read.reads;
      back = tt;
      back_none = λ _. read.back;
      back_err = tt;
      counts = record { later = read.counts.later; none = found.counts.none; failed = tt };
    }

pub returns-in_ok-keep_areas-in-Some : goal.returns-in_ok-keep_areas-in-Some
returns-in_ok-keep_areas-in-Some g c =
    let read = c.read_areas.ensures in
    let kept = c.keep_areas.ensures in
    let h = g.B.Blocks.past_of in
    let start = h c.args.below.now in
    let number = c.in-Some.numbers.0 in
    let before : g.B.Blocks.written_back c.read_areas.new.below ≡ g.B.Blocks.written_back c.args.below.now = read.back in
    let past : h c.keep_areas.new.below ≡ h c.read_areas.new.below = kept.past in
    let back : areas_back c.args.shape number (h c.read_areas.new.below).moment (g.B.Blocks.written_back c.read_areas.new.below)
    ≡ areas_back c.args.shape number (h c.keep_areas.new.below).moment (g.B.Blocks.written_back c.args.below.now) =
    λ i. areas_back c.args.shape number (sym past i).moment (before i) in
    record {
      taken = rw c.in-Some.is at c.in_ok-found.ensures.taken;
      none = λ is. absurd (not_none is);
      last = read.last;
      last_size = read.last_size;
      other = read.other;
      other_size = read.other_size;
      reads = subst (λ (p : BlocksPast). OnlyReads start p) (sym past) read.reads;
      back = c.in_ok-keep_areas-in-Some.ensures.back ∙ back;
      back_none = λ is. absurd (not_none is);
      back_err = tt;
      counts = record {
        later = omega (arith, read.counts.later, kept.counts.later);
        none = c.in_ok-keep_areas-in-Some.ensures.counts.none ∙ c.in_ok-found.ensures.counts.none;
        failed = tt;
      };
    }
