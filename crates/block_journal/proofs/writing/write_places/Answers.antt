use Rattle.std.proofs.Common.{◌≡◌, inl, inr, ℕ, Err, refl, ◌∙◌, ap, subst, arith}
use Rattle.std.proofs.lemmas.Bool.{cases_lt}
use Rattle.std.proofs.lemmas.Result.{err_from_is_err_and}
use Rattle.sector_device.proofs.Counts.{counts_later}
use Rattle.block_device.specs.Blocks.{SameOutside}
use Rattle.block_batch.specs.Batch.{IsPlace, replayed}
use Rattle.block_journal.specs.Layout.{kept_of}
use Rattle.block_journal.specs.Entries.{entries_in}
use Rattle.block_journal.specs.Gathered.{entries_of}
use Rattle.block_journal.proofs.Placing.{inside_same}
use Rattle.block_journal.proofs.writing.write_places.Goals as goal

pub loop-init : goal.loop-init
loop-init g c = record {
  within = λ first count all image start places so_far. so_far;
  areas = λ a low. refl;
  far = omega arith;
  low = omega arith;
  placed = record { size = refl; same = λ n out. refl };
  size = refl;
  back = refl;
  quiet = refl;
}

pub write_next-requires : goal.write_next-requires
write_next-requires g c = record {
  inside = inside_same c.args.shape _ _ c.requires.inside c.loop.invariant.size;
  small = c.requires.small;
  last = c.requires.last;
  next = c.requires.next;
  low = c.loop.invariant.low;
}

pub returns-in_err-i : goal.returns-in_err-i
returns-in_err-i g c =
    let p = err_from_is_err_and c.from_residual.result c.from_residual.ensures.1 in
    let so_far = c.loop.invariant in
    let done = c.write_next.ensures in
    let counts = counts_later _ _ _ _ so_far.quiet c.in_err-i.ensures.counts in
    rw (p.1 ∙ ap Err p.2) (record {
      within = λ first count all image start places before. done.within first count all image start places
          (so_far.within first count all image start places before);
      areas = λ a low. done.areas a low ∙ so_far.areas a low;
      placed = tt;
      size = done.size ∙ so_far.size;
      back = done.back ∙ so_far.back;
      counts = record { later = counts.later; none = tt; failed = counts.failed };
    })

pub loop-preserved : goal.loop-preserved
loop-preserved g c =
    let h = g.B.Blocks.past_of in
    let so_far = c.loop.invariant in
    let done = c.write_next.ensures in
    let here = c.in_ok-i.ensures in
    record {
      within = λ first count all image start places before. done.within first count all image start places
          (so_far.within first count all image start places before);
      areas = λ a low. done.areas a low ∙ so_far.areas a low;
      far = elim (cases_lt c.loop.i c.args.last.now.count) [
        | inl under ↦ omega (arith, here.some under, so_far.far)
        | inr past ↦ omega (arith, past, so_far.low, c.loop-test.true)
      ];
      low = here.low;
      placed = here.placed (kept_of c.args.shape (h c.args.below.now).file.content) so_far.placed;
      size = done.size ∙ so_far.size;
      back = done.back ∙ so_far.back;
      quiet = here.counts.none ∙ so_far.quiet;
    }

pub returns : goal.returns
returns g c =
    let h = g.B.Blocks.past_of in
    let so_far = c.loop.invariant in
    let last = c.args.last.now in
    let all : c.loop.i ≡ last.count = omega (arith, c.loop-test.false, so_far.far, so_far.low) in
    record {
      within = so_far.within;
      areas = so_far.areas;
      placed = subst (λ (n : ℕ). SameOutside (IsPlace (entries_of c.args.next.now))
          (replayed (entries_in last.area.items last.places n) (kept_of c.args.shape (h c.args.below.now).file.content))
          (kept_of c.args.shape (h c.loop.below).file.content)) all so_far.placed;
      size = so_far.size;
      back = so_far.back;
      counts = record { later = omega (arith, so_far.quiet); none = so_far.quiet; failed = tt };
    }
