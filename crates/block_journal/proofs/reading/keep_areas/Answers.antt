use Rattle.std.proofs.Common.{◌≡◌, inl, inr, ℕ, ◌+◌, ◌-◌, ◌%◌, List, Err, sym, ◌∙◌, ap, subst, arith}
use Rattle.std.proofs.lemmas.Result.{err_from_is_err_and}
use Rattle.sector_device.proofs.Counts.{counts_later}
use Rattle.block_device.specs.BlocksPast.{BlocksPast, WrittenBack, and_back}
use Rattle.block_journal.specs.Layout.{IsInside, area_start}
use Rattle.block_journal.specs.Journal.{areas_back}
use Rattle.block_journal.proofs.Results.{on_err, on_ok}
use Rattle.block_journal.proofs.reading.keep_areas.Goals as goal

pub keep_area-requires : goal.keep_area-requires
keep_area-requires g c = record { inside = c.requires.inside; small = c.requires.small; low = omega arith }

pub returns-in_err-keep_area : goal.returns-in_err-keep_area
returns-in_err-keep_area g c =
    let p = err_from_is_err_and c.from_residual.result c.from_residual.ensures.1 in
    rw (p.1 ∙ ap Err p.2) (record {
      past = c.keep_area.ensures.past;
      back = tt;
      back_err = inl c.in_err-keep_area.ensures.back_err;
      counts = c.in_err-keep_area.ensures.counts;
    })

pub keep_area-requires-2 : goal.keep_area-requires-2
keep_area-requires-2 g c = record {
  inside = subst (λ (h : BlocksPast). IsInside c.args.shape h.file.content) (sym c.keep_area.ensures.past) c.requires.inside;
  small = c.requires.small;
  low = omega arith;
}

pub returns : goal.returns
returns g c =
    let h = g.B.Blocks.past_of in
    let shape = c.args.shape in
    let number = c.args.number in
    let before : List WrittenBack = g.B.Blocks.written_back c.args.below.now in
    let moment : ℕ = (h c.args.below.now).moment in
    let past : h c.keep_area.new.below ≡ h c.args.below.now = c.keep_area.ensures.past in
    let other : 1 - number % 2 ≡ (number + 1) % 2 = omega arith in
    let first : g.B.Blocks.written_back c.keep_area.new.below ≡ and_back before (area_start shape ((number + 1) % 2)) shape.area moment =
    c.in_ok-keep_area.ensures.back ∙ ap (λ (a : ℕ). and_back before (area_start shape a) shape.area moment) other in
    let both : and_back (g.B.Blocks.written_back c.keep_area.new.below) (area_start shape (number % 2)) shape.area (h c.keep_area.new.below).moment
    ≡ areas_back shape number moment before =
    λ i. and_back (first i) (area_start shape (number % 2)) shape.area (past i).moment in
    record {
      past = c.keep_area-2.ensures.past ∙ past;
      back = on_ok _ _ c.keep_area-2.result (λ is. is ∙ both) c.keep_area-2.ensures.back;
      back_err = on_err _ _ c.keep_area-2.result (λ is. inr (is ∙ first)) c.keep_area-2.ensures.back_err;
      counts = counts_later _ _ _ _ c.in_ok-keep_area.ensures.counts.none c.keep_area-2.ensures.counts;
    }
