use Rattle.std.proofs.Common.{◌≡◌, ◌⊎◌, inl, inr, Err, Some, sym, ◌∙◌, ap, arith}
use Rattle.std.proofs.lemmas.Result.{err_from_is_err_and}
use Rattle.sector_device.proofs.Counts.{counts_later}
use Rattle.block_device.specs.Blocks.{CrashFile, InRun, SameOutside, block}
use Rattle.block_device.specs.BlocksPast.{BlocksPast, RunsWithin}
use Rattle.block_device.proofs.Moments.{joined}
use Rattle.block_device.proofs.Within.{within_start}
use Rattle.block_journal.specs.Layout.{IsInside}
use Rattle.block_journal.proofs.Placing.{inside_same, synced_all}
use Rattle.block_journal.proofs.Results.{on_ok, on_ok_both}
use Rattle.block_file.specs.declared.plan.Plan.{Plan}
use Rattle.block_file.specs.Header.{TellTwice, plan_told, told_by}
use Rattle.block_file.specs.Making.{AreBegun, BecomesZeros, HoldsZeros, IsBehind}
use Rattle.block_file.proofs.NewFile.{begun_same, first_tells, leaves_weaker, recovers_same, same_zeros, tells_same, told_small}
use Rattle.block_file.proofs.making.lay_out.Goals as goal

-- while only blocks behind the headers are written
before_headers : (p : Plan) (old mid : BlocksPast) → RunsWithin IsBehind old.file.content old mid → BecomesZeros p old mid
before_headers p old mid within = leaves_weaker old mid (SameOutside IsBehind old.file.content)
    (λ c. (plan_told c ≡ plan_told old.file.content) ⊎ HoldsZeros p c) (λ c agrees. inl (tells_same old.file.content c agrees)) within.run

pub spell_header-requires : goal.spell_header-requires
spell_header-requires g c = c.requires.told.can

pub write_headers-requires : goal.write_headers-requires
write_headers-requires g c = record {
  room = omega (arith, c.requires.room.room, (told_small c.args.plan c.requires.told).first, c.write_behind.ensures.size);
  synced = c.in_ok-write_behind.ensures.synced;
}

pub returns-in_err-write_behind : goal.returns-in_err-write_behind
returns-in_err-write_behind g c =
    let p = err_from_is_err_and c.from_residual.result c.from_residual.ensures.1 in
    let h = g.B.Blocks.past_of in
    let old : BlocksPast = h c.args.below.now in
    rw (p.1 ∙ ap Err p.2) (record {
      told = tt;
      headers = tt;
      zeros = tt;
      begun = tt;
      synced = tt;
      any_moment = before_headers c.args.plan old (h c.write_behind.new.below) (c.write_behind.ensures.within old.file.content old
          (within_start IsBehind old.file.content old (synced_all IsBehind old.file c.requires.synced)));
      size = c.write_behind.ensures.size;
      back = c.write_behind.ensures.back;
      counts = c.in_err-write_behind.ensures.counts;
    })

pub returns : goal.returns
returns g c =
    let h = g.B.Blocks.past_of in
    let plan = c.args.plan in
    let told = c.requires.told in
    let old : BlocksPast = h c.args.below.now in
    let mid : BlocksPast = h c.write_behind.new.below in
    let new : BlocksPast = h c.write_headers.new.below in
    let behind = c.in_ok-write_behind.ensures in
    let head = c.write_headers.ensures in
    let two = (told_small plan told).first in
    let inside : IsInside plan.shape mid.file.content =
    inside_same plan.shape old.file.content mid.file.content c.requires.room c.write_behind.ensures.size in
    let agrees : SameOutside (InRun 0 2) mid.file.content new.file.content = head.within.now.content in
    let held : (image : CrashFile) → SameOutside (InRun 0 2) mid.file.content image → HoldsZeros plan image =
    λ image same. same_zeros plan mid.file.content image (recovers_same plan.shape mid.file.content image two inside same) behind.zeros in
    record {
      told = on_ok (block new.file.content 0 ≡ c.spell_header.result) (plan_told new.file.content ≡ Some plan) c.write_headers.result
          (λ is. first_tells new.file.content c.spell_header.result plan is (c.spell_header.ensures.told ∙ ap (λ (p : Plan). Some p) (sym told.same)))
          head.first;
      headers = on_ok _ (TellTwice plan new.file.content) c.write_headers.result
          (λ (both : (block new.file.content 0 ≡ c.spell_header.result) × (block new.file.content 1 ≡ c.spell_header.result)). record {
            first = ap told_by both.0 ∙ c.spell_header.ensures.told ∙ ap (λ (p : Plan). Some p) (sym told.same);
            second = ap told_by both.1 ∙ c.spell_header.ensures.told ∙ ap (λ (p : Plan). Some p) (sym told.same);
          }) (on_ok_both _ _ c.write_headers.result head.first head.second);
      zeros = on_ok (block new.file.content 0 ≡ c.spell_header.result) (HoldsZeros plan new.file.content) c.write_headers.result
          (λ is. held new.file.content agrees) head.first;
      begun = on_ok (block new.file.content 0 ≡ c.spell_header.result) (AreBegun plan.shape new.file.content) c.write_headers.result
          (λ is. begun_same plan.shape mid.file.content new.file.content two inside agrees behind.begun) head.first;
      synced = head.synced;
      any_moment = joined old mid new (λ c. (plan_told c ≡ plan_told old.file.content) ⊎ HoldsZeros plan c)
          (before_headers plan old mid (c.write_behind.ensures.within old.file.content old
          (within_start IsBehind old.file.content old (synced_all IsBehind old.file c.requires.synced))))
          (leaves_weaker mid new (SameOutside (InRun 0 2) mid.file.content)
          (λ c. (plan_told c ≡ plan_told old.file.content) ⊎ HoldsZeros plan c) (λ image same. inr (held image same)) head.within.run);
      size = agrees.size ∙ c.write_behind.ensures.size;
      back = head.back ∙ c.write_behind.ensures.back;
      counts = counts_later _ _ _ c.write_headers.result behind.counts.none head.counts;
    }
