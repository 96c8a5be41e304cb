use Rattle.std.proofs.Common.{ℕ, ◌+◌, ◌/◌, Err, ◌∙◌, ap, subst, arith}
use Rattle.std.proofs.lemmas.Result.{err_from_is_err_and}
use Rattle.block_table.specs.Checked.{kept_table}
use Rattle.block_table.specs.Table.{IsFirstUnfit, IsFit}
use Rattle.block_file.proofs.Damage.{first_sector, no_sector}
use Rattle.block_file.proofs.sectors.first_damaged.Goals as goal

pub returns-in_err-n : goal.returns-in_err-n
returns-in_err-n g c =
    let p = err_from_is_err_and c.from_residual.result c.from_residual.ensures.1 in
    let done = c.in_err-n.ensures in
    rw (p.1 ∙ ap Err p.2) (record {
      damaged = tt;
      fit = tt;
      failed = done.failed;
      unfailed = λ _. tt;
      quiet = tt;
      alone = done.alone;
      back = done.back;
      rest = done.rest;
      reads = done.reads;
      counts = done.counts;
    })

pub returns-in-Some : goal.returns-in-Some
returns-in-Some g c =
    let h = g.B.Blocks.past_of in
    let p = c.args.plan in
    let from = c.args.from in
    let kept = kept_table h c.args.checked.now in
    let n = c.in-Some.n in
    let done = c.in_ok-n.ensures in
    let found = rw c.in-Some.is at done.unfit in
    let unfit : IsFirstUnfit p.blocks kept ((from + p.lead) / 8) n =
    subst (λ (b : ℕ). IsFirstUnfit b kept ((from + p.lead) / 8) n) c.requires.blocks found in
    let first = c.first_in.ensures in
    record {
      damaged = first_sector p kept from n unfit c.first_in.result first.from first.low first.here first.before;
      fit = no_sector p kept from n unfit c.first_in.result first.none;
      failed = tt;
      unfailed = λ low. done.unfailed (omega (arith, low, c.requires.plan.room, c.requires.blocks));
      quiet = done.quiet;
      alone = done.alone;
      back = done.back;
      rest = done.rest;
      reads = done.reads;
      counts = record { later = omega (arith, done.counts.later); none = done.counts.none; failed = tt };
    }

pub returns-in-None : goal.returns-in-None
returns-in-None g c =
    let h = g.B.Blocks.past_of in
    let p = c.args.plan in
    let from = c.args.from in
    let kept = kept_table h c.args.checked.now in
    let done = c.in_ok-n.ensures in
    let sound = rw c.in-None.is at done.sound in
    record {
      damaged = tt;
      fit = λ n behind low. subst (λ (b : ℕ). IsFit b kept ((n + p.lead) / 8)) c.requires.blocks
          (sound ((n + p.lead) / 8) (omega (arith, behind)) (omega (arith, low, c.requires.plan.room, c.requires.blocks)));
      failed = tt;
      unfailed = λ low. done.unfailed (omega (arith, low, c.requires.plan.room, c.requires.blocks));
      quiet = done.quiet;
      alone = done.alone;
      back = done.back;
      rest = done.rest;
      reads = done.reads;
      counts = record { later = omega (arith, done.counts.later); none = done.counts.none; failed = tt };
    }
