use Rattle.std.proofs.Common.{◌≡◌, ℕ, ◌≤◌, List, length, slice_index_or, refl, sym, ◌∙◌, ap, subst, arith}
use Rattle.std.proofs.lemmas.List.{get_or_past}
use Rattle.block_device.specs.Blocks.{block}
use Rattle.block_journal.proofs.Before.{none_before}
use Rattle.block_batch.specs.Batch.{Entry, replayed}
use Rattle.block_table.specs.Checked.{CheckedValue, settled_table}
use Rattle.block_table.specs.Table.{data_of}
use Rattle.block_file.specs.declared.parts.Held.{Held}
use Rattle.block_file.specs.Disks.{is_one_of, moment_in}
use Rattle.block_file.specs.Sectors.{sectors_of}
use Rattle.block_file.proofs.Keeping.{settled_kept}
use Rattle.block_file.proofs.disk.BlockDisk.over.Goals as goal

pub invariant_of-result : goal.invariant_of-result
invariant_of-result g c =
    let h = g.B.Blocks.past_of in
    let now : Held g.row.B.Denot g.row.A.Denot = record { checked = c.args.checked; written = c.new.result } in
    record {
      plan = c.requires.plan;
      kept = settled_kept h c.args.plan now c.requires.shape c.requires.blocks c.requires.none c.requires.good c.stands.ensures.survives;
      rising = λ j le.
          let past = c.new-2.result in
          let same : slice_index_or past.items j now ≡ now = get_or_past past.items j now (omega (arith, ap length c.new-2.ensures)) in
          omega (arith, ap (moment_in h) same);
      each = λ j below. absurd (omega (arith, below, ap length c.new-2.ensures));
      offers = λ j below. absurd (omega (arith, below, ap length c.new-2.ensures));
      before = λ t image from to crash n below.
          let past = c.new-2.result in
          let same : slice_index_or past.items 0 now ≡ now = get_or_past past.items 0 now (omega (arith, ap length c.new-2.ensures)) in
          let low : moment_in h now ≤ t = subst (λ (s : Held g.row.B.Denot g.row.A.Denot). moment_in h s ≤ t) same from in
          (none_before c.args.plan.shape (h c.args.checked.journal.below) (c.stands.ensures.synced c.requires.good)).each t image low to crash n below
          ∙ ap (λ (s : Held g.row.B.Denot g.row.A.Denot). block (h s.checked.journal.below).file.content n) (sym same);
    }

pub returns : goal.returns
returns g c =
    let h = g.B.Blocks.past_of in
    let checked : CheckedValue g.row.B.Denot = c.args.checked in
    let plan = c.args.plan in
    record {
      content = ap (λ (l : List Entry). sectors_of plan.lead plan.sectors (data_of checked.blocks (replayed l (settled_table h checked)))) c.requires.none;
      synced = λ k. ap (λ (l : List ℕ). is_one_of l k) c.new.ensures;
      moment = ap length c.new-2.ensures;
      plan = refl;
      journal = refl;
      failures = omega arith;
      first =
          let past = c.new-2.result in
          let now : Held g.row.B.Denot g.row.A.Denot = record { checked = c.args.checked; written = c.new.result } in
          let same : slice_index_or past.items 0 now ≡ now = get_or_past past.items 0 now (omega (arith, ap length c.new-2.ensures)) in
          ap (λ (s : Held g.row.B.Denot g.row.A.Denot). (h s.checked.journal.below).file.content) same;
    }
