use Rattle.std.proofs.Common.{ap, arith, length, subst, ◌<◌, ◌≡◌}
use Rattle.store_image_model.specs.declared.chunk.TheConstants.{CHUNK_ENTRIES}
use Rattle.btree_node.specs.Runs.{IsRunAbove}
use Rattle.nsf_core.specs.Value.{value_of}
use Rattle.core_copies.proofs.Chunks.{full_chunk, last_chunk, longer, no_more, none_yet, one_more}
use Rattle.core_copies.proofs.Fitting.{entries_known}
use Rattle.core_copies.proofs.parts.next_entries.Goals as goal

pub loop-run-init : goal.loop-run-init
loop-run-init g c =
    let all = (value_of c.args.core.now).index.entries in
    let none : length c.in_ok-entries.entries.items ≡ 0 = ap length c.in_ok-entries.ensures.items in
    record { copied = none_yet all c.args.above c.in_ok-entries.entries.items c.in_ok-entries.ensures.items; most = omega (arith, none); run = tt }

pub loop-run-preserved : goal.loop-run-preserved
loop-run-preserved g c =
    let all = (value_of c.args.core.now).index.entries in
    let entry = c.in-Some.entry.now in
    let run = subst (λ es. IsRunAbove all c.loop-run.last es) c.in-Some.ensures.cases.0 c.left_or_next.ensures.run in
    let more = longer c.loop-run.entries.items (entry.pair, entry.mark) c.push.new.self.items c.in_ok-push.ensures.items in
    record {
      copied = one_more all c.args.above c.loop-run.last c.loop-run.entries.items c.loop-run.invariant.copied (
        entry.pair,
        entry.mark,
      ) run.0 c.push.new.self.items c.in_ok-push.ensures.items;
      most = omega (arith, more, c.loop-run-test.true, c.len.ensures);
      run = run.1;
    }

pub returns-in_default-clause-entries : goal.returns-in_default-clause-entries
returns-in_default-clause-entries g c =
    let v = value_of c.args.core.now in
    let few : length c.loop-run.entries.items < CHUNK_ENTRIES = omega (arith, c.loop-run-test.true, c.len.ensures) in
    let none = c.left_or_next.ensures.none (no_more c.left_or_next.result.now c.in_default.ensures.cases) in
    last_chunk v (entries_known v c.stands.ensures.safe) c.args.above c.loop-run.last c.loop-run.entries.items c.loop-run.invariant.copied few none

pub returns-clause-entries : goal.returns-clause-entries
returns-clause-entries g c =
    let v = value_of c.args.core.now in
    let many : length c.loop-run.entries.items ≡ CHUNK_ENTRIES = omega (arith, c.loop-run-test.false, c.len.ensures, c.loop-run.invariant.most) in
    full_chunk v (entries_known v c.stands.ensures.safe) c.args.above c.loop-run.last c.loop-run.entries.items c.loop-run.invariant.copied many
