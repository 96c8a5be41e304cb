use Rattle.std.proofs.Common.{None, Some, List, ap, subst, sym, ◌∙◌, ◌≡◌}
use Rattle.std.specs.FinMap.{empty}
use Rattle.record_values.specs.Orders.{pair_cmp}
use Rattle.record_values.specs.declared.pair.Mark.{Mark}
use Rattle.record_values.specs.declared.pair.Pair.{Pair}
use Rattle.model.specs.Extended.{extended, index_of}
use Rattle.record_values.specs.Entries.{Index}
use Rattle.model.proofs.ExtendedLaws.{extended_more}
use Rattle.btree_node.specs.Runs.{IsRunAbove}
use Rattle.nsf_core.specs.Value.{value_of}
use Rattle.core_copies.proofs.Chunks.{no_more}
use Rattle.core_copies.proofs.Copied.{AreUpTo, none_copied, one_put, whole_copied}
use Rattle.core_parts.proofs.Walked.{fewer_left}
use Rattle.core_copies.proofs.parts.all_entries.Goals as goal

pub loop-entry-init : goal.loop-entry-init
loop-entry-init g c =
    let all = (value_of c.args.core.now).index.entries in
    record { copied = subst (λ (m : Index). AreUpTo all None None m) (sym (ap index_of c.new-listed.ensures.items)) (none_copied all None); run = tt }

pub loop-entry-preserved : goal.loop-entry-preserved
loop-entry-preserved g c =
    let all = (value_of c.args.core.now).index.entries in
    let entry = c.in-Some.entry.now in
    let listed : List (Pair × Mark) = c.loop-entry.listed.items in
    let run = subst (λ es. IsRunAbove all c.loop-entry.last es) c.in-Some.ensures.cases.0 c.left_or_next.ensures.run in
    let more : index_of c.push.new.self.items ≡ _ = ap index_of c.in_ok-push.ensures.items
    ∙ extended_more (empty {R = pair_cmp}) listed entry.pair entry.mark in
    record {
      copied = subst (λ (m : Index). AreUpTo all None (Some entry.pair) m) (sym more)
          (one_put all None c.loop-entry.last (index_of listed) c.loop-entry.invariant.copied (entry.pair, entry.mark) run.0);
      run = run.1;
    }

pub loop-entry-smaller : goal.loop-entry-smaller
loop-entry-smaller g c =
    let all = (value_of c.args.core.now).index.entries in
    let entry = c.in-Some.entry.now in
    let run = subst (λ es. IsRunAbove all c.loop-entry.last es) c.in-Some.ensures.cases.0 c.left_or_next.ensures.run in
    fewer_left all c.loop-entry.last (entry.pair, entry.mark) run.0

pub returns-clause-entries : goal.returns-clause-entries
returns-clause-entries g c =
    let all = (value_of c.args.core.now).index.entries in
    let none = c.left_or_next.ensures.none (no_more c.left_or_next.result.now c.in_default.ensures.cases) in
    c.in_ok-extend.ensures ∙ (λ i. extended (c.new-entries.ensures i) (c.deref.ensures.value i))
    ∙ whole_copied all c.loop-entry.last (index_of c.loop-entry.listed.items) c.loop-entry.invariant.copied none
