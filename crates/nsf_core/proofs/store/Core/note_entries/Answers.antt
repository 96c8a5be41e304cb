use Rattle.std.proofs.Common.{subst, sym, ◌∙◌}
use Rattle.btree_node.specs.Runs.{IsRunAbove}
use Rattle.core_parts.specs.Opening.{MayStand}
use Rattle.core_parts.proofs.Walked.{all_checked, fewer_left, none_checked, one_checked}
use Rattle.nsf_core.specs.Value.{value_of}
use Rattle.nsf_core.proofs.Noted.{no_more}
use Rattle.nsf_core.proofs.store.Core.note_entries.Goals as goal

pub loop-entry-init : goal.loop-entry-init
loop-entry-init g c =
    let v = value_of c.args.self.now in
    record { noted = c.requires.noted; checked = none_checked v.index.entries (MayStand v); run = tt }

pub loop-entry-preserved : goal.loop-entry-preserved
loop-entry-preserved g c =
    let v = value_of c.args.self.now in
    let all = v.index.entries in
    let entry = c.in-Some.entry.now in
    let run = subst (λ es. IsRunAbove all c.loop-entry.last es) c.in-Some.ensures.cases.0 c.left_or_next.ensures.run in
    record {
      noted = c.note_entry.ensures.noted;
      checked = one_checked all (MayStand v) c.loop-entry.last c.loop-entry.invariant.checked (entry.pair, entry.mark) run.0
          (c.note_entry.ensures.stands c.if-not-note_entry.false);
      run = run.1;
    }

pub loop-entry-smaller : goal.loop-entry-smaller
loop-entry-smaller g c =
    let all = (value_of c.args.self.now).index.entries in
    let entry = c.in-Some.entry.now in
    let run = subst (λ es. IsRunAbove all c.loop-entry.last es) c.in-Some.ensures.cases.0 c.left_or_next.ensures.run in
    fewer_left all c.loop-entry.last (entry.pair, entry.mark) run.0

pub returns-clause-stand : goal.returns-clause-stand
returns-clause-stand g c =
    let v = value_of c.args.self.now in
    let none = c.left_or_next.ensures.none (no_more c.left_or_next.result.now c.in_default.ensures.cases) in
    λ _. all_checked v.index.entries (MayStand v) c.loop-entry.last c.loop-entry.invariant.checked none
