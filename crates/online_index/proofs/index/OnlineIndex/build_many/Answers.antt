use Rattle.std.proofs.Common.{None, Ok, ap, arith, refl, rules, sym, ◌++◌, ◌<◌, ◌∙◌, ◌≡◌}
use Rattle.std.proofs.lemmas.List.{append-nil}
use Rattle.std.specs.Result.{IsErr}
use Rattle.online_index.proofs.Running.{err_count, is_count, more, no_run, none_made, none_noted, none_replied, one_replied, replied}
use Rattle.online_index.proofs.Running.{same, same_replied, unchanged}
use Rattle.online_index.proofs.index.OnlineIndex.build_many.Goals as goal
use Rattle.online_index.specs.Builds.{stop_of}
use Rattle.online_index.specs.declared.build.Stop.TheVariants.{Most}

pub loop-made-init : goal.loop-made-init
loop-made-init g c = (no_run c.args.self.now c.args.notes.now.items, none_replied c.args.self.now c.args.notes.now.items, refl)

pub returns-in_err-step-clause-made : goal.returns-in_err-step-clause-made
returns-in_err-step-clause-made g c = λ w h.
    let short : c.loop-made.made < c.args.most = omega arith in
    let failed : IsErr c.from_residual.result = search rules in (
      c.loop-made.made,
      err_count c.from_residual.result c.args.most c.loop-made.made failed short,
      unchanged w c.loop-made.made c.args.notes.now.items c.loop-made.notes.items c.build_noted.new.notes.items c.loop-made.self
          c.build_noted.new.self (c.loop-made.invariant.0 w h) c.in_err-step.ensures.same_notes c.in_err-step.ensures.unchanged,
    )

pub returns-in_err-step-clause-due : goal.returns-in_err-step-clause-due
returns-in_err-step-clause-due g c =
    let short : c.loop-made.made < c.args.most = omega arith in
    let failed : IsErr c.from_residual.result = search rules in
    replied c.args.self.now c.build_noted.new.self c.loop-made.made c.args.most c.args.notes.now.items c.build_noted.new.notes.items
    c.from_residual.result
    (same_replied c.args.self.now c.loop-made.made c.args.notes.now.items c.loop-made.notes.items c.build_noted.new.notes.items
    c.loop-made.self c.build_noted.new.self c.loop-made.invariant.1 c.in_err-step.ensures.unchanged c.in_err-step.ensures.same_notes)
    (err_count c.from_residual.result c.args.most c.loop-made.made failed short)

pub returns-in-Some-clause-made : goal.returns-in-Some-clause-made
returns-in-Some-clause-made g c = λ w h.
    let short : c.loop-made.made < c.args.most = omega arith in
    let run = c.loop-made.invariant.0 w h in
    let stops = sym c.stop_of.ensures ∙ c.in-Some.is in (
      c.loop-made.made,
      is_count c.in_ok-step.step c.in-Some.stop c.args.most c.loop-made.made stops short,
      same w c.loop-made.made c.args.notes.now.items c.loop-made.notes.items c.build_noted.new.notes.items c.loop-made.self
          c.build_noted.new.self run c.in_ok-step.step c.in-Some.stop (c.in_ok-step.ensures.made run.end run.stands)
          c.in_ok-step.ensures.notes stops,
    )

pub returns-in-Some-clause-due : goal.returns-in-Some-clause-due
returns-in-Some-clause-due g c =
    let short : c.loop-made.made < c.args.most = omega arith in
    let stops = sym c.stop_of.ensures ∙ c.in-Some.is in
    replied c.args.self.now c.build_noted.new.self c.loop-made.made c.args.most c.args.notes.now.items c.build_noted.new.notes.items
    (Ok c.in-Some.stop)
    (same_replied c.args.self.now c.loop-made.made c.args.notes.now.items c.loop-made.notes.items c.build_noted.new.notes.items
    c.loop-made.self c.build_noted.new.self c.loop-made.invariant.1
    (c.in_ok-step.ensures.idle (none_made c.in_ok-step.step c.in-Some.stop stops))
    (c.in_ok-step.ensures.notes ∙ ap (λ ns. c.loop-made.notes.items ++ ns) (none_noted c.in_ok-step.step c.in-Some.stop stops)
    ∙ append-nil c.loop-made.notes.items))
    (is_count c.in_ok-step.step c.in-Some.stop c.args.most c.loop-made.made stops short)

pub loop-made-preserved : goal.loop-made-preserved
loop-made-preserved g c =
    let goes_on : stop_of c.in_ok-step.step ≡ None = search rules in (
      λ w h.
          let run = c.loop-made.invariant.0 w h in
          more w c.loop-made.made c.args.notes.now.items c.loop-made.notes.items c.build_noted.new.notes.items c.loop-made.self
          c.build_noted.new.self run c.in_ok-step.step (c.in_ok-step.ensures.made run.end run.stands) c.in_ok-step.ensures.notes goes_on,
      one_replied c.args.self.now c.loop-made.made c.args.notes.now.items c.loop-made.notes.items c.build_noted.new.notes.items
          c.loop-made.self c.build_noted.new.self c.loop-made.invariant.1 c.in_ok-step.step c.in_ok-step.ensures.reply
          c.in_ok-step.ensures.made c.in_ok-step.ensures.attempts c.in_ok-step.ensures.notes goes_on,
      c.build_noted.ensures.same_capacity ∙ c.loop-made.invariant.2,
    )

pub returns-clause-made : goal.returns-clause-made
returns-clause-made g c = λ w h. (c.loop-made.made, omega arith, c.loop-made.invariant.0 w h)

pub returns-clause-due : goal.returns-clause-due
returns-clause-due g c = replied c.args.self.now c.loop-made.self c.loop-made.made c.args.most c.args.notes.now.items c.loop-made.notes.items
    (Ok Most) c.loop-made.invariant.1 (omega arith)
