use Rattle.std.proofs.Common.{◌≡◌, ◌-◌, ◌+◌, ◌<◌, ℕ, true, false, Result, Ok, Err, refl, sym, ap, subst, ◌∙◌, arith}
use Rattle.std.specs.declared.alloc.Global.{Global}
use Rattle.sector_device.specs.declared.fault.FaultDisk.{FaultDisk}
use Rattle.sector_device.specs.declared.memory.MemDisk.{MemDisk}
use Rattle.program_values.specs.Steps.{is_last_step}
use Rattle.program_player.specs.Runs.{MakesSteps}
use Rattle.program_player.specs.declared.session.Session.{Session}
use Rattle.program_player.specs.declared.session.End.{End}
use Rattle.program_player.specs.declared.session.End.TheVariants as end
use Rattle.program_player.proofs.Kept.{on_ok_of}
use Rattle.program_player.proofs.Made.{no_step, one_step, last_step}
use Rattle.program_player.proofs.program.make_steps.Goals as goal

stopped_on : FaultDisk (MemDisk Global) → Result Session End
stopped_on disk = Err (end.Stopped disk)

pub loop-init : goal.loop-init
loop-init g c =
    let all : c.args.count - 0 ≡ c.args.count = omega arith in
    record {
      runs = λ next after steps. subst (λ (n : ℕ). MakesSteps g.W.Write.contents c.args.event.now n c.args.session next c.args.output.now after) all steps;
    }

pub returns-then-is_last_step : goal.returns-then-is_last_step
returns-then-is_last_step g c =
    let answered = c.in-Ok.ensures in
    let last : is_last_step c.in-Ok.answer ≡ true = sym c.is_last_step.ensures ∙ c.if-is_last_step.true in
    let some : 0 < c.args.count - c.loop.counter = omega (arith, c.loop-test.true) in
    let kept = c.in_ok-kept-in-Ok.ensures in
    c.loop.invariant.runs (Ok c.in_ok-kept-in-Ok.kept) c.print.new.output
    (last_step g.W.Write.contents c.args.event.now (c.args.count - c.loop.counter) c.loop.session c.serve.new.self
    (Ok c.in_ok-kept-in-Ok.kept) c.loop.output c.print.new.output
    answered.0 (Ok c.in-Ok.answer) some answered.1 answered.2 last (ap Ok kept.0, on_ok_of _ c.print.result tt kept.1 c.print.ensures))

pub returns-in-Err : goal.returns-in-Err
unfolding stopped_on
returns-in-Err g c =
    let answered = c.in-Err.ensures in
    let some : 0 < c.args.count - c.loop.counter = omega (arith, c.loop-test.true) in
    c.loop.invariant.runs (stopped_on c.into_disk.result) c.loop.output
    (last_step g.W.Write.contents c.args.event.now (c.args.count - c.loop.counter) c.loop.session c.serve.new.self
    (stopped_on c.into_disk.result) c.loop.output c.loop.output
    answered.0 (Err (record {})) some answered.1 answered.2 tt (ap stopped_on c.into_disk.ensures.disk, c.into_disk.ensures.survives, refl))

pub loop-preserved : goal.loop-preserved
loop-preserved g c =
    let answered = c.in-Ok.ensures in
    let goes_on : is_last_step c.in-Ok.answer ≡ false = sym c.is_last_step.ensures ∙ c.if-is_last_step.false in
    let left : c.args.count - (c.loop.counter + 1) + 1 ≡ c.args.count - c.loop.counter = omega (arith, c.loop-test.true) in
    let kept = c.in_ok-kept-in-Ok.ensures in
    record {
      runs = λ next after steps.
          c.loop.invariant.runs next after
          (subst (λ (n : ℕ). MakesSteps g.W.Write.contents c.args.event.now n c.loop.session next c.loop.output after) left
          (one_step g.W.Write.contents c.args.event.now (c.args.count - (c.loop.counter + 1)) c.loop.session c.serve.new.self next c.loop.output
          c.print.new.output after
          answered.0 c.in-Ok.answer answered.1 (sym answered.2) goes_on (on_ok_of _ c.print.result tt kept.1 c.print.ensures)
          (subst (λ (s : Session). MakesSteps g.W.Write.contents c.args.event.now (c.args.count - (c.loop.counter + 1)) s next c.print.new.output after) kept.0
          steps)));
    }

pub returns : goal.returns
returns g c =
    let none : 0 ≡ c.args.count - c.loop.counter = omega (arith, c.loop-test.false) in
    c.loop.invariant.runs (Ok c.loop.session) c.loop.output
    (subst (λ (n : ℕ). MakesSteps g.W.Write.contents c.args.event.now n c.loop.session (Ok c.loop.session) c.loop.output c.loop.output) none
    (no_step g.W.Write.contents c.args.event.now c.loop.session c.loop.output))
