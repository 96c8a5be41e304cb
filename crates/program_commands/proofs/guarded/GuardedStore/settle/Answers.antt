use Rattle.program_commands.proofs.guarded.GuardedStore.settle.Goals as goal

pub returns : goal.returns
returns g c = record {
  first = c.serve-first.result;
  second = c.step_on-second.result;
  third = c.step_on-third.result;
  one = c.serve-first.new.self;
  two = c.step_on-second.new.self;
  first_step = c.serve-first.ensures;
  second_step = c.step_on-second.ensures;
  third_step = c.step_on-third.ensures;
  final_is = c.settled.ensures;
}
