use Rattle.program_commands.proofs.Refusing.{refused_stays, told_stays}
use Rattle.program_commands.proofs.laws.each_change_is_whole.Goals as goal

pub returns : goal.returns
returns g c = record {
  served = λ event error old new serves. refused_stays _ _ c.refused_calls.ensures event error old new serves;
  told = λ event error old new before after tells. told_stays _ _ c.refused_calls.ensures event error old new _ before after tells;
}
