use Rattle.store_image_half.proofs.Sound.{not_damaged, one_first}
use Rattle.store_image_half.proofs.laws.one_damage.Goals as goal

pub returns-clause-none : goal.returns-clause-none
returns-clause-none c = λ v g first image base cells n is. not_damaged v g first image base cells n is

pub returns-clause-one : goal.returns-clause-one
returns-clause-one c = one_first
