use Rattle.records.proofs.Numbers.{u16_once, u32_once, u64_once}
use Rattle.records.proofs.laws.one_number.Goals as goal

pub returns-clause-two : goal.returns-clause-two
returns-clause-two c = u16_once

pub returns-clause-four : goal.returns-clause-four
returns-clause-four c = u32_once

pub returns-clause-eight : goal.returns-clause-eight
returns-clause-eight c = u64_once
