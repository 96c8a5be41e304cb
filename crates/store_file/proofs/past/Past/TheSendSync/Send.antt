use denote.Param.Send.{IsSend}
use Rattle.store_file.specs.contracts.past.Past.{the_row}

pub send : IsSend the_row
send = record { owned = λ d vs. ((λ vss. (tt, ((λ uss. (tt, tt)), tt))), tt); leaving = λ k f vs. tt }
