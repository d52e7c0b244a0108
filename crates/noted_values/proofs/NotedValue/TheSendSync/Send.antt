-- a noted value owns nothing, so it may go to any thread
use denote.RattleType.{RattleType}
use denote.Param.Send.{IsSend}
use Rattle.noted_values.specs.contracts.NotedValue.{the_row}

pub send : (N : RattleType) → IsSend (the_row N)
send N = record { owned = λ d vs seen. (((λ vss. (tt, ((λ uss. (tt, tt)), tt))), tt), tt); leaving = λ k f vs. tt }
