use Rattle.std.proofs.Common.{◌≡◌, drop}
use Rattle.vtl_words.specs.Explaining.{asks_to_explain, has_option}
use Rattle.vtl_words.specs.Orders.{texts_of}
use Rattle.vtl_words.proofs.explaining.asks_to_explain.Given as goal

abbrev pub invariant-loop-place : goal.invariant-loop-place
invariant-loop-place l = has_option (drop l.place (texts_of l.words)) ≡ asks_to_explain (texts_of l.words)
