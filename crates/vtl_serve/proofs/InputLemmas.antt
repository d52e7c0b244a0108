-- An input that was read to its end.
use Rattle.std.proofs.Common.{ℕ, List, ◌++◌, Option, None, Some, ap, ◌∙◌}
use Rattle.std.specs.Prelude.{IfSome}
use Rattle.std.specs.Io.KnownBytes.{Consumes}
use Rattle.std.specs.List.{All}
use Rattle.std.proofs.lemmas.List.{append-nil}
use Rattle.vtl_wire.specs.declared.requests.Request.{Request}
use Rattle.vtl_wire.specs.Reads.{ReadsRequest}
use Rattle.vtl_wire.specs.Requests.{IsRequest, SpellsRequests, spell_requests}

-- an input of which requests were read, and that has ended behind them, spells them
pub spelled_whole : (left behind left' : Option (List ℕ)) (requests : List Request)
    → Consumes left behind (spell_requests requests) → All IsRequest requests → ReadsRequest behind left' None
    → IfSome left (λ bytes. SpellsRequests bytes requests)
spelled_whole None behind left' requests read all ended = tt
spelled_whole (Some bytes) None left' requests read all ended = absurd read
spelled_whole (Some bytes) (Some rest) None requests read all ended = absurd ended.0
spelled_whole (Some bytes) (Some rest) (Some others) requests read all ended = (
  all,
  read ∙ ap (λ (l : List ℕ). spell_requests requests ++ l) (ended.0 ∙ ended.1) ∙ append-nil (spell_requests requests),
)
