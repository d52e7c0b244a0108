-- What private functions say of errors.
use Rattle.std.specs.Prelude.{◌≡◌, ◌≢◌, Option, Some, ⊤}
use Rattle.clap.specs.declared.error.kind.ErrorKind.{ErrorKind}
use Rattle.clap.specs.declared.error.kind.ErrorKind.TheVariants.{OutOfMemory}
use Rattle.vtl_words.specs.Orders.{Asked, asked_of, HasForm, IsNoOrder, IsTextRequest}
use Rattle.vtl_words.specs.declared.orders.Order.{Order}
use Rattle.vtl_words.specs.declared.orders.WordsError.{WordsError}
use Rattle.vtl_words.specs.declared.orders.WordsError.TheVariants.{Help, Refused, NoMemory}

-- what an error of the parser is reported as (own)
abbrev pub IsReportedAs : ErrorKind → WordsError → Type 0
IsReportedAs kind (Help text) = IsTextRequest kind
IsReportedAs kind Refused = ¬ IsTextRequest kind × (kind ≢ OutOfMemory)
IsReportedAs kind NoMemory = ⊤

-- the words ask for this order, and it has its form (own)
abbrev pub AsksFor : Option Asked → Order → Type 0
AsksFor asked order = (asked ≡ Some (asked_of order)) × HasForm (asked_of order)

-- no order is given, unless memory ran out (own)
abbrev pub AsksNothing : Option Asked → WordsError → Type 0
AsksNothing asked (Help text) = ⊥
AsksNothing asked Refused = IsNoOrder asked
AsksNothing asked NoMemory = ⊤
