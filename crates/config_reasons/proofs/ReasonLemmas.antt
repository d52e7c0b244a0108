-- Why a text is no document.
use Rattle.std.proofs.Common.{◌≡◌, ℕ, List, Option, Some, None, IfSome}
use Rattle.std.specs.Prelude.{IsUtf8}
use Rattle.toml.specs.Errors.{IsMemory}
use Rattle.toml.specs.Parse.{parse_document}
use Rattle.toml.specs.declared.de.error.Error.{Error}
use Rattle.config_reasons.specs.Reasons.{IsStoppedAt, IsNoTable, IsNoDocument}
use Rattle.config_reasons.specs.declared.reasons.Found.{Found}

pub table_refused : (text : List ℕ) (error : Error) (found : Option Found)
    → (¬ IsMemory error → parse_document text ≡ None)
    → IfSome found (IsStoppedAt text error) → IfSome found (IsNoTable text)
table_refused text error None why at = tt
table_refused text error (Some shown) why at = (_, at.0, at.1, at.2, why at.3)

pub document_refused : (text : List ℕ) (found : Option Found) → IsUtf8 text → IfSome found (IsNoTable text)
    → IfSome found (IsNoDocument text)
document_refused text None is_text why = tt
document_refused text (Some shown) is_text why = (is_text, why)
