-- A file that was opened as a store of reservations and is not one.
use Rattle.std.specs.Prelude.{ℕ, List, ◌++◌, string_bytes, codes}
use Rattle.explanations.specs.Lines.{line_of}
use Rattle.file_reasons.specs.declared.stores.StoreReason.{StoreReason}

-- what is in the file, in words (own)
abbrev pub store_text : StoreReason → List ℕ
store_text reason = codes "what is in the file " ++ string_bytes reason.file

-- the lines of such a file: its name, what is allowed, what to do (own)
abbrev pub store_lines : StoreReason → List ℕ
store_lines reason =
    line_of (codes "refused: " ++ store_text reason)
    ++ (line_of (codes "allowed: the reservations of a drive, in a file that vtl create made")
    ++ line_of (codes "to do: look at the file by vtl check, then name the right one in the configuration"))
