-- Bytes of a given number.
use Rattle.std.specs.Prelude.{◌++◌, ℕ, List, take, replicate}

-- the bytes, cut to that length or filled up with 00h (own)
abbrev pub padded_to : ℕ → List ℕ → List ℕ
padded_to count bytes = take count (bytes ++ replicate count 0)
