-- Numbers of bytes in words.
use Rattle.std.specs.Prelude.{ℕ, ◌==◌, if◌then◌else◌, List, ◌++◌, codes, decimal}

-- a number of bytes, in words (own)
abbrev pub bytes_in_words : ℕ → List ℕ
bytes_in_words bytes = if bytes == 1 then codes "1 byte" else decimal bytes ++ codes " bytes"
