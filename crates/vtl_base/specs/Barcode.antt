-- Barcodes.
use Rattle.std.specs.Prelude.{◌≤◌, ◌||◌, ℕ, List, Bool, IsTrue, length}
use Rattle.std.specs.List.{All}
use Rattle.std.specs.Char.{is_ascii_uppercase, is_ascii_digit}
use Rattle.vtl_base.specs.declared.limits.TheConstants.{MAX_BARCODE}

-- one of `A` to `Z` and `0` to `9` (own)
abbrev pub is_symbol : ℕ → Bool
is_symbol byte = is_ascii_uppercase byte || is_ascii_digit byte

-- 1 to 16 bytes, each of `A` to `Z` or `0` to `9` (own)
pub record IsBarcode (bytes : List ℕ) : Type 0 where
  pub some : 1 ≤ length bytes
  pub short : length bytes ≤ MAX_BARCODE
  pub symbols : All (λ byte. IsTrue (is_symbol byte)) bytes
