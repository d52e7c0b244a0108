use Rattle.std.proofs.Common.{refl}
use Rattle.toml.specs.Data.{string}
use Rattle.vtl_base.specs.Barcode.{IsBarcode}
use Rattle.vtl_config.specs.Values.{out_of_range}
use Rattle.vtl_config.proofs.values.barcode_at.Goals as goal

pub returns-in-Err-clause-err : goal.returns-in-Err-clause-err
returns-in-Err-clause-err c =
    out_of_range (string c.in_ok-text.text.now) refl c.in_ok-text.ensures.ok refl
    (λ (h : IsBarcode c.in_ok-text.text.now). let no = c.in-Err.ensures.valid.1 (rw c.as_bytes.ensures.value h) in cc)
