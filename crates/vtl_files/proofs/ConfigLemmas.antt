-- What a file says.
use Rattle.std.proofs.Common.{ℕ, List, Result, Ok, Err, IfOk, IfErr, Vec, inr}
use Rattle.std.specs.declared.alloc.Global.{Global}
use Rattle.std.specs.declared.io.Error.{Error}
use Rattle.vtl_config.specs.Configs.{Says}
use Rattle.vtl_config.specs.declared.entries.Config.{Config}
use Rattle.vtl_files.specs.Configured.{IsNoConfig, ReadsConfig}
use Rattle.vtl_faults.specs.declared.faults.VtlFault.{VtlFault}

-- the text of a file was read, and a configuration looked for in it
pub configured : (reads : List ℕ → Result (Vec ℕ Global) Error → Type 0) (name : List ℕ) (text : Vec ℕ Global)
    (result : Result Config VtlFault) → reads name (Ok text) → IfOk result (Says text.items)
    → IfErr result (IsNoConfig text.items) → ReadsConfig reads name result
configured reads name text (Ok config) read says why = (text, read, says)
configured reads name text (Err fault) read says why = inr (text, read, why)
