-- Which configuration a file says, and why a text gives none (own).
use Rattle.std.specs.Prelude.{◌≡◌, ◌≢◌, ◌⊎◌, ◌==◌, ◌||◌, ℕ, Bool, true, false, List, Result, Ok, Err, Vec}
use Rattle.std.specs.List.{list_any}
use Rattle.std.specs.declared.alloc.Global.{Global}
use Rattle.std.specs.IoError.{error_kind}
use Rattle.std.specs.declared.io.Error.{Error}
use Rattle.vtl_config.specs.Configs.{RefusesText, Says}
use Rattle.vtl_config.specs.declared.entries.Config.{Config}
use Rattle.vtl_config.specs.declared.rules.ConfigError.{ConfigError}
use Rattle.vtl_config.specs.declared.rules.ConfigError.TheVariants as errors
use Rattle.vtl_faults.specs.FromBelow.{fault_of_error}
use Rattle.vtl_faults.specs.declared.faults.VtlFault.{VtlFault}
use Rattle.vtl_faults.specs.declared.faults.VtlFault.TheVariants.{Words, Config as BadConfig, Script, Frame, Device, NoMemory}

-- the text is refused, or memory ran out (own)
abbrev pub IsNoConfig : List ℕ → VtlFault → Type 0
IsNoConfig text BadConfig = (error : ConfigError) × (error ≢ errors.NoMemory) × RefusesText text error
IsNoConfig text NoMemory = Unit {0}
IsNoConfig text Device = ⊥
IsNoConfig text Words = ⊥
IsNoConfig text (Script line) = ⊥
IsNoConfig text (Frame number) = ⊥

-- the configuration that the file of a name says; or there is none, since the file is not read, its text is refused, or
-- memory runs out (own)
abbrev pub ReadsConfig :
    (List ℕ → Result (Vec ℕ Global) Error → Type 0) → List ℕ → Result Config VtlFault → Type 0
ReadsConfig reads name (Ok config) = (text : Vec ℕ Global) × reads name (Ok text) × Says text.items config
ReadsConfig reads name (Err fault) =
    ((error : Error) × reads name (Err error) × (fault ≡ fault_of_error (error_kind error)))
    ⊎ ((text : Vec ℕ Global) × reads name (Ok text) × IsNoConfig text.items fault)

-- a name has a NUL, so that it is no name of a file (POSIX, a pathname)
abbrev pub has_nul : List ℕ → Bool
has_nul name = list_any (λ byte. byte == 0) name

-- one of the names of a configuration has one; a cartridge's second name has it where the first one has it
abbrev pub names_nul : Config → Bool
names_nul config =
    list_any (λ entry. has_nul entry.file) config.cartridges.items
    || list_any (λ entry. has_nul entry.reservations) config.drives.items

-- the configuration that the file of a name says, whose files can all be named to the system; or there is none, or one
-- of its names has a NUL (own)
abbrev pub ReadsToOpen :
    (List ℕ → Result (Vec ℕ Global) Error → Type 0) → List ℕ → Result Config VtlFault → Type 0
ReadsToOpen reads name (Ok config) = ReadsConfig reads name (Ok config) × (names_nul config ≡ false)
ReadsToOpen reads name (Err fault) =
    ReadsConfig reads name (Err fault)
    ⊎ ((fault ≡ Device) × ((config : Config) × ReadsConfig reads name (Ok config) × (names_nul config ≡ true)))
