-- Service actions of PERSISTENT RESERVE OUT, scopes and types.
use Rattle.std.specs.Prelude.{ℕ, ◌/◌, ◌%◌, ◌==◌, List, [], ◌∷◌, Option, None, Some, option_map, find, if◌then◌else◌}
use Rattle.scsi_lists.specs.declared.actions.PrType.{PrType}
use Rattle.scsi_lists.specs.declared.actions.PrType.TheVariants.{WriteExclusive, ExclusiveAccess, WriteExclusiveRegistrantsOnly, ExclusiveAccessRegistrantsOnly, WriteExclusiveAllRegistrants, ExclusiveAccessAllRegistrants}
use Rattle.scsi_lists.specs.declared.actions.PrAction.{PrAction}
use Rattle.scsi_lists.specs.declared.actions.PrAction.TheVariants.{Register, Reserve, Release, Clear, Preempt, RegisterAndIgnoreExistingKey}

-- the number of a type (SPC-4, persistent reservation type)
abbrev pub type_number : PrType → ℕ
type_number WriteExclusive = 1
type_number ExclusiveAccess = 3
type_number WriteExclusiveRegistrantsOnly = 5
type_number ExclusiveAccessRegistrantsOnly = 6
type_number WriteExclusiveAllRegistrants = 7
type_number ExclusiveAccessAllRegistrants = 8

-- all types (SPC-4, persistent reservation type)
abbrev pub types : List PrType
types =
    WriteExclusive ∷ ExclusiveAccess ∷ WriteExclusiveRegistrantsOnly ∷ ExclusiveAccessRegistrantsOnly
    ∷ WriteExclusiveAllRegistrants ∷ ExclusiveAccessAllRegistrants ∷ []

-- the type with this number (own)
abbrev pub type_of : ℕ → Option PrType
type_of number = find (λ kind. type_number kind == number) types

-- the type in byte 2 of a command block: the scope, its high half, is 0, and the low half is a type's number
-- (SPC-4, PERSISTENT RESERVE OUT)
abbrev pub type_in : ℕ → Option PrType
type_in scope_type = if scope_type / 16 == 0 then type_of (scope_type % 16) else None

-- The action of a command block, by its service action and byte 2. RESERVE and RELEASE need scope 0 and a type. PREEMPT
-- takes any, and the machine decides later; for the others byte 2 does not count (SPC-4, PERSISTENT RESERVE OUT).
abbrev pub action_of : ℕ → ℕ → Option PrAction
action_of service_action scope_type =
    if service_action == 0 then Some Register
    else if service_action == 1 then option_map Reserve (type_in scope_type)
    else if service_action == 2 then option_map Release (type_in scope_type)
    else if service_action == 3 then Some Clear
    else if service_action == 4 then Some (Preempt (type_in scope_type))
    else if service_action == 6 then Some RegisterAndIgnoreExistingKey
    else None
