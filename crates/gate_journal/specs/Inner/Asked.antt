-- Whether a side is of the required kind.
use Rattle.std.specs.Prelude.{◌≡◌, ℕ, List, Option, Some, None}
use Rattle.tape_disk.specs.Disk.{DiskState}
use Rattle.gate_journal.specs.declared.header.SideKind.{SideKind}
use Rattle.gate_journal.specs.declared.error.JournalError.{JournalError}
use Rattle.gate_journal.specs.Side.{BeginsAs, BeginsAsSide, IsNotOurs, IsNotOf, IsDamagedAt, IsDamagedOf}
use Rattle.gate_journal.specs.Answers.{NotOpenedBy}

-- the kind is the required one, if one is required (own)
abbrev pub IsAsked : Option SideKind → SideKind → Type 0
IsAsked None kind = Unit {0}
IsAsked (Some asked) kind = kind ≡ asked

-- the image is no side, or not one of the required kind (own)
abbrev pub IsNotAsked : Option SideKind → List ℕ → Type 0
IsNotAsked None = IsNotOurs
IsNotAsked (Some kind) = IsNotOf kind

-- the image begins with a front, of the required kind (own)
abbrev pub BeginsAsked : Option SideKind → List ℕ → Type 0
BeginsAsked None = BeginsAsSide
BeginsAsked (Some kind) = BeginsAs kind

-- the image is damaged at that place, and of the required kind (own)
abbrev pub IsDamagedAsked : Option SideKind → List ℕ → ℕ → Type 0
IsDamagedAsked None = IsDamagedAt
IsDamagedAsked (Some kind) = IsDamagedOf kind

-- why a side of the required kind is not opened (own)
abbrev pub NotOpenedAsked : Option SideKind → JournalError → DiskState → DiskState → Type 0
NotOpenedAsked asked = NotOpenedBy (IsNotAsked asked) (BeginsAsked asked) (IsDamagedAsked asked)
