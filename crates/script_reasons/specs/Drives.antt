-- Which drives are configured.
use Rattle.std.specs.Prelude.{◌≡◌, ◌≤◌, ◌-◌, ◌==◌, ◌||◌, ℕ, Bool, true, false, slice_index_or}
use Rattle.script_reasons.specs.declared.drives.Drives.{Drives}

-- whether one of these drives has this number, from 1 on (own)
abbrev pub has : Drives → ℕ → Bool
has drives number = slice_index_or drives.are (number - 1) false

-- no drive has any number (own)
abbrev pub AreNone : Drives → Type 0
AreNone drives = (number : ℕ) → has drives number ≡ false

-- each of the 16 drives that there may be is one of these (own)
abbrev pub AreAll : Drives → Type 0
AreAll drives = (number : ℕ) → 1 ≤ number → number ≤ 16 → has drives number ≡ true

-- these drives are those, and the one with this number (own)
abbrev pub AreWith : ℕ → (before now : Drives) → Type 0
AreWith drive before now = (number : ℕ) → 1 ≤ number → has now number ≡ (number == drive || has before number)
