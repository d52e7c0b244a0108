-- Fuses, which choose the call that fails.
use Rattle.std.specs.Prelude.{◌≡◌, ℕ, zero, suc, Bool, true, false, Option, None, Some}
use Rattle.test_media.specs.declared.fuses.Fuse.{Fuse}
use Rattle.test_media.specs.declared.fuses.Fuse.TheVariants.{Never, After, Blown}

-- a fuse that blows after this many calls, or never (own)
abbrev pub fuse_of : Option ℕ → Fuse
fuse_of None = Never
fuse_of (Some calls) = After calls

-- a fuse blows once at most (own)
abbrev pub times_blown : Fuse → ℕ
times_blown Never = 0
times_blown (After calls) = 0
times_blown Blown = 1

-- a call passes by a fuse: it blows where no more calls were to pass (own)
abbrev pub Burns : Fuse → Bool → Fuse → Type 0
Burns (After zero) blows new = (blows ≡ true) × (new ≡ Blown)
Burns (After (suc calls)) blows new = (blows ≡ false) × (new ≡ After calls)
Burns old blows new = (blows ≡ false) × (new ≡ old)
