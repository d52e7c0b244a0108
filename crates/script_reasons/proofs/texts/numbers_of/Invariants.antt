use Rattle.std.proofs.Common.{◌≡◌, string_bytes}
use Rattle.script_reasons.specs.Texts.{listed}
use Rattle.script_reasons.proofs.DriveLemmas.{configured_upto}
use Rattle.script_reasons.proofs.texts.numbers_of.Given as goal

-- the drives so far are listed
abbrev pub invariant-loop-place : goal.invariant-loop-place
invariant-loop-place l = string_bytes l.text ≡ listed (configured_upto l.drives l.place)
