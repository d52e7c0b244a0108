-- What the answers of tests say.
use Rattle.std.proofs.Common.{◌≡◌, ◌≢◌, ℕ, List, Bool, true, false, not, nat_eq, Option, None, Some, IfNone, refl, sym, ◌∙◌}
use Rattle.std.specs.Cmp.Lexicographic.{other_text, pointwise}

not_told : (told : Bool) → true ≡ not told → false ≡ told
not_told false e = refl
not_told true e = absurd (cc)

-- bytes that a test tells apart are not the same
pub told_apart : (one other : List ℕ) (told : Bool) → told ≡ not (pointwise nat_eq one other) → told ≡ true
    → one ≢ other
told_apart one other told is apart =
    other_text one other (not_told (pointwise nat_eq one other) (sym apart ∙ is))

-- what holds, holds where there is nothing
pub if_none : {X : Type 0} (r : Option X) (P : Type 0) → P → IfNone r P
if_none None P holds = holds
if_none (Some x) P holds = tt
